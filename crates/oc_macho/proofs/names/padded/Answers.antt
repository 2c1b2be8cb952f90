-- The name stands over zeros.
use Rattle.std.proofs.Common.{ℕ, List, [], ◌∷◌, ◌++◌, length, drop, ◌∙◌, ap}
use Rattle.oc_macho.proofs.PaddingLemmas.{padding}
use Rattle.oc_macho.proofs.names.padded.Goals as goal

pub returns : goal.returns
returns c =
    ap (λ (xs : List ℕ). xs ++ drop (length c.args.name.now) (0 ∷ 0 ∷ 0 ∷ 0 ∷ 0 ∷ 0 ∷ 0 ∷ 0 ∷ 0 ∷ 0 ∷ 0 ∷ 0 ∷ 0 ∷ 0 ∷ 0 ∷ 0 ∷ [])) c.copy_from_slice.ensures.after ∙ padding c.args.name.now c.requires
