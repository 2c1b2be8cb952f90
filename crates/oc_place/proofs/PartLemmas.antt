-- The parts that are left of a line.
use Rattle.std.proofs.Common.{◌≡◌, ℕ, List, ◌∷◌, None, sym, ◌∙◌, ap}
use Rattle.oc_place.specs.Parts.{is_blank, only, parts_of, whole}
use Rattle.oc_place.proofs.SplitLemmas.{split_some}

-- where some text is left, some part is
pub not_whole : {X : Type 0} (x : X) (text : List ℕ) → None ≡ whole x (parts_of text)
not_whole x text = let m = split_some is_blank text in sym (ap (whole x) m.2)

-- where some text is left after a part, it is not the only one
pub not_only : (part text : List ℕ) (parts : List (List ℕ)) → parts ≡ part ∷ parts_of text → only parts ≡ None
not_only part text parts is = let m = split_some is_blank text in ap only (is ∙ ap (λ ps. part ∷ ps) m.2)
