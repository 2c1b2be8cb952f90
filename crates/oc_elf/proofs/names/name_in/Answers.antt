-- No name is longer than its table.
use Rattle.std.proofs.Common.{◌≡◌, ℕ, List, ◌∙◌, Option, None, Some, ap, subst, Bor}
use Rattle.std.specs.Prelude.{MatchOption}
use Rattle.oc_shelf.specs.Reading.Texts.{text_at}
use Rattle.oc_elf.specs.Names.{name_in}
use Rattle.oc_shelf.proofs.ReadingLaws.TextLemmas.{whole_text}
use Rattle.oc_elf.proofs.names.name_in.Goals as goal

pub returns : goal.returns
unfolding name_in
returns c =
    subst (λ (o : Option (List ℕ)). MatchOption c.text_at.result (o ≡ None) (λ (name : Bor (List ℕ)). o ≡ Some name.now))
    (whole_text c.table_of-bytes.result.now c.args.at ∙ ap (λ (bytes : List ℕ). text_at bytes c.args.at) c.table_of-bytes.ensures) c.text_at.ensures
