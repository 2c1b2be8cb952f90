-- No text is longer than the strings.
use Rattle.std.proofs.Common.{◌≡◌, List, ℕ, Option, None, Some, Bor, ◌∙◌, ap, subst}
use Rattle.std.specs.Prelude.{MatchOption}
use Rattle.oc_shelf.specs.Reading.Texts.{text_at}
use Rattle.oc_macho.specs.Symbols.{name_at}
use Rattle.oc_shelf.proofs.ReadingLaws.TextLemmas.{whole_text}
use Rattle.oc_macho_judge.proofs.symbols.name_at.Goals as goal

pub returns : goal.returns
unfolding name_at
returns c =
    subst (λ (o : Option (List ℕ)). MatchOption c.text_at.result (o ≡ None) (λ (text : Bor (List ℕ)). o ≡ Some text.now))
    (whole_text c.strings-strings.result.now c.args.s.now.n_strx ∙ ap (λ (strings : List ℕ). text_at strings c.args.s.now.n_strx) c.strings-strings.ensures) c.text_at.ensures
