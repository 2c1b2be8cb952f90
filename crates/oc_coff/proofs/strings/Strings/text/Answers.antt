-- No text is longer than its table.
use Rattle.std.proofs.Common.{◌≡◌, ℕ, List, cond, ◌∙◌, sym, Option, None, Some, ap, subst, Bor}
use Rattle.std.specs.Prelude.{MatchOption}
use Rattle.std.proofs.lemmas.Bool.{le-leb}
use Rattle.oc_shelf.specs.Reading.Texts.{text_at}
use Rattle.oc_coff.specs.Names.{string_at}
use Rattle.oc_shelf.proofs.ReadingLaws.TextLemmas.{whole_text}
use Rattle.oc_coff.proofs.strings.Strings.text.Goals as goal

pub returns : goal.returns
unfolding string_at
returns c =
    let table : List ℕ = c.self.inside.table.now in
    let there = whole_text table c.args.offset ∙ sym (ap (λ b. cond b (text_at table c.args.offset) None) (le-leb 4 c.args.offset c.if-at-lt-STRINGS_HEAD.false)) in
    subst (λ (strings : List ℕ). MatchOption c.text_at.result (string_at strings c.args.offset ≡ None) (λ (text : Bor (List ℕ)). string_at strings c.args.offset ≡ Some text.now)) c.self.view_is
    (subst (λ (o : Option (List ℕ)). MatchOption c.text_at.result (o ≡ None) (λ (text : Bor (List ℕ)). o ≡ Some text.now)) there c.text_at.ensures)
