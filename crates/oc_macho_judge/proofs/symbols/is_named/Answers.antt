-- A text that is longer is another.
use Rattle.std.proofs.Common.{ℕ, List, [], Option, length, sym, ◌∙◌, ap}
use Rattle.std.specs.{Prelude.{bytes_eq}, Option.{unwrap_or}}
use Rattle.oc_shelf.specs.Reading.Texts.{text_at}
use Rattle.oc_macho.specs.Symbols.{name_at}
use Rattle.oc_macho.proofs.NameLemmas.{long_differs, short_is}
use Rattle.oc_macho_judge.proofs.symbols.is_named.Goals as goal

pub returns-in-Some : goal.returns-in-Some
unfolding name_at
returns-in-Some c =
    c.eq.ensures
    ∙ sym (ap (λ (o : Option (List ℕ)). bytes_eq (unwrap_or o []) c.args.name.now)
    (sym (ap (λ (strings : List ℕ). text_at strings c.args.s.now.n_strx) c.strings.ensures) ∙ short_is (length c.args.name.now) (text_at c.strings.result.now c.args.s.now.n_strx) c.in-Some.text.now c.in-Some.ensures))

pub returns-in-None : goal.returns-in-None
unfolding name_at
returns-in-None c =
    sym (sym (ap (λ (strings : List ℕ). bytes_eq (unwrap_or (text_at strings c.args.s.now.n_strx) []) c.args.name.now) c.strings.ensures)
    ∙ long_differs (text_at c.strings.result.now c.args.s.now.n_strx) c.args.name.now c.requires c.in-None.ensures)
