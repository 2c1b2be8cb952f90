-- A symbol without a fault has small numbers and a name of its own, so it is added.
use Rattle.std.proofs.Common.{◌+◌, ◌∙◌, IsOk, length, refl, sym, ap, subst, arith}
use Rattle.std.proofs.lemmas.{Bool.{ne_eqb}, List.{length-map}}
use Rattle.oc_neutral.specs.Building.{Draft}
use Rattle.oc_shows.specs.Computed.{computed_symbol}
use Rattle.oc_shows.proofs.BuiltSteps.{added_is}
use Rattle.oc_shelf.specs.Reading.Collected.{collected}
use Rattle.oc_shelf.proofs.ReadingLaws.CollectedLemmas.{length-collected}
use Rattle.oc_elf_read.specs.Built.{symboled}
use Rattle.oc_elf.specs.CarriedSymbols.{symbol_of, symbols_of}
use Rattle.oc_elf_judge.specs.Known.{IsValued}
use Rattle.oc_elf_read.proofs.{AddedSymbols.{can_symbol}, ValuedLemmas.{is_valued}}
use Rattle.oc_elf_judge.proofs.PositionLemmas.{few_symbols}
use Rattle.oc_elf_read.proofs.built_symbols.add_symbol.Goals as goal

pub carried_binding-requires-clause-valued : goal.carried_binding-requires-clause-valued
carried_binding-requires-clause-valued c =
    let f = c.args.frame.now in
    subst (IsValued f) (sym c.entry_of-s.ensures) (is_valued f c.is_frame.ensures c.requires.sections c.requires.clean c.args.k c.requires.there (ne_eqb c.args.k 0 c.if-k-eq0.false))

pub add_new_symbol-requires-clause-room : goal.add_new_symbol-requires-clause-room
add_new_symbol-requires-clause-room c =
    let f = c.args.frame.now in
    let long = ap (λ (d : Draft). length d.object.symbols) c.requires.before in
    let count = length-map (collected (symbol_of f) c.args.k) (computed_symbol (symbols_of f)) in
    let few = length-collected (symbol_of f) c.args.k in
    let small = few_symbols f c.args.table.now c.requires.table in
    omega (arith, long, count, few, small, c.requires.there)

pub add_new_symbol-requires-clause-new : goal.add_new_symbol-requires-clause-new
add_new_symbol-requires-clause-new c =
    subst (λ r. IsOk r)
    (sym (can_symbol c.args.frame.now c.requires.clean c.args.k c.requires.there (ne_eqb c.args.k 0 c.if-k-eq0.false) c.in-Some.binding c.args.builder.now _ c.entry_of-s.result c.requires.before
    c.entry_of-s.ensures c.in_ok-symbol-in-Some.ensures (sym c.carried_binding.ensures ∙ c.in-Some.is)))
    refl

pub returns-in_ok-add_new_symbol-in-Some : goal.returns-in_ok-add_new_symbol-in-Some
returns-in_ok-add_new_symbol-in-Some c =
    added_is _ (symboled c.args.frame.now (c.args.k + 1)) _
    (can_symbol c.args.frame.now c.requires.clean c.args.k c.requires.there (ne_eqb c.args.k 0 c.if-k-eq0.false) c.in-Some.binding c.args.builder.now _ c.entry_of-s.result c.requires.before
    c.entry_of-s.ensures c.in_ok-symbol-in-Some.ensures (sym c.carried_binding.ensures ∙ c.in-Some.is))
    c.in_ok-add_new_symbol-in-Some.ensures.added
