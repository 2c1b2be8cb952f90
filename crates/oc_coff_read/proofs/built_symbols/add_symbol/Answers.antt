-- A symbol without a fault has a name of its own, so it is added.
use Rattle.oc_coff.specs.{Files.{tables_in}, Entries.{entries_in}, Symbols.{symbols_in}}
use Rattle.std.proofs.Common.{◌+◌, ◌∙◌, IsOk, length, refl, sym, ap, subst, arith}
use Rattle.std.proofs.lemmas.{List.{length-map}, Option.{slice_get_within}}
use Rattle.oc_neutral.specs.{Building.{Draft}, Invariants.{AreBytes}}
use Rattle.oc_shows.specs.Computed.{computed_symbol}
use Rattle.oc_shows.proofs.BuiltSteps.{added_is}
use Rattle.oc_shelf.specs.Reading.Collected.{collected}
use Rattle.oc_shelf.proofs.ReadingLaws.CollectedLemmas.{length-collected}
use Rattle.oc_coff_judge.specs.{Led.{symbol_at}, Numbered.{entry_by}}
use Rattle.oc_coff_read.specs.Built.{symboled}
use Rattle.oc_coff_read.proofs.AddedSymbols.{can_symbol, symbol_left}
use Rattle.oc_coff_judge.proofs.SymbolPositions.{symbols_few}
use Rattle.oc_coff_read.proofs.built_symbols.add_symbol.Goals as goal

pub add_new_symbol-requires-clause-room : goal.add_new_symbol-requires-clause-room
add_new_symbol-requires-clause-room c =
    let t = tables_in c.args.coff.now in
    let long = ap (λ (d : Draft). length d.object.symbols) c.requires.before in
    let count = length-map (collected (symbol_at t) c.args.i) (computed_symbol (symbols_in t)) in
    let few = length-collected (symbol_at t) c.args.i in
    let small = symbols_few c.args.coff.now c.is_headed.ensures in
    let low = slice_get_within (entries_in t) c.args.i (entry_by c.args.coff.now c.args.j) c.requires.here in
    omega (arith, long, count, few, small, low)

pub add_new_symbol-requires-clause-new : goal.add_new_symbol-requires-clause-new
add_new_symbol-requires-clause-new c =
    subst (λ r. IsOk r)
    (sym (can_symbol c.args.coff.now c.is_headed.ensures c.requires.clean c.args.word c.args.i c.args.j c.requires.here c.in-Some.binding (sym c.binding_of.ensures ∙ c.in-Some.is) (subst AreBytes c.file.ensures c.are_bytes.ensures)
    c.args.positions.now.symbols.now c.requires.symbols c.args.builder.now _ _ c.requires.before c.placed_binding-placed.ensures c.in_ok-symbol-in-Some.ensures))
    refl

pub returns-in-None : goal.returns-in-None
returns-in-None c = c.requires.before ∙ symbol_left c.args.coff.now c.is_headed.ensures c.requires.clean c.args.word c.args.i c.args.j c.requires.here (sym c.binding_of.ensures ∙ c.in-None.is)

pub returns-in_ok-add_new_symbol-in-Some : goal.returns-in_ok-add_new_symbol-in-Some
returns-in_ok-add_new_symbol-in-Some c =
    added_is _ (symboled c.args.word (tables_in c.args.coff.now) (c.args.i + 1)) _
    (can_symbol c.args.coff.now c.is_headed.ensures c.requires.clean c.args.word c.args.i c.args.j c.requires.here c.in-Some.binding (sym c.binding_of.ensures ∙ c.in-Some.is) (subst AreBytes c.file.ensures c.are_bytes.ensures)
    c.args.positions.now.symbols.now c.requires.symbols c.args.builder.now _ _ c.requires.before c.placed_binding-placed.ensures c.in_ok-symbol-in-Some.ensures)
    c.in_ok-add_new_symbol-in-Some.ensures.added
