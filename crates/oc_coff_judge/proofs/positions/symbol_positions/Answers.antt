-- There are no more positions than symbols.
use Rattle.oc_coff.specs.Files.{tables_in}
use Rattle.std.proofs.Common.{◌∙◌, length, refl, ap, arith}
use Rattle.std.proofs.lemmas.List.{length-map}
use Rattle.oc_shelf.proofs.ReadingLaws.CollectedLemmas.{length-collected}
use Rattle.oc_coff_judge.specs.{Led.{symbol_at}, Numbered.{entry_by}}
use Rattle.oc_coff_judge.proofs.{NumberLemmas.{all_at}, SymbolPositions.{standing_step, symbols_few}}
use Rattle.oc_coff_judge.proofs.positions.symbol_positions.Goals as goal

pub place-position-requires-clause-room : goal.place-position-requires-clause-room
place-position-requires-clause-room c =
    let few = symbols_few c.args.coff.now c.is_headed.ensures in
    let long = ap length c.requires.numbers.are ∙ length-map c.args.numbers.now (entry_by c.args.coff.now) in
    let count = length-collected (symbol_at (tables_in c.args.coff.now)) c.loop-i.i in
    let next = c.loop-i.invariant.next in
    omega (arith, few, long, count, next, c.loop-i-test.true)

pub loop-i-preserved : goal.loop-i-preserved
loop-i-preserved c =
    standing_step c.args.coff.now c.is_headed.ensures c.args.numbers.now c.loop-i.i _ 0 c.loop-i.position c.place-position.result c.loop-i.slots c.place-position.new.slots c.is_carried_symbol-carried.result
    c.requires.numbers (omega (arith, c.loop-i-test.true)) refl (all_at (length (tables_in c.args.coff.now).entries) c.args.numbers.now c.loop-i.i 0 c.requires.numbers.there (omega (arith, c.loop-i-test.true))) c.loop-i.invariant c.is_carried_symbol-carried.ensures c.place-position.ensures.slots c.place-position.ensures.next
