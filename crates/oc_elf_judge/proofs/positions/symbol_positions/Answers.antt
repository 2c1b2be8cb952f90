-- There are no more positions than symbols.
use Rattle.std.proofs.Common.{◌≤◌, arith}
use Rattle.oc_shelf.proofs.ReadingLaws.CollectedLemmas.{length-collected}
use Rattle.oc_elf.specs.{CarriedSymbols.{symbol_of}, Tables.{symbol_count}}
use Rattle.oc_elf.proofs.CountLemmas.{bit_small}
use Rattle.oc_elf_judge.proofs.PositionLemmas.{few_symbols}
use Rattle.oc_elf_judge.proofs.positions.symbol_positions.Goals as goal

pub overflow_add-position : goal.overflow_add-position
overflow_add-position c =
    let count = length-collected (symbol_of c.args.frame.now) c.loop-k.k in
    let next = c.loop-k.invariant.next in
    let bit = bit_small c.is_carried_symbol-carried.result c.from-position.result c.from-position.ensures in
    let few : symbol_count c.args.frame.now ≤ 67108864 = few_symbols c.args.frame.now c.args.table.now c.requires.table in
    omega (arith, count, next, bit, few, c.loop-k-test.true, c.symbol_count-k-end.ensures)
