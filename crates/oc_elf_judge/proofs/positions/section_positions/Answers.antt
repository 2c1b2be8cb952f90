-- There are no more positions than headers.
use Rattle.std.proofs.Common.{arith}
use Rattle.oc_shelf.proofs.ReadingLaws.CollectedLemmas.{length-collected}
use Rattle.oc_elf.specs.CarriedSections.{section_of}
use Rattle.oc_elf.proofs.CountLemmas.{bit_small}
use Rattle.oc_elf_judge.proofs.positions.section_positions.Goals as goal

pub overflow_add-position : goal.overflow_add-position
overflow_add-position c =
    let count = length-collected (section_of c.args.frame.now) c.loop-k.k in
    let next = c.loop-k.invariant.next in
    let bit = bit_small c.is_carried-carried.result c.from-position.result c.from-position.ensures in
    omega (arith, count, next, bit, c.loop-k-test.true, c.count-k-end.ensures.few)
