-- An entry with a fault stops the table.
use Rattle.std.proofs.Common.{◌<◌, arith}
use Rattle.oc_shelf.proofs.ReadingLaws.StageLemmas.{stops_at}
use Rattle.oc_elf.specs.{RelocRules.{entry_fault}, Tables.{reloc_count}}
use Rattle.oc_elf_judge.proofs.relocs.check_table.Goals as goal

pub returns-in-Err-clause-stop : goal.returns-in-Err-clause-stop
returns-in-Err-clause-stop c =
    let low : c.loop-k.k < reloc_count c.args.frame.now c.args.i = omega (arith, c.loop-k-test.true, c.reloc_count-count.ensures) in
    stops_at (entry_fault c.args.frame.now c.args.i) c.loop-k.k (reloc_count c.args.frame.now c.args.i) c.in-Err.stop c.loop-k.invariant.clean low c.in-Err.ensures.stop
