-- An entry with a fault stops the table.
use Rattle.oc_coff.specs.Files.{tables_in}
use Rattle.std.proofs.Common.{◌<◌, arith}
use Rattle.oc_shelf.proofs.ReadingLaws.StageLemmas.{stops_at}
use Rattle.oc_coff_judge.specs.Relocs.{entry_fault}
use Rattle.oc_coff_judge.proofs.relocs.check_table.Goals as goal

pub returns-in-Err-clause-stop : goal.returns-in-Err-clause-stop
returns-in-Err-clause-stop c =
    let low : c.loop-k.k < c.args.table.now.count = omega (arith, c.loop-k-test.true) in
    stops_at (entry_fault c.args.aims.now.word (tables_in c.args.coff.now) c.args.i) c.loop-k.k c.args.table.now.count c.in-Err.stop c.loop-k.invariant.clean low c.in-Err.ensures.stop
