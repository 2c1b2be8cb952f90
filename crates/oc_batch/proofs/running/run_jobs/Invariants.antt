-- The jobs so far ran.
use Rattle.std.proofs.Common.{take}
use Rattle.oc_runs.specs.States.{state_of}
use Rattle.oc_batch.specs.Runs.{HasRunAll}
use Rattle.oc_batch.proofs.running.run_jobs.Given as goal

abbrev pub invariant-loop-index : goal.invariant-loop-index
invariant-loop-index g l =
    HasRunAll (take l.index l.jobs)
    (state_of g.F.Files.held g.F.Files.read_faults g.F.Files.write_faults g.C.Console.shown g.C.Console.told g.C.Console.out_faults g.C.Console.err_faults l.fn.files l.fn.console) l.answer
    (state_of g.F.Files.held g.F.Files.read_faults g.F.Files.write_faults g.C.Console.shown g.C.Console.told g.C.Console.out_faults g.C.Console.err_faults l.files l.console)
