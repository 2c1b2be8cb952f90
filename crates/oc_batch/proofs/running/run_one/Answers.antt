-- The job ran, and its line was shown.
use Rattle.std.proofs.Common.{refl, ap, ◌∙◌}
use Rattle.oc_outside.specs.Texts.{grown}
use Rattle.oc_runs.specs.States.{state_of}
use Rattle.oc_batch.specs.Runs.{with_line}
use Rattle.oc_batch.proofs.RunLaws.{same_state}
use Rattle.oc_batch.proofs.running.run_one.Goals as goal

pub returns-clause-ran : goal.returns-clause-ran
returns-clause-ran g c =
    let text = c.as_slice.ensures.value ∙ c.job_line-line.ensures in
    record {
      left = state_of g.F.Files.held g.F.Files.read_faults g.F.Files.write_faults g.C.Console.shown g.C.Console.told g.C.Console.out_faults g.C.Console.err_faults c.run_job-status.new.files c.run_job-status.new.console;
      ran = c.run_job-status.ensures;
      lined = same_state
          (state_of g.F.Files.held g.F.Files.read_faults g.F.Files.write_faults g.C.Console.shown g.C.Console.told g.C.Console.out_faults g.C.Console.err_faults c.run_job-status.new.files c.show_all.new.console)
          (with_line c.args.number c.run_job-status.result
          (state_of g.F.Files.held g.F.Files.read_faults g.F.Files.write_faults g.C.Console.shown g.C.Console.told g.C.Console.out_faults g.C.Console.err_faults c.run_job-status.new.files c.run_job-status.new.console))
          refl
          (c.in_ok-show_all.ensures.ok ∙ ap (λ t. grown t (g.C.Console.shown c.run_job-status.new.console)) text)
          c.in_ok-show_all.ensures.other.text
          refl
          refl
          c.in_ok-show_all.ensures.steady
          c.in_ok-show_all.ensures.other.count;
    }
