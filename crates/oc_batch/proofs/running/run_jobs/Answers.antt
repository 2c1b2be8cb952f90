-- One more job ran, or its line was not shown whole; all ran.
use Rattle.std.proofs.Common.{◌≤◌, length, refl, arith, []}
use Rattle.oc_batch.proofs.RunLaws.{all_more, all_run, stopped_at}
use Rattle.oc_batch.proofs.running.run_jobs.Goals as goal

pub loop-index-init : goal.loop-index-init
loop-index-init g c = record { statuses = []; runs = refl; named = refl }

pub loop-index-preserved : goal.loop-index-preserved
loop-index-preserved g c =
    rw c.with_status-answer.ensures
    (all_more c.args.jobs.now c.loop-index.index c.index-jobs-index.result _ _ _ c.loop-index.answer c.loop-index-test.true c.index-jobs-index.is c.loop-index.invariant c.in-Ok.status c.in-Ok.ensures.ran)

pub returns-in-Err : goal.returns-in-Err
returns-in-Err g c =
    stopped_at c.args.jobs.now c.loop-index.index c.index-jobs-index.result _ _ _ c.loop-index.answer c.loop-index-test.true c.index-jobs-index.is c.loop-index.invariant c.in-Err.ensures.cut

pub returns : goal.returns
returns g c =
    let long : length c.args.jobs.now ≤ c.loop-index.index = omega (arith, c.loop-index-test.false) in
    all_run c.args.jobs.now c.loop-index.index _ _ c.loop-index.answer long c.loop-index.invariant
