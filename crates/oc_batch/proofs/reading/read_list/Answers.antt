-- The bytes that were read decide.
use Rattle.std.proofs.lemmas.Result.{err_from_is_err_and}
use Rattle.oc_batch.proofs.BatchLaws.{explained_input, made_fault, made_jobs}
use Rattle.oc_batch.proofs.reading.read_list.Goals as goal

pub returns-in_err-bytes-clause-fault : goal.returns-in_err-bytes-clause-fault
returns-in_err-bytes-clause-fault g c =
    let p = err_from_is_err_and c.from_residual.result c.from_residual.ensures.1 in
    rw (p.1, p.2) (explained_input c.args.name.now (g.F.Files.held c.args.files.now) _ _ c.in_err-bytes.field-0.0 c.in_err-bytes.ensures.fault)

pub returns-clause-jobs : goal.returns-clause-jobs
returns-clause-jobs g c =
    made_jobs c.args.name.now (g.F.Files.held c.args.files.now) c.in_ok-bytes.bytes.items c.as_slice.result.now c.as_slice.ensures.value c.in_ok-bytes.ensures.bytes _ c.jobs_of_bytes.result
    c.jobs_of_bytes.ensures.text c.jobs_of_bytes.ensures.jobs

pub returns-clause-fault : goal.returns-clause-fault
returns-clause-fault g c =
    made_fault c.args.name.now (g.F.Files.held c.args.files.now) c.in_ok-bytes.bytes.items c.as_slice.result.now c.as_slice.ensures.value c.in_ok-bytes.ensures.bytes _ _ c.jobs_of_bytes.result
    c.jobs_of_bytes.ensures.fault
