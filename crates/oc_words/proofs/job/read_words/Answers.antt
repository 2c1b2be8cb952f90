use Rattle.std.proofs.Common.{◌≡◌, drop, sym, subst, IfOk, IfErr, Ok, rules}
use Rattle.oc_words.specs.{Faults.{IsFaultOf}, Jobs.{job_of, making_of}}
use Rattle.oc_words.proofs.ReadingLaws.{job_of-made}
use Rattle.oc_words.proofs.job.read_words.Goals as goal

pub returns-in-Some-clause-job : goal.returns-in-Some-clause-job
returns-in-Some-clause-job c =
    let same : making_of c.in-Some.number.now (drop 1 c.args.words.now) ≡ job_of c.args.words.now
    = sym (job_of-made c.args.words.now c.word-first.result.now c.in-Some.number.now c.word-first.ensures (search rules) c.in-Some.ensures) in
    subst (λ asked. IfOk c.read_making.result (λ job. asked ≡ Ok job)) same c.read_making.ensures.ok

pub returns-in-Some-clause-fault : goal.returns-in-Some-clause-fault
returns-in-Some-clause-fault c =
    let same : making_of c.in-Some.number.now (drop 1 c.args.words.now) ≡ job_of c.args.words.now
    = sym (job_of-made c.args.words.now c.word-first.result.now c.in-Some.number.now c.word-first.ensures (search rules) c.in-Some.ensures) in
    subst (λ asked. IfErr c.read_making.result (IsFaultOf asked)) same c.read_making.ensures.err
