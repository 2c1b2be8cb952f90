use Rattle.oc_words.proofs.ReadingLaws.{step_taken, step_bad}
use Rattle.oc_words.proofs.conversion.read_all.Goals as goal
use Rattle.std.proofs.lemmas.Result.{err_from_is_err_and}

pub returns-in_err-reading-clause-err : goal.returns-in_err-reading-clause-err
returns-in_err-reading-clause-err c =
    let p = err_from_is_err_and c.from_residual-in_err-reading.result c.from_residual-in_err-reading.ensures.1 in
    rw (p.1, p.2) (step_bad c.args.words.now c.loop-index.index _ _ _ _ c.word-word.ensures c.in_ok-said.ensures c.loop-index.invariant.0 c.loop-index.invariant.1 c.in_err-reading.ensures.err)

pub loop-index-preserved : goal.loop-index-preserved
loop-index-preserved c =
    step_taken c.args.words.now c.loop-index.index _ _ _ _ c.word-word.ensures c.in_ok-said.ensures c.loop-index.invariant.0 c.loop-index.invariant.1 c.in_ok-reading.ensures.ok
