use Rattle.std.proofs.Common.{rules, ◌<◌, ◌≤◌, length, arith}
use Rattle.std.proofs.lemmas.Result.{err_from_is_err_and}
use Rattle.oc_omf_records.proofs.ReadingLemmas.{Refuses-weaker, rest_at-push, rest_at-at_fault, rest_at-end, blocks_of-ok, blocks_of-err, length-pushed}
use Rattle.oc_omf_records.proofs.SizedLemmas.{are_sized-push}
use Rattle.oc_omf_records.proofs.block.Block.read.Goals as goal

pub returns-in_err-block-clause-refused : goal.returns-in_err-block-clause-refused
returns-in_err-block-clause-refused c =
    let inside : c.loop-at.at < length c.args.view.now = omega arith in
    let p = err_from_is_err_and c.from_residual.result c.from_residual.ensures.1 in
    rw (p.1, p.2) (Refuses-weaker _ _ _ (λ f is.
    blocks_of-err c.args.wide c.args.view.now f (rest_at-at_fault _ _ _ _ _ c.loop-at.invariant.whole c.loop-at.invariant.taken inside f is)) c.in_err-block.ensures.refused)

pub loop-at-preserved : goal.loop-at-preserved
loop-at-preserved c =
    let inside : c.loop-at.at < length c.args.view.now = omega arith in
    let size = length-pushed c.loop-at.blocks.items c.push.new.self.items c.in_ok-block.block c.in_ok-push.ensures.items in
    record {
      whole = rest_at-push _ _ _ _ _ c.loop-at.invariant.whole c.loop-at.invariant.taken inside _ _ _ c.in_ok-push.ensures.items c.in_ok-block.ensures.well;
      sized = rw c.in_ok-push.ensures.items (are_sized-push c.loop-at.blocks.items c.in_ok-block.block c.loop-at.invariant.sized c.in_ok-block.ensures.sized);
      taken = omega (arith, size, c.in_ok-block.ensures.after.0);
      inside = search rules;
    }

pub returns-clause-well : goal.returns-clause-well
returns-clause-well c =
    let end : length c.args.view.now ≤ c.loop-at.at = omega arith in
    blocks_of-ok c.args.wide c.args.view.now _ _ (rest_at-end _ _ _ _ _ _ c.loop-at.invariant.whole end)
