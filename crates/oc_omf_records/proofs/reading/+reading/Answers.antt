use Rattle.std.proofs.Common.{rules, ap, ◌∙◌}
use Rattle.std.proofs.lemmas.Result.{err_from_is_err_and}
use Rattle.oc_omf_records.specs.BlockReading.{repeats_row}
use Rattle.oc_omf_records.proofs.RowLemmas.{rows_of-push}
use Rattle.oc_omf_records.proofs.ReadingLemmas.{Refuses-weaker, row_at-more, row_at-stop, row_at-end, block_at-content, block_at-nested}
use Rattle.oc_omf_records.proofs.SizedLemmas.{are_sized-push, nested_is_sized, row_of-Nested}
use Rattle.oc_omf_records.proofs.reading.+reading.Goals as goal

pub read_block-returns-then-counts-eq0-clause-well : goal.read_block-returns-then-counts-eq0-clause-well
read_block-returns-then-counts-eq0-clause-well t c =
    rw (block_at-content c.args.wide c.args.view.now c.args.levels c.args.at c.in_ok-counts.counts c.if-levels-eq0.false c.in_ok-counts.ensures.0 c.in_ok-counts.ensures.1 c.if-counts-eq0.true)
    c.read_content.ensures.well

pub read_block-returns-then-counts-eq0-clause-refused : goal.read_block-returns-then-counts-eq0-clause-refused
read_block-returns-then-counts-eq0-clause-refused t c =
    rw (block_at-content c.args.wide c.args.view.now c.args.levels c.args.at c.in_ok-counts.counts c.if-levels-eq0.false c.in_ok-counts.ensures.0 c.in_ok-counts.ensures.1 c.if-counts-eq0.true)
    c.read_content.ensures.refused

pub read_block-returns-in_err-blocks-clause-refused : goal.read_block-returns-in_err-blocks-clause-refused
read_block-returns-in_err-blocks-clause-refused t c =
    let p = err_from_is_err_and c.from_residual-in_err-blocks.result c.from_residual-in_err-blocks.ensures.1 in
    let e = block_at-nested c.args.wide c.args.view.now c.args.levels c.args.at c.in_ok-counts.counts c.if-levels-eq0.false c.in_ok-counts.ensures.0 c.in_ok-counts.ensures.1 c.if-counts-eq0.false in
    rw (p.1, p.2) (Refuses-weaker _ _ _ (λ f is. e ∙ ap (repeats_row c.in_ok-counts.counts.repeats) is) c.in_err-blocks.ensures.refused)

pub read_row-returns-in_err-block-clause-refused : goal.read_row-returns-in_err-block-clause-refused
read_row-returns-in_err-block-clause-refused t c =
    let p = err_from_is_err_and c.from_residual.result c.from_residual.ensures.1 in
    rw (p.1, p.2) (Refuses-weaker _ _ _ (λ f is. row_at-stop _ _ _ _ _ _ c.loop-read.invariant.row f c.loop-read-test.true is) c.in_err-block.ensures.refused)

pub read_row-loop-read-preserved : goal.read_row-loop-read-preserved
read_row-loop-read-preserved t c = record {
  row = rw (c.in_ok-push.ensures.items, rows_of-push c.loop-read.blocks.items c.in_ok-block.block)
      (row_at-more _ _ _ _ _ _ c.loop-read.invariant.row _ _ c.loop-read-test.true c.in_ok-block.ensures.well);
  sized = rw c.in_ok-push.ensures.items (are_sized-push c.loop-read.blocks.items c.in_ok-block.block c.loop-read.invariant.sized c.in_ok-block.ensures.sized);
  forward = search rules;
  inside = search rules;
}

pub read_row-returns-clause-well : goal.read_row-returns-clause-well
read_row-returns-clause-well t c = row_at-end _ _ _ _ _ _ c.loop-read.invariant.row c.loop-read-test.false

pub read_block-returns-clause-sized : goal.read_block-returns-clause-sized
read_block-returns-clause-sized t c =
    nested_is_sized c.in_ok-counts.counts.repeats c.total_size-size.result c.in_ok-blocks.blocks (search rules) c.in_ok-blocks.ensures.sized

pub read_block-returns-clause-well : goal.read_block-returns-clause-well
read_block-returns-clause-well t c =
    let e = block_at-nested c.args.wide c.args.view.now c.args.levels c.args.at c.in_ok-counts.counts c.if-levels-eq0.false c.in_ok-counts.ensures.0 c.in_ok-counts.ensures.1 c.if-counts-eq0.false in
    rw (row_of-Nested c.in_ok-counts.counts.repeats c.total_size-size.result c.in_ok-blocks.blocks)
    (e ∙ ap (repeats_row c.in_ok-counts.counts.repeats) c.in_ok-blocks.ensures.well)
