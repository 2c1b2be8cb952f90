use Rattle.std.proofs.Common.{◌∙◌, ap, arith}
use Rattle.std.proofs.lemmas.{Grind.{common_steps}, List.{append-nil}}
use Rattle.std.proofs.Math.Seq.{drop-append_seam, take-append_seam}
use Rattle.oc_omf_records.specs.{Blocks.{denotation}, Rows.{row_of, rows_of}}
use Rattle.oc_omf_records.proofs.{RowLemmas.{denotation-behind}, SizedLemmas.{row_of-Nested}}
use Rattle.oc_omf_records.proofs.expanding.+expanding.Goals as goal

pub expand_row-loop-block-preserved : goal.expand_row-loop-block-preserved
expand_row-loop-block-preserved t c = denotation-behind _ _ _ _ _ _ c.loop-block-test.true c.block-item.is c.loop-block.invariant c.in_ok-expand_block.ensures

pub expand_block-returns-in_ok-expand_row-in-Nested : goal.expand_block-returns-in_ok-expand_row-in-Nested
expand_block-returns-in_ok-expand_row-in-Nested t c =
    let row = ap (λ x. denotation (row_of x)) c.in-Nested.is ∙ ap denotation (row_of-Nested c.in-Nested.count c.in-Nested.size c.in-Nested.blocks) in
    let seen = ap (λ blocks. denotation (rows_of blocks)) c.deref-in-Nested.ensures.value in
    grind (arith, common_steps, append-nil, take-append_seam, drop-append_seam, row, seen)
