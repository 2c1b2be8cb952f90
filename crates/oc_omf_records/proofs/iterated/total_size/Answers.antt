use Rattle.oc_omf_records.proofs.RowLemmas.{size_of-take_more}
use Rattle.oc_omf_records.proofs.iterated.total_size.Goals as goal

pub loop-block-preserved : goal.loop-block-preserved
loop-block-preserved c = size_of-take_more _ _ _ _ _ _ c.loop-block-test.true c.block-item.is c.loop-block.invariant c.size.ensures c.min-total.ensures
