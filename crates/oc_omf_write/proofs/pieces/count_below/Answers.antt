-- The point parts those below from the others.
use Rattle.std.proofs.Common.{sym, rules, arith, nat_lt}
use Rattle.std.proofs.lemmas.List.Sorted.{IsPartitionPoint-from_clause}
use Rattle.oc_omf_write.specs.declared.fixups.Fixup.{Fixup}
use Rattle.oc_omf_write.proofs.PieceLemmas.{below_parted, point_is}
use Rattle.oc_omf_write.proofs.pieces.count_below.Goals as goal

pub returns-clause-count : goal.returns-clause-count
returns-clause-count c =
    let parted = below_parted c.args.to c.args.fixups.now c.requires in
    let point = IsPartitionPoint-from_clause (λ (f : Fixup). nat_lt f.at c.args.to) _ _ c.partition_point.ensures.partitioned parted (λ a r q k. search rules) in
    sym (point_is c.args.to c.args.fixups.now c.partition_point.result c.partition_point.ensures.bound (λ k d l. point.0 k d (omega arith) l) (λ k d l h. point.1 k d l h))
