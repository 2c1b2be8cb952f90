use Rattle.std.proofs.Common.{◌≡◌, ◌-◌, ◌++◌, map}
use Rattle.std.specs.List.{range_with_len}
use Rattle.oc_omf_write.specs.declared.entries.Entry.TheVariants as entry
use Rattle.oc_omf_write.proofs.planning.add_segments.Given as goal

-- the entries so far, and those that are left
abbrev pub invariant-loop-k : goal.invariant-loop-k
invariant-loop-k l = l.entries.items ++ map entry.Segment (range_with_len l.k (l.count - l.k)) ≡ l.fn.entries.items ++ map entry.Segment (range_with_len 0 l.count)
