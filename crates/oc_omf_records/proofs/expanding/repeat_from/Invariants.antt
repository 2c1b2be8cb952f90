use Rattle.std.proofs.Common.{◌≡◌, ◌++◌, take, drop}
use Rattle.oc_omf_records.specs.Blocks.{repeated}
use Rattle.oc_omf_records.proofs.expanding.repeat_from.Given as goal

-- so many copies stand there
abbrev pub invariant-loop-copy : goal.invariant-loop-copy
invariant-loop-copy l = l.out.items ≡ take l.start l.initial.out.items ++ repeated l._copy (drop l.start l.initial.out.items)
