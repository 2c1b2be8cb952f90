use Rattle.std.proofs.Common.{◌≡◌, ◌++◌, take}
use Rattle.std.specs.Prelude.{flat_map}
use Rattle.oc_omf_write.specs.Written.{fixup_bytes_of}
use Rattle.oc_omf_write.proofs.tables.put_fixups.Given as goal

-- the fixups so far
abbrev pub invariant-loop-fixup : goal.invariant-loop-fixup
invariant-loop-fixup l = l.out ≡ l.fn.out ++ flat_map (fixup_bytes_of l.from) (take l.fixup-index l.fixups)
