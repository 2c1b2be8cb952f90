use Rattle.std.proofs.Common.{◌≡◌, Some, map, take}
use Rattle.oc_strings.proofs.layout.all_of.Given as goal

abbrev pub invariant-loop-offset : goal.invariant-loop-offset
invariant-loop-offset l = map Some l.found.items ≡ take l.offset-index l.offsets
