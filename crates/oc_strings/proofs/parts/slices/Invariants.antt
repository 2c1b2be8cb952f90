use Rattle.std.proofs.Common.{◌≡◌, take}
use Rattle.oc_strings.specs.Tables.{texts}
use Rattle.oc_strings.proofs.parts.slices.Given as goal

abbrev pub invariant-loop-name : goal.invariant-loop-name
invariant-loop-name l = texts l.slices.items ≡ take l.name-index l.names
