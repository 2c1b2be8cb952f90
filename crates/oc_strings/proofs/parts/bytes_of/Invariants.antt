use Rattle.std.proofs.Common.{◌≡◌, take}
use Rattle.oc_base.specs.Strings.{text_of}
use Rattle.oc_strings.specs.Tables.{texts}
use Rattle.oc_strings.proofs.parts.bytes_of.Given as goal

abbrev pub invariant-loop-top : goal.invariant-loop-top
invariant-loop-top l = l.bytes.items ≡ text_of (texts (take l.top-index l.tops))
