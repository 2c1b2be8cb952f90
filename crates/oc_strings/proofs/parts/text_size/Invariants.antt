use Rattle.std.proofs.Common.{◌≡◌, ◌+◌, length, take}
use Rattle.std.specs.List.{sum_by}
use Rattle.oc_strings.specs.Tables.{capped}
use Rattle.oc_strings.proofs.parts.text_size.Given as goal

abbrev pub invariant-loop-top : goal.invariant-loop-top
invariant-loop-top l = l.total ≡ capped (sum_by (λ top. length top.now + 1) (take l.top-index l.tops))
