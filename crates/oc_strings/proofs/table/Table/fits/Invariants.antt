use Rattle.std.proofs.Common.{◌≡◌, ◌+◌, length, take}
use Rattle.std.specs.List.{sum_by}
use Rattle.oc_strings.specs.Tables.{capped}
use Rattle.oc_strings.proofs.table.Table.fits.Given as goal

abbrev pub invariant-loop-name : goal.invariant-loop-name
invariant-loop-name l = l.total ≡ capped (l.head + sum_by (λ name. length name + 1) (take l.name-index l.names))
