use Rattle.std.proofs.Common.{◌≤◌}
use Rattle.oc_shelf.specs.Reading.Bitmaps.{room}
use Rattle.tests_base.proofs.shelf.reading.bytes_in_any_order.Given as goal

-- there is room for all that is taken
abbrev pub invariant-loop-case : goal.invariant-loop-case
invariant-loop-case g l = 130 ≤ room l.bytes
