use Rattle.std.proofs.Common.{◌≡◌, ◌++◌}
use Rattle.std.specs.Prelude.{take, drop, filter}
use Rattle.oc_strings.specs.Tables.{texts}
use Rattle.oc_neutral.specs.Coff.Strings.{is_tabled}
use Rattle.oc_target.specs.Places.{HavePlaces}
use Rattle.oc_target.proofs.strings.give_sections.Given as goal

-- the names so far, and those that are left; and the sections before have their places
abbrev pub invariant-loop-name : goal.invariant-loop-name
invariant-loop-name l =
    (texts l.given.items ++ filter is_tabled (drop l.name-index l.fn.names) ≡ texts l.fn.given.items ++ filter is_tabled l.fn.names)
    × HavePlaces (texts l.given.items) (take l.name-index l.fn.names) l.places.items
