use Rattle.std.proofs.Common.{◌≡◌, ◌++◌}
use Rattle.std.specs.Prelude.{take, filter}
use Rattle.oc_strings.specs.Tables.{texts}
use Rattle.oc_neutral.specs.Coff.Strings.{is_long}
use Rattle.oc_target.proofs.strings.give_all.Given as goal

-- the names before are given
abbrev pub invariant-loop-name : goal.invariant-loop-name
invariant-loop-name l = texts l.given.items ≡ texts l.fn.given.items ++ filter is_long (take l.name-index l.fn.names)
