use Rattle.std.proofs.Common.{◌≡◌, ◌++◌, length}
use Rattle.std.specs.List.{flat_map, range_with_len}
use Rattle.oc_strings.specs.Tables.{texts}
use Rattle.oc_neutral.specs.Coff.Strings.{key_strings}
use Rattle.oc_target.proofs.Giving.{keys_from}
use Rattle.oc_target.proofs.strings.give_keys.Given as goal

-- the names so far, and those that are left
abbrev pub invariant-loop-k : goal.invariant-loop-k
invariant-loop-k l =
    texts l.given.items ++ keys_from l.neutral l.k ≡ texts l.fn.given.items ++ flat_map (key_strings l.neutral) (range_with_len 0 (length l.neutral.sections))
