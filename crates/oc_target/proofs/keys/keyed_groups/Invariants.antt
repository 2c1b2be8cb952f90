use Rattle.std.proofs.Common.{◌≡◌, ℕ, ◌<◌, ◌&&◌, false, length}
use Rattle.std.specs.{Prelude.{slice_index_or, take}, List.{list_any}}
use Rattle.oc_neutral.specs.{declared.symbol.Symbol.{Symbol}, KeySymbols.{lies_in, is_key_name}}
use Rattle.oc_target.proofs.keys.keyed_groups.Given as goal

-- the groups whose key symbol is among those before are marked
abbrev pub invariant-loop-k : goal.invariant-loop-k
invariant-loop-k l =
    (length l.keyed.items ≡ length l.neutral.groups)
    × ((g : ℕ) → g < length l.neutral.groups → slice_index_or l.keyed.items g false
    ≡ list_any (λ (s : Symbol). lies_in l.neutral g s && is_key_name l.neutral s.name g) (take l.k l.neutral.symbols))
