use Rattle.std.proofs.Common.{◌≡◌, ℕ, ◌<◌, None, length}
use Rattle.std.specs.Prelude.{slice_index_or, take}
use Rattle.oc_coff_write.specs.Keys.{first_made, led_by}
use Rattle.oc_coff_write.proofs.keys.leaders_of.Given as goal

-- the leaders by the symbols before
abbrev pub invariant-loop-k : goal.invariant-loop-k
invariant-loop-k l =
    (length l.leaders.items ≡ length l.neutral.groups)
    × ((g : ℕ) → g < length l.neutral.groups → slice_index_or l.leaders.items g None ≡ first_made (λ position s. led_by l.neutral g s) 0 (take l.k l.neutral.symbols))
