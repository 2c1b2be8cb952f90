use Rattle.std.proofs.Common.{◌≡◌, ℕ, ◌<◌, None, length}
use Rattle.std.specs.Prelude.{slice_index_or, take}
use Rattle.oc_coff_write.specs.Keys.{first_made, keyed_at}
use Rattle.oc_coff_write.proofs.keys.keys_of.Given as goal

-- the first key symbols among those before
abbrev pub invariant-loop-k : goal.invariant-loop-k
invariant-loop-k l =
    (length l.keys.items ≡ length l.neutral.sections)
    × ((j : ℕ) → j < length l.neutral.sections → slice_index_or l.keys.items j None ≡ first_made (keyed_at l.neutral j) 0 (take l.k l.neutral.symbols))
