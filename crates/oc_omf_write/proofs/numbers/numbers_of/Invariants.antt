use Rattle.std.proofs.Common.{◌≡◌, ◌≤◌, ◌<◌, ◌+◌, ℕ, length, drop}
use Rattle.std.specs.{Prelude.{slice_index_or}, List.{position_or_len}}
use Rattle.oc_omf_write.specs.Numbers.{is_of_symbol}
use Rattle.oc_omf_write.proofs.numbers.numbers_of.Given as goal

-- the numbers of symbols by the entries that are done, which are the last
abbrev pub invariant-entries : goal.invariant-entries
invariant-entries l =
    (length l.numbers.items ≡ l.symbols) × (l.left ≤ length l.entries)
    × ((k : ℕ) → k < l.symbols → slice_index_or l.numbers.items k 0 ≡ l.left + position_or_len (is_of_symbol k) (drop l.left l.entries))

abbrev pub decreases-entries : goal.decreases-entries
decreases-entries l = l.left
