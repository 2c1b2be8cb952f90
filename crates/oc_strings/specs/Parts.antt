-- The parts of a table, before they are put together.
use Rattle.std.specs.Prelude.{◌≡◌, ℕ, ◌<◌, List, length, slice_index, slice_index_or}
use Rattle.oc_strings.specs.{declared.table.NameSpan.{NameSpan}, Order.{name_at}}

-- the places have these offsets, and the lengths of the names
pub record ArePlaces (names : List (List ℕ)) (offsets : List ℕ) (places : List NameSpan) : Type 0 where
  pub whole : length places ≡ length names
  pub at : (k : ℕ) (d : NameSpan) → k < length places → (slice_index_or places k d).at ≡ slice_index offsets k
  pub len : (k : ℕ) (d : NameSpan) → k < length places → (slice_index_or places k d).len ≡ length (name_at names k)
