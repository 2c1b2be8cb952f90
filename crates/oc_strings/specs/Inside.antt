-- What the fields of a table keep.
use Rattle.std.specs.Prelude.{◌≡◌, ℕ, ◌+◌, ◌-◌, ◌<◌, ◌≤◌, List, Some, length, map, slice_index, slice_index_or, slice_range}
use Rattle.oc_base.specs.Strings.{table_text, table_place}
use Rattle.oc_strings.specs.{declared.table.NameSpan.{NameSpan}, Order.{name_at, StrictlyAscends}}

-- the name that lies at a place of a table whose first text lies at `head`
abbrev pub name_in : ℕ → List ℕ → NameSpan → List ℕ
name_in head bytes place = slice_range bytes (place.at - head) (place.at - head + place.len)

-- the given names, in the order in which they were given
abbrev pub names_in : ℕ → List ℕ → List NameSpan → List (List ℕ)
names_in head bytes given = map (name_in head bytes) given

-- the name was given, at this position
abbrev pub IsGivenAt : List (List ℕ) → ℕ → List ℕ → Type 0
IsGivenAt names k name = (k < length names) × (name_at names k ≡ name)

-- the names with these numbers
abbrev pub pick : List (List ℕ) → List ℕ → List (List ℕ)
pick names numbers = map (name_at names) numbers

-- each place is in the bytes
abbrev pub AreWithin : ℕ → List ℕ → List NameSpan → Type 0
AreWithin head bytes given = (k : ℕ) (d : NameSpan) → k < length given
    → (head ≤ (slice_index_or given k d).at) × ((slice_index_or given k d).at - head + (slice_index_or given k d).len ≤ length bytes)

-- the numbers put the names in ascending order, once each
pub record IsSearchable (names : List (List ℕ)) (order : List ℕ) : Type 0 where
  pub ascends : StrictlyAscends (pick names order)
  pub numbers : (k : ℕ) → k < length order → slice_index order k < length names
  pub whole : (i : ℕ) → i < length names → (k : ℕ) × (k < length order) × (name_at names (slice_index order k) ≡ name_at names i)

-- the bytes and the places are those of the table of the given names, and the order can be searched
pub record IsTable (head : ℕ) (bytes : List ℕ) (given : List NameSpan) (order : List ℕ) : Type 0 where
  pub bytes_are : bytes ≡ table_text (names_in head bytes given)
  pub placed : (k : ℕ) (d : NameSpan) → k < length given → table_place head (names_in head bytes given) (name_at (names_in head bytes given) k) ≡ Some (slice_index_or given k d).at
  pub within : AreWithin head bytes given
  pub searchable : IsSearchable (names_in head bytes given) order
