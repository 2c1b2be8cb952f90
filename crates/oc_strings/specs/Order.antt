-- The order of names by their bytes, read from the last one on: a name comes right before the names that it ends.
use Rattle.std.specs.Prelude.{◌≡◌, ℕ, ◌+◌, ◌-◌, ◌<◌, ◌≤◌, Bool, ◌&&◌, not, nat_lt, is_some, if◌then◌else◌, true, false, bytes_eq, zero, suc, List, [], All, Option, Some, None, length, map, reverse, fold, take, drop, slice_get, slice_index, slice_index_or}
use Rattle.std.specs.{Ordering.{nat_cmp, is_lt}, Option.{option_map, option_or}, Cmp.Lexicographic.{slice_cmp}}
use Rattle.oc_base.specs.Strings.{ends, with_top, place_from}
use Rattle.oc_strings.specs.{Keys.{IsKeyed}, Tables.{capped}, declared.order.Entry.{Entry}, declared.spots.Spot.{Spot}}

-- the name comes before the other one
abbrev pub is_before : List ℕ → List ℕ → Bool
is_before a b = is_lt (slice_cmp nat_cmp (reverse a) (reverse b))

-- both names have that many bytes, and their last ones are the same
abbrev pub SharesEnd : ℕ → List ℕ → List ℕ → Type 0
SharesEnd n a b = (n ≤ length a) × (n ≤ length b) × (drop (length a - n) a ≡ drop (length b - n) b)

-- no name comes, in this order, before the previous one
abbrev pub Ascends : List (List ℕ) → Type 0
Ascends names = (k : ℕ) (d : List ℕ) → k + 1 < length names → is_before (slice_index_or names (k + 1) d) (slice_index_or names k d) ≡ false

-- each name comes before the next one
abbrev pub StrictlyAscends : List (List ℕ) → Type 0
StrictlyAscends names = (k : ℕ) (d : List ℕ) → k + 1 < length names → is_before (slice_index_or names k d) (slice_index_or names (k + 1) d) ≡ true

-- the names of entries
abbrev pub names_of : List Entry → List (List ℕ)
names_of entries = map (λ entry. entry.name.now) entries

-- the numbers of entries
abbrev pub numbers_of : List Entry → List ℕ
numbers_of entries = map (λ entry. entry.number) entries

-- the entries are the given names, each with its place among them
pub record IsNumbered (names : List (List ℕ)) (entries : List Entry) : Type 0 where
  pub named : (k : ℕ) (d : Entry) → k < length entries → slice_get names (slice_index_or entries k d).number ≡ Some (slice_index_or entries k d).name.now
  pub whole : (i : ℕ) → i < length names → (k : ℕ) × (k < length entries) × ((d : Entry) → (slice_index_or entries k d).number ≡ i)

-- the name with this rank
abbrev pub name_at : List (List ℕ) → ℕ → List ℕ
name_at names k = slice_index_or names k []

-- the longest of the names before k that ends the name at k, if one does
abbrev pub IsNextTail : List (List ℕ) → ℕ → Option ℕ → Type 0
IsNextTail names k None = (i : ℕ) → i < k → ends (name_at names i) (name_at names k) ≡ false
IsNextTail names k (Some j) = (j < k) × (ends (name_at names j) (name_at names k) ≡ true) × ((i : ℕ) → j < i → i < k → ends (name_at names i) (name_at names k) ≡ false)

-- the next name ends in the name at k
abbrev pub ends_next : List (List ℕ) → ℕ → Bool
ends_next names k = nat_lt (k + 1) (length names) && ends (name_at names k) (name_at names (k + 1))

-- each of the first entries has the longest earlier name that ends it
abbrev pub AreNextTails : List (List ℕ) → List (Option ℕ) → Type 0
AreNextTails names tails = (k : ℕ) (d : Option ℕ) → k < length tails → IsNextTail names k (slice_index_or tails k d)

-- each name has the longest earlier one that ends it
abbrev pub AreTails : List (List ℕ) → List (Option ℕ) → Type 0
AreTails names tails = (length tails ≡ length names) × AreNextTails names tails

-- the number of the entry with this rank
abbrev pub number_at : List Entry → ℕ → ℕ
number_at entries k = slice_index (numbers_of entries) k

-- no two entries have one number
abbrev pub AreApart : List Entry → Type 0
AreApart entries = (i k : ℕ) → i < k → k < length entries → number_at entries i ≡ number_at entries k → ⊥

-- of the same names the one that was given later comes first
abbrev pub AreSooner : List Entry → Type 0
AreSooner entries = (k : ℕ) → k + 1 < length entries → name_at (names_of entries) k ≡ name_at (names_of entries) (k + 1) → number_at entries (k + 1) < number_at entries k

-- the name with this rank is that of the one before
abbrev pub is_repeat : List (List ℕ) → ℕ → Bool
is_repeat names zero = false
is_repeat names (suc k) = bytes_eq (name_at names k) (name_at names (suc k))

-- the entries are the given names in ascending order, with their numbers, and each has its tail
pub record IsOrder (names : List (List ℕ)) (entries : List Entry) (tails : List (Option ℕ)) : Type 0 where
  pub keyed : All IsKeyed entries
  pub ascends : Ascends (names_of entries)
  pub numbered : IsNumbered names entries
  pub apart : AreApart entries
  pub sooner : AreSooner entries
  pub tails_are : AreTails (names_of entries) tails

-- what the name with this rank ends, and what ends it, by their numbers
abbrev pub spot_of : List Entry → List (Option ℕ) → ℕ → Spot
spot_of entries tails k = record { is_top = not (ends_next (names_of entries) k); tail = option_map (number_at entries) (slice_index_or tails k None) }

-- each number has the spot of its name in an order of the names
pub record AreSpots (names : List (List ℕ)) (spots : List Spot) : Type 0 where
  pub entries : List Entry
  pub tails : List (Option ℕ)
  pub order : IsOrder names entries tails
  pub whole : length spots ≡ length names
  pub are : (k : ℕ) (d : Spot) → k < length entries → slice_index_or spots (number_at entries k) d ≡ spot_of entries tails k

-- where a name lies in a text that begins at a place, if it ends the text
abbrev pub place_in : ℕ → List ℕ → List ℕ → Option ℕ
place_in at text name = if ends name text then Some (capped (at + (length text - length name))) else None

-- each name has its old offset, or else its place in the text that begins at a place and is the name with this number, if it ends that text
abbrev pub AreTailsPlaced : List (List ℕ) → ℕ → ℕ → List (Option ℕ) → List (Option ℕ) → Type 0
AreTailsPlaced names at number old new =
    (i : ℕ) → i < length names → slice_index_or new i None ≡ option_or (slice_index_or old i None) (place_in at (name_at names number) (name_at names i))

-- a name that ends one with an offset has an offset
abbrev pub AreClosed : List (List ℕ) → List (Option ℕ) → Type 0
AreClosed names offsets =
    (i k : ℕ) → i < length names → k < length names → ends (name_at names i) (name_at names k) ≡ true
    → is_some (slice_index_or offsets k None) ≡ true → is_some (slice_index_or offsets i None) ≡ true

-- the layout of the first names: their tops, and where each name lies in them
pub record IsLaidOut (head : ℕ) (names : List (List ℕ)) (used : ℕ) (tops : List (List ℕ)) (offsets : List (Option ℕ)) : Type 0 where
  pub tops_are : tops ≡ fold (with_top names) [] (take used names)
  pub whole : length offsets ≡ length names
  pub placed : (k : ℕ) → k < length names → slice_index_or offsets k None ≡ option_map capped (place_from head tops (name_at names k))
