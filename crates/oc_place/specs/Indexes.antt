-- The names of an object's nonlocal symbols in order, each with the position of its symbol (our profile).
use Rattle.std.specs.{Prelude.{◌≡◌, ℕ, ◌<◌, Bool, true, false, bytes_eq, List, [], ◌∷◌, ◌++◌, map, take, Some, None}, List.{All, list_any}}
use Rattle.std.specs.{declared.cmp.Ordering.{Ordering}, Ordering.{nat_cmp}, Cmp.Lexicographic.{slice_cmp}, List.Sorted.{IsPermutation, IsSorted}}
use Rattle.oc_strings.specs.Repeats.{NameList, name_at}
use Rattle.oc_place.specs.declared.index.NamedSymbol.{NamedSymbol}

-- two entries by their names
abbrev pub compared : NamedSymbol → NamedSymbol → Ordering
compared x y = slice_cmp nat_cmp x.name.now y.name.now

-- an entry is of that name
abbrev pub is_of : List ℕ → NamedSymbol → Bool
is_of name x = bytes_eq name x.name.now

-- the name of an entry is the one at its position
abbrev pub IsNamed : NameList → NamedSymbol → Type 0
IsNamed names x = name_at names x.at ≡ Some x.name.now

-- an entry is added for a symbol of that name at that position, and none for a Local
abbrev pub AddsName : Bool → List ℕ → ℕ → List NamedSymbol → List NamedSymbol → Type 0
AddsName true name at old new = new ≡ old
AddsName false name at old new = (x : NamedSymbol) × (new ≡ old ++ x ∷ []) × (x.name.now ≡ name) × (x.at ≡ at)

-- the names that are present
abbrev pub present : NameList → List (List ℕ)
present [] = []
present (None ∷ names) = present names
present (Some name ∷ names) = name ∷ present names

-- the names of entries
abbrev pub texts : List NamedSymbol → List (List ℕ)
texts entries = map (λ (x : NamedSymbol). x.name.now) entries

-- entries of the names at the first positions, so many of them
pub record AreListed (names : NameList) (count : ℕ) (entries : List NamedSymbol) : Type 0 where
  pub listed : texts entries ≡ present (take count names)
  pub each : All (IsNamed names) entries
  pub all : (k : ℕ) (name : List ℕ) → k < count → name_at names k ≡ Some name → list_any (is_of name) entries ≡ true

-- they are of all the names, in order
pub record IsIndex (names : NameList) (entries : List NamedSymbol) : Type 0 where
  pub moved : IsPermutation (present names) (texts entries)
  pub sorted : IsSorted compared entries
  pub each : All (IsNamed names) entries
  pub all : (k : ℕ) (name : List ℕ) → name_at names k ≡ Some name → list_any (is_of name) entries ≡ true
