-- The numbers by which names are compared first.
use Rattle.std.specs.{Prelude.{◌≡◌, ℕ, ◌<◌, ◌^◌, List, [], ◌∷◌, reverse, slice_index}, Int.{w64, from_be_bytes}, Ordering.{nat_cmp, ordering_then}}
use Rattle.std.specs.{declared.cmp.Ordering.{Ordering}, Cmp.Lexicographic.{slice_cmp}}
use Rattle.oc_strings.specs.declared.order.Entry.{Entry}

-- byte i of a name, counted from the last one on; 0 where the name is shorter
abbrev pub byte_back : List ℕ → ℕ → ℕ
byte_back name i = slice_index (reverse name) i

-- the number whose eight bytes, the highest first, are the last of a name, from the last one on
unfoldable pub back_number : List ℕ → ℕ
back_number name =
    from_be_bytes w64 (byte_back name 0 ∷ byte_back name 1 ∷ byte_back name 2 ∷ byte_back name 3 ∷ byte_back name 4 ∷ byte_back name 5 ∷ byte_back name 6 ∷ byte_back name 7 ∷ [])

-- entries are compared by their numbers, then by their names from the last byte on
abbrev pub entry_order : Entry → Entry → Ordering
entry_order a b = ordering_then (nat_cmp a.back b.back) (slice_cmp nat_cmp (reverse a.name.now) (reverse b.name.now))

-- and those with one name by their places among the given ones, the later one first
abbrev pub full_order : Entry → Entry → Ordering
full_order a b = ordering_then (entry_order a b) (nat_cmp b.number a.number)

-- the entry has the number of its name
pub record IsKeyed (entry : Entry) : Type 0 where
  pub back : entry.back ≡ back_number entry.name.now
  pub bytes : (k : ℕ) → slice_index entry.name.now k < 2 ^ 8
