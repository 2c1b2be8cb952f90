-- Where relocated fields begin, as a reader keeps it (our profile).
use Rattle.std.specs.{Prelude.{◌≡◌, ℕ, ◌+◌, ◌<◌, Bool, true, false, ◌&&◌, nat_eq, is_some, List, slice_get, Some}, List.{list_any}, Option.{option_map_or}}
use Rattle.std.specs.{BTreeMap.{get}, Ordering.{nat_cmp}}
use Rattle.oc_omf_judge.specs.{Defined.{place_in}, declared.starts.Starts.{Starts}, declared.whole.Whole.{Whole}, Whole.{is_judged}}
use Rattle.oc_omf.specs.{Fixups.{Fixed, are_near, field_offsets}, Structures.{Piece}}

-- a field begins at a place
abbrev pub is_start : Starts → ℕ → Bool
is_start s k = is_some (get nat_cmp s.starts k)

-- a field begins less than four bytes from a place
abbrev pub IsNear : Starts → ℕ → Type 0
IsNear s at = (k : ℕ) × (is_start s k ≡ true) × (are_near at k ≡ true)

-- the same of one of these places, which are counted from a base
abbrev pub IsMet : Starts → ℕ → List ℕ → Type 0
IsMet s base places = (p : ℕ) × (list_any (nat_eq p) places ≡ true) × IsNear s (base + p)

-- a place is one of these
abbrev pub is_among : ℕ → List ℕ → ℕ → Bool
is_among base places k = list_any (λ p. nat_eq k (base + p)) places

-- a field of a fixup that is judged begins at a place
abbrev pub starts_at : Whole → ℕ → Fixed → Bool
starts_at w k x = is_judged w x && option_map_or (λ (d : Piece). list_any (λ at. nat_eq k (place_in d.segment at)) (field_offsets x)) x.piece false

-- the fields of a fixup lie in a section that is small enough
abbrev pub IsLowField : Fixed → Type 0
IsLowField x = (j at : ℕ) → slice_get (field_offsets x) j ≡ Some at → at < 2147483648

-- the places that are held are those of the fields of the fixups that are judged
pub record AreStarts (w : Whole) (fixed : List Fixed) (s : Starts) : Type 0 where
  pub are : (k : ℕ) → is_start s k ≡ list_any (starts_at w k) fixed
  pub low : (i : ℕ) (x : Fixed) → slice_get fixed i ≡ Some x → IsLowField x
