-- The data before a fixup, as a reader keeps them (our profile).
use Rattle.std.specs.{Prelude.{◌≡◌, ℕ, ◌+◌, ◌<◌, ◌≤◌, nat_lt, if◌then◌else◌, List, [], min, ◌^◌, Option, Some, None, IsSome}, Option.{option_and_then}}
use Rattle.std.specs.{BTreeMap.{BTreeMap, get}, Ordering.{nat_cmp}}
use Rattle.oc_omf_records.specs.Blocks.{Blocks, none, copies_of, size_of}
use Rattle.oc_omf.specs.{declared.data.Data.{Data}, declared.structures.DataHead.{DataHead}, Known.{row_of}, Structures.{Piece}, Sections.{blocks_in}}
use Rattle.oc_omf_judge.specs.Defined.{place_in}

-- where data lie, and their blocks
pub record Lying : Type 0 where
  pub segment : ℕ
  pub offset : ℕ
  pub blocks : Blocks

-- the data of an entry
abbrev pub lying_of : Piece → Lying
lying_of d = record { segment = d.segment; offset = d.offset; blocks = blocks_in d.blocks }

-- data that are kept, with those blocks or none
abbrev pub lying_at : DataHead → Blocks → Lying
lying_at h blocks = record { segment = h.segment; offset = h.offset; blocks = blocks }

abbrev pub lost : DataHead → Lying
lost h = lying_at h none

-- the same, where they pass what a section may have
abbrev pub kept : DataHead → Data → Lying
kept h d = if nat_lt 2147483647 (h.offset + min (size_of (row_of d)) (2 ^ 32)) then lost h else lying_at h (row_of d)

-- the blocks of data that are read
abbrev pub blocks_kept : Option Data → Blocks
blocks_kept (Some d) = row_of d
blocks_kept None = none

-- they lie in a segment that is small enough
pub record IsLow (d : Lying) : Type 0 where
  pub small : size_of d.blocks < 2147483648
  pub low : 0 < size_of d.blocks → d.offset + size_of d.blocks ≤ 2147483647

-- at each of these encoded places lie bytes that have no copy
abbrev pub AreFruitless : Blocks → BTreeMap ℕ ℕ → Type 0
AreFruitless blocks places = (at : ℕ) → IsSome (get nat_cmp places at) → copies_of blocks at ≡ Some []

-- the place of their first byte
abbrev pub base : Lying → ℕ
base d = place_in d.segment d.offset

-- where the copies of four encoded bytes lie in them
abbrev pub copies_in : Option Lying → ℕ → Option (List ℕ)
copies_in d at = option_and_then (λ (l : Lying). copies_of l.blocks at) d
