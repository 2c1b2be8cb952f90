-- Places of data in which nothing was found (our profile).
use Rattle.std.specs.{Prelude.{◌≡◌, ℕ, [], Some, IsSome}, BTreeMap.{BTreeMap, get}, Ordering.{nat_cmp}}
use Rattle.oc_omf_records.specs.Blocks.{Blocks, copies_of}

-- at each of these encoded places lie bytes that have no copy
abbrev pub AreFruitless : Blocks → BTreeMap ℕ ℕ → Type 0
AreFruitless blocks places = (at : ℕ) → IsSome (get nat_cmp places at) → copies_of blocks at ≡ Some []
