-- Marks of positions in a list, and of the groups of an object (our profile).
use Rattle.std.specs.Prelude.{◌≡◌, ℕ, ◌<◌, Bool, false, ◌||◌, List, length, slice_index_or}
use Rattle.oc_neutral.specs.{KeySymbols.{has_key_symbol}, Objects.{Object}}
use Rattle.oc_target.specs.Cut.{is_cut_key}

-- what was marked stays marked, and each position that passes the test is marked also
abbrev pub AreMarkedAlso : (ℕ → Bool) → List Bool → List Bool → Type 0
AreMarkedAlso test old new = (k : ℕ) → k < length old → slice_index_or new k false ≡ (slice_index_or old k false || test k)

-- of the first n positions those that pass the test are marked, and no others
abbrev pub AreMarkedBelow : ℕ → (ℕ → Bool) → List Bool → Type 0
AreMarkedBelow n test marks = (k : ℕ) → k < n → slice_index_or marks k false ≡ test k

-- of each group, whether its key has a NUL
abbrev pub AreCut : Object → List Bool → Type 0
AreCut n cut = (g : ℕ) → slice_index_or cut g false ≡ is_cut_key n g

-- and whether it has its key symbol
abbrev pub AreKeyed : Object → List Bool → Type 0
AreKeyed n keyed = (g : ℕ) → slice_index_or keyed g false ≡ has_key_symbol n g
