-- Lists whose items are set one after another.
use Rattle.std.specs.{Prelude.{◌≡◌, ℕ, ◌<◌, Bool, false, if◌then◌else◌, nat_eq, List, length, slice_index_or, Option}, Option.{option_map_or}}

-- the list has this value at the positions where a test holds, and what it had elsewhere
abbrev pub IsSetWhere : {A : Type 0} → (ℕ → Bool) → A → A → List A → List A → Type 0
IsSetWhere test value default old new =
    (k : ℕ) → k < length old → slice_index_or new k default ≡ (if test k then value else slice_index_or old k default)

-- the position is the one that is given, if one is
abbrev pub is_given : Option ℕ → ℕ → Bool
is_given at k = option_map_or (nat_eq k) at false
