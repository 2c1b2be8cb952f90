-- What a walk over blocks finds of the copies of four content bytes (TIS OMF 1.1, "LIDATA: Logical Iterated Data Record").
use Rattle.std.specs.{Prelude.{ℕ, ◌≡◌, ◌<◌, ◌*◌, ◌^◌, min, Bool, true, false, List, [], All, Option, Some, None, Vec}, Global.{Global}, Option.{option_map}}
use Rattle.oc_omf_records.specs.{declared.seeking.Sought.{Sought}, declared.seeking.Sought.TheVariants.{Found, Beyond}, Blocks.{Blocks, size_of, copies_of}}

-- the list of places, if there is one
abbrev pub places_in : Option (Vec ℕ Global) → Option (List ℕ)
places_in places = option_map (λ v. v.items) places

-- places as they are; and no place where a block around them has the count 0
abbrev pub kept : Bool → Option (List ℕ) → Option (List ℕ)
kept true places = places
kept false places = option_map (λ _. []) places

-- the walk gives where the copies lie in the row; or that the row does not hold the content, and the size of the row
abbrev pub Finds : Bool → Blocks → ℕ → Sought → Type 0
Finds live row at (Found places) = Some places.items ≡ kept live (copies_of row at)
Finds live row at (Beyond size) = (copies_of row at ≡ None) × (size ≡ min (size_of row) (2 ^ 32))

-- the places are places of one piece, and there are fewer than 2^31 bytes in all copies of it
abbrev pub FitIn : ℕ → ℕ → List ℕ → Type 0
FitIn count size places = All (λ place. (place < size) × (count * size < 2 ^ 31)) places
