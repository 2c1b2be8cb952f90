-- A step of a loop over a list of things.
use Rattle.std.proofs.Common.{◌≡◌, ℕ, ◌+◌, List, ◌∷◌, map, drop, Some, ap}
use Rattle.std.specs.Prelude.{slice_get}
use Rattle.oc_neutral.proofs.FieldLists.{drop_here}

-- the name of a thing and those of the things behind it
pub name_step : {X Y : Type 0} (name : X → Y) (xs : List X) (k : ℕ) (x : X) → slice_get xs k ≡ Some x → map name (drop k xs) ≡ name x ∷ map name (drop (k + 1) xs)
name_step name xs k x here = ap (map name) (drop_here xs k x here)
