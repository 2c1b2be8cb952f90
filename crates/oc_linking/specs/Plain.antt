-- What the plain program links, and what its answer means (our profile).
use Rattle.std.specs.{Prelude.{ℕ, ◌&&◌, eqb, if◌then◌else◌, List, [], ◌∷◌, Option, Some, None, map}, Global.{Vec}}
use Rattle.oc_linking.specs.{declared.terms.Patch.{Patch}, declared.plain.PlacedPatch.{PlacedPatch}, declared.plain.Outcome.{Outcome}, Images.{Patches}}
use Rattle.oc_linking.specs.Linking.{Exports, Linked, Overflow, Image}
use Rattle.oc_linking.specs.declared.plain.Outcome.TheVariants as outcome

-- the first field of the list at a place
abbrev pub patch_at : List PlacedPatch → ℕ → ℕ → Option Patch
patch_at [] s at = None
patch_at (f ∷ fields) s at = if eqb f.section s && eqb f.offset at then Some f.patch else patch_at fields s at

-- the list as a map from places
abbrev pub patches_at : List PlacedPatch → Patches
patches_at fields s at = patch_at fields s at

-- the bytes of vectors
abbrev pub bytes_in : List (Vec ℕ) → List (List ℕ)
bytes_in contents = map (λ x. x.items) contents

-- the answer, with the exports beside it
abbrev pub linked_as : Outcome → Exports → Linked
linked_as (outcome.Overflow s at) exports = Overflow s at
linked_as (outcome.Image images) exports = Image (bytes_in images.items) exports
