-- What is told of the keys of all groups.
use Rattle.std.proofs.Common.{◌≡◌, refl, ℕ, zero, suc, ◌+◌, false, List, [], ◌∷◌, ◌++◌, map, Some, ◌∙◌, ap, get_or}
use Rattle.std.specs.{Prelude.{slice_get, take}, Option.{option_map, option_map_or}}
use Rattle.std.proofs.lemmas.List.{map-append}
use Rattle.oc_neutral.specs.{declared.group.Group.{Group}, KindRules.{has_nul}}
use Rattle.oc_neutral.proofs.FieldLists.{take_here}

-- one more key
pub cut_next : (groups : List Group) (k : ℕ) (g : Group) → slice_get groups k ≡ Some g
    → map (λ (x : Group). has_nul x.key) (take (k + 1) groups) ≡ map (λ (x : Group). has_nul x.key) (take k groups) ++ has_nul g.key ∷ []
cut_next groups k g here = ap (map (λ (x : Group). has_nul x.key)) (take_here groups k g here) ∙ map-append (λ (x : Group). has_nul x.key) (take k groups) (g ∷ [])

-- the key at a position
pub cut_at : (groups : List Group) (g : ℕ) → get_or (map (λ (x : Group). has_nul x.key) groups) g false ≡ option_map_or has_nul (option_map (λ (x : Group). x.key) (slice_get groups g)) false
cut_at [] g = refl
cut_at (x ∷ groups) zero = refl
cut_at (x ∷ groups) (suc g) = cut_at groups g
