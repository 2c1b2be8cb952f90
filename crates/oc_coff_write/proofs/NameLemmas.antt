-- Names of up to eight bytes, and names that are given.
use Rattle.std.proofs.Common.{◌≡◌, ℕ, ◌≤◌, true, List, [], ◌∷◌, ◌++◌, length, drop, refl, ◌∙◌, arith}
use Rattle.std.specs.List.{Contains}
use Rattle.std.proofs.lemmas.List.{get_or_default}
use Rattle.oc_base.specs.Strings.{is_given}
use Rattle.oc_strings.proofs.GivenLemmas.{place_of_given}
use Rattle.oc_coff.specs.Names.{padded}

-- a name over eight zeros is the name with zeros behind it
pub padding : (name : List ℕ) → length name ≤ 8 → name ++ drop (length name) (0 ∷ 0 ∷ 0 ∷ 0 ∷ 0 ∷ 0 ∷ 0 ∷ 0 ∷ []) ≡ padded name
padding [] l = refl
padding (a ∷ []) l = refl
padding (a ∷ b ∷ []) l = refl
padding (a ∷ b ∷ c ∷ []) l = refl
padding (a ∷ b ∷ c ∷ d ∷ []) l = refl
padding (a ∷ b ∷ c ∷ d ∷ e ∷ []) l = refl
padding (a ∷ b ∷ c ∷ d ∷ e ∷ f ∷ []) l = refl
padding (a ∷ b ∷ c ∷ d ∷ e ∷ f ∷ g ∷ []) l = refl
padding (a ∷ b ∷ c ∷ d ∷ e ∷ f ∷ g ∷ h ∷ []) l = refl
padding (a ∷ b ∷ c ∷ d ∷ e ∷ f ∷ g ∷ h ∷ i ∷ rest) l = absurd (omega arith)

-- a name that is given is one of the names
pub given_there : (names : List (List ℕ)) (name : List ℕ) → is_given names name ≡ true → Contains names name
given_there names name given = let here = place_of_given names name given in (here.at, here.within, get_or_default names here.at name [] here.within ∙ here.is)
