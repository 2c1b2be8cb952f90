-- Names of up to sixteen bytes.
use Rattle.std.proofs.Common.{◌≡◌, ℕ, ◌≤◌, List, [], ◌∷◌, ◌++◌, length, drop, refl, arith}
use Rattle.oc_macho.specs.Structures.{padded}

-- a name over sixteen zeros is the name with zeros behind it
pub padding : (name : List ℕ) → length name ≤ 16 → name ++ drop (length name) (0 ∷ 0 ∷ 0 ∷ 0 ∷ 0 ∷ 0 ∷ 0 ∷ 0 ∷ 0 ∷ 0 ∷ 0 ∷ 0 ∷ 0 ∷ 0 ∷ 0 ∷ 0 ∷ []) ≡ padded name
padding [] low = refl
padding (a ∷ []) low = refl
padding (a ∷ b ∷ []) low = refl
padding (a ∷ b ∷ c ∷ []) low = refl
padding (a ∷ b ∷ c ∷ d ∷ []) low = refl
padding (a ∷ b ∷ c ∷ d ∷ e ∷ []) low = refl
padding (a ∷ b ∷ c ∷ d ∷ e ∷ f ∷ []) low = refl
padding (a ∷ b ∷ c ∷ d ∷ e ∷ f ∷ g ∷ []) low = refl
padding (a ∷ b ∷ c ∷ d ∷ e ∷ f ∷ g ∷ h ∷ []) low = refl
padding (a ∷ b ∷ c ∷ d ∷ e ∷ f ∷ g ∷ h ∷ i ∷ []) low = refl
padding (a ∷ b ∷ c ∷ d ∷ e ∷ f ∷ g ∷ h ∷ i ∷ j ∷ []) low = refl
padding (a ∷ b ∷ c ∷ d ∷ e ∷ f ∷ g ∷ h ∷ i ∷ j ∷ k ∷ []) low = refl
padding (a ∷ b ∷ c ∷ d ∷ e ∷ f ∷ g ∷ h ∷ i ∷ j ∷ k ∷ l ∷ []) low = refl
padding (a ∷ b ∷ c ∷ d ∷ e ∷ f ∷ g ∷ h ∷ i ∷ j ∷ k ∷ l ∷ m ∷ []) low = refl
padding (a ∷ b ∷ c ∷ d ∷ e ∷ f ∷ g ∷ h ∷ i ∷ j ∷ k ∷ l ∷ m ∷ n ∷ []) low = refl
padding (a ∷ b ∷ c ∷ d ∷ e ∷ f ∷ g ∷ h ∷ i ∷ j ∷ k ∷ l ∷ m ∷ n ∷ o ∷ []) low = refl
padding (a ∷ b ∷ c ∷ d ∷ e ∷ f ∷ g ∷ h ∷ i ∷ j ∷ k ∷ l ∷ m ∷ n ∷ o ∷ p ∷ []) low = refl
padding (a ∷ b ∷ c ∷ d ∷ e ∷ f ∷ g ∷ h ∷ i ∷ j ∷ k ∷ l ∷ m ∷ n ∷ o ∷ p ∷ q ∷ rest) low = absurd (omega (arith, low))
