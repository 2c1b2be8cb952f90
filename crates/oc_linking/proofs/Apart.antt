-- Where no field begins within another, no byte is of two fields.
use Rattle.std.proofs.Common.{◌≡◌, ℕ, ◌-◌, ◌/◌, ◌%◌, ◌^◌, ◌<◌, ◌≤◌, inl, inr, true, false, cond, Option, Some, None, refl, arith}
use Rattle.std.specs.{Prelude.{nat_le, nat_lt}, Option.{option_and_then}}
use Rattle.std.proofs.lemmas.{Bool.{cases_lt, leb-true, ltb-true}, Option.{none-some}}
use Rattle.oc_linking.specs.{declared.terms.Patch.{Patch}, Fits.{bytes_of, stored}, Images.{byte_by}, Shows.{Apart}}

-- a byte that a field stores is one of its bytes
stored_from : (back : ℕ) (q : Patch) (x : ℕ) → stored back q ≡ Some x → back < bytes_of q.width
stored_from back q x e = elim (nat_lt back (bytes_of q.width)) as (λ b. nat_lt back (bytes_of q.width) ≡ b → cond b (Some (q.residue / 256 ^ back % 256)) None ≡ Some x → back < bytes_of q.width) [
  | true ↦ λ h e. ltb-true back (bytes_of q.width) h
  | false ↦ λ h e. absurd (none-some x e)
] refl e

-- a byte that a field stores lies in it
pub byte_from : (patches : ℕ → Option Patch) (i back x : ℕ) → byte_by patches i back ≡ Some x → (back ≤ i) × (q : Patch) × (patches (i - back) ≡ Some q) × (back < bytes_of q.width)
byte_from patches i back x e = elim (nat_le back i) as (λ b. nat_le back i ≡ b → cond b (option_and_then (stored back) (patches (i - back))) None ≡ Some x
    → (back ≤ i) × (q : Patch) × (patches (i - back) ≡ Some q) × (back < bytes_of q.width)) [
      | false ↦ λ h e. absurd (none-some x e)
      | true ↦ λ h e. elim (patches (i - back)) as (λ o. patches (i - back) ≡ o → option_and_then (stored back) o ≡ Some x
          → (back ≤ i) × (q : Patch) × (patches (i - back) ≡ Some q) × (back < bytes_of q.width)) [
            | None ↦ λ g e. absurd (none-some x e)
            | Some q ↦ λ g e. (leb-true back i h, q, g, stored_from back q x e)
          ] refl e
    ] refl e

-- a byte is of one field
pub same_start : (patches : ℕ → Option Patch) → Apart patches → (i a b x y : ℕ) → byte_by patches i a ≡ Some x → byte_by patches i b ≡ Some y → a ≡ b
same_start patches apart i a b x y here there =
    let m = byte_from patches i a x here in
    let n = byte_from patches i b y there in
    elim (cases_lt a b) [
      | inl below ↦ let far = apart (i - b) (i - a) n.1 m.1 n.2 m.2 (omega (arith, below, m.0, n.0)) in absurd (omega (arith, far, below, m.0, n.0, n.3))
      | inr above ↦ elim (cases_lt b a) [
        | inl below ↦ let far = apart (i - a) (i - b) m.1 n.1 m.2 n.2 (omega (arith, below, m.0, n.0)) in absurd (omega (arith, far, below, m.0, n.0, m.3))
        | inr other ↦ omega (arith, above, other)
      ]
    ]
