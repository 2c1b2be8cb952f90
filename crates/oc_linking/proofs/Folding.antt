-- Filling the fields over the constants of folded ones fills all of them.
use Rattle.std.proofs.Common.{◌≡◌, ℕ, zero, suc, ◌+◌, ◌-◌, ◌/◌, ◌%◌, ◌^◌, Bool, true, false, cond, List, [], ◌∷◌, length, Option, Some, None, refl, sym, ◌∙◌, ap, arith}
use Rattle.std.specs.{Prelude.{nat_le, nat_lt}, Option.{option_map, option_and_then, unwrap_or}}
use mathlib.Core.Path.{fun_ext}
use Rattle.oc_linking.specs.{declared.terms.Patch.{Patch}, Numbers.{or_else, first_from}, Fits.{bytes_of, stored}}
use Rattle.oc_linking.specs.Images.{Patches, byte_by, byte_upto, overlay, overlays, first_at, first_field}
use Rattle.oc_linking.specs.Shows.{blank, Apart, live_of, under_of, lives, unders}
use Rattle.oc_linking.proofs.{Upto.{first_upto_from}, Apart.{same_start}}

-- of one byte: what all fields, the ones that are not folded, and what stands under them give
pub data One : Option ℕ → Option ℕ → Option ℕ → Type 0 where
  Nothing : One None None None
  Folded : (x : ℕ) → One (Some x) None (Some x)
  Live : (x y : ℕ) → One (Some x) (Some x) (Some y)

module _ (o : ℕ → Option Patch) (folded : ℕ → Bool) where
  -- of one field
  one : (i back : ℕ) → One (byte_by o i back) (byte_by (λ at. live_of (folded at) (o at)) i back) (byte_by (λ at. under_of (folded at) (o at)) i back)
  one i back = elim (nat_le back i) as (λ b. One (cond b (option_and_then (stored back) (o (i - back))) None)
      (cond b (option_and_then (stored back) (live_of (folded (i - back)) (o (i - back)))) None) (cond b (option_and_then (stored back) (under_of (folded (i - back)) (o (i - back)))) None)) [
        | false ↦ Nothing
        | true ↦ elim (o (i - back)) as (λ q. One (option_and_then (stored back) q) (option_and_then (stored back) (live_of (folded (i - back)) q)) (option_and_then (stored back) (under_of (folded (i - back)) q))) [
          | None ↦ elim (folded (i - back)) as (λ f. One None (option_and_then (stored back) (cond f None None)) None) [ true ↦ Nothing | false ↦ Nothing ]
          | Some r ↦ elim (folded (i - back)) as (λ f. One (stored back r) (option_and_then (stored back) (cond f None (Some r))) (stored back (cond f r (blank r)))) [
            | true ↦ elim (nat_lt back (bytes_of r.width)) as (λ b. One (cond b (Some (r.residue / 256 ^ back % 256)) None) None (cond b (Some (r.residue / 256 ^ back % 256)) None)) [ true ↦ Folded _ | false ↦ Nothing ]
            | false ↦ elim (nat_lt back (bytes_of r.width)) as (λ b. One (cond b (Some (r.residue / 256 ^ back % 256)) None) (cond b (Some (r.residue / 256 ^ back % 256)) None) (cond b (Some (0 / 256 ^ back % 256)) None)) [ true ↦ Live _ _ | false ↦ Nothing ]
          ]
        ]
      ]

  -- of two, not both of which have the byte
  joined : (a b c x y z : Option ℕ) → One a b c → One x y z → ((j k : ℕ) → a ≡ Some j → x ≡ Some k → ⊥) → One (or_else a x) (or_else b y) (or_else c z)
  joined a b c x y z Nothing q none = q
  joined a b c x y z (Folded j) Nothing none = Folded j
  joined a b c x y z (Folded j) (Folded k) none = absurd (none j k refl refl)
  joined a b c x y z (Folded j) (Live k m) none = absurd (none j k refl refl)
  joined a b c x y z (Live j i) Nothing none = Live j i
  joined a b c x y z (Live j i) (Folded k) none = absurd (none j k refl refl)
  joined a b c x y z (Live j i) (Live k m) none = absurd (none j k refl refl)

  -- of all fields
  upto : Apart o → (i n : ℕ) → One (byte_upto o i n) (byte_upto (λ at. live_of (folded at) (o at)) i n) (byte_upto (λ at. under_of (folded at) (o at)) i n)
  upto apart i zero = Nothing
  upto apart i (suc n) = joined _ _ _ _ _ _ (upto apart i n) (one i n) (λ j k before here.
      let m = first_upto_from (byte_by o i) n j before in
      let same : m.0 ≡ n = same_start o apart i m.0 n j k m.2 here in absurd (omega (arith, same, m.1)))

  -- over what stands under it
  over : (a b c : Option ℕ) (x : ℕ) → One a b c → unwrap_or b (unwrap_or c x) ≡ unwrap_or a x
  over a b c x y = grind arith

  -- of one section
  pub overlay_folded : Apart o → (i : ℕ) (xs : List ℕ)
      → overlay (λ at. live_of (folded at) (o at)) i (overlay (λ at. under_of (folded at) (o at)) i xs) ≡ overlay o i xs
  overlay_folded apart i [] = refl
  overlay_folded apart i (x ∷ xs) =
      ap (λ y. y ∷ overlay (λ at. live_of (folded at) (o at)) (i + 1) (overlay (λ at. under_of (folded at) (o at)) (i + 1) xs)) (over _ _ _ x (upto apart i 8))
      ∙ ap (λ ys. unwrap_or (byte_upto o i 8) x ∷ ys) (overlay_folded apart (i + 1) xs)

module _ (patches : Patches) (folded : ℕ → ℕ → Bool) where
  -- of all sections
  pub overlays_folded : ((s : ℕ) → Apart (patches s)) → (s : ℕ) (xs : List (List ℕ)) → overlays (lives folded patches) s (overlays (unders folded patches) s xs) ≡ overlays patches s xs
  overlays_folded apart s [] = refl
  overlays_folded apart s (x ∷ xs) =
      ap (λ y. y ∷ overlays (lives folded patches) (s + 1) (overlays (unders folded patches) (s + 1) xs)) (overlay_folded (patches s) (folded s) (apart s) 0 x)
      ∙ ap (λ ys. overlay (patches s) 0 x ∷ ys) (overlays_folded apart (s + 1) xs)

  module _ (test : Patch → Bool) (passes : (s at : ℕ) (q : Patch) → folded s at ≡ true → patches s at ≡ Some q → test q ≡ false) where
    -- at one offset
    hit : (s at : ℕ) → unwrap_or (option_map test (live_of (folded s at) (patches s at))) false ≡ unwrap_or (option_map test (patches s at)) false
    hit s at = elim (folded s at) as (λ b. folded s at ≡ b → unwrap_or (option_map test (live_of b (patches s at))) false ≡ unwrap_or (option_map test (patches s at)) false) [
      | false ↦ λ f. refl
      | true ↦ λ f. elim (patches s at) as (λ o. patches s at ≡ o → false ≡ unwrap_or (option_map test o) false) [
        | None ↦ λ h. refl
        | Some q ↦ λ h. sym (passes s at q f h)
      ] refl
    ] refl

    -- no folded field passes the test, so none is the first that does
    pub first_field_folded : (s : ℕ) (xs : List (List ℕ)) → first_field test (lives folded patches) s xs ≡ first_field test patches s xs
    first_field_folded s [] = refl
    first_field_folded s (x ∷ xs) =
        ap (λ h. or_else (option_map (λ at. (s, at)) (first_from h 0 (length x))) (first_field test (lives folded patches) (s + 1) xs)) (fun_ext (λ at. hit s at))
        ∙ ap (or_else (option_map (λ at. (s, at)) (first_at test (patches s) (length x)))) (first_field_folded (s + 1) xs)
