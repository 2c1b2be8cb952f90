-- Bytes in which one patch of several is written: the rest is that of the others.
use Rattle.std.proofs.Common.{◌≡◌, ℕ, ◌+◌, ◌-◌, ◌/◌, ◌%◌, ◌^◌, ◌<◌, ◌≤◌, Bool, true, false, cond, nat_eq, nat_le, nat_lt, inl, inr, List, length, get_or, Option, Some, None, refl, sym, ◌∙◌, ap, subst, arith}
use mathlib.Core.Path.{fun_ext}
use Rattle.std.specs.Option.{option_and_then, unwrap_or}
use Rattle.std.proofs.lemmas.{Bool.{cases_lt, eqb-true}, Bool.Decides.{nat_tests}, List.{ext_get_or}, Option.{none-some}}
use Rattle.oc_linking.specs.{declared.terms.Patch.{Patch}, Fits.{bytes_of, stored}, Images.{byte_by, byte_upto, overlay}, Shows.{Apart}, Numbers.{first_upto}}
use Rattle.oc_linking.proofs.{Overlay.{length-overlay}, Storing.{byte_of_image, byte-of_field, others_stay}}
use Rattle.oc_neutral.specs.Building.{written}
use Rattle.oc_neutral.proofs.{Adding.{wide_enough}, WrittenBytes.{length-written, written-before, written-behind, written-inside}}

-- all patches, and those that are left without the first, which lies before them
module _ (all left : ℕ → Option Patch) (at : ℕ) (q : Patch) (here : all at ≡ Some q) (same_others : (i : ℕ) → nat_eq at i ≡ false → all i ≡ left i)
    (none_early : (i : ℕ) → i < at + bytes_of q.width → left i ≡ None) (apart : Apart all) (bytes : List ℕ) (inside : at + bytes_of q.width ≤ length bytes) where
  -- where it ends
  abbrev end : ℕ
  end = at + bytes_of q.width

  -- the bytes with the patch
  abbrev now : List ℕ
  now = written (bytes_of q.width) q.residue at bytes

  -- a byte of the patch
  own : (back : ℕ) → back < bytes_of q.width → get_or (overlay all 0 bytes) (at + back) 0 ≡ get_or (overlay left 0 now) (at + back) 0
  own back l =
      byte-of_field all apart bytes at back q here l inside
      ∙ sym (written-inside (bytes_of q.width) q.residue at bytes back inside l)
      ∙ sym (others_stay left now (at + back) (let e = length-written (bytes_of q.width) q.residue at bytes in omega (arith, e, inside, l))
      (λ i r there low high. let late : i < end = omega (arith, low, l) in none-some r (sym (none_early i late) ∙ there)))

  -- what a patch gives at a byte that is not of the first
  same_by : (i back : ℕ) → (at ≤ i → end ≤ i) → byte_by all i back ≡ byte_by left i back
  same_by i back beside = elim (nat_le back i) as (λ b. nat_le back i ≡ b → cond b (option_and_then (stored back) (all (i - back))) None ≡ cond b (option_and_then (stored back) (left (i - back))) None) [
    | false ↦ λ e. refl
    | true ↦ λ e. by e (nat_eq at (i - back)) refl
  ] refl
    where
      at_first : nat_le back i ≡ true → at ≡ i - back → option_and_then (stored back) (all at) ≡ option_and_then (stored back) (left at)
      at_first e same =
          let low : back ≤ i = grind (arith, nat_tests) in
          let past : end ≤ i = beside (omega (arith, same, low)) in
          let out : nat_lt back (bytes_of q.width) ≡ false = let far : bytes_of q.width ≤ back = omega (arith, same, low, past) in grind (arith, nat_tests, far) in
          let some : 1 ≤ bytes_of q.width = wide_enough q.width in
          ap (option_and_then (stored back)) here ∙ ap (λ b. cond b (Some (q.residue / 256 ^ back % 256)) None) out
          ∙ ap (option_and_then (stored back)) (sym (none_early at (omega (arith, some))))

      by : nat_le back i ≡ true → (b : Bool) → nat_eq at (i - back) ≡ b → option_and_then (stored back) (all (i - back)) ≡ option_and_then (stored back) (left (i - back))
      by e true h = let same = eqb-true at (i - back) h in subst (λ k. option_and_then (stored back) (all k) ≡ option_and_then (stored back) (left k)) same (at_first e same)
      by e false h = ap (option_and_then (stored back)) (same_others (i - back) h)

  -- another byte
  other : (i : ℕ) → i < length bytes → (at ≤ i → end ≤ i) → get_or now i 0 ≡ get_or bytes i 0 → get_or (overlay all 0 bytes) i 0 ≡ get_or (overlay left 0 now) i 0
  other i l beside stays =
      byte_of_image all i bytes l
      ∙ ap (λ (f : ℕ → Option ℕ). unwrap_or (first_upto f 8) (get_or bytes i 0)) (fun_ext (λ back. same_by i back beside))
      ∙ ap (λ z. unwrap_or (byte_upto left i 8) z) (sym stays)
      ∙ sym (byte_of_image left i now (let e = length-written (bytes_of q.width) q.residue at bytes in omega (arith, e, l)))

  each : (i : ℕ) → i < length bytes → get_or (overlay all 0 bytes) i 0 ≡ get_or (overlay left 0 now) i 0
  each i l = elim (cases_lt i at) [
    | inl before ↦ other i l (λ a. absurd (omega (arith, a, before))) (written-before (bytes_of q.width) q.residue at bytes i before)
    | inr from ↦ elim (cases_lt i end) [
      | inl within ↦
          let e : at + (i - at) ≡ i = omega (arith, from) in
          subst (λ k. get_or (overlay all 0 bytes) k 0 ≡ get_or (overlay left 0 now) k 0) e (own (i - at) (omega (arith, from, within)))
      | inr past ↦ let p : end ≤ i = omega (arith, past) in other i l (λ a. p) (written-behind (bytes_of q.width) q.residue at bytes i p)
    ]
  ]

  -- with the patch written, the others make the same image
  pub patch_written : overlay all 0 bytes ≡ overlay left 0 now
  patch_written =
      let long : length (overlay all 0 bytes) ≡ length bytes = length-overlay all 0 bytes in
      let same : length (overlay all 0 bytes) ≡ length (overlay left 0 now) = long ∙ sym (length-overlay left 0 now ∙ length-written (bytes_of q.width) q.residue at bytes) in
      ext_get_or 0 (overlay all 0 bytes) (overlay left 0 now) same (λ i l. each i (subst (λ m. i < m) long l))
