-- The bytes of a section in which one of the fields that are to be laid over it is written.
use Rattle.std.proofs.Common.{◌≡◌, ℕ, ◌+◌, ◌-◌, ◌/◌, ◌%◌, ◌^◌, ◌<◌, ◌≤◌, Bool, true, false, cond, nat_eq, nat_le, nat_lt, inl, inr, List, length, get_or, Option, Some, None, refl, sym, ◌∙◌, ap, subst, arith}
use mathlib.Core.Path.{fun_ext}
use Rattle.std.specs.Option.{option_and_then, unwrap_or}
use Rattle.std.proofs.lemmas.{Bool.{cases_lt, eqb-true}, Bool.Decides.{nat_tests}, List.{ext_get_or}, Option.{none-some}}
use Rattle.oc_linking.specs.{declared.terms.Patch.{Patch}, Fits.{bytes_of, stored}, Images.{byte_by, byte_upto, overlay}, Shows.{Apart}, Numbers.{first_upto}}
use Rattle.oc_linking.proofs.{Overlay.{length-overlay}, Storing.{byte_of_image, byte-of_field, others_stay}}
use Rattle.oc_neutral.specs.Building.{written}
use Rattle.oc_neutral.proofs.WrittenBytes.{length-written, written-before, written-behind, written-inside}

-- what all fields give, and what is left after one that lies before the others
module _ (all left : ℕ → Option Patch) (apart : Apart all) (at width : ℕ) (q : Patch) (here : all at ≡ Some q) (thick : 1 ≤ width) (wide : width ≡ bytes_of q.width)
    (others : (k : ℕ) → nat_eq at k ≡ false → all k ≡ left k) (early : (k : ℕ) → k < at + width → left k ≡ None)
    (bytes : List ℕ) (inside : at + width ≤ length bytes) where
  -- the bytes with that one
  abbrev now : List ℕ
  now = written width q.residue at bytes

  -- a byte of it
  own : (back : ℕ) → back < width → get_or (overlay all 0 bytes) (at + back) 0 ≡ get_or (overlay left 0 now) (at + back) 0
  own back l =
      byte-of_field all apart bytes at back q here (omega (arith, wide, l)) (omega (arith, wide, inside))
      ∙ sym (written-inside width q.residue at bytes back inside l)
      ∙ sym (others_stay left now (at + back) (let e = length-written width q.residue at bytes in omega (arith, e, inside, l))
      (λ k p there low high. let late : k < at + width = omega (arith, low, l) in none-some p (sym (early k late) ∙ there)))

  -- what a field gives at a byte that is not of that one
  same_by : (i back : ℕ) → (at ≤ i → at + width ≤ i) → byte_by all i back ≡ byte_by left i back
  same_by i back beside = elim (nat_le back i) as (λ b. nat_le back i ≡ b → cond b (option_and_then (stored back) (all (i - back))) None ≡ cond b (option_and_then (stored back) (left (i - back))) None) [
    | false ↦ λ e. refl
    | true ↦ λ e. by e (nat_eq at (i - back)) refl
  ] refl
    where
      at_first : nat_le back i ≡ true → at ≡ i - back → option_and_then (stored back) (all at) ≡ option_and_then (stored back) (left at)
      at_first e same =
          let low : back ≤ i = grind (arith, nat_tests) in
          let past : at + width ≤ i = beside (omega (arith, same, low)) in
          let out : nat_lt back (bytes_of q.width) ≡ false = let far : bytes_of q.width ≤ back = omega (arith, same, low, past, wide) in grind (arith, nat_tests, far) in
          ap (option_and_then (stored back)) here ∙ ap (λ b. cond b (Some (q.residue / 256 ^ back % 256)) None) out
          ∙ ap (option_and_then (stored back)) (sym (early at (omega (arith, thick))))

      by : nat_le back i ≡ true → (b : Bool) → nat_eq at (i - back) ≡ b → option_and_then (stored back) (all (i - back)) ≡ option_and_then (stored back) (left (i - back))
      by e true h = let same = eqb-true at (i - back) h in subst (λ k. option_and_then (stored back) (all k) ≡ option_and_then (stored back) (left k)) same (at_first e same)
      by e false h = ap (option_and_then (stored back)) (others (i - back) h)

  -- another byte
  other : (i : ℕ) → i < length bytes → (at ≤ i → at + width ≤ i) → get_or now i 0 ≡ get_or bytes i 0 → get_or (overlay all 0 bytes) i 0 ≡ get_or (overlay left 0 now) i 0
  other i l beside stays =
      byte_of_image all i bytes l
      ∙ ap (λ (f : ℕ → Option ℕ). unwrap_or (first_upto f 8) (get_or bytes i 0)) (fun_ext (λ back. same_by i back beside))
      ∙ ap (λ z. unwrap_or (byte_upto left i 8) z) (sym stays)
      ∙ sym (byte_of_image left i now (let e = length-written width q.residue at bytes in omega (arith, e, l)))

  each : (i : ℕ) → i < length bytes → get_or (overlay all 0 bytes) i 0 ≡ get_or (overlay left 0 now) i 0
  each i l = elim (cases_lt i at) [
    | inl before ↦ other i l (λ a. absurd (omega (arith, a, before))) (written-before width q.residue at bytes i before)
    | inr from ↦ elim (cases_lt i (at + width)) [
      | inl within ↦
          let e : at + (i - at) ≡ i = omega (arith, from) in
          subst (λ k. get_or (overlay all 0 bytes) k 0 ≡ get_or (overlay left 0 now) k 0) e (own (i - at) (omega (arith, from, within)))
      | inr past ↦ let p : at + width ≤ i = omega (arith, past) in other i l (λ a. p) (written-behind width q.residue at bytes i p)
    ]
  ]

  -- a field that is written is done
  pub field_step : overlay all 0 bytes ≡ overlay left 0 (written width q.residue at bytes)
  field_step =
      let long : length (overlay all 0 bytes) ≡ length bytes = length-overlay all 0 bytes in
      let same : length (overlay all 0 bytes) ≡ length (overlay left 0 now) = long ∙ sym (length-overlay left 0 now ∙ length-written width q.residue at bytes) in
      ext_get_or 0 (overlay all 0 bytes) (overlay left 0 now) same (λ i l. each i (subst (λ m. i < m) long l))
