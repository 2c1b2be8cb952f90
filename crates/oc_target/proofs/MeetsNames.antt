-- The names that writers make up, and the sections that mac64 has symbols for.
use Rattle.std.proofs.Common.{◌≡◌, ℕ, zero, suc, ◌+◌, ◌^◌, ◌<◌, true, false, not, ◌&&◌, ◌||◌, List, [], ◌∷◌, length, map, Some, refl, sym, ◌∙◌, ap, subst, arith}
use Rattle.std.specs.{Prelude.{slice_get, nat_eq}, Int.Digits.{digits_of}, List.{range_with_len, enumerate_from}}
use Rattle.std.proofs.lemmas.{Bool.{true≢false, and_parts, eqb-true, ne_eqb}, Fmt.{decimal-digits_of}, Map.Keys.{any_passes_from_place}}
use Rattle.oc_base.specs.declared.format.Format.TheVariants.{Mac64}
use Rattle.oc_linking.specs.declared.terms.Less.{Less}
use Rattle.oc_linking.specs.declared.terms.Less.TheVariants as less
use Rattle.oc_chains.specs.{declared.field.Field.{Field}, Lists.{Lists, list_of}}
use Rattle.oc_neutral.specs.{KindRules.{has_nul}, declared.section.Section.{Section}, declared.reloc.Target.{Target}, declared.reloc.Reloc.{Reloc}}
use Rattle.oc_neutral.specs.{Invariants.{IsLessThere, IsNormal, IsThere}, Normal.{takes_section}, Objects.{Object, reloc_at}, Relocated.{stays}}
use Rattle.oc_neutral.specs.Mach.SectionSymbols.{section_symbol_name, names_section, any_names, needs_section_symbol, needed_sections}
use Rattle.oc_neutral.specs.{Mach.SelfReferences.{is_section, is_long_distance}, Stored.{is_stored}}
use Rattle.oc_neutral.specs.declared.reloc.Target.TheVariants as target
use Rattle.oc_target.proofs.{MeetsConditions.{below_length, field_found}, MeetsKinds.{one_of}, MeetsRelocs.{held_below}}
use Rattle.oc_target.proofs.MeetsStrings.{stands_filter, stands_enumerated}

-- ... names

-- digits have no NUL
digits_uncut : (ds : List ℕ) → has_nul (map (λ d. 48 + d) ds) ≡ false
digits_uncut [] = refl
digits_uncut (d ∷ ds) = let other : nat_eq 0 (48 + d) ≡ false = ne_eqb 0 (48 + d) (λ e. omega (arith, e)) in rw other (digits_uncut ds)

-- nor has the name of a section's symbol
pub section_symbol_uncut : (k : ℕ) → 0 < k → k < 2 ^ 64 → has_nul (section_symbol_name k) ≡ false
section_symbol_uncut k some low = ap has_nul (decimal-digits_of k some low) ∙ digits_uncut (digits_of 10 k)

-- ... needed symbols of sections

-- a number stands in a range
range_there : (a m k : ℕ) → k < m → slice_get (range_with_len a m) k ≡ Some (a + k)
range_there a zero k l = absurd (omega (arith, l))
range_there a (suc m) zero l = let e : a ≡ a + 0 = omega arith in ap Some e
range_there a (suc m) (suc k) l = let e : a + 1 + k ≡ a + suc k = omega arith in range_there (a + 1) m k (omega (arith, l)) ∙ ap Some e

-- the list of a section stands at its position
list_there : (lists : Lists Reloc) (s : ℕ) → s < length lists → slice_get lists s ≡ Some (list_of lists s)
list_there [] s l = absurd (omega (arith, l))
list_there (xs ∷ lists) zero l = refl
list_there (xs ∷ lists) (suc s) l = list_there lists s (omega (arith, l))

-- a section that is named is there
target_there : (n : Object) (k : ℕ) (t : Target) → IsThere n t → is_section k t ≡ true → k < length n.sections
target_there n k (target.Section j) there e = subst (λ i. i < length n.sections) (eqb-true j k e) there
target_there n k (target.Symbol j) there e = absurd (true≢false (sym e))

less_there : (n : Object) (k : ℕ) (l : Less) → IsLessThere n l → takes_section k l ≡ true → k < length n.sections
less_there n k l there e = grind arith

-- a relocation that stays has the symbols of the sections that it names
pub needed_there : (n : Object) (s at : ℕ) (r : Reloc) (x : Section) → reloc_at n s at ≡ Some r → slice_get n.sections s ≡ Some x → IsNormal n s r → is_stored Mac64 s r ≡ false
    → (k : ℕ) → names_section k s r ≡ true → (i : ℕ) × (slice_get (needed_sections n) i ≡ Some k)
unfolding needed_sections needs_section_symbol
needed_there n s at r x here there normal live k names =
    let low : k < length n.sections
    = one_of (is_section k r.target || takes_section k r.form.less) (nat_eq s k && is_long_distance r.form) names
    (λ e. one_of (is_section k r.target) (takes_section k r.form.less) e (target_there n k r.target normal.target) (less_there n k r.form.less normal.less))
    (λ e. subst (λ i. i < length n.sections) (eqb-true s k (and_parts _ _ e).0) (below_length n.sections s x there)) in
    let f = field_found (list_of n.relocs s) at r here in
    let passes : (stays Mac64 s f.1 && names_section k s f.1.item) ≡ true
    = ap (λ q. not (is_stored Mac64 s q) && names_section k s q) f.3 ∙ ap (λ b. not b && names_section k s r) live ∙ names in
    let any : any_names k s (list_of n.relocs s) ≡ true
    = any_passes_from_place (λ (y : Field Reloc). stays Mac64 s y && names_section k s y.item) (list_of n.relocs s) f.0 f.1 f.2 passes in
    let z : 0 + s ≡ s = omega arith in
    let row : slice_get (enumerate_from 0 n.relocs) s ≡ Some (s, list_of n.relocs s)
    = stands_enumerated 0 n.relocs s (list_of n.relocs s) (list_there n.relocs s (held_below s n.relocs at r here)) ∙ ap (λ m. Some (m, list_of n.relocs s)) z in
    let needs : needs_section_symbol n k ≡ true
    = any_passes_from_place (λ (y : ℕ × List (Field Reloc)). any_names k y.0 y.1) (enumerate_from 0 n.relocs) s (s, list_of n.relocs s) row any in
    let o : 0 + k ≡ k = omega arith in
    stands_filter (needs_section_symbol n) (range_with_len 0 (length n.sections)) k k (range_there 0 (length n.sections) k low ∙ ap Some o) needs
