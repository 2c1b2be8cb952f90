-- What is seen of an object that is ready for a target is ready for it, where the family's conditions stay.
use Rattle.std.proofs.Common.{◌≡◌, ℕ, zero, suc, ◌+◌, ◌<◌, ◌≤◌, Bool, true, false, cond, not, ◌&&◌, ◌||◌, nat_lt, List, [], ◌∷◌, ◌++◌, length, map, get_or, sum_by, Option, Some, None, inl, inr, refl, sym, ◌∙◌, ap, subst, arith}
use Rattle.std.specs.{Prelude.{slice_get}, List.{AllByRecursion, enumerate_from}, Option.{option_map, option_map_or}}
use Rattle.std.proofs.lemmas.{Bool.{or_right}, Bool.Decides.{nat_tests}, List.Sums.{sum_by-cons}}
use Rattle.std.proofs.lemmas.Option.{none-some, same_Some, slice_get-map, get_or_from_slice_get}
use Rattle.oc_base.specs.{declared.format.Format.{Format}, declared.fault.Spot.{Spot}}
use Rattle.oc_linking.specs.{declared.terms.Fallback.{Fallback}, declared.terms.Kind.TheVariants.{Debug, Exception}, declared.terms.Binding.{Binding}}
use Rattle.oc_linking.specs.declared.terms.Binding.TheVariants.{Weak}
use Rattle.oc_chains.specs.{declared.field.Field.{Field}, Lists.{Lists, list_of}}
use Rattle.oc_neutral.specs.{declared.section.Section.{Section}, declared.symbol.Symbol.{Symbol}, declared.reloc.Reloc.{Reloc}, Objects.{Object, reloc_at}}
use Rattle.oc_neutral.specs.{Alignments.{output_align}, Families.{family_of, container_of, same_format}, GivenTags.{can_have}}
use Rattle.oc_neutral.specs.{HomeNames.{is_home, output_names}, Invariants.{IsObject}, KindRules.{same_kind}, Stored.{is_stored}}
use Rattle.oc_neutral.specs.TargetSections.{section_count, is_debug_kept, is_exception_kept, section_conditions, conditions_at, section_stages}
use Rattle.oc_neutral.specs.TargetSymbols.{bounded, limited, names_length, symbol_count, is_absolute_form, is_common_form, is_weak_form, symbol_conditions, symbol_stages}
use Rattle.oc_neutral.specs.TargetRelocations.{PlacedReloc, placed_relocs_in, placed_relocs_from, placed_relocs, spot_of, reloc_conditions, standing_conditions, relocation_stages}
use Rattle.oc_target.specs.Fitted.{IsFitted, IsNamed, first_unfit, fitted_binding}
use Rattle.oc_shows.specs.{Manners.{Manner}, Readable.{IsBlankWhereTyped}}
use Rattle.oc_shows.specs.Seen.{seen_with, seen_section, seen_symbol, seen_binding, seen_fallback, seen_reloc, seen_field}
use Rattle.oc_neutral.specs.TargetSections as sections_of_target
use Rattle.oc_target.proofs.{MeetsConditions.{AreMet, section_met, symbol_met, symbol_count_met, own_names, same_format-self}, MeetsCounts.{met_parts}}
use Rattle.oc_neutral.proofs.{Positions.{each_at, there_at}, Mapped.{all_from, list_map}, LeftObject.{sum_map}}
use Rattle.oc_shows.proofs.{SeenAlike.{symbol_from, relocs_same}, SeenLines.{IsShown}, FoundLaws.{found_in}}
use Rattle.oc_shelf.proofs.{ReadingLaws.StageLemmas.{Unbroken, unbroken_append, no_first_fault}, WritingLaws.MemberLemmas.{of_map, of_append}}
use Rattle.oc_canonical.proofs.SeenSums.{seen_sum, seen_few}

-- what stands among the relocations of sections
record IsFrom (s : ℕ) (lists : Lists Reloc) (z : PlacedReloc) : Type 0 where
  pub list : ℕ
  pub place : ℕ
  pub field : Field Reloc
  pub there : slice_get (list_of lists list) place ≡ Some field
  pub is : record { section = s + list; at = field.at; reloc = field.item } ≡ z

from_standing : (s : ℕ) (lists : Lists Reloc) (i : ℕ) (z : PlacedReloc) → slice_get (placed_relocs_from s lists) i ≡ Some z → IsFrom s lists z
from_standing s [] i z here = absurd (none-some z here)
from_standing s (fields ∷ lists) i z here = elim (of_append (placed_relocs_in s fields) (placed_relocs_from (s + 1) lists) i z here) [
  | inl h ↦
      let x = of_map (λ (x : Field Reloc). record { section = s; at = x.at; reloc = x.item }) fields i z h in
      let e : s + 0 ≡ s = omega arith in
      record { list = 0; place = i; field = x.0; there = x.1; is = ap (λ (k : ℕ). at k x.0) e ∙ x.2 }
  | inr r ↦
      let y = from_standing (s + 1) lists r.0 z r.2 in
      let e : s + suc y.list ≡ s + 1 + y.list = omega arith in
      record { list = suc y.list; place = y.place; field = y.field; there = y.there; is = ap (λ (k : ℕ). at k y.field) e ∙ y.is }
]
  where
    at : ℕ → Field Reloc → PlacedReloc
    at k x = record { section = k; at = x.at; reloc = x.item }

-- what stays of the conditions of a target's family
pub record FamilyStays (target : Format) (m : Manner) (n : Object) (shown : List (ℕ × ℕ)) : Type 0 where
  -- of sections
  pub counted : AreMet (section_count target (seen_with m n shown))
  pub debug : (k : ℕ) (s : Section) → slice_get n.sections k ≡ Some s → (same_kind (m.kind s) Debug && not (family_of target).keeps_debug) ≡ false
  pub kind : (k : ℕ) (s : Section) → slice_get n.sections k ≡ Some s → (family_of target).lacks_kind (m.kind s) ≡ false
  pub gives : (k : ℕ) (s : Section) → slice_get n.sections k ≡ Some s → (family_of target).gives (m.kind s) s.name s.tag ≡ true
  pub name : (k : ℕ) (s : Section) → slice_get n.sections k ≡ Some s
      → (family_of target).lacks_name (output_names target (seen_with m n shown)) (seen_with m n shown) s.name (seen_section m n (k, s)) ≡ false
  pub member : (k : ℕ) (s : Section) → slice_get n.sections k ≡ Some s → option_map_or ((family_of target).lacks_member (seen_with m n shown)) s.group false ≡ false
  -- of symbols
  pub few : AreMet (option_map_or bounded ((family_of target).symbols (seen_with m n shown)) [])
  pub symbol : (k number : ℕ) (s : Symbol) → slice_get n.symbols k ≡ Some s → (family_of target).lacks_symbol (seen_symbol m n shown number s) ≡ false
  pub weak : (k : ℕ) (s : Symbol) (f : Fallback) → slice_get n.symbols k ≡ Some s → s.binding ≡ Weak f → (family_of target).lacks_weak (seen_with m n shown) (seen_fallback m n shown f) ≡ false
  -- of relocations
  pub reloc : (s at : ℕ) (r : Reloc) (spot : Spot) → reloc_at n s at ≡ Some r → AreMet (reloc_conditions target (seen_with m n shown) at (seen_reloc m n shown r) spot)
  pub stored : (s : ℕ) (r : Reloc) → is_stored target s r ≡ false → is_stored target s (seen_reloc m n shown r) ≡ false

module _ (target : Format) (m : Manner) (n : Object) (shown : List (ℕ × ℕ)) (fits : IsFitted target n) (is : IsShown n shown) (object : IsObject (seen_with m n shown)) (stays : FamilyStays target m n shown) where
  abbrev a : Object
  a = seen_with m n shown

  -- ... sections

  -- a section that is seen, of the one at its position
  section_from : (i : ℕ) (sections : List Section) (k : ℕ) (y : Section) → slice_get (map (seen_section m n) (enumerate_from i sections)) k ≡ Some y
      → (x : Section) × (slice_get sections k ≡ Some x) × (seen_section m n (i + k, x) ≡ y)
  section_from i [] k y here = absurd (none-some y here)
  section_from i (x ∷ sections) zero y here = (x, refl, (let e : i + 0 ≡ i = omega arith in ap (λ (j : ℕ). seen_section m n (j, x)) e ∙ same_Some (seen_section m n (i, x)) y here))
  section_from i (x ∷ sections) (suc k) y here =
      let z = section_from (i + 1) sections k y here in
      (z.0, z.1, (let e : i + suc k ≡ i + 1 + k = omega arith in ap (λ (j : ℕ). seen_section m n (j, z.0)) e ∙ z.2))

  section_of : (k : ℕ) (y : Section) → slice_get a.sections k ≡ Some y → (x : Section) × (slice_get n.sections k ≡ Some x) × (seen_section m n (k, x) ≡ y)
  section_of k y here =
      let x = section_from 0 n.sections k y here in
      let e : k ≡ 0 + k = omega arith in
      (x.0, x.1, ap (λ (j : ℕ). seen_section m n (j, x.0)) e ∙ x.2)

  same : same_format target n.format ≡ true
  same = ap (same_format target) fits.format ∙ same_format-self target

  debug_kept : (k : ℕ) (s : Section) → slice_get n.sections k ≡ Some s → is_debug_kept target n.format (m.kind s) ≡ false
  debug_kept k s here =
      ap (λ b. same_kind (m.kind s) Debug && (not b || not (family_of n.format).keeps_debug)) same
      ∙ ap (λ f. same_kind (m.kind s) Debug && not (family_of f).keeps_debug) fits.format
      ∙ stays.debug k s here

  exception_kept : (s : Section) → is_exception_kept target n.format (m.kind s) ≡ false
  exception_kept s = ap (λ b. same_kind (m.kind s) Exception && not b && not ((family_of target).takes_exceptions (container_of n.format))) same ∙ by (same_kind (m.kind s) Exception)
    where
      by : (b : Bool) → (b && false && not ((family_of target).takes_exceptions (container_of n.format))) ≡ false
      by b = grind arith

  section_stays : (k : ℕ) (s : Section) → slice_get n.sections k ≡ Some s → Unbroken (section_conditions target a s.name (seen_section m n (k, s)))
  unfolding section_conditions
  section_stays k s here =
      let met = section_met target n fits k s here in
      (debug_kept k s here, (exception_kept s, (stays.kind k s here, (met.1.1.1.0, (stays.name k s here, (stays.member k s here, tt))))))

  section_at : (k : ℕ) → k < length a.sections → Unbroken (conditions_at target a k)
  section_at k low =
      let y = there_at a.sections k low in
      let x = section_of k y.0 y.1 in
      let named : get_or (output_names target a) k [] ≡ x.0.name
      = ap (λ names. get_or names k []) (own_names target a fits.format)
      ∙ get_or_from_slice_get (map (λ (s : Section). s.name) a.sections) k x.0.name []
      (slice_get-map (λ (s : Section). s.name) a.sections k ∙ ap (option_map (λ (s : Section). s.name)) y.1 ∙ ap (λ (s : Section). Some s.name) (sym x.2)) in
      subst (λ o. Unbroken (option_map_or (section_conditions target a (get_or (output_names target a) k [])) o [])) (sym y.1)
      (subst (λ name. Unbroken (section_conditions target a name y.0)) (sym named)
      (subst (λ (s : Section). Unbroken (section_conditions target a x.0.name s)) x.2 (section_stays k x.0 x.1)))

  -- ... symbols

  names_stay : names_length target a ≤ names_length target n
  names_stay =
      let own = ap (sum_by length) (own_names target n fits.format) ∙ sum_map length (λ (s : Section). s.name) n.sections in
      let seen = ap (sum_by length) (own_names target a fits.format) ∙ sum_map length (λ (s : Section). s.name) a.sections in
      let sections : sum_by (λ (s : Section). length s.name) a.sections ≡ sum_by (λ (s : Section). length s.name) n.sections = named 0 n.sections in
      let symbols : sum_by (λ (s : Symbol). length s.name) a.symbols ≤ sum_by (λ (s : Symbol). length s.name) n.symbols
      = seen_sum m n shown is (λ (s : Symbol). length s.name) (λ (s : Symbol). length s.name) (λ k number s h. refl) in
      omega (arith, own, seen, sections, symbols)
    where
      named : (i : ℕ) (xs : List Section) → sum_by (λ (s : Section). length s.name) (map (seen_section m n) (enumerate_from i xs)) ≡ sum_by (λ (s : Section). length s.name) xs
      named i [] = refl
      named i (x ∷ xs) =
          let rest = named (i + 1) xs in
          let f = sum_by-cons (λ (s : Section). length s.name) (seen_section m n (i, x)) (map (seen_section m n) (enumerate_from (i + 1) xs)) in
          let g = sum_by-cons (λ (s : Section). length s.name) x xs in
          omega (arith, rest, f, g)

  limit_stays : Unbroken (limited (names_length target a))
  limit_stays =
      let met = (met_parts (option_map_or bounded ((family_of target).symbols n) []) (limited (names_length target n)) (symbol_count_met target n fits)).1.0 in
      let le = names_stay in
      let low : nat_lt 268435456 (names_length target a) ≡ false = grind (arith, nat_tests, met, le) in
      (low, tt)

  counted_stays : Unbroken (symbol_count target a)
  counted_stays = unbroken_append (option_map_or bounded ((family_of target).symbols a) []) (limited (names_length target a)) stays.few limit_stays

  absolute_stays : (b : Binding) → is_absolute_form target (seen_binding m n shown b) ≡ is_absolute_form target b
  absolute_stays b = grind arith

  common_stays : (b : Binding) → is_common_form target (seen_binding m n shown b) ≡ is_common_form target b
  common_stays b = grind arith

  weak_stays : (k : ℕ) (s : Symbol) → slice_get n.symbols k ≡ Some s → (b : Binding) → s.binding ≡ b → is_weak_form target a (seen_binding m n shown b) ≡ false
  weak_stays k s here b own = grind arith

  symbol_stays : (i : ℕ) → i < length a.symbols → Unbroken (sections_of_target.each_of (symbol_conditions target a) a.symbols i)
  unfolding symbol_conditions
  symbol_stays i low =
      let t = there_at a.symbols i low in
      let x = symbol_from m n shown is i t.0 t.1 in
      let s : Symbol = x.1 in
      let met = symbol_met target n fits x.0.0 s x.3 in
      let conditions : Unbroken (symbol_conditions target a (seen_symbol m n shown x.0.1 s))
      = (stays.symbol x.0.0 x.0.1 s x.3, (absolute_stays s.binding ∙ met.1.0, (common_stays s.binding ∙ met.1.1.0, (weak_stays x.0.0 s x.3 s.binding refl, tt)))) in
      subst (λ o. Unbroken (option_map_or (symbol_conditions target a) o [])) (sym t.1) (subst (λ (y : Symbol). Unbroken (symbol_conditions target a y)) x.4 conditions)

  -- ... relocations

  standing_stays : (i : ℕ) → i < length (placed_relocs a) → Unbroken (option_map_or (standing_conditions target a) (slice_get (placed_relocs a) i) [])
  standing_stays i low =
      let z = there_at (placed_relocs a) i low in
      let y = from_standing 0 a.relocs i z.0 z.1 in
      let k : ℕ = y.list in
      let x = of_map (seen_field m n shown) (list_of n.relocs k) y.place y.field (ap (λ xs. slice_get xs y.place) (sym (list_map (seen_field m n shown) n.relocs k)) ∙ y.there) in
      let here : reloc_at n k x.0.at ≡ Some x.0.item = (found_in 0 (list_of n.relocs k) (fits.object.built.fields.apart k) y.place x.0 x.1).1 in
      let r : Reloc = x.0.item in
      let e : 0 + k ≡ k = omega arith in
      let met : Unbroken (standing_conditions target a (record { section = k; at = x.0.at; reloc = seen_reloc m n shown r }))
      = subst (λ b. Unbroken (cond b [] (reloc_conditions target a x.0.at (seen_reloc m n shown r) (spot_of a k x.0.at)))) (sym (stays.stored k r (fits.stored k x.0.at r here)))
      (stays.reloc k x.0.at r (spot_of a k x.0.at) here) in
      let own : record { section = k; at = x.0.at; reloc = seen_reloc m n shown r } ≡ z.0
      = ap (λ (f : Field Reloc). at k f) x.2 ∙ ap (λ (j : ℕ). at j y.field) (sym e) ∙ y.is in
      subst (λ o. Unbroken (option_map_or (standing_conditions target a) o [])) (sym z.1) (subst (λ (q : PlacedReloc). Unbroken (standing_conditions target a q)) own met)
    where
      at : ℕ → Field Reloc → PlacedReloc
      at k x = record { section = k; at = x.at; reloc = x.item }

  expressible_stays : first_unfit target a ≡ None
  unfolding first_unfit section_stages symbol_stages
  expressible_stays =
      no_first_fault (section_stages target a ++ (symbol_stages target a ++ relocation_stages target a))
      ((λ i low. stays.counted), ((λ i low. section_at i low), ((λ i low. counted_stays), ((λ i low. symbol_stays i low), ((λ i low. standing_stays i low), tt)))))

  -- ... the object

  named_stays : (k : ℕ) (y : Section) → slice_get a.sections k ≡ Some y → IsNamed target k y
  named_stays k y here =
      let x = section_of k y here in
      subst (IsNamed target k) x.2 (or_right (is_home target (k + 1) (m.kind x.0) x.0.name x.0.tag) (can_have target (m.kind x.0) x.0.name x.0.tag) (stays.gives k x.0 x.1))

  blank_stays : (k : ℕ) (y : Section) → slice_get a.sections k ≡ Some y → IsBlankWhereTyped a k y
  blank_stays k y here =
      let x = section_of k y here in
      subst (IsBlankWhereTyped a k) x.2 (λ typed.
      let both = fits.blanks k x.0 x.1 typed in
      (both.0, list_map (seen_field m n shown) n.relocs k ∙ ap (map (seen_field m n shown)) both.1))

  align_stays : AllByRecursion (λ (s : Section). output_align target s.align ≡ s.align) a.sections
  align_stays = all_from (λ (s : Section). output_align target s.align ≡ s.align) a.sections (λ k y here.
      let x = section_of k y here in
      subst (λ (s : Section). output_align target s.align ≡ s.align) x.2 (each_at (λ (s : Section). output_align target s.align ≡ s.align) n.sections k x.0 fits.aligns x.1))

  bound_stays : (b : Binding) → fitted_binding target b ≡ b → fitted_binding target (seen_binding m n shown b) ≡ seen_binding m n shown b
  bound_stays b e = grind arith

  commons_stay : AllByRecursion (λ (s : Symbol). fitted_binding target s.binding ≡ s.binding) a.symbols
  commons_stay = all_from (λ (s : Symbol). fitted_binding target s.binding ≡ s.binding) a.symbols (λ i t here.
      let x = symbol_from m n shown is i t here in
      subst (λ (s : Symbol). fitted_binding target s.binding ≡ s.binding) x.4
      (bound_stays x.1.binding (each_at (λ (s : Symbol). fitted_binding target s.binding ≡ s.binding) n.symbols x.0.0 x.1 fits.commons x.3)))

  stored_stays : (s at : ℕ) (q : Reloc) → reloc_at a s at ≡ Some q → is_stored target s q ≡ false
  stored_stays s at q here = by (reloc_at n s at) refl (sym (relocs_same m n shown is n.relocs s at) ∙ here)
    where
      by : (o : Option Reloc) → reloc_at n s at ≡ o → option_map (seen_reloc m n shown) o ≡ Some q → is_stored target s q ≡ false
      by o e h = grind arith

  pub seen_fitted : IsFitted target (seen_with m n shown)
  seen_fitted = record {
    object = object;
    format = fits.format;
    expressible = expressible_stays;
    few_symbols = (let l = seen_few m n shown is in let f = fits.few_symbols in omega (arith, l, f));
    names = named_stays;
    blanks = blank_stays;
    aligns = align_stays;
    commons = commons_stay;
    stored = stored_stays;
  }
