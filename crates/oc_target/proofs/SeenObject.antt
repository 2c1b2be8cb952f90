-- What is seen of an object is an object.
use Rattle.std.proofs.Common.{◌≡◌, ℕ, zero, suc, ◌+◌, ◌^◌, ◌<◌, ◌≤◌, Bool, true, false, cond, List, [], ◌∷◌, length, map, Option, Some, None, refl, sym, ◌∙◌, ap, subst, inl, inr, arith}
use Rattle.std.specs.{Prelude.{slice_get, filter_map}, List.{AllByRecursion, enumerate_from, cons_option}, Option.{option_map, option_map_or, option_and_then}}
use Rattle.std.proofs.lemmas.{Bool.{cases_lt, true≢false}, List.{length-map}, List.Sums.{sum_by-cons}, Option.{none-some, same_Some, slice_get_within}}
use Rattle.oc_base.specs.Formats.{word_for}
use Rattle.oc_linking.specs.{declared.terms.Hint.{Hint}, declared.terms.Hint.TheVariants.{Call}, declared.terms.Fallback.{Fallback}}
use Rattle.oc_linking.specs.{declared.terms.Value.{Value}, declared.terms.Binding.{Binding}}
use Rattle.oc_linking.specs.{declared.terms.Binding.TheVariants.{Local, Global, Undefined, Common, Weak}, Numbers.{modulus}, Parts.{is_local}}
use Rattle.oc_linking.specs.declared.terms.Fallback.TheVariants as fallback
use Rattle.oc_linking.specs.declared.terms.Value.TheVariants as value
use Rattle.oc_chains.specs.Lists.{list_of}
use Rattle.oc_neutral.specs.{declared.section.Section.{Section}, declared.symbol.Symbol.{Symbol}, declared.reloc.Reloc.{Reloc}, Objects.{Object, reloc_at}}
use Rattle.oc_neutral.specs.{Building.{is_zero, stored_size, size_sum, stored_sum}, Normal.{Place}}
use Rattle.oc_neutral.specs.Invariants.{HasItsBytes, IsSection, IsAlign, IsMember, groups_of, HasOffset, IsValue, IsFallback, IsBinding, is_strong, IsSymbol, AreDistinct, IsHeld, IsBuilt, IsHinted, NamesOriginal, AreBegun, IsComplete, IsObject}
use Rattle.oc_neutral.specs.KeySymbols.{global_place}
use Rattle.oc_neutral.specs.declared.reloc.Target.TheVariants as target
use Rattle.oc_shows.specs.Manners.{Manner}
use Rattle.oc_shows.specs.Seen.{place_at, new_position, seen_with, seen_section, seen_symbol, seen_symbols, seen_binding, seen_fallback, seen_field}
use Rattle.oc_neutral.proofs.{Positions.{each_at}, Mapped.{all_from, held_map}}
use Rattle.oc_shows.proofs.{SeenLines.{IsShown}, SeenAlike.{symbol_from, stands, seen_local}}
use Rattle.oc_target.proofs.SeenRelocs.{sections_long, original, place_there, seen_held, seen_each, seen_named, seen_hinted, seen_apart}

-- a filter makes no list longer
filter_few : {X Y : Type 0} (f : X → Option Y) (xs : List X) → length (filter_map f xs) ≤ length xs
filter_few f [] = omega arith
filter_few f (x ∷ xs) = let le = filter_few f xs in elim (f x) as (λ o. length (cons_option o (filter_map f xs)) ≤ length (x ∷ xs)) [ None ↦ omega (arith, le) | Some y ↦ omega (arith, le) ]

module _ (m : Manner) (n : Object) (shown : List (ℕ × ℕ)) (fine : IsObject n) (is : IsShown n shown)
    (calls : (h : Hint) → m.hint h ≡ Call → h ≡ Call)
    (outer : (s at : ℕ) (r : Reloc) (k : ℕ) → reloc_at n s at ≡ Some r → r.target ≡ target.Symbol k → (y : Symbol) × (slice_get n.symbols k ≡ Some y) × (is_local y.binding ≡ false))
    -- those are Zero that the format gives as Zero
    (kinds : (k : ℕ) (s : Section) → slice_get n.sections k ≡ Some s → is_zero (m.kind s) ≡ is_zero s.kind)
    (sizes : (b : Binding) (size : ℕ) → IsBinding n b → size < modulus (word_for n.format) → m.size b size < modulus (word_for n.format))
    -- numbers are those of files
    (headers : m.first_section n + length n.sections ≤ 2 ^ 32)
    (entries : (i : ℕ) (x : ℕ × ℕ) → slice_get shown i ≡ Some x → x.1 < 2 ^ 32)
    (few : length shown < 2 ^ 31) where
  abbrev seen_again : Object
  seen_again = seen_with m n shown

  -- ... sections

  -- a section that is seen, of the one at its position
  section_of : (i : ℕ) (sections : List Section) (k : ℕ) (y : Section) → slice_get (map (seen_section m n) (enumerate_from i sections)) k ≡ Some y
      → (x : Section) × (slice_get sections k ≡ Some x) × (seen_section m n (i + k, x) ≡ y)
  section_of i [] k y here = absurd (none-some y here)
  section_of i (x ∷ sections) zero y here = (x, refl, (let e : i + 0 ≡ i = omega arith in ap (λ j. seen_section m n (j, x)) e ∙ same_Some (seen_section m n (i, x)) y here))
  section_of i (x ∷ sections) (suc k) y here =
      let z = section_of (i + 1) sections k y here in
      (z.0, z.1, (let e : i + suc k ≡ i + 1 + k = omega arith in ap (λ j. seen_section m n (j, z.0)) e ∙ z.2))

  -- and the one that is seen of a section
  section_at : (i : ℕ) (sections : List Section) (k : ℕ) (x : Section) → slice_get sections k ≡ Some x → slice_get (map (seen_section m n) (enumerate_from i sections)) k ≡ Some (seen_section m n (i + k, x))
  section_at i [] k x here = absurd (none-some x here)
  section_at i (y ∷ sections) zero x here = let e : i ≡ i + 0 = omega arith in ap (λ z. Some (seen_section m n (i, z))) (same_Some y x here) ∙ ap (λ j. Some (seen_section m n (j, x))) e
  section_at i (y ∷ sections) (suc k) x here = let e : i + 1 + k ≡ i + suc k = omega arith in section_at (i + 1) sections k x here ∙ ap (λ j. Some (seen_section m n (j, x))) e

  -- what holds of each that is seen
  each_section : (P : Section → Type 0) → ((k : ℕ) (x : Section) → slice_get n.sections k ≡ Some x → P (seen_section m n (k, x))) → AllByRecursion P seen_again.sections
  each_section P each = all_from P seen_again.sections (λ k y here.
      let x = section_of 0 n.sections k y here in
      let e : k ≡ 0 + k = omega arith in
      subst P (ap (λ j. seen_section m n (j, x.0)) e ∙ x.2) (each k x.0 x.1))

  offset_there : (k offset : ℕ) → HasOffset n.sections k offset → HasOffset seen_again.sections k offset
  offset_there k offset there = (seen_section m n (0 + k, there.0), section_at 0 n.sections k there.0 there.1, there.2)

  stored_same : (k : ℕ) (x : Section) → slice_get n.sections k ≡ Some x → (number : ℕ) → stored_size (seen_section m n (number, x)) ≡ stored_size x
  stored_same k x here number = ap (λ b. cond b 0 x.size) (kinds k x here)

  size_total : (i : ℕ) (sections : List Section) → size_sum (map (seen_section m n) (enumerate_from i sections)) ≡ size_sum sections
  size_total i [] = refl
  size_total i (x ∷ sections) =
      sum_by-cons (λ (s : Section). s.size) (seen_section m n (i, x)) (map (seen_section m n) (enumerate_from (i + 1) sections))
      ∙ ap (λ k. x.size + k) (size_total (i + 1) sections) ∙ sym (sum_by-cons (λ (s : Section). s.size) x sections)

  stored_total : (i : ℕ) (sections : List Section) → ((k : ℕ) (s : Section) → slice_get sections k ≡ Some s → is_zero (m.kind s) ≡ is_zero s.kind)
      → stored_sum (map (seen_section m n) (enumerate_from i sections)) ≡ stored_sum sections
  stored_total i [] same = refl
  stored_total i (x ∷ sections) same =
      sum_by-cons stored_size (seen_section m n (i, x)) (map (seen_section m n) (enumerate_from (i + 1) sections))
      ∙ ap (λ b. cond b 0 x.size + stored_sum (map (seen_section m n) (enumerate_from (i + 1) sections))) (same 0 x refl)
      ∙ ap (λ k. stored_size x + k) (stored_total (i + 1) sections (λ k s here. same (suc k) s here))
      ∙ sym (sum_by-cons stored_size x sections)

  groups_total : (i : ℕ) (sections : List Section) → groups_of (map (seen_section m n) (enumerate_from i sections)) ≡ groups_of sections
  groups_total i [] = refl
  groups_total i (x ∷ sections) = ap (λ gs. x.group ∷ gs) (groups_total (i + 1) sections)

  section_fine : (k : ℕ) (x : Section) → slice_get n.sections k ≡ Some x → IsSection (seen_section m n (k, x))
  section_fine k x here =
      let s = each_at IsSection n.sections k x fine.built.sections here in
      record { name = s.name; bytes = s.bytes; tag = s.tag; number = let l = slice_get_within n.sections k x here in let h = headers in omega (arith, l, h) }

  -- ... symbols

  value_there : (v : Value) → IsValue n v → IsValue seen_again v
  value_there (value.Place k offset) there = offset_there k offset there
  value_there (value.Absolute x) small = small

  strong_outer : (b : Binding) → is_strong b ≡ true → is_local b ≡ false
  strong_outer b e = grind arith

  strong_same : (b : Binding) → is_strong (seen_binding m n shown b) ≡ is_strong b
  strong_same b = grind arith

  -- a Name stays one, of a symbol at its new position, or is a place
  name_there : (k : ℕ) → IsFallback n (fallback.Name k) → IsFallback seen_again (fallback.Name (new_position shown k))
  name_there k there =
      let t = stands m n shown is k there.0 there.1 (strong_outer there.0.binding there.2) in
      let x : Symbol = seen_symbol m n shown t.0 there.0 in
      (x, t.1, strong_same there.0.binding ∙ there.2, original m n shown fine is calls outer (new_position shown k) x t.1)

  place_or_name : (k : ℕ) → IsFallback n (fallback.Name k) → (o : Option Place) → ((place : Place) → o ≡ Some place → place_at n k ≡ Some place)
      → IsFallback seen_again (option_map_or (λ (place : Place). fallback.Place place.0 place.1) o (fallback.Name (new_position shown k)))
  place_or_name k there None from = name_there k there
  place_or_name k there (Some place) from =
      offset_there place.0 place.1 (place_there m n shown fine is calls outer k there.0 place there.1 (sym (ap (option_and_then (λ (x : Symbol). global_place x.binding)) there.1) ∙ from place refl))

  from_where : (k : ℕ) (b : Bool) (place : Place) → cond b (place_at n k) None ≡ Some place → place_at n k ≡ Some place
  from_where k true place e = e
  from_where k false place e = absurd (none-some place e)

  fallback_there : (f : Fallback) → IsFallback n f → IsFallback seen_again (seen_fallback m n shown f)
  fallback_there (fallback.Place k offset) there = offset_there k offset there
  fallback_there fallback.Zero there = tt
  fallback_there (fallback.Name k) there = place_or_name k there (cond m.places (place_at n k) None) (λ place e. from_where k m.places place e)

  binding_there : (b : Binding) → IsBinding n b → IsBinding seen_again (seen_binding m n shown b)
  binding_there (Local v) there = value_there v there
  binding_there (Global v) there = value_there v there
  binding_there Undefined there = tt
  binding_there (Common size align) there = there
  binding_there (Weak f) there = fallback_there f there

  symbol_fine : (i : ℕ) (t : Symbol) → slice_get seen_again.symbols i ≡ Some t → IsSymbol seen_again t
  symbol_fine i t here =
      let x = symbol_from m n shown is i t here in
      let s = each_at (IsSymbol n) n.symbols x.0.0 x.1 fine.complete.symbols x.3 in
      subst (IsSymbol seen_again) x.4 (record {
        named = s.named;
        name = s.name;
        binding = binding_there x.1.binding s.binding;
        size = sizes x.1.binding x.1.size s.binding s.size;
        number = entries i x.0 x.2;
      })

  distinct : AreDistinct seen_again.symbols
  distinct i j t u before here there first second same =
      let x = symbol_from m n shown is i t here in
      let y = symbol_from m n shown is j u there in
      let out : is_local x.1.binding ≡ false = sym (seen_local m n shown is x.1.binding) ∙ ap (λ (z : Symbol). is_local z.binding) x.4 ∙ first in
      let also : is_local y.1.binding ≡ false = sym (seen_local m n shown is y.1.binding) ∙ ap (λ (z : Symbol). is_local z.binding) y.4 ∙ second in
      let names : x.1.name ≡ y.1.name = ap (λ (z : Symbol). z.name) x.4 ∙ same ∙ sym (ap (λ (z : Symbol). z.name) y.4) in
      elim (cases_lt x.0.0 y.0.0) [
        | inl l ↦ fine.built.distinct x.0.0 y.0.0 x.1 y.1 l x.3 y.3 out also names
        | inr ge ↦ elim (cases_lt y.0.0 x.0.0) [
          | inl l ↦ fine.built.distinct y.0.0 x.0.0 y.1 x.1 l y.3 x.3 also out (sym names)
          | inr le ↦ is.once i j x.0 y.0 before x.2 y.2 (omega (arith, ge, le))
        ]
      ]

  symbols_few : length seen_again.symbols < 2 ^ 31
  unfolding seen_symbols
  symbols_few = let le = filter_few (λ (x : ℕ × ℕ). option_map (seen_symbol m n shown x.1) (slice_get n.symbols x.0)) shown in let l = few in omega (arith, le, l)

  -- ... the object

  built : IsBuilt seen_again
  built = record {
    bytes = each_section HasItsBytes (λ k x here. each_at HasItsBytes n.sections k x fine.built.bytes here ∙ sym (stored_same k x here k));
    groups = fine.built.groups;
    sections = each_section IsSection section_fine;
    members = subst (AllByRecursion (IsMember (length n.groups))) (sym (groups_total 0 n.sections)) fine.built.members;
    limits = record {
      each = each_section (λ (s : Section). s.size ≤ 2147483647) (λ k x here. each_at (λ (s : Section). s.size ≤ 2147483647) n.sections k x fine.built.limits.each here);
      sum = let e = size_total 0 n.sections in let l = fine.built.limits.sum in omega (arith, e, l);
      bytes = let e = stored_total 0 n.sections kinds in let l = fine.built.limits.bytes in omega (arith, e, l);
    };
    distinct = distinct;
    fields = record {
      counted = length-map n.relocs (map (seen_field m n shown)) ∙ fine.built.fields.counted ∙ sym (sections_long m n shown fine is calls outer);
      each = λ s y there.
          let x = section_of 0 n.sections s y there in
          subst (λ bytes. AllByRecursion (IsHeld seen_again s bytes) (list_of seen_again.relocs s)) (ap (λ (z : Section). z.bytes) x.2) (seen_held m n shown fine is calls outer s x.0 x.1);
      apart = seen_apart m n shown fine is calls outer;
    };
    few = record {
      groups = fine.built.few.groups;
      sections = let e = sections_long m n shown fine is calls outer in let l = fine.built.few.sections in omega (arith, e, l);
      symbols = symbols_few;
      relocs = let e = held_map (seen_field m n shown) n.relocs in let l = fine.built.few.relocs in omega (arith, e, l);
    };
  }

  complete : IsComplete seen_again
  complete = record {
    keys = fine.complete.keys;
    begun = subst (AreBegun (length n.groups) 0) (sym (groups_total 0 n.sections)) fine.complete.begun;
    aligns = each_section (λ (s : Section). IsAlign s.align) (λ k x here. each_at (λ (s : Section). IsAlign s.align) n.sections k x fine.complete.aligns here);
    symbols = all_from (IsSymbol seen_again) seen_again.symbols symbol_fine;
    hints = seen_each m n shown fine is calls outer IsHinted IsHinted (λ s at r here normal hinted. seen_hinted m n shown fine is calls outer s at r here normal hinted) fine.complete.hints;
    originals = seen_each m n shown fine is calls outer (λ r. NamesOriginal n.symbols r.target) (λ r. NamesOriginal seen_again.symbols r.target)
        (λ s at r here normal named. seen_named m n shown fine is calls outer s at r here normal) fine.complete.originals;
  }

  pub seen_is_object : IsObject (seen_with m n shown)
  seen_is_object = record { built = built; complete = complete }
