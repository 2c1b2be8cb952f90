-- What Mach-O can say of an object that is ready for it.
use Rattle.std.proofs.Common.{◌≡◌, ℕ, zero, suc, ◌+◌, ◌*◌, ◌^◌, ◌<◌, ◌≤◌, ◌⊎◌, inl, inr, Bool, true, false, cond, eqb, List, [], ◌∷◌, length, Option, Some, None, refl, sym, ◌∙◌, ap, subst, arith}
use Rattle.std.specs.{Prelude.{◌≢◌, slice_get}, Option.{option_map_or, option_and_then, unwrap_or}}
use Rattle.std.proofs.lemmas.{Bool.{true≢false, eqb-true, eq-eqb}, Option.{none-some}}
use Rattle.oc_base.specs.{declared.format.Word.{Word}, Formats.{word_for}}
use Rattle.oc_linking.specs.{declared.terms.Kind.TheVariants.{Zero}, declared.terms.Fallback.{Fallback}, declared.terms.Binding.TheVariants.{Weak}}
use Rattle.oc_linking.specs.Numbers.{first_from}
use Rattle.oc_linking.specs.declared.terms.Fallback.TheVariants as fallback
use Rattle.oc_neutral.specs.{declared.section.Section.{Section}, declared.symbol.Symbol.{Symbol}, Building.{is_zero, stored_size}, Families.{container_of}}
use Rattle.oc_neutral.specs.{Family.{IsMach}, Invariants.{IsObject, IsSymbol, IsBinding, HasOffset, HasItsBytes}, KeySymbols.{global_place}}
use Rattle.oc_neutral.specs.{Mach.Kinds.{mach_kind, segment_of, section_of, is_zerofill_tag}, Normal.{Place}, Objects.{Object}}
use Rattle.oc_neutral.specs.Bindings as weak
use Rattle.oc_target.specs.{Fitted.{IsFitted}, MachMeets.{MeetsMach, MachSection}, Meets.{IsPower}}
use Rattle.oc_shows.specs.{Manners.{mach_manner}, Seen.{place_at, new_position, seen_fallback}}
use Rattle.oc_target.proofs.{MeetsMach.{meets_mach}, MeetsMachKinds.{mach_zero}, MeetsParts.{zero_kind}}
use Rattle.oc_neutral.proofs.Positions.{each_at}
use Rattle.oc_macho.specs.MachHeader.{mach_format}
use Rattle.oc_macho_file.specs.{Addresses.{is_blank}, Symbols.{exponent_of, value_fields_at, value_fields_elsewhere, value_fields_for}}
use Rattle.oc_shows.proofs.FoundLaws.{place_of_global}

-- an object that is ready for Mach-O, and what it meets
pub record IsForMach (w : Word) (n : Object) : Type 0 where
  pub object : IsObject n
  pub format : n.format ≡ mach_format w
  pub meets : MeetsMach (mach_format w) n

pub for_mach : (w : Word) (n : Object) → IsFitted (mach_format w) n → IsForMach w n
for_mach w n fits = record { object = fits.object; format = fits.format; meets = meets_mach (mach_format w) n (family w) fits }
  where
    family : (w : Word) → container_of (mach_format w) ≡ IsMach
    family w = grind arith

pub word_back : (w : Word) → word_for (mach_format w) ≡ w
word_back w = grind arith

-- a fallback that is written as a place
pub record IsPlaced (w : Word) (n : Object) (f : Fallback) : Type 0 where
  pub place : Place
  pub there : HasOffset n.sections place.0 place.1
  pub stood : value_fields_for n f ≡ value_fields_at n place.0 place.1
  pub seen : (shown : List (ℕ × ℕ)) → seen_fallback (mach_manner w) n shown f ≡ fallback.Place place.0 place.1
  pub strong : weak.is_zero f ≡ false

-- ... powers of two

pub power_some : (e : ℕ) → 1 ≤ 2 ^ e
power_some zero = omega arith
power_some (suc e) = let rest = power_some e in grind arith

pub power_rises : (e f : ℕ) → e ≤ f → 2 ^ e ≤ 2 ^ f
power_rises zero f le = power_some f
power_rises (suc e) zero le = absurd (omega (arith, le))
power_rises (suc e) (suc f) le = let rest = power_rises e f (omega (arith, le)) in grind arith

pub power_low : (align : ℕ) → IsPower 15 align → align ≤ 2 ^ 15
power_low align p = let l = power_rises p.exponent 15 p.low in let e = p.is in omega (arith, e, l)

pub align_some : (align : ℕ) → IsPower 15 align → 1 ≤ align
align_some align p = let l = power_some p.exponent in let e = p.is in omega (arith, e, l)

-- one power is another only where their exponents are one
power_doubles : (e : ℕ) → 2 ^ suc e ≡ 2 * 2 ^ e
power_doubles e = grind arith

power_once : (e f : ℕ) → 2 ^ e ≡ 2 ^ f → e ≡ f
power_once zero zero p = refl
power_once zero (suc f) p = let some = power_some f in let two = power_doubles f in absurd (omega (arith, p, some, two))
power_once (suc e) zero p = let some = power_some e in let two = power_doubles e in absurd (omega (arith, p, some, two))
power_once (suc e) (suc f) p = let a = power_doubles e in let b = power_doubles f in ap suc (power_once e f (omega (arith, p, a, b)))

more : (a b : ℕ) → b ≤ a → (a ≡ b → ⊥) → b + 1 ≤ a
more zero zero l differ = absurd (differ refl)
more zero (suc b) l differ = absurd (omega (arith, l))
more (suc a) zero l differ = omega arith
more (suc a) (suc b) l differ = let r = more a b (omega (arith, l)) (λ e. differ (ap suc e)) in omega (arith, r)

-- the exponent of a power is found
found_from : (e start count : ℕ) → start ≤ e → e < start + count → first_from (λ k. eqb (2 ^ e) (2 ^ k)) start count ≡ Some e
found_from e start zero le low = absurd (omega (arith, le, low))
found_from e start (suc count) le low = by (eqb (2 ^ e) (2 ^ start)) refl (λ l. found_from e (start + 1) count l (omega (arith, low)))
  where
    by : (b : Bool) → eqb (2 ^ e) (2 ^ start) ≡ b → (start + 1 ≤ e → first_from (λ k. eqb (2 ^ e) (2 ^ k)) (start + 1) count ≡ Some e)
        → cond b (Some start) (first_from (λ k. eqb (2 ^ e) (2 ^ k)) (start + 1) count) ≡ Some e
    by true h rest = ap (λ k. Some k) (sym (power_once e start (eqb-true (2 ^ e) (2 ^ start) h)))
    by false h rest = rest (more e start le (λ same. true≢false (sym (eq-eqb (2 ^ e) (2 ^ start) (ap (λ k. 2 ^ k) same)) ∙ h)))

pub exponent_is : (align : ℕ) (p : IsPower 15 align) → exponent_of align ≡ p.exponent
unfolding exponent_of
exponent_is align p =
    let low = p.low in
    ap (λ a. unwrap_or (first_from (λ k. eqb a (2 ^ k)) 0 16) 0) p.is
    ∙ ap (λ o. unwrap_or o 0) (found_from p.exponent 0 16 (omega arith) (omega (arith, low)))

pub power_back : (align : ℕ) → IsPower 15 align → 2 ^ exponent_of align ≡ align
power_back align p = ap (λ e. 2 ^ e) (exponent_is align p) ∙ sym p.is

pub exponent_low : (align : ℕ) → IsPower 15 align → exponent_of align ≤ 15
exponent_low align p = let e = exponent_is align p in let l = p.low in omega (arith, e, l)

-- ... kinds

module _ (w : Word) (n : Object) (is : IsForMach w n) where
  pub word_is : word_for n.format ≡ w
  word_is = ap word_for is.format ∙ word_back w

  pub meets_section : (k : ℕ) (s : Section) → slice_get n.sections k ≡ Some s → MachSection s
  meets_section k s here = is.meets.sections k s here

  pub size_low : (k : ℕ) (s : Section) → slice_get n.sections k ≡ Some s → s.size ≤ 2147483647
  size_low k s here = each_at (λ (y : Section). y.size ≤ 2147483647) n.sections k s is.object.built.limits.each here

  pub has_bytes : (k : ℕ) (s : Section) → slice_get n.sections k ≡ Some s → length s.bytes ≡ stored_size s
  has_bytes k s here = each_at HasItsBytes n.sections k s is.object.built.bytes here

  -- a section of kind Zero has the type ZEROFILL
  pub blank_type : (k : ℕ) (s : Section) → slice_get n.sections k ≡ Some s → is_zero s.kind ≡ true → is_zerofill_tag s.tag ≡ true
  blank_type k s here zeros =
      let m = meets_section k s here in
      let own : s.kind ≡ Zero = zero_kind s.kind zeros in
      mach_zero (segment_of s.name) (section_of s.name) s.tag (zero_kind (mach_kind (segment_of s.name) (section_of s.name) s.tag) (m.kind.zero ∙ zeros))

  -- so one of another type has all its bytes in the file
  pub stored_all : (k : ℕ) (s : Section) → slice_get n.sections k ≡ Some s → is_zerofill_tag s.tag ≡ false → (is_blank (k, s) ≡ false) × (length s.bytes ≡ s.size)
  stored_all k s here other = (by (is_zero s.kind) refl, (meets_section k s here).stored other)
    where
      by : (b : Bool) → is_zero s.kind ≡ b → is_zero s.kind ≡ false
      by true e = absurd (true≢false (sym (blank_type k s here e) ∙ other))
      by false e = e

  pub symbol_is : (k : ℕ) (s : Symbol) → slice_get n.symbols k ≡ Some s → IsSymbol n s
  symbol_is k s here = each_at (IsSymbol n) n.symbols k s is.object.complete.symbols here

  pub named : (k : ℕ) (s : Symbol) → slice_get n.symbols k ≡ Some s → 1 ≤ length s.name
  named k s here = by s.name (symbol_is k s here).named
    where
      by : (name : List ℕ) → name ≢ [] → 1 ≤ length name
      by [] some = absurd (some refl)
      by (c ∷ name) some = omega arith

  pub placed_there : (j : ℕ) (place : Place) → place_at n j ≡ Some place → HasOffset n.sections place.0 place.1
  placed_there j place e = by (slice_get n.symbols j) refl e
    where
      by : (o : Option Symbol) → slice_get n.symbols j ≡ o → option_and_then (λ (s : Symbol). global_place s.binding) o ≡ Some place → HasOffset n.sections place.0 place.1
      by None h e = absurd (none-some place e)
      by (Some s) h e = place_of_global n s.binding place e (symbol_is j s h).binding

  -- a fallback is 0, or is written as a place
  pub fallback_is : (k : ℕ) (s : Symbol) → slice_get n.symbols k ≡ Some s → (f : Fallback) → s.binding ≡ Weak f → (f ≡ fallback.Zero) ⊎ IsPlaced w n f
  fallback_is k s here (fallback.Place j offset) e =
      inr (record { place = (j, offset); there = subst (IsBinding n) e (symbol_is k s here).binding; stood = refl; seen = λ shown. refl; strong = refl })
  fallback_is k s here fallback.Zero e = inl refl
  fallback_is k s here (fallback.Name j) e =
      let t = (is.meets.symbols k s here).steady j e in
      let at : place_at n j ≡ Some t.place = ap (option_and_then (λ (s : Symbol). global_place s.binding)) t.there ∙ t.placed in
      inr (record {
        place = t.place;
        there = place_of_global n t.symbol.binding t.place t.placed (symbol_is j t.symbol t.there).binding;
        stood = ap (λ o. option_map_or (λ (place : Place). value_fields_at n place.0 place.1) o (value_fields_elsewhere 0)) at;
        seen = λ shown. ap (λ o. option_map_or (λ (place : Place). fallback.Place place.0 place.1) o (fallback.Name (new_position shown j))) at;
        strong = refl;
      })
