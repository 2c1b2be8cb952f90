-- The numbers of section headers and symbols fit their widths, in a file of fewer than 2^32 bytes.
use Rattle.std.proofs.Common.{◌≡◌, ℕ, ◌+◌, ◌^◌, ◌<◌, ◌≤◌, ◌⊎◌, inl, inr, Bool, cond, List, Some, refl, sym, subst, arith}
use Rattle.std.specs.Prelude.{slice_get}
use Rattle.oc_base.specs.{declared.format.Word.{Word}, declared.format.Word.TheVariants.{W32, W64}}
use Rattle.oc_linking.specs.{Numbers.{modulus}, declared.terms.Binding.{Binding}, declared.terms.Binding.TheVariants.{Local, Global, Undefined, Common, Weak}}
use Rattle.oc_linking.specs.{declared.terms.Value.{Value}, declared.terms.Visibility.{Visibility}}
use Rattle.oc_linking.specs.declared.terms.Fallback.TheVariants as fallback
use Rattle.oc_linking.specs.declared.terms.Value.TheVariants as value
use Rattle.oc_neutral.specs.{declared.symbol.Symbol.{Symbol}, Invariants.{IsValue, IsBinding, HasOffset}, Objects.{Object}}
use Rattle.oc_neutral.specs.Mach.SectionSymbols.{section_symbol_name}
use Rattle.oc_shows.specs.Manners.{mach_vis}
use Rattle.oc_neutral.specs.Bindings as weak
use Rattle.oc_neutral.proofs.Positions.{there_at}
use Rattle.std.proofs.lemmas.Option.{slice_get_within}
use Rattle.oc_shelf.proofs.WritingLaws.PackedLemmas.{Fit}
use Rattle.oc_macho.specs.{Structures.{nlist_numbers}, declared.nlist.Nlist.{Nlist}}
use Rattle.oc_macho_file.specs.{Lines.{Line, OwnLine, LocalLine, OuterLine, lines_of}, Layout.{line_names, offset_in}}
use Rattle.oc_macho_file.specs.Symbols.{ValueFields, value_fields_at, value_fields_elsewhere, value_fields_by, value_fields_for, value_fields_of, external_flag, private_flag, desc_by, symbol_entry, own_entry, line_entry}
use Rattle.oc_macho_file.proofs.{CodedLaws.{IsForMach, IsPlaced, symbol_is, fallback_is, exponent_low, word_is}, LineLaws.{IsLine, line_at}}
use Rattle.oc_macho_file.proofs.{NameLaws.{needed_low}, AddressLaws.{memory_low, address_low}}

modulus_high : (w : Word) → 2 ^ 32 ≤ modulus w
modulus_high w = grind arith

private_low : (v : Visibility) → private_flag v ≤ 16
private_low v = grind arith

external_low : (b : Binding) → external_flag b ≤ 1
external_low b = grind arith

module _ (w : Word) (n : Object) (is : IsForMach w n) (names : (name : List ℕ) → offset_in (line_names w n) name < 2 ^ 32) where
  -- where a symbol stands
  record IsLow (at : ValueFields) : Type 0 where
    type : at.type ≤ 14
    sect : at.n_sect ≤ 255
    small : at.n_value < modulus w

  place_low : (k offset : ℕ) → HasOffset n.sections k offset → IsLow (value_fields_at n k offset)
  place_low k offset there =
      let low = slice_get_within n.sections k there.0 there.1 in
      let few = is.meets.few in
      let at = address_low w n is k there.0 there.1 in
      let end = memory_low w n is in
      let le = there.2 in
      let high = modulus_high w in
      record { type = omega arith; sect = omega (arith, low, few); small = omega (arith, at, end, le, high) }

  elsewhere_low : (x : ℕ) → x < modulus w → IsLow (value_fields_elsewhere x)
  elsewhere_low x low = record { type = omega arith; sect = omega arith; small = low }

  value_low : (v : Value) → IsValue n v → IsLow (value_fields_by n v)
  value_low (value.Place k offset) there = place_low k offset there
  value_low (value.Absolute x) small = record { type = omega arith; sect = omega arith; small = subst (λ v. x < modulus v) (word_is w n is) small }

  none_low : 0 < modulus w
  none_low = let high = modulus_high w in omega (arith, high)

  binding_low : (k : ℕ) (s : Symbol) → slice_get n.symbols k ≡ Some s → (b : Binding) → s.binding ≡ b → IsBinding n b → IsLow (value_fields_of n b)
  binding_low k s here (Local v) own there = value_low v there
  binding_low k s here (Global v) own there = value_low v there
  binding_low k s here Undefined own there = elsewhere_low 0 none_low
  binding_low k s here (Common size align) own there = elsewhere_low size (subst (λ v. size < modulus v) (word_is w n is) there.0)
  binding_low k s here (Weak f) own there = by (fallback_is w n is k s here f own)
    where
      by : (f ≡ fallback.Zero) ⊎ IsPlaced w n f → IsLow (value_fields_for n f)
      by (inl e) = subst (λ g. IsLow (value_fields_for n g)) (sym e) (elsewhere_low 0 none_low)
      by (inr p) = subst IsLow (sym p.stood) (place_low p.place.0 p.place.1 p.there)

  desc_low : (k : ℕ) (s : Symbol) → slice_get n.symbols k ≡ Some s → (b : Binding) → s.binding ≡ b → desc_by b < 2 ^ 16
  desc_low k s here (Local v) own = omega arith
  desc_low k s here (Global v) own = omega arith
  desc_low k s here Undefined own = omega arith
  desc_low k s here (Common size align) own = let l = exponent_low align ((is.meets.symbols k s here).common size align own).1 in omega (arith, l)
  desc_low k s here (Weak f) own = by (weak.is_zero f)
    where
      by : (b : Bool) → cond b 64 128 < 2 ^ 16
      by b = grind arith

  entry_fits : (y : Nlist) → y.n_strx < 2 ^ 32 → y.n_type < 256 → y.n_sect < 256 → y.n_desc < 2 ^ 16 → y.n_value < modulus w → Fit (nlist_numbers w y)
  entry_fits y a b c d e = by w e
    where
      by : (v : Word) → y.n_value < modulus v → Fit (nlist_numbers v y)
      by W32 e = (omega (arith, a), (omega (arith, b), (omega (arith, c), (omega (arith, d), (omega (arith, e), tt)))))
      by W64 e = (omega (arith, a), (omega (arith, b), (omega (arith, c), (omega (arith, d), (omega (arith, e), tt)))))

  symbol_fits : (k : ℕ) (s : Symbol) → slice_get n.symbols k ≡ Some s → Fit (nlist_numbers w (symbol_entry w n s))
  symbol_fits k s here =
      let at = binding_low k s here s.binding refl (symbol_is w n is k s here).binding in
      let type = at.type in
      let sect = at.sect in
      let flag = external_low s.binding in
      let private = private_low (mach_vis s.binding s.vis) in
      entry_fits (symbol_entry w n s) (names s.name) (omega (arith, type, flag, private)) (omega (arith, sect)) (desc_low k s here s.binding refl) at.small

  pub lines_fit : (k : ℕ) (line : Line) → slice_get (lines_of w n) k ≡ Some line → Fit (nlist_numbers w (line_entry w n line))
  unfolding line_entry
  lines_fit k line here = by line (line_at w n k line here)
    where
      by : (line : Line) → IsLine w n line → Fit (nlist_numbers w (line_entry w n line))
      by (OwnLine j) own =
          let s = there_at n.sections j (needed_low n own.1 j own.2) in
          let low = needed_low n own.1 j own.2 in
          let few = is.meets.few in
          let at = address_low w n is j s.0 s.1 in
          let end = memory_low w n is in
          let high = modulus_high w in
          entry_fits (own_entry w n j) (names (section_symbol_name (j + 1))) (omega arith) (omega (arith, low, few)) (omega arith) (omega (arith, at, end, high))
      by (LocalLine j s) own = symbol_fits j s own.0
      by (OuterLine j s) own = symbol_fits j s own.0
