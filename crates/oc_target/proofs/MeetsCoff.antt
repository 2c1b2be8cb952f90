-- Every object that is ready for COFF meets what its writer uses.
use Rattle.std.proofs.Common.{◌≡◌, ℕ, ◌+◌, ◌^◌, ◌<◌, ◌≤◌, true, false, cond, ◌&&◌, ◌||◌, List, length, Some, None, refl, sym, ◌∙◌, ap, subst, arith}
use Rattle.std.specs.{Prelude.{map, slice_get, nat_eq, nat_lt, not}, Option.{option_map, option_map_or}}
use Rattle.std.proofs.lemmas.Bool.{and_parts, ltb-true, or_parts, not-false}
use Rattle.oc_base.specs.{declared.format.Format.{Format}, declared.format.Format.TheVariants.{Coff32, Coff64, Mac64, BigCoff32, BigCoff64}, Formats.{word_for}}
use Rattle.oc_linking.specs.{declared.terms.Kind.{Kind}, declared.terms.Hint.TheVariants.{Plain}, declared.terms.Value.TheVariants.{Absolute}}
use Rattle.oc_linking.specs.{declared.terms.Binding.TheVariants.{Global, Common}, Numbers.{modulus}}
use Rattle.oc_linking.proofs.Testing.{not_below}
use Rattle.oc_neutral.specs.{Tests.{is_cut, is_unnatural}, Family.{IsCoff, Family}, Powers.{natural_align}, declared.coff.TheConstants.{MOST_NAME_OFFSET}}
use Rattle.oc_neutral.specs.{declared.section.Section.{Section}, declared.symbol.Symbol.{Symbol}, declared.reloc.Reloc.{Reloc}, Alignments.{common_align}}
use Rattle.oc_neutral.specs.{Coff.Strings.{is_tabled, string_offset}, Families.{family_of, container_of, section_range}, Relocated.{is_relocated}}
use Rattle.oc_neutral.specs.{Coff.Family.{coff_family, is_far}, HomeNames.{is_home, output_names}, Invariants.{IsAlign, IsSymbol, IsBinding}}
use Rattle.oc_neutral.specs.{KeySymbols.{has_key_symbol}, Objects.{Object, reloc_at}, RelocTables.{rows_of, row_of}}
use Rattle.oc_neutral.specs.{Rows.{Row, TakesSection, same_taken, shift_of}, Shifts.{field_shift, written_shift}, Spelling.{written_row}}
use Rattle.oc_neutral.specs.{TargetSections.{section_conditions}, TargetSymbols.{is_absolute_form, is_common_form, symbol_conditions}}
use Rattle.oc_target.specs.{CoffMeets.{offset_of, CoffSection, IsNaturalCommon, CoffSymbol, CoffReloc, FittedMeetsCoff}, Fitted.{fitted_binding, IsFitted}}
use Rattle.oc_target.specs.Meets.{has_calls, MeetsReloc}
use Rattle.oc_neutral.proofs.{Formats.{of_coff, most_sections}, Positions.{each_at}}
use Rattle.oc_target.proofs.{MeetsConditions.{section_count_met, section_met, symbol_met}, MeetsCounts.{bounded_object}, MeetsGroups.{group_member}}
use Rattle.oc_target.proofs.{MeetsKinds.{IsCoffTag, coff_named}, MeetsParts.{positive, power, uncut, led, taken_alike, plain_shift}, MeetsRelocs.{reloc_meets}}
use Rattle.oc_target.proofs.{MeetsRows.{of_table}, MeetsStrings.{section_given, symbol_given, default_given}, MeetsStringSum.{strings_fit}}

-- the family of such a format
coff_whole : (format : Format) → container_of format ≡ IsCoff → family_of format ≡ coff_family (family_of format).word
coff_whole = of_coff (λ format. family_of format ≡ coff_family (family_of format).word) refl refl refl refl

-- the homes of kinds are the same in both formats
same_home : (format : Format) → container_of format ≡ IsCoff → (k : ℕ) (kind : Kind) (name : List ℕ) (tag : ℕ) → is_home format k kind name tag ≡ is_home Coff32 k kind name tag
unfolding is_home
same_home = of_coff (λ format. (k : ℕ) (kind : Kind) (name : List ℕ) (tag : ℕ) → is_home format k kind name tag ≡ is_home Coff32 k kind name tag)
    (λ k kind name tag. refl) (λ k kind name tag. refl) (λ k kind name tag. refl) (λ k kind name tag. refl)

-- what is known of a row of a COFF table
record IsCoffRow (format : Format) (row : Row) : Type 0 where
  found : row_of format row.number ≡ Some row
  number : (nat_lt 0 row.number && nat_lt row.number (2 ^ 16)) ≡ true
  single : row.second ≡ None
  no_section : same_taken row.taken TakesSection ≡ false

-- of each row, where two lists of answers are the same
coff_row_of : (format : Format) (k : ℕ) (row : Row) → slice_get (rows_of format) k ≡ Some row
    → map (λ r. row_of format r.number) (rows_of format) ≡ map Some (rows_of format)
    → map (λ r. nat_lt 0 r.number && nat_lt r.number (2 ^ 16)) (rows_of format) ≡ map (λ r. true) (rows_of format)
    → map (λ r. r.second) (rows_of format) ≡ map (λ r. None) (rows_of format)
    → map (λ r. same_taken r.taken TakesSection) (rows_of format) ≡ map (λ r. false) (rows_of format)
    → IsCoffRow format row
coff_row_of format k row here found number single no_section = record {
  found = of_table (λ r. row_of format r.number) Some (rows_of format) k row found here;
  number = of_table (λ r. nat_lt 0 r.number && nat_lt r.number (2 ^ 16)) (λ r. true) (rows_of format) k row number here;
  single = of_table (λ r. r.second) (λ r. None) (rows_of format) k row single here;
  no_section = of_table (λ r. same_taken r.taken TakesSection) (λ r. false) (rows_of format) k row no_section here;
}

coff_row : (format : Format) → container_of format ≡ IsCoff → (k : ℕ) (row : Row) → slice_get (rows_of format) k ≡ Some row → IsCoffRow format row
coff_row = of_coff (λ format. (k : ℕ) (row : Row) → slice_get (rows_of format) k ≡ Some row → IsCoffRow format row)
    (λ k row here. coff_row_of Coff32 k row here refl refl refl refl) (λ k row here. coff_row_of Coff64 k row here refl refl refl refl)
    (λ k row here. coff_row_of BigCoff32 k row here refl refl refl refl) (λ k row here. coff_row_of BigCoff64 k row here refl refl refl refl)

-- or_parts format has types for calls
no_calls : (format : Format) → container_of format ≡ IsCoff → has_calls format ≡ false
no_calls = of_coff (λ format. has_calls format ≡ false) refl refl refl refl

-- the shift is that of the row
coff_shift : (format : Format) → container_of format ≡ IsCoff → (at : ℕ) (r : Reloc) → field_shift format at r ≡ option_map (written_shift at r.form.less) (written_row format r.form r.hint)
unfolding field_shift
coff_shift = of_coff (λ format. (at : ℕ) (r : Reloc) → field_shift format at r ≡ option_map (written_shift at r.form.less) (written_row format r.form r.hint))
    (λ at r. refl) (λ at r. refl) (λ at r. refl) (λ at r. refl)

-- an absolute value that COFF can write
short_absolute : (format : Format) → container_of format ≡ IsCoff → (x : ℕ) → x < modulus (word_for format) → is_absolute_form format (Global (Absolute x)) ≡ false → x < 2 ^ 32
short_absolute = of_coff (λ format. (x : ℕ) → x < modulus (word_for format) → is_absolute_form format (Global (Absolute x)) ≡ false → x < 2 ^ 32)
    (λ x low form. low) (λ x low form. ltb-true x (2 ^ 32) (not-false (nat_lt x (2 ^ 32)) form))
    (λ x low form. low) (λ x low form. ltb-true x (2 ^ 32) (not-false (nat_lt x (2 ^ 32)) form))

-- commons that are equal have equal alignments
pub align_same : (size a b : ℕ) → Common size a ≡ Common size b → a ≡ b
align_same size a b e = cc

-- a common that is natural
pub natural : (size align : ℕ) → is_unnatural size align ≡ false → natural_align size ≡ align → IsNaturalCommon size align
natural size align e own =
    let parts = or_parts (nat_eq size 0 || nat_lt 0xFFFFFFFF size) (nat_lt (natural_align size) align) e in
    let both = or_parts (nat_eq size 0) (nat_lt 0xFFFFFFFF size) parts.0 in
    let small = not_below 0xFFFFFFFF size both.1 in
    record { some = positive size both.0; small = omega (arith, small); natural = sym own }

-- what a common becomes in a format
pub fitted_common : (format : Format) (size align : ℕ) → Common size ((family_of format).common_align size align) ≡ fitted_binding format (Common size align)
unfolding common_align
fitted_common format size align = refl

module _ (format : Format) (n : Object) (family : container_of format ≡ IsCoff) (fits : IsFitted format n) where
  whole : family_of format ≡ coff_family (family_of format).word
  whole = coff_whole format family

  few : length n.sections ≤ (section_range format).most
  few =
      not_below (section_range format).most (length n.sections)
      (subst (λ (f : Family). nat_lt (section_range format).most (f.sections (is_relocated format n) n) ≡ false) whole (section_count_met format n fits).1.0)

  -- no format is for more sections
  fewest : length n.sections ≤ 4194304
  fewest = let low = most_sections format in let l = few in omega (arith, low, l)

  section : (k : ℕ) (s : Section) → slice_get n.sections k ≡ Some s → CoffSection format n s
  unfolding section_conditions
  section k s here =
      let met = section_met format n fits k s here in
      let named : (is_home Coff32 (k + 1) s.kind s.name s.tag || (coff_family (family_of format).word).gives s.kind s.name s.tag) ≡ true
      = sym (ap (λ b. b || (coff_family (family_of format).word).gives s.kind s.name s.tag) (same_home format family (k + 1) s.kind s.name s.tag))
      ∙ ap (λ f. is_home format (k + 1) s.kind s.name s.tag || f.gives s.kind s.name s.tag) (sym whole) ∙ fits.names k s here in
      let tag : IsCoffTag s.kind s.name s.tag = coff_named (k + 1) s.kind s.name s.tag named in
      let low : nat_lt (coff_family (family_of format).word).most_align s.align ≡ false = subst (λ (f : Family). nat_lt f.most_align s.align ≡ false) whole met.1.1.1.0 in
      let lacks : (coff_family (family_of format).word).lacks_name (output_names format n) n s.name s ≡ false
      = subst (λ (f : Family). f.lacks_name (output_names format n) n s.name s ≡ false) whole met.1.1.1.1.0 in
      let name = or_parts (is_cut n s.name s) (is_tabled s.name && is_far (offset_of format n s.name))
      (subst (λ (f : Family). (is_cut n s.name s || (is_tabled s.name && is_far (string_offset f.writes_local (output_names format n) n s.name))) ≡ false) (sym whole) lacks) in
      record {
        uncut = uncut n s name.0;
        given = section_given format n fits.format k s here;
        near = λ tabled. not_below MOST_NAME_OFFSET (offset_of format n s.name) (sym (ap (λ b. b && is_far (offset_of format n s.name)) tabled) ∙ name.1);
        led = λ g e.
            let member : not (has_key_symbol n g) ≡ false
            = subst (λ (f : Family). f.lacks_member n g ≡ false) whole (ap (λ o. option_map_or ((family_of format).lacks_member n) o false) (sym e) ∙ met.1.1.1.1.1.0) in
            led n g (not-false (has_key_symbol n g) member);
        align = power 13 s.align (omega arith) (each_at (λ (x : Section). IsAlign x.align) n.sections k s fits.object.complete.aligns here) (not_below (2 ^ 13) s.align low);
        small = tag.small;
        tag = tag.own;
        read = tag.read;
        carried = tag.carried;
        kind = tag.kind_read;
        zero = tag.zeros;
      }

  symbol : (k : ℕ) (s : Symbol) → slice_get n.symbols k ≡ Some s → CoffSymbol format n s
  unfolding symbol_conditions
  symbol k s here =
      let met = symbol_met format n fits k s here in
      let own : IsSymbol n s = each_at (IsSymbol n) n.symbols k s fits.object.complete.symbols here in
      record {
        name = subst (λ (f : Family). f.lacks_symbol s ≡ false) whole met.0;
        given = symbol_given format n fits.format k s here;
        default = λ f weak has. default_given format n fits.format k s f here weak has;
        absolute = λ x e.
            let bound : IsBinding n (Global (Absolute x)) = subst (IsBinding n) e own.binding in
            short_absolute format family x (subst (λ f. x < modulus (word_for f)) fits.format bound) (ap (is_absolute_form format) (sym e) ∙ met.1.0);
        common = λ size align e.
            let form : (family_of format).lacks_common size align ≡ false = ap (is_common_form format) (sym e) ∙ met.1.1.0 in
            let fitted : Common size ((family_of format).common_align size align) ≡ Common size align
            = fitted_common format size align ∙ ap (fitted_binding format) (sym e) ∙ each_at (λ (x : Symbol). fitted_binding format x.binding ≡ x.binding) n.symbols k s fits.commons here ∙ e in
            natural size align (subst (λ (f : Family). f.lacks_common size align ≡ false) whole form)
            (align_same size (natural_align size) align (subst (λ (f : Family). Common size (f.common_align size align) ≡ Common size align) whole fitted));
      }

  reloc : (s at : ℕ) (r : Reloc) → reloc_at n s at ≡ Some r → CoffReloc format n s at r
  reloc s at r here =
      let m : MeetsReloc format n s at r = reloc_meets format n fits s at r here in
      let row : IsCoffRow format m.row = coff_row format family m.is.position m.row m.is.there in
      let number = and_parts _ _ row.number in
      record {
        meets = m;
        found = row.found;
        number = (ltb-true 0 m.row.number number.0, ltb-true m.row.number (2 ^ 16) number.1);
        single = row.single;
        taken = taken_alike format r.form.less m.row.taken other m.is.taken;
        hint = m.is.hint ∙ ap (λ b. cond b r.hint Plain) (no_calls format family);
        holds =
            m.holds (shift_of m.row)
            (coff_shift format family at r ∙ ap (option_map (written_shift at r.form.less)) m.is.written ∙ ap Some (plain_shift at r.form.less m.row row.no_section));
      }
    where
      other : format ≡ Mac64 → ⊥
      other is = absurd (let e : container_of Mac64 ≡ IsCoff = subst (λ f. container_of f ≡ IsCoff) is family in cc)

pub meets_coff : FittedMeetsCoff
meets_coff format n family fits = record {
  bounds = bounded_object format n fits;
  few = few format n family fits;
  strings =
      let bounds = bounded_object format n fits in
      strings_fit format n fits.format (fewest format n family fits) bounds.symbols bounds.texts;
  groups = λ g low.
      let m = group_member n fits.object g low in
      (section format n family fits m.position m.section m.there).led g m.member;
  sections = section format n family fits;
  symbols = symbol format n family fits;
  relocs = reloc format n family fits;
}
