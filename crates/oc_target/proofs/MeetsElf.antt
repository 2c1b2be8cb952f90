-- Every object that is ready for ELF meets what its writer uses.
use Rattle.oc_base.specs.{declared.format.Word.TheVariants.{W32}, Formats.{word_for}, declared.format.Format.{Format}}
use Rattle.oc_base.specs.declared.format.Format.TheVariants.{Elf32, Elf64, Mac64, BigElf32, BigElf64}
use Rattle.std.proofs.Common.{◌≡◌, ℕ, ◌+◌, ◌^◌, ◌<◌, ◌≤◌, Bool, true, false, cond, ◌&&◌, ◌||◌, List, [], Some, None, refl, sym, ◌∙◌, ap, subst, arith}
use Rattle.std.specs.{Prelude.{map, slice_get, nat_lt}, Option.{option_map, option_map_or}}
use Rattle.std.proofs.lemmas.{Bool.{true≢false, and_parts, ltb-true}, Option.{none-some}}
use Rattle.oc_linking.specs.{declared.terms.Kind.{Kind}, declared.terms.Kind.TheVariants.{Zero, Exception}, declared.terms.Base.TheVariants.{HomeNumber}}
use Rattle.oc_linking.specs.declared.terms.Hint.TheVariants.{Plain}
use Rattle.oc_linking.specs.declared.terms.Fallback.TheVariants as fallback
use Rattle.oc_linking.proofs.Testing.{not_below}
use Rattle.oc_chains.specs.Lists.{list_of}
use Rattle.oc_neutral.specs.{Family.{IsElf, Family}, declared.section.Section.{Section}, declared.symbol.Symbol.{Symbol}, declared.reloc.Reloc.{Reloc}}
use Rattle.oc_neutral.specs.{Elf.Kinds.{elf_tag_type, is_nobits_tag}, Families.{is_many, family_of, container_of, section_range}, Relocated.{is_relocated}}
use Rattle.oc_neutral.specs.{Elf.Family.{elf_family, header_count, elf_symbol_count}, HomeNames.{is_home, output_names}, Invariants.{HasItsBytes, IsAlign}}
use Rattle.oc_neutral.specs.{Objects.{Object, reloc_among, reloc_at}, RelocTables.{rows_of, row_of}, Rows.{Row, TakesSection, same_taken, same_base, shift_of}}
use Rattle.oc_neutral.specs.{Shifts.{field_shift, written_shift}, Spelling.{written_row}, TargetSections.{section_conditions}}
use Rattle.oc_neutral.specs.TargetSymbols.{bounded, is_weak_form, symbol_conditions}
use Rattle.oc_target.specs.{ElfMeets.{ElfSection, ElfSymbol, ElfReloc, FittedMeetsElf}, Fitted.{IsFitted}, Meets.{has_calls, MeetsReloc}}
use Rattle.oc_shows.specs.Readable.{AreZeros}
use Rattle.oc_neutral.proofs.{Formats.{of_elf}, Positions.{each_at}}
use Rattle.oc_target.proofs.{MeetsConditions.{AreMet, section_count_met, section_met, symbol_met}, MeetsCounts.{symbols_bounded, bounded_object}}
use Rattle.oc_target.proofs.{MeetsGroups.{keys_uncut}, MeetsKinds.{IsElfTag, carried_small, elf_zero, elf_named}}
use Rattle.oc_target.proofs.{MeetsParts.{all_bytes, power, uncut, steady, taken_alike, plain_shift, only_address}, MeetsRelocs.{reloc_meets}}
use Rattle.oc_target.proofs.MeetsRows.{of_table}

-- the family of such a format
elf_whole : (format : Format) → container_of format ≡ IsElf → family_of format ≡ elf_family (is_many format) (family_of format).word
elf_whole = of_elf (λ format. family_of format ≡ elf_family (is_many format) (family_of format).word) refl refl refl refl

-- the homes of kinds are the same in both formats
same_home : (format : Format) → container_of format ≡ IsElf → (k : ℕ) (kind : Kind) (name : List ℕ) (tag : ℕ) → is_home format k kind name tag ≡ is_home Elf32 k kind name tag
unfolding is_home
same_home = of_elf (λ format. (k : ℕ) (kind : Kind) (name : List ℕ) (tag : ℕ) → is_home format k kind name tag ≡ is_home Elf32 k kind name tag)
    (λ k kind name tag. refl) (λ k kind name tag. refl) (λ k kind name tag. refl) (λ k kind name tag. refl)

-- what is known of a row of an ELF table
record IsElfRow (format : Format) (row : Row) : Type 0 where
  found : row_of format row.number ≡ Some row
  number : (nat_lt 0 row.number && nat_lt row.number (2 ^ 8)) ≡ true
  single : row.second ≡ None
  behind : row.behind ≡ 0
  no_section : same_taken row.taken TakesSection ≡ false
  no_home : same_base row.base HomeNumber ≡ false

-- of each row, where two lists of answers are the same
elf_row_of : (format : Format) (k : ℕ) (row : Row) → slice_get (rows_of format) k ≡ Some row
    → map (λ r. row_of format r.number) (rows_of format) ≡ map Some (rows_of format)
    → map (λ r. nat_lt 0 r.number && nat_lt r.number (2 ^ 8)) (rows_of format) ≡ map (λ r. true) (rows_of format)
    → map (λ r. r.second) (rows_of format) ≡ map (λ r. None) (rows_of format)
    → map (λ r. r.behind) (rows_of format) ≡ map (λ r. 0) (rows_of format)
    → map (λ r. same_taken r.taken TakesSection) (rows_of format) ≡ map (λ r. false) (rows_of format)
    → map (λ r. same_base r.base HomeNumber) (rows_of format) ≡ map (λ r. false) (rows_of format)
    → IsElfRow format row
elf_row_of format k row here found number single behind no_section no_home = record {
  found = of_table (λ r. row_of format r.number) Some (rows_of format) k row found here;
  number = of_table (λ r. nat_lt 0 r.number && nat_lt r.number (2 ^ 8)) (λ r. true) (rows_of format) k row number here;
  single = of_table (λ r. r.second) (λ r. None) (rows_of format) k row single here;
  behind = of_table (λ r. r.behind) (λ r. 0) (rows_of format) k row behind here;
  no_section = of_table (λ r. same_taken r.taken TakesSection) (λ r. false) (rows_of format) k row no_section here;
  no_home = of_table (λ r. same_base r.base HomeNumber) (λ r. false) (rows_of format) k row no_home here;
}

elf_row : (format : Format) → container_of format ≡ IsElf → (k : ℕ) (row : Row) → slice_get (rows_of format) k ≡ Some row → IsElfRow format row
elf_row = of_elf (λ format. (k : ℕ) (row : Row) → slice_get (rows_of format) k ≡ Some row → IsElfRow format row)
    (λ k row here. elf_row_of Elf32 k row here refl refl refl refl refl refl) (λ k row here. elf_row_of Elf64 k row here refl refl refl refl refl refl)
    (λ k row here. elf_row_of BigElf32 k row here refl refl refl refl refl refl) (λ k row here. elf_row_of BigElf64 k row here refl refl refl refl refl refl)

-- in 32 bits the shift is that of the row
elf_shift : (format : Format) → container_of format ≡ IsElf → word_for format ≡ W32 → (at : ℕ) (r : Reloc) → field_shift format at r ≡ option_map (written_shift at r.form.less) (written_row format r.form r.hint)
unfolding field_shift
elf_shift = of_elf (λ format. word_for format ≡ W32 → (at : ℕ) (r : Reloc) → field_shift format at r ≡ option_map (written_shift at r.form.less) (written_row format r.form r.hint))
    (λ e at r. refl) (λ e. absurd (cc)) (λ e at r. refl) (λ e. absurd (cc))

-- all formats of ELF have types for calls
calls : (format : Format) → container_of format ≡ IsElf → has_calls format ≡ true
calls = of_elf (λ format. has_calls format ≡ true) refl refl refl refl

module _ (format : Format) (n : Object) (family : container_of format ≡ IsElf) (fits : IsFitted format n) where
  whole : family_of format ≡ elf_family (is_many format) (family_of format).word
  whole = elf_whole format family

  word_is : (family_of format).word ≡ word_for format
  word_is = of_elf (λ f. (family_of f).word ≡ word_for f) refl refl refl refl format family

  least : (section_range format).least ≤ header_count (is_many format) (is_relocated format n) n
  least =
      not_below (header_count (is_many format) (is_relocated format n) n) (section_range format).least
      (subst (λ (f : Family). nat_lt (f.sections (is_relocated format n) n) (section_range format).least ≡ false) whole (section_count_met format n fits).0)

  headers : header_count (is_many format) (is_relocated format n) n ≤ (section_range format).most
  headers =
      not_below (section_range format).most (header_count (is_many format) (is_relocated format n) n)
      (subst (λ (f : Family). nat_lt (section_range format).most (f.sections (is_relocated format n) n) ≡ false) whole (section_count_met format n fits).1.0)

  table : word_for format ≡ W32 → elf_symbol_count n < 2 ^ 24
  table is =
      let met : AreMet (option_map_or bounded ((family_of Elf32).symbols n) []) = subst (λ (f : Family). AreMet (option_map_or bounded (f.symbols n) [])) (whole ∙ ap (elf_family (is_many format)) (word_is ∙ is)) (symbols_bounded format n fits) in
      let low : elf_symbol_count n ≤ 0xFFFFFF = not_below 0xFFFFFF (elf_symbol_count n) met.0 in
      omega (arith, low)

  -- a section of type NOBITS has zeros and no field
  blank : (k : ℕ) (s : Section) → slice_get n.sections k ≡ Some s → is_nobits_tag s.tag ≡ true → AreZeros s.bytes × (list_of n.relocs k ≡ [])
  blank k s here nobits =
      fits.blanks k s here (ap (λ (f : Family). f.is_blank s.tag) (ap family_of fits.format ∙ whole) ∙ nobits)

  section : (k : ℕ) (s : Section) → slice_get n.sections k ≡ Some s → ElfSection n s
  unfolding section_conditions
  section k s here =
      let met = section_met format n fits k s here in
      let named : (is_home Elf32 (k + 1) s.kind s.name s.tag || (elf_family (is_many format) (family_of format).word).gives s.kind s.name s.tag) ≡ true
      = sym (ap (λ b. b || (elf_family (is_many format) (family_of format).word).gives s.kind s.name s.tag) (same_home format family (k + 1) s.kind s.name s.tag))
      ∙ ap (λ f. is_home format (k + 1) s.kind s.name s.tag || f.gives s.kind s.name s.tag) (sym whole) ∙ fits.names k s here in
      let tag : IsElfTag s.kind s.name s.tag = elf_named (k + 1) s.kind s.name s.tag named in
      let low : nat_lt (elf_family (is_many format) (family_of format).word).most_align s.align ≡ false = subst (λ (f : Family). nat_lt f.most_align s.align ≡ false) whole met.1.1.1.0 in
      record {
        uncut = uncut n s (subst (λ (f : Family). f.lacks_name (output_names format n) n s.name s ≡ false) whole met.1.1.1.1.0);
        align = power 20 s.align (omega arith) (each_at (λ (x : Section). IsAlign x.align) n.sections k s fits.object.complete.aligns here) (not_below (2 ^ 20) s.align low);
        small = carried_small (elf_tag_type s.tag) tag.carried;
        carried = tag.carried;
        allocated = tag.allocated;
        kind = tag.kind_read;
        zeros = λ nobits. (blank k s here nobits).0;
        stored = λ bits. all_bytes s (each_at HasItsBytes n.sections k s fits.object.built.bytes here) (λ zero.
            true≢false (sym (elf_zero s.name s.tag (tag.kind_read.same (λ exception. absurd (let e : Zero ≡ Exception = sym zero ∙ exception in cc)) ∙ zero)) ∙ bits));
      }

  symbol : (k : ℕ) (s : Symbol) → slice_get n.symbols k ≡ Some s → ElfSymbol n s
  unfolding symbol_conditions
  symbol k s here =
      let met = symbol_met format n fits k s here in
      record {
        name = subst (λ (f : Family). f.lacks_symbol s ≡ false) whole met.0;
        steady = λ j e.
            let weak : (family_of format).lacks_weak n (fallback.Name j) ≡ false = ap (is_weak_form format n) (sym e) ∙ met.1.1.1.0 in
            steady n j (subst (λ (f : Family). f.lacks_weak n (fallback.Name j) ≡ false) whole weak);
      }

  reloc : (s at : ℕ) (r : Reloc) → reloc_at n s at ≡ Some r → ElfReloc format n s at r
  unfolding field_shift
  reloc s at r here =
      let m : MeetsReloc format n s at r = reloc_meets format n fits s at r here in
      let row : IsElfRow format m.row = elf_row format family m.is.position m.row m.is.there in
      let number = and_parts _ _ row.number in
      record {
        meets = m;
        stored = by (is_nobits_tag m.section.tag) refl;
        found = row.found;
        number = (ltb-true 0 m.row.number number.0, ltb-true m.row.number (2 ^ 8) number.1);
        single = row.single;
        behind = row.behind;
        taken = taken_alike format r.form.less m.row.taken other m.is.taken;
        hint = m.is.hint ∙ ap (λ b. cond b r.hint Plain) (calls format family);
        based = λ k e. only_address r.form (m.slot k e) (ap (λ b. same_base b HomeNumber) (sym m.is.base) ∙ row.no_home);
        holds = λ is.
            m.holds (shift_of m.row)
            (elf_shift format family is at r ∙ ap (option_map (written_shift at r.form.less)) m.is.written ∙ ap Some (plain_shift at r.form.less m.row row.no_section));
      }
    where
      by : (b : Bool) → is_nobits_tag (reloc_meets format n fits s at r here).section.tag ≡ b → is_nobits_tag (reloc_meets format n fits s at r here).section.tag ≡ false
      by true e =
          let m = reloc_meets format n fits s at r here in
          absurd (none-some r (sym (ap (λ xs. reloc_among xs at) (blank s m.section m.there e).1) ∙ here))
      by false e = e

      other : format ≡ Mac64 → ⊥
      other is = absurd (let e : container_of Mac64 ≡ IsElf = subst (λ f. container_of f ≡ IsElf) is family in cc)

pub meets_elf : FittedMeetsElf
meets_elf format n family fits = record {
  bounds = bounded_object format n fits;
  least = least format n family fits;
  headers = headers format n family fits;
  table = table format n family fits;
  keys = keys_uncut n fits.object (λ k s here. (section format n family fits k s here).uncut);
  sections = section format n family fits;
  symbols = symbol format n family fits;
  relocs = reloc format n family fits;
}
