-- Every object that is ready for Mach-O meets what its writer uses.
use Rattle.std.proofs.Common.{◌≡◌, ℕ, zero, suc, ◌+◌, ◌^◌, ◌<◌, ◌≤◌, Bool, true, false, cond, ◌||◌, ◌&&◌, List, [], ◌∷◌, length, map, Option, Some, None, refl, sym, ◌∙◌, ap, subst, arith}
use Rattle.std.specs.{Prelude.{slice_get, nat_eq, nat_lt, nat_le, is_none, is_err}, Option.{option_map, option_map_or}}
use Rattle.std.proofs.lemmas.{Bool.{true≢false, ltb-true, or_parts}, Bool.Decides.{nat_tests}, Option.{none-some, same_Some}}
use Rattle.oc_base.specs.{Formats.{word_for}, declared.format.Format.{Format}, declared.format.Format.TheVariants.{Mac32, Mac64}}
use Rattle.oc_base.specs.declared.format.Word.TheVariants.{W32, W64}
use Rattle.oc_linking.specs.{declared.terms.Width.TheVariants.{Four}, declared.terms.Kind.{Kind}, declared.terms.Kind.TheVariants.{ReadOnly, Zero}}
use Rattle.oc_linking.specs.declared.terms.Hint.TheVariants.{Plain}
use Rattle.oc_linking.specs.declared.terms.Less.TheVariants as less
use Rattle.oc_linking.specs.declared.terms.Fallback.TheVariants as fallback
use Rattle.oc_linking.proofs.Testing.{not_below}
use Rattle.oc_algebra.specs.Fields.{to_field_of}
use Rattle.oc_chains.specs.Lists.{list_of}
use Rattle.oc_neutral.specs.{Family.{IsMach, Family}, declared.section.Section.{Section}, declared.symbol.Symbol.{Symbol}, declared.reloc.Reloc.{Reloc}}
use Rattle.oc_neutral.specs.{Families.{family_of, container_of, section_range}, Relocated.{is_relocated}, Mach.Family.{mach_family, mach_symbol_count}}
use Rattle.oc_neutral.specs.{HomeNames.{is_home, output_names}, Invariants.{HasItsBytes, IsAlign, IsSymbol, IsBinding}}
use Rattle.oc_neutral.specs.{Mach.Kinds.{segment_of, section_of, is_zerofill_tag}, Mach.Relocs.{MachRow, length_of, mach_entries, entry_among}}
use Rattle.oc_neutral.specs.{Objects.{Object, reloc_among, reloc_at}, RelocTables.{rows_of}, Rows.{Row}, Shifts.{field_shift, written_shift}}
use Rattle.oc_neutral.specs.{Spelling.{written_row}, Stored.{is_stored}}
use Rattle.oc_neutral.specs.TargetRelocations.{taken_end, fixed_end, is_symbol, lacks_difference, is_empty, has_empty_end, spot_of, reloc_conditions}
use Rattle.oc_neutral.specs.{TargetSections.{section_conditions}, TargetSymbols.{bounded, is_common_form, is_weak_form, symbol_conditions}}
use Rattle.oc_target.specs.{Fitted.{IsFitted}, MachMeets.{MachSection, MachSymbol, IsWrittenDifference, MachReloc, FittedMeetsMach}}
use Rattle.oc_target.specs.Meets.{has_calls, MeetsReloc, HoldsAddend}
use Rattle.oc_shows.specs.Readable.{AreZeros}
use Rattle.oc_neutral.proofs.{Formats.{of_mach}, Positions.{each_at, images_same}, ShiftLemmas.{four_bytes_hold}}
use Rattle.oc_target.proofs.MeetsConditions.{AreMet, below_length, section_count_met, section_met, symbol_met, reloc_met}
use Rattle.oc_target.proofs.{MeetsCounts.{symbols_bounded, bounded_object}, MeetsGroups.{no_groups}, MeetsMachKinds.{IsMachTag, mach_zero, mach_named}}
use Rattle.oc_target.proofs.{MeetsNames.{needed_there}, MeetsParts.{all_bytes, positive, power, is_something, uncut, steady, taken_alike}}
use Rattle.oc_target.proofs.{MeetsRelocs.{no_error, reloc_meets}, MeetsRows.{of_table}}

-- the family of such a format
mach_whole : (format : Format) → container_of format ≡ IsMach → family_of format ≡ mach_family (family_of format).word
mach_whole = of_mach (λ format. family_of format ≡ mach_family (family_of format).word) refl refl

-- the homes of kinds are the same in both formats
same_home : (format : Format) → container_of format ≡ IsMach → (k : ℕ) (kind : Kind) (name : List ℕ) (tag : ℕ) → is_home format k kind name tag ≡ is_home Mac32 k kind name tag
unfolding is_home
same_home = of_mach (λ format. (k : ℕ) (kind : Kind) (name : List ℕ) (tag : ℕ) → is_home format k kind name tag ≡ is_home Mac32 k kind name tag)
    (λ k kind name tag. refl) (λ k kind name tag. refl)

-- what a list was made of
made_of : {X Y : Type 0} (f : X → Y) (xs : List X) (k : ℕ) (y : Y) → slice_get (map f xs) k ≡ Some y → (x : X) × (slice_get xs k ≡ Some x) × (f x ≡ y)
made_of f [] k y h = absurd (none-some y h)
made_of f (x ∷ xs) zero y h = (x, refl, same_Some (f x) y h)
made_of f (x ∷ xs) (suc k) y h = made_of f xs k y h

-- what is known of a row of a Mach-O table
record IsEntryRow (format : Format) (row : Row) : Type 0 where
  entry : MachRow
  own : entry.row ≡ row
  found : entry_among (mach_entries (word_for format)) row.number entry.pcrel (length_of row.width) ≡ Some entry
  number : nat_lt row.number (2 ^ 4) ≡ true

-- an entry is found by what it has
found_entry : (format : Format) (m : MachRow) (row : Row) → m.row ≡ row → entry_among (mach_entries (word_for format)) m.row.number m.pcrel (length_of m.row.width) ≡ Some m
    → entry_among (mach_entries (word_for format)) row.number m.pcrel (length_of row.width) ≡ Some m
found_entry format m row own found = ap (λ (r : Row). entry_among (mach_entries (word_for format)) r.number m.pcrel (length_of r.width)) (sym own) ∙ found

-- of each row, where two lists of answers are the same
entry_row_of : (format : Format) (k : ℕ) (row : Row) → slice_get (rows_of format) k ≡ Some row
    → rows_of format ≡ map (λ (x : MachRow). x.row) (mach_entries (word_for format))
    → map (λ (x : MachRow). entry_among (mach_entries (word_for format)) x.row.number x.pcrel (length_of x.row.width)) (mach_entries (word_for format)) ≡ map Some (mach_entries (word_for format))
    → map (λ r. nat_lt r.number (2 ^ 4)) (rows_of format) ≡ map (λ r. true) (rows_of format)
    → IsEntryRow format row
entry_row_of format k row here are found number =
    let entries = mach_entries (word_for format) in
    let m = made_of (λ (x : MachRow). x.row) entries k row (ap (λ rows. slice_get rows k) (sym are) ∙ here) in
    record {
      entry = m.0;
      own = m.2;
      found = found_entry format m.0 row m.2 (images_same (λ (x : MachRow). entry_among entries x.row.number x.pcrel (length_of x.row.width)) Some entries entries found k m.0 m.0 m.1 m.1);
      number = of_table (λ r. nat_lt r.number (2 ^ 4)) (λ r. true) (rows_of format) k row number here;
    }

entry_row : (format : Format) → container_of format ≡ IsMach → (k : ℕ) (row : Row) → slice_get (rows_of format) k ≡ Some row → IsEntryRow format row
entry_row = of_mach (λ format. (k : ℕ) (row : Row) → slice_get (rows_of format) k ≡ Some row → IsEntryRow format row)
    (λ k row here. entry_row_of Mac32 k row here refl refl refl) (λ k row here. entry_row_of Mac64 k row here refl refl refl)

-- what is not at or above
below : (a b : ℕ) → nat_le a b ≡ false → b < a
below a b e = grind (arith, nat_tests)

-- a section that is not empty
not_empty : (n : Object) (k : ℕ) (x : Section) → is_empty n k ≡ false → slice_get n.sections k ≡ Some x → 0 < x.size
not_empty n k x e here = positive x.size (sym (ap (λ o. option_map_or (λ (s : Section). nat_eq s.size 0) o false) here) ∙ e)

-- a format without groups
pub alone : (group : Option ℕ) → option_map_or (λ g. true) group false ≡ false → group ≡ None
alone None e = refl
alone (Some g) e = absurd (true≢false e)

module _ (format : Format) (n : Object) (family : container_of format ≡ IsMach) (fits : IsFitted format n) where
  whole : family_of format ≡ mach_family (family_of format).word
  whole = mach_whole format family

  few : length n.sections ≤ 255
  few =
      not_below 255 (length n.sections)
      (subst (λ most. nat_lt most (length n.sections) ≡ false) (of_mach (λ f. (section_range f).most ≡ 255) refl refl format family)
      (subst (λ (f : Family). nat_lt (section_range format).most (f.sections (is_relocated format n) n) ≡ false) whole (section_count_met format n fits).1.0))

  table_32 : format ≡ Mac32 → mach_symbol_count W32 n < 2 ^ 24
  table_32 is =
      let met : AreMet (option_map_or bounded ((family_of Mac32).symbols n) []) = subst (λ f. AreMet (option_map_or bounded ((family_of f).symbols n) [])) is (symbols_bounded format n fits) in
      let low : mach_symbol_count W32 n ≤ 0xFFFFFF = not_below 0xFFFFFF (mach_symbol_count W32 n) met.0 in
      omega (arith, low)

  table_64 : format ≡ Mac64 → mach_symbol_count W64 n < 2 ^ 24
  table_64 is =
      let met : AreMet (option_map_or bounded ((family_of Mac64).symbols n) []) = subst (λ f. AreMet (option_map_or bounded ((family_of f).symbols n) [])) is (symbols_bounded format n fits) in
      let low : mach_symbol_count W64 n ≤ 0xFFFFFF = not_below 0xFFFFFF (mach_symbol_count W64 n) met.0 in
      omega (arith, low)

  -- a section of type ZEROFILL has zeros and no field
  blank : (k : ℕ) (s : Section) → slice_get n.sections k ≡ Some s → is_zerofill_tag s.tag ≡ true → AreZeros s.bytes × (list_of n.relocs k ≡ [])
  blank k s here fill = fits.blanks k s here (ap (λ (f : Family). f.is_blank s.tag) (ap family_of fits.format ∙ whole) ∙ fill)

  section : (k : ℕ) (s : Section) → slice_get n.sections k ≡ Some s → MachSection s
  unfolding section_conditions
  section k s here =
      let met = section_met format n fits k s here in
      let named : (is_home Mac32 (k + 1) s.kind s.name s.tag || (mach_family (family_of format).word).gives s.kind s.name s.tag) ≡ true
      = sym (ap (λ b. b || (mach_family (family_of format).word).gives s.kind s.name s.tag) (same_home format family (k + 1) s.kind s.name s.tag))
      ∙ ap (λ f. is_home format (k + 1) s.kind s.name s.tag || f.gives s.kind s.name s.tag) (sym whole) ∙ fits.names k s here in
      let inside = below_length n.sections k s here in
      let most = few in
      let tag : IsMachTag s.kind s.name s.tag = mach_named (k + 1) (omega (arith, inside, most)) s.kind s.name s.tag named in
      let low : nat_lt (mach_family (family_of format).word).most_align s.align ≡ false = subst (λ (f : Family). nat_lt f.most_align s.align ≡ false) whole met.1.1.1.0 in
      record {
        uncut = (uncut n s (subst (λ (f : Family). f.lacks_name (output_names format n) n s.name s ≡ false) whole met.1.1.1.1.0)).name;
        alone = alone s.group (subst (λ (f : Family). option_map_or (f.lacks_member n) s.group false ≡ false) whole met.1.1.1.1.1.0);
        align = power 15 s.align (omega arith) (each_at (λ (x : Section). IsAlign x.align) n.sections k s fits.object.complete.aligns here) (not_below (2 ^ 15) s.align low);
        name = tag.parted;
        segment = tag.segment;
        section = tag.section;
        small = tag.small;
        tag = tag.own;
        type = tag.type;
        kind = tag.read;
        zeros = λ fill. (blank k s here fill).0;
        stored = λ bytes. all_bytes s (each_at HasItsBytes n.sections k s fits.object.built.bytes here) (λ zero.
            true≢false
            (sym (mach_zero (segment_of s.name) (section_of s.name) s.tag (tag.read.same (λ other. absurd (let e : Zero ≡ ReadOnly = sym zero ∙ other in cc)) ∙ zero)) ∙ bytes));
      }

  symbol : (k : ℕ) (s : Symbol) → slice_get n.symbols k ≡ Some s → MachSymbol n s
  unfolding symbol_conditions
  symbol k s here =
      let met = symbol_met format n fits k s here in
      record {
        name = subst (λ (f : Family). f.lacks_symbol s ≡ false) whole met.0;
        common = λ size align e.
            let form : (family_of format).lacks_common size align ≡ false = ap (is_common_form format) (sym e) ∙ met.1.1.0 in
            let parts = or_parts (nat_eq size 0) (nat_lt (2 ^ 15) align) (subst (λ (f : Family). f.lacks_common size align ≡ false) whole form) in
            (positive size parts.0, power 15 align (omega arith) (subst (IsBinding n) e (each_at (IsSymbol n) n.symbols k s fits.object.complete.symbols here).binding).1 (not_below (2 ^ 15) align parts.1));
        steady = λ j e.
            let weak : (family_of format).lacks_weak n (fallback.Name j) ≡ false = ap (is_weak_form format n) (sym e) ∙ met.1.1.1.0 in
            steady n j (subst (λ (f : Family). f.lacks_weak n (fallback.Name j) ≡ false) whole weak);
      }

  -- a difference of mac32
  difference : (s at : ℕ) (r : Reloc) → reloc_at n s at ≡ Some r → (k : ℕ) → format ≡ Mac32 → r.form.less ≡ less.Section k → IsWrittenDifference n at r k
  unfolding reloc_conditions
  difference s at r here k is e =
      let met : AreMet (reloc_conditions Mac32 n at r (spot_of n s at)) = subst (λ f. AreMet (reloc_conditions f n at r (spot_of n s at))) is (reloc_met format n fits s at r here) in
      let of_end : (f : ℕ → Bool) → option_map_or f (taken_end Mac32 r.form.less) false ≡ f k = λ f. ap (λ l. option_map_or f (taken_end Mac32 l) false) e in
      let has = or_parts (is_none (fixed_end n r.target)) _ (sym (of_end (lacks_difference r.target (fixed_end n r.target))) ∙ (or_parts _ _ met.1.0).1) in
      let end = is_something (fixed_end n r.target) has.0 in
      let ends = or_parts (is_empty n k) (option_map_or (is_empty n) (fixed_end n r.target) false) (sym (of_end (has_empty_end n r.target)) ∙ met.1.1.1.0) in
      record {
        near = below (2 ^ 24) at (sym (of_end (λ j. nat_le (2 ^ 24) at)) ∙ met.1.1.0);
        end = end.0;
        fixed = end.1;
        apart = λ named.
            sym (ap (λ o. is_symbol r.target && option_map_or (λ (e : ℕ). nat_eq e k) o false) end.1 ∙ ap (λ b. b && nat_eq end.0 k) named) ∙ has.1;
        ends = λ x there. not_empty n end.0 x (sym (ap (λ o. option_map_or (is_empty n) o false) end.1) ∙ ends.1) there;
        starts = λ x there. not_empty n k x ends.0 there;
      }

  reloc : (s at : ℕ) (r : Reloc) → reloc_at n s at ≡ Some r → MachReloc format n s at r
  unfolding field_shift
  reloc s at r here =
      let m : MeetsReloc format n s at r = reloc_meets format n fits s at r here in
      let row : IsEntryRow format m.row = entry_row format family m.is.position m.row m.is.there in
      record {
        meets = m;
        stored = by (is_zerofill_tag m.section.tag) refl;
        entry = row.entry;
        row = row.own;
        found = row.found;
        number = ltb-true m.row.number (2 ^ 4) row.number;
        taken = λ is. taken_alike format r.form.less m.row.taken (λ other. absurd (let e : Mac32 ≡ Mac64 = sym is ∙ other in cc)) m.is.taken;
        holds = λ shift is.
            let there : slice_get (rows_of Mac32) m.is.position ≡ Some m.row = subst (λ f. slice_get (rows_of f) m.is.position ≡ Some m.row) is m.is.there in
            let four : r.form.width ≡ Four = sym m.is.width ∙ of_table (λ q. q.width) (λ q. Four) (rows_of Mac32) m.is.position m.row refl there in
            subst (λ f. HoldsAddend f r shift) (sym is)
            (no_error (to_field_of W32 r.form.width shift r.addend) (ap (λ w. is_err (to_field_of W32 w shift r.addend)) four ∙ four_bytes_hold shift r.addend));
        difference = difference s at r here;
        needed = λ k is names.
            needed_there n s at r m.section here m.there m.normal (subst (λ f. is_stored f s r ≡ false) is m.stays) k names;
        held = λ is.
            m.holds (written_shift at r.form.less m.row)
            (subst (λ f. field_shift f at r ≡ Some (written_shift at r.form.less m.row)) (sym is)
            (ap (option_map (written_shift at r.form.less)) (subst (λ f. written_row f r.form r.hint ≡ Some m.row) is m.is.written)));
        hint = λ is. m.is.hint ∙ ap (λ f. cond (has_calls f) r.hint Plain) is;
      }
    where
      by : (b : Bool) → is_zerofill_tag (reloc_meets format n fits s at r here).section.tag ≡ b → is_zerofill_tag (reloc_meets format n fits s at r here).section.tag ≡ false
      by true e =
          let m = reloc_meets format n fits s at r here in
          absurd (none-some r (sym (ap (λ xs. reloc_among xs at) (blank s m.section m.there e).1) ∙ here))
      by false e = e

pub meets_mach : FittedMeetsMach
meets_mach format n family fits = record {
  bounds = bounded_object format n fits;
  few = few format n family fits;
  table_32 = table_32 format n family fits;
  table_64 = table_64 format n family fits;
  groups = no_groups n fits.object (λ k s here. (section format n family fits k s here).alone);
  sections = section format n family fits;
  symbols = symbol format n family fits;
  relocs = reloc format n family fits;
}
