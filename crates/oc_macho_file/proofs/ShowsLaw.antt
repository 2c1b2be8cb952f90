-- The canonical file of an object that is ready for Mach-O shows the object that is seen.
use Rattle.std.proofs.Common.{◌≡◌, ℕ, inl, inr, Bool, true, false, List, length, Option, Some, None, refl, sym, ◌∙◌, ap, subst, arith}
use Rattle.std.specs.{Prelude.{slice_get}, Option.{option_map, option_and_then}}
use Rattle.std.proofs.lemmas.{Bool.{cases_lt, true≢false}, Option.{none-some, same_Some}}
use Rattle.oc_base.specs.{declared.format.Word.{Word}, declared.format.Word.TheVariants.{W32, W64}}
use Rattle.oc_linking.specs.{Keeping.{all}, Parts.{is_local}, Rules.{Field}}
use Rattle.oc_neutral.specs.{declared.section.Section.{Section}, declared.symbol.Symbol.{Symbol}, declared.reloc.Reloc.{Reloc}, declared.reloc.Target.{Target}}
use Rattle.oc_neutral.specs.{Dialects.{Dialect, target_by, is_difference, kept_fields}, Faces.{key_of, shown_symbols, frame_of}, Invariants.{IsObject, IsThere}}
use Rattle.oc_neutral.specs.{Mach.Kinds.{is_zerofill_tag}, Objects.{Object, reloc_at}, Rows.{TakesSection}, Shifts.{entry_target_shift}}
use Rattle.oc_neutral.specs.declared.reloc.Target.TheVariants as target
use Rattle.oc_shows.specs.{Again.{HasContents}, Manners.{mach_manner}, RowFields.{place_target}, Seen.{seen, seen_section, seen_target}, Shows.{Shows}}
use Rattle.oc_target.specs.Fitted.{IsFitted}
use Rattle.oc_shows.proofs.AgainLaws.{inside_of}
use Rattle.oc_neutral.proofs.Positions.{there_at}
use Rattle.oc_target.proofs.SeenLaws.{seen_is_object_law}
use Rattle.oc_made_files.specs.MadeFiles.{IsMadeField, IsMadeFile}
use Rattle.oc_made_files.proofs.MadeLaws.{numbered_target, field_kept, patched_beside, contents_by_type, made_read_again}
use Rattle.oc_macho.specs.declared.relocation_info.Reference.TheVariants as reference
use Rattle.oc_macho.specs.{MachHeader.{mach_format}, Tables.{Tables, tables_of}, Sections.{sections_in}, Aims.{Aim, section_aim, fixed_place, aim_in}}
use Rattle.oc_macho.specs.{Fields.{fields_in}, Rules.{symbols_in, mach_dialect}}
use Rattle.oc_macho_file.specs.{Addresses.{address_of}, Lines.{numbered_lines, symbol_number}, Bodies.{entry_target_of, field_patch, raw_of, reference_to}}
use Rattle.oc_macho_file.specs.Canonical.{mach_file}
use Rattle.oc_macho_file.proofs.{PartLaws.{length-raw}, TableLaws.{IsCodable, made_tables, tables_read}}
use Rattle.oc_macho_file.proofs.CodedLaws.{IsForMach, word_back, meets_section, has_bytes}
use Rattle.oc_macho_file.proofs.{RowLaws.{IsPairRow, IsDifferenceRow, IsKnown, KnownAlone, KnownPair}, EntryLaws.{meets, entry, row_is, known, none_past}}
use Rattle.oc_macho_file.proofs.{SectionLaws.{made_contents, made_section, sections_are}, SeenLaws.{shown, again, manner_is, again_is, are_shown}}
use Rattle.oc_macho_file.proofs.{PinLaws.{target_needed}, AimLaws.{own_aimed, section_aimed}, SymbolLaws.{symbols_are}}
use Rattle.oc_macho_file.proofs.{TargetLaws.{IsAimedAt, section_target, shown_there, symbol_aimed, symbol_target_is}, FieldLaws.{no_field, fields_past}}
use Rattle.oc_macho_file.proofs.AgainLaws.{placed_field, placed_dialect, placed_shows}
use Rattle.oc_macho_file.proofs.{GivenLaws.{IsGivenField, IsCounting, Long, Short, lone_is, given_alone}, PairLaws.{given_long, given_short}}

module _ (w : Word) (n : Object) (is : IsForMach w n) (fits : IsCodable w n) where
  abbrev file : List ℕ
  file = mach_file w n

  abbrev t : Tables
  t = made_tables w n

  abbrev h : Dialect
  h = placed_dialect (mach_dialect w)

  read : tables_of w file ≡ t
  read = tables_read w n fits

  pub symbols_read : symbols_in (tables_of w file) all ≡ shown_symbols (again w n)
  symbols_read = ap (λ t. symbols_in t all) read ∙ symbols_are w n is

  field_read : (k at : ℕ) → fields_in (tables_of w file) k at ≡ fields_in t k at
  field_read k at = ap (λ t. fields_in t k at) read

  none_read : (k at : ℕ) → reloc_at n k at ≡ None → fields_in (tables_of w file) k at ≡ None
  none_read k at none = elim (cases_lt k (length n.sections)) [
    | inl low ↦ let s = there_at n.sections k low in field_read k at ∙ no_field w n is k s.0 s.1 at none
    | inr high ↦ field_read k at ∙ fields_past w n is k at (omega (arith, high))
  ]

  module _ (k : ℕ) (s : Section) (here : slice_get n.sections k ≡ Some s) (at : ℕ) (r : Reloc) (there : reloc_at n k at ≡ Some r) where
    -- what the entry for the target refers to
    record IsTargeted : Type 0 where
      aim : Aim
      aimed : aim_in t (reference_to w (numbered_lines w n) r.target) ≡ Some (Some aim)
      counting : IsCounting w n is symbols_read k s here at r there aim
      is_aim : IsAimedAt w h file (again w n) (seen_target (shown w n) r.target) aim.target
      varied : (i : ℕ) → target_by aim.target.named ≡ target.Section i → r.target ≡ target.Section i

    to_section : (v : Word) → w ≡ v → (j : ℕ) (y : Section) → slice_get n.sections j ≡ Some y → r.target ≡ target.Section j → IsTargeted
    unfolding made_tables
    to_section W32 e j y at_j to = record {
      aim = section_aim t j (Some (address_of n j));
      aimed = ap (λ u. aim_in t (reference_to u (numbered_lines w n) r.target)) e ∙ ap (λ v. aim_in t (reference_to W32 (numbered_lines w n) v)) to ∙ section_aimed w n is j y at_j;
      counting = Short e (address_of n j) refl (ap (λ v. entry_target_shift (entry_target_of n v)) to);
      is_aim = subst (λ v. IsAimedAt w h file (again w n) (seen_target (shown w n) v) (place_target w j 0)) (sym to) (section_target w h file (again w n) j);
      varied = λ i same. to ∙ same;
    }
    to_section W64 e j y at_j to = record {
      aim = section_aim t j None;
      aimed = ap (λ u. aim_in t (reference_to u (numbered_lines w n) r.target)) e ∙ ap (λ v. aim_in t (reference_to W64 (numbered_lines w n) v)) to
          ∙ own_aimed w n is e j y at_j (target_needed w n is k at r there e j to);
      counting = Long e refl;
      is_aim = subst (λ v. IsAimedAt w h file (again w n) (seen_target (shown w n) v) (place_target w j 0)) (sym to) (section_target w h file (again w n) j);
      varied = λ i same. to ∙ same;
    }

    to_symbol : (v : Word) → w ≡ v → (j : ℕ) (y : Symbol) → slice_get n.symbols j ≡ Some y → r.target ≡ target.Symbol j → IsTargeted
    to_symbol v e j y at_j to = record {
      aim = own;
      aimed = ap (λ v. aim_in t (reference_to w (numbered_lines w n) v)) to ∙ plain w ∙ symbol_aimed w n is j y at_j outer;
      counting = counts v e;
      is_aim = subst (λ v. IsAimedAt w h file (again w n) (seen_target (shown w n) v) (numbered_target (symbol_number (numbered_lines w n) j))) (sym to)
          (symbol_target_is w n is j y at_j outer h file symbols_read);
      varied = λ i same. absurd (true≢false (ap is_symbol same));
    }
      where
        outer : is_local y.binding ≡ false
        outer = (meets w n is k at r there).outer j y to at_j

        own : Aim
        own = record { target = numbered_target (symbol_number (numbered_lines w n) j); counted = None; place = fixed_place ((shown_there w n is j y at_j outer).binding) }

        plain : (v : Word) → aim_in t (reference_to v (numbered_lines w n) (target.Symbol j)) ≡ aim_in t (reference.Symbol (symbol_number (numbered_lines w n) j))
        plain v = grind arith

        counts : (v : Word) → w ≡ v → IsCounting w n is symbols_read k s here at r there own
        counts W32 e = Short e 0 refl (ap (λ v. entry_target_shift (entry_target_of n v)) to)
        counts W64 e = Long e refl

        is_symbol : Target → Bool
        is_symbol (target.Section i) = false
        is_symbol (target.Symbol i) = true

    targeted : IsTargeted
    targeted = by r.target refl
      where
        by : (v : Target) → r.target ≡ v → IsTargeted
        by (target.Section j) to = let y = there_at n.sections j (subst (IsThere n) to (meets w n is k at r there).normal.target) in to_section w refl j y.0 y.1 to
        by (target.Symbol j) to = let y = there_at n.symbols j (subst (IsThere n) to (meets w n is k at r there).normal.target) in to_symbol w refl j y.0 y.1 to

    pub given_field : IsGivenField w n is symbols_read k s here at r there
    given_field = by (known w n is k at r there).known
      where
        is_short : Word → Bool
        is_short W32 = true
        is_short W64 = false

        uncounted : (a : Aim) → IsCounting w n is symbols_read k s here at r there a → w ≡ W64 → a.counted ≡ None
        uncounted a x long = grind arith

        pairs : (v : Word) → w ≡ v → IsPairRow w (entry w n is k at r there) → (entry w n is k at r there).row.taken ≡ TakesSection → IsDifferenceRow w (entry w n is k at r there)
            → IsGivenField w n is symbols_read k s here at r there
        pairs W32 e p takes d = given_short w n is symbols_read k s here at r there p takes d e
        pairs W64 e p takes d =
            given_long w n is symbols_read k s here at r there p takes d e targeted.aim (ap (λ u. aim_in t (reference_to u (numbered_lines w n) r.target)) (sym e) ∙ targeted.aimed)
            (uncounted targeted.aim targeted.counting e) targeted.is_aim targeted.varied

        by : IsKnown w (entry w n is k at r there) → IsGivenField w n is symbols_read k s here at r there
        by (KnownAlone none alone lacks) =
            given_alone w n is symbols_read k s here at r there targeted.aim (lone_is w n is symbols_read k s here at r there (known w n is k at r there).plain lacks)
            (sym (row_is w n is k at r there (λ y. y.second)) ∙ none) targeted.counting targeted.aimed targeted.is_aim
        by (KnownPair p takes d) = pairs w refl p takes d

    given : IsMadeField h (mach_manner w) file n k at r
    given = record {
      field = placed_field k given_field.field;
      here = ap (option_map (placed_field k)) (field_read k at ∙ given_field.field_here);
      is = given_field.field_is;
    }

  -- no field is folded
  varies : (k at : ℕ) (f : Field) → kept_fields (mach_dialect w) file all k at ≡ Some f → is_difference f ≡ false
  varies k at f e = by (reloc_at n k at) refl
    where
      own : fields_in (tables_of w file) k at ≡ Some f
      own = sym (field_kept (mach_dialect w) file k at) ∙ e

      by : (o : Option Reloc) → reloc_at n k at ≡ o → is_difference f ≡ false
      by None none = absurd (none-some f (sym (none_read k at none) ∙ own))
      by (Some r) there =
          let s = there_at n.sections k (inside_of n is.object k at r there) in
          let g = given_field k s.0 s.1 at r there in
          ap is_difference (same_Some f g.field (sym own ∙ field_read k at ∙ g.field_here)) ∙ g.varies

  contents_have : (k : ℕ) (s : Section) → slice_get n.sections k ≡ Some s → HasContents (again w n) k (seen_section (mach_manner w) n (k, s)) (made_contents w n (k, s))
  unfolding raw_of
  contents_have k s here =
      let m = meets_section w n is k s here in
      contents_by_type (mach_manner w) n (are_shown w n) k s (has_bytes w n is k s here) m.kind.zero (raw_of w n k s) (length-raw w n k s)
      (patched_beside (mach_manner w) n (are_shown w n) (field_patch w n k) (λ at r. refl) k s.bytes) (is_zerofill_tag s.tag) m.zeros m.stored

  file_made : IsMadeFile h (mach_manner w) file n (made_section w n)
  file_made = record {
    word = sym (word_back w);
    manner = manner_is w n is.format;
    sections = ap sections_in read ∙ sections_are w n is;
    frames = λ k s here. ap (λ g. record (frame_of (made_section w n (k, s))) { group = option_and_then (key_of n.groups) g }) (meets_section w n is k s here).alone;
    contents = contents_have;
    symbols = symbols_read;
    given = given;
    free = λ k s here at none. ap (option_map (placed_field k)) (none_read k at none);
    past = λ k at high. ap (option_map (placed_field k)) (none_read k at (none_past w n is k at high));
  }

  pub mach_shows : IsFitted (mach_format w) n → Shows (mach_dialect w) file all (seen n)
  mach_shows fitted =
      let same : seen n ≡ again w n = again_is w n is.format in
      subst (Shows (mach_dialect w) file all) (sym same)
      (placed_shows (mach_dialect w) file (again w n) (subst IsObject same (seen_is_object_law (mach_format w) n fitted))
      (made_read_again h (mach_manner w) file n (made_section w n) file_made is.format is.object (are_shown w n)) varies)
