-- The canonical file of an object that is ready for OMF shows the object that is seen.
use Rattle.std.proofs.Common.{◌≡◌, ℕ, inl, inr, List, Some, None, refl, sym, ◌∙◌, ap, subst}
use Rattle.std.specs.{Prelude.{slice_get, find}, Option.{option_and_then}}
use Rattle.oc_base.specs.declared.format.Format.TheVariants.{Omf}
use Rattle.oc_linking.specs.Keeping.{all}
use Rattle.oc_linking.specs.Targets as linked
use Rattle.oc_neutral.specs.{declared.section.Section.{Section}, declared.reloc.Reloc.{Reloc}, Objects.{Object, reloc_at}, Building.{is_zero}}
use Rattle.oc_neutral.specs.{Normal.{place_among}, Omf.Relocs.{fixup_row}}
use Rattle.oc_neutral.specs.declared.reloc.Target.TheVariants as target
use Rattle.oc_shows.specs.{Again.{HasContents}, Manners.{omf_manner}, RowFields.{IsTarget}, Seen.{seen, seen_section, seen_target, new_position}, Shows.{Shows}}
use Rattle.oc_target.specs.Fitted.{IsFitted}
use Rattle.oc_omf.specs.{Entries.{entries_in}, Sections.{sections_in}, Fixups.{fixed_in}, Targets.{meaning_of, section_target, target_of}}
use Rattle.oc_omf.specs.{Fields.{relocates, field_by, fixups_in, fields_in}, Rules.{omf_dialect}}
use Rattle.oc_made_files.specs.MadeFiles.{IsMadeField, IsMadeFile}
use Rattle.oc_made_files.proofs.MadeLaws.{patched_beside, contents_by_kind, outer_aimed, made_by_row, made_file_shows}
use Rattle.oc_omf_file.specs.{Fixups.{written_reloc, target_method, field_patch, raw_of}, Canonical.{omf_file}}
use Rattle.oc_omf_file.proofs.{MadeLaw.{entries_made}, CodedLaws.{IsForOmf, framed, none_past}, AimLaws.{aimed}, SmallLaws.{length-raw, all_small}}
use Rattle.oc_omf_file.proofs.SectionLaws.{made_contents, made_section, has_bytes, sections_made, tables_read}
use Rattle.oc_omf_file.proofs.{SeenLaws.{shown, again, syms, manner_is, are_shown, seen_there, position_is}, SymbolLaws.{mentions_read, symbols_read}}
use Rattle.oc_omf_file.proofs.FixedLaws.{entries}
use Rattle.oc_omf_file.proofs.TargetLaws.{meant, IsAimed, aim_read, is_outer, outer_target, numbered_symbol, section_target_read, symbol_target_read}
use Rattle.oc_omf_file.proofs.FieldLaws.{a, reloc_made, field_made, fixups, no_fixup}

module _ (n : Object) (is : IsForOmf n) where
  abbrev file : List ℕ
  file = omf_file n

  -- what is read of the file
  pub read : entries_in file ≡ entries n is
  read = entries_made n (all_small n is)

  pub meaning_read : meaning_of (entries_in file) ≡ meant n
  unfolding meaning_of
  meaning_read = rw (tables_read n is, mentions_read n is, symbols_read n is) refl

  field_read : (k at : ℕ) → fields_in (entries_in file) k at ≡ option_and_then (field_by (meant n) k at) (find (relocates k at) (fixups n is))
  unfolding fields_in fixed_in
  field_read k at =
      ap (λ m. option_and_then (field_by m k at) (find (relocates k at) (fixups_in (entries_in file)))) meaning_read
      ∙ ap (λ es. option_and_then (field_by (meant n) k at) (find (relocates k at) (fixups_in es))) read

  none_read : (k at : ℕ) → reloc_at n k at ≡ None → fields_in (entries_in file) k at ≡ None
  none_read k at none = field_read k at ∙ ap (option_and_then (field_by (meant n) k at)) (no_fixup n is k at none)

  -- a section is one target in the object and in the file
  section_is_target : (j : ℕ) → IsTarget omf_dialect file all (again n) (target.Section j) (section_target j)
  unfolding place_among
  section_is_target j = record { named = refl; worth = λ p v fixed. refl }

  -- the field of a relocation
  given : (k : ℕ) (s : Section) → slice_get n.sections k ≡ Some s → (at : ℕ) (r : Reloc) → reloc_at n k at ≡ Some r → IsMadeField omf_dialect omf_manner file n k at r
  given k s here at r there = elim (aimed n is k at r there) [
    | inl v ↦
        with_target (section_target v.position) (ap (λ t. target_of (meant n) (target_method n t)) v.aim ∙ section_target_read n is v.position)
        (subst (λ t. IsTarget omf_dialect file all (again n) (seen_target (shown n) t) (section_target v.position)) (sym v.aim) (section_is_target v.position))
    | inr v ↦
        let m = numbered_symbol n is v.position v.symbol v.here v.external in
        let u : linked.Target = outer_target n is m.index in
        let position : new_position (shown n) v.position ≡ m.index = ap (new_position (shown n)) (sym m.key) ∙ position_is n is m.index m.out m.there in
        let seen = ap (slice_get (syms n)) position ∙ seen_there n is m.index m.out v.symbol m.there (ap (slice_get n.symbols) m.key ∙ v.here) in
        with_target u (ap (λ t. target_of (meant n) (target_method n t)) v.aim ∙ symbol_target_read n is v.position v.symbol v.here v.external ∙ ap (λ j. Some (outer_target n is j)) m.number)
        (subst (λ t. IsTarget omf_dialect file all (again n) (seen_target (shown n) t) u) (sym v.aim)
        (outer_aimed omf_manner n omf_dialect file (symbols_read n is) v.position v.symbol (is_outer v.symbol.binding v.external) m.index seen))
  ]
    where
      with_target : (u : linked.Target) → target_of (meant n) (target_method n (written_reloc n r).target) ≡ Some u
          → IsTarget omf_dialect file all (again n) (seen_target (shown n) (written_reloc n r).target) u → IsMadeField omf_dialect omf_manner file n k at r
      with_target u aims is_target =
          let aim : IsAimed n is r = record { aim = u; is_aim = aims; there = (aim_read n is k at r there).there } in
          made_by_row omf_manner n omf_dialect file k at r (fixup_row (framed n is k at r there)) k (a n is k s here at r there) (seen_target (shown n) (written_reloc n r).target) u
          (field_read k at ∙ field_made n is k s here at r there aim) (reloc_made n is k s here at r there) (inr is_target)

  contents_have : (k : ℕ) (s : Section) → slice_get n.sections k ≡ Some s → HasContents (again n) k (seen_section omf_manner n (k, s)) (made_contents n (k, s))
  unfolding raw_of
  contents_have k s here =
      contents_by_kind omf_manner n (are_shown n is) k s (has_bytes n is k s here) refl (raw_of n k s) (length-raw n k s)
      (patched_beside omf_manner n (are_shown n is) (λ at. field_patch n) (λ at r. refl) k s.bytes) (is_zero s.kind) refl

  file_made : IsMadeFile omf_dialect omf_manner file n (made_section n)
  file_made = record {
    word = refl;
    manner = manner_is n is.format;
    sections = ap sections_in (tables_read n is) ∙ sections_made n is;
    frames = λ k s here. refl;
    contents = contents_have;
    symbols = symbols_read n is;
    given = given;
    free = λ k s here at none. none_read k at none;
    past = λ k at high. none_read k at (none_past n is k at high);
  }

  pub omf_shows : IsFitted Omf n → Shows omf_dialect file all (seen n)
  omf_shows fitted = made_file_shows omf_dialect omf_manner file n (made_section n) fitted file_made
