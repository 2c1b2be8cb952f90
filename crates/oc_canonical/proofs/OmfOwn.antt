-- What of OMF is read where Debug sections are not kept, of a module that has none: the same.
use Rattle.std.proofs.Common.{◌≡◌, ℕ, zero, suc, ◌+◌, Bool, true, false, cond, List, [], ◌∷◌, ◌++◌, map, take, filter_map, Option, Some, None, Result, Ok, Err, refl, sym, ◌∙◌, ap, subst, arith}
use mathlib.Core.Path.{fun_ext}
use Rattle.std.specs.{Prelude.{slice_get}, List.{AllByRecursion, enumerate_from, range_with_len}}
use Rattle.std.specs.Option.{option_map, option_map_or, option_and_then, unwrap_or}
use Rattle.std.proofs.lemmas.Option.{none-some, same_Some, slice_get-map}
use Rattle.oc_linking.specs.{declared.terms.Kind.{Kind}, declared.terms.Keep.{Keep}, declared.terms.Patch.{Patch}, Images.{overlay}, Keeping.{all, keeps}}
use Rattle.oc_linking.specs.{Linking.{flags_in, patch_of}, Shows.{unders}, Fits.{bytes_of}, Placing.{zeros}}
use Rattle.oc_linking.specs.Parts as parts
use Rattle.oc_base.specs.{Formats.{word_for}, declared.format.Format.TheVariants.{Omf}}
use Rattle.oc_chains.specs.declared.field.Field.{Field}
use Rattle.oc_neutral.specs.{declared.section.Section.{Section}, declared.reloc.Reloc.{Reloc}, Objects.{Object}, Building.{is_zero}}
use Rattle.oc_neutral.specs.Dialects.{Look, kept_fields, is_difference, is_folded, look_of, looks_in, patches_in}
use Rattle.oc_neutral.specs.Faces.{shown_sections, shown_section, frame_of}
use Rattle.oc_shows.specs.Computed.{zero_values, zero_patches, computed_section, computed_symbol, reloc_for, computed_field, computed_fields, object_in}
use Rattle.oc_shows.specs.{Seen.{seen, seen_section}, Manners.{omf_manner}, Shows.{Shows}}
use Rattle.oc_target.specs.Fitted.{IsFitted}
use Rattle.oc_target.proofs.SeenLaws.{seen_is_object_law}
use Rattle.oc_shows.proofs.ShownComputed.{shown_is_computed}
use Rattle.oc_names.specs.Wishes.{no_wishes}
use Rattle.oc_convert.specs.Refusals.{kept_of_file}
use Rattle.oc_shelf.proofs.{ReadingLaws.StageLemmas.{Unbroken, IsUnbroken, no_first_fault}, WritingLaws.MemberLemmas.{of_map}}
use Rattle.oc_omf.specs.{declared.structures.Subrecord.{Subrecord}, declared.cut.Cut.{Cut}, Entries.{Entry, entries_in}, Fields.{fields_in}}
use Rattle.oc_omf.specs.{Fixups.{PlacedSubrecord, subrecords_by, subrecords_upto, Fixed, fixed_of, fixed_in}, Targets.{Meaning, meaning_of}, Tables.{Tables}}
use Rattle.oc_omf.specs.{Structures.{Piece}, declared.structures.Segment.{Segment}, Sections.{segment_kind}, SymbolFaults.{symbol_stages}}
use Rattle.oc_omf.specs.RelocationFaults.{is_judged, fixup_conditions, part_conditions, relocation_conditions, relocation_stage, relocation_stages}
use Rattle.oc_omf.specs.Rules.{omf_rules, omf_dialect, stages_of, fault_of}
use Rattle.oc_omf.specs.declared.structures.Subrecord.TheVariants as subrecord
use Rattle.oc_omf.specs.RelocationFaults as faults
use Rattle.oc_omf_file.specs.Canonical.{omf_file}
use Rattle.oc_omf_file.proofs.{CodedLaws.{IsForOmf, for_omf}, FixedLaws.{entries}, ListLemmas.{all_both}, ShowsLaw.{read}, SeenLaws.{again_is}}
use Rattle.oc_omf_file.proofs.{HeaderClean.{header_clean}, SectionClean.{sections_clean}, SymbolClean.{symbols_clean}, RelocationClean.{relocations_clean}}
use Rattle.oc_omf_file.proofs.WrittenLaw.{omf_is_written}
use Rattle.oc_canonical.proofs.OmfStays.{IsClassed, classed}
use Rattle.oc_canonical.specs.Stable.{IsReadBack}
use Rattle.oc_linking.proofs.Whole.{keeps-all}

-- ... fewer conditions

all_judged : (t : Tables) (x : Fixed) → is_judged t all x ≡ true
all_judged t x = by x.piece
  where
    kept : (d : Piece) (o : Option Segment) → option_map_or (λ (s : Segment). keeps all (segment_kind t d.segment s)) o true ≡ true
    kept d o = grind arith

    by : (o : Option Piece) → option_map_or (faults.is_kept t all) o true ≡ true
    by o = grind arith

part_fewer : (m : Meaning) (keep : Keep) (earlier : List PlacedSubrecord) (x : PlacedSubrecord) (p : Result Subrecord Cut) → Unbroken (part_conditions m all earlier x p) → Unbroken (part_conditions m keep earlier x p)
part_fewer m keep earlier x (Ok (subrecord.Thread t)) unbroken = unbroken
part_fewer m keep earlier x (Err c) unbroken = unbroken
part_fewer m keep earlier x (Ok (subrecord.Fixup f)) unbroken =
    by (is_judged m.tables keep (fixed_of earlier x.before f))
    (subst (λ b. Unbroken (cond b (fixup_conditions m (fixed_in earlier) x (fixed_of earlier x.before f)) [])) (all_judged m.tables (fixed_of earlier x.before f)) unbroken)
  where
    by : (b : Bool) → Unbroken (fixup_conditions m (fixed_in earlier) x (fixed_of earlier x.before f)) → Unbroken (cond b (fixup_conditions m (fixed_in earlier) x (fixed_of earlier x.before f)) [])
    by true u = u
    by false u = tt

conditions_fewer : (m : Meaning) (keep : Keep) (earlier : List PlacedSubrecord) (x : PlacedSubrecord) → Unbroken (relocation_conditions m all earlier x) → Unbroken (relocation_conditions m keep earlier x)
unfolding relocation_conditions
conditions_fewer m keep earlier x unbroken = part_fewer m keep earlier x x.part unbroken

stage_fewer : (es : List Entry) (keep : Keep) (x : ℕ × Entry) → IsUnbroken (relocation_stage es all x) → IsUnbroken (relocation_stage es keep x)
stage_fewer es keep x unbroken i low = by (slice_get (subrecords_by es x) i) (unbroken i low)
  where
    by : (o : Option PlacedSubrecord) → Unbroken (option_map_or (relocation_conditions (meaning_of es) all (subrecords_upto es x.0 ++ take i (subrecords_by es x))) o [])
        → Unbroken (option_map_or (relocation_conditions (meaning_of es) keep (subrecords_upto es x.0 ++ take i (subrecords_by es x))) o [])
    by None u = tt
    by (Some p) u = conditions_fewer (meaning_of es) keep (subrecords_upto es x.0 ++ take i (subrecords_by es x)) p u

stages_fewer : (es : List Entry) (keep : Keep) (xs : List (ℕ × Entry)) → AllByRecursion IsUnbroken (map (relocation_stage es all) xs) → AllByRecursion IsUnbroken (map (relocation_stage es keep) xs)
stages_fewer es keep [] each = tt
stages_fewer es keep (x ∷ xs) each = (stage_fewer es keep x each.0, stages_fewer es keep xs each.1)

well_formed : (n : Object) → IsForOmf n → (keep : Keep) → fault_of (omf_file n) keep ≡ None
unfolding fault_of stages_of
well_formed n is keep =
    let file : List ℕ = omf_file n in
    no_first_fault (stages_of file (entries_in file) keep)
    (subst (λ es. AllByRecursion IsUnbroken (stages_of file es keep)) (sym (read n is)) (
      header_clean n is,
      (
        sections_clean n is,
        all_both IsUnbroken (symbol_stages (entries n is)) (relocation_stages (entries n is) keep) (symbols_clean n is)
            (stages_fewer (entries n is) keep (enumerate_from 0 (entries n is)) (relocations_clean n is)),
      ),
    ))

-- ... the same object, where the same sections are kept

module _ (c : List ℕ) (keep : Keep) (same : flags_in omf_rules c keep ≡ flags_in omf_rules c all) where
  kept_same : (s at : ℕ) → kept_fields omf_dialect c keep s at ≡ kept_fields omf_dialect c all s at
  kept_same s at = ap (λ flags. cond (unwrap_or (slice_get flags s) true) (fields_in (entries_in c) s at) None) same

  folded_at : (s at : ℕ) → is_folded omf_dialect c keep s at ≡ is_folded omf_dialect c all s at
  unfolding is_folded
  folded_at s at = ap (λ o. option_map_or is_difference o false) (kept_same s at)

  looks_at : (s at : ℕ) → looks_in omf_dialect c keep s at ≡ looks_in omf_dialect c all s at
  unfolding looks_in
  looks_at s at =
      ap (λ b. cond b None (option_map (look_of s) (kept_fields omf_dialect c keep s at))) (folded_at s at)
      ∙ ap (λ o. cond (is_folded omf_dialect c all s at) None (option_map (look_of s) o)) (kept_same s at)

  patches_at : (s at : ℕ) → zero_patches omf_dialect c keep s at ≡ zero_patches omf_dialect c all s at
  unfolding patches_in
  patches_at s at = ap (option_map (patch_of zeros (zero_values omf_dialect c all))) (kept_same s at)

  folded_same : is_folded omf_dialect c keep ≡ is_folded omf_dialect c all
  folded_same = fun_ext (λ s. fun_ext (λ at. folded_at s at))

  patches_same : zero_patches omf_dialect c keep ≡ zero_patches omf_dialect c all
  patches_same = fun_ext (λ s. fun_ext (λ at. patches_at s at))

  section_same : (x : ℕ × parts.Section) → computed_section omf_dialect c keep x ≡ computed_section omf_dialect c all x
  section_same x =
      ap (λ folded. with_bytes (overlay (unders folded (zero_patches omf_dialect c keep) x.0) 0 x.1.contents)) folded_same
      ∙ ap (λ patches. with_bytes (overlay (unders (is_folded omf_dialect c all) patches x.0) 0 x.1.contents)) patches_same
    where
      with_bytes : List ℕ → Section
      with_bytes bytes = record {
        name = x.1.name;
        kind = x.1.kind;
        align = x.1.align;
        size = x.1.size;
        bytes = cond (is_zero x.1.kind) [] bytes;
        tag = x.1.tag;
        number = x.1.number;
        group = (computed_section omf_dialect c keep x).group;
      }

  field_same : (s at : ℕ) → computed_field omf_dialect c keep s at ≡ computed_field omf_dialect c all s at
  field_same s at = ap (λ o. with_patch o (zero_patches omf_dialect c keep s at)) (looks_at s at) ∙ ap (with_patch (looks_in omf_dialect c all s at)) (patches_at s at)
    where
      with_patch : Option Look → Option Patch → Option (Field Reloc)
      with_patch looks patch = option_and_then
          (λ (look : Look). option_map (λ (q : Patch). record { at = at; width = bytes_of look.width; item = reloc_for (word_for omf_dialect.format) (omf_rules.symbols c keep) (zero_values omf_dialect c keep) s at look q.residue }) patch) looks

  fields_same : (x : ℕ × parts.Section) → computed_fields omf_dialect c keep x ≡ computed_fields omf_dialect c all x
  fields_same x = ap (λ f. filter_map f (range_with_len 0 x.1.size)) (fun_ext (λ at. field_same x.0 at))

  object_same : object_in omf_dialect c keep ≡ object_in omf_dialect c all
  object_same =
      ap (λ f. with_parts (map f (enumerate_from 0 (omf_rules.sections c))) (map (computed_fields omf_dialect c keep) (enumerate_from 0 (omf_rules.sections c)))) (fun_ext section_same)
      ∙ ap (λ f. with_parts (map (computed_section omf_dialect c all) (enumerate_from 0 (omf_rules.sections c))) (map f (enumerate_from 0 (omf_rules.sections c)))) (fun_ext fields_same)
    where
      with_parts : List Section → List (List (Field Reloc)) → Object
      with_parts sections relocs = record {
        format = omf_dialect.format;
        groups = (object_in omf_dialect c keep).groups;
        sections = sections;
        symbols = map (computed_symbol (omf_rules.symbols c keep)) (omf_rules.symbols c keep);
        relocs = relocs;
      }

-- ... no section of a module that is written is Debug

abbrev own_keep : Keep
own_keep = kept_of_file no_wishes omf_dialect Omf

kept_kind : (k : Kind) → IsClassed k → keeps own_keep k ≡ true
kept_kind k is = grind arith

module _ (n : Object) (fits : IsFitted Omf n) where
  is : IsForOmf n
  is = for_omf n fits

  abbrev c : List ℕ
  c = omf_file n

  seen_kept : (k : ℕ) (s : Section) → slice_get (seen n).sections k ≡ Some s → keeps own_keep s.kind ≡ true
  seen_kept k s here = by k s here
    where
      from : (i : ℕ) (xs : List Section) → ((k : ℕ) (x : Section) → slice_get xs k ≡ Some x → IsClassed x.kind) → (k : ℕ) (s : Section)
          → slice_get (map (seen_section omf_manner n) (enumerate_from i xs)) k ≡ Some s → keeps own_keep s.kind ≡ true
      from i [] each k s here = absurd (none-some s here)
      from i (x ∷ xs) each zero s here = ap (λ (y : Section). keeps own_keep y.kind) (sym (same_Some _ s here)) ∙ kept_kind x.kind (each 0 x refl)
      from i (x ∷ xs) each (suc k) s here = from (i + 1) xs (λ j y h. each (suc j) y h) k s here

      by : (k : ℕ) (s : Section) → slice_get (seen n).sections k ≡ Some s → keeps own_keep s.kind ≡ true
      by k s here =
          from 0 n.sections (λ j x h. let m = is.meets.sections j x h in classed x.kind m.class m.classed) k s
          (sym (ap (λ (m : Object). slice_get m.sections k) (again_is n is.format)) ∙ here)

  shows : Shows omf_dialect c all (seen n)
  shows = (omf_is_written.written n fits).shows

  flags_same : flags_in omf_rules c own_keep ≡ flags_in omf_rules c all
  flags_same = kinds (omf_rules.sections c) (λ k y here. kept k y here)
    where
      kinds : (ys : List parts.Section) → ((k : ℕ) (y : parts.Section) → slice_get ys k ≡ Some y → keeps own_keep y.kind ≡ true) → map (λ (s : parts.Section). keeps own_keep s.kind) ys ≡ map (λ (s : parts.Section). keeps all s.kind) ys
      kinds [] each = refl
      kinds (y ∷ ys) each =
          ap (λ b. b ∷ map (λ (s : parts.Section). keeps own_keep s.kind) ys) (each 0 y refl ∙ sym (keeps-all y.kind))
          ∙ ap (λ bs. keeps all y.kind ∷ bs) (kinds ys (λ k z h. each (suc k) z h))

      kept : (k : ℕ) (y : parts.Section) → slice_get (omf_rules.sections c) k ≡ Some y → keeps own_keep y.kind ≡ true
      kept k y here =
          let framed : slice_get (map frame_of (shown_sections (seen n))) k ≡ Some (frame_of y)
          = ap (λ xs. slice_get xs k) shows.sections ∙ slice_get-map frame_of (omf_rules.sections c) k ∙ ap (option_map frame_of) here in
          let x = of_map frame_of (shown_sections (seen n)) k (frame_of y) framed in
          let z = of_map (shown_section (seen n).groups) (seen n).sections k x.0 x.1 in
          ap (λ (s : parts.Section). keeps own_keep s.kind) (sym x.2) ∙ ap (λ (s : parts.Section). keeps own_keep s.kind) (sym z.2) ∙ seen_kept k z.0 z.1

  pub omf_own : IsReadBack omf_dialect n c
  omf_own = record {
    well_formed = well_formed n is own_keep;
    object = object_same c own_keep flags_same ∙ sym (shown_is_computed omf_dialect c all (seen n) (seen_is_object_law Omf n fits) shows);
    kept = seen_kept;
  }
