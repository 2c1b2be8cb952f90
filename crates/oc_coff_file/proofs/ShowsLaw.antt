-- The canonical file of an object that is ready for COFF shows the object that is seen.
use Rattle.std.proofs.Common.{◌≡◌, ℕ, ◌+◌, List, Option, Some, false, refl, sym, ◌∙◌, ap, map, arith}
use Rattle.std.specs.{Prelude.{slice_get}, List.{enumerate_from}, Option.{option_map, option_and_then}}
use Rattle.oc_base.specs.Formats.{word_for}
use Rattle.oc_linking.specs.{Keeping.{all}, Parts.{is_local}, declared.terms.Kind.TheVariants.{Zero}}
use Rattle.oc_linking.specs.Targets as linked
use Rattle.oc_neutral.specs.{declared.section.Section.{Section}, declared.symbol.Symbol.{Symbol}, declared.reloc.Reloc.{Reloc}, declared.reloc.Target.{Target}}
use Rattle.oc_neutral.specs.{Objects.{Object, reloc_at}, Faces.{shown_symbols, frame_of}, KindRules.{same_kind}}
use Rattle.oc_neutral.specs.declared.reloc.Target.TheVariants as target
use Rattle.oc_shows.specs.{Again.{HasContents}, Manners.{coff_manner}, RowFields.{number_in, place_target, IsTarget}}
use Rattle.oc_shows.specs.{Seen.{seen, seen_section, seen_target, new_position}, Shows.{Shows}}
use Rattle.oc_target.specs.Fitted.{IsFitted}
use Rattle.oc_made_files.specs.MadeFiles.{IsMadeField, IsMadeFile}
use Rattle.oc_made_files.proofs.MadeLaws.{numbered_target, patched_beside, contents_by_kind, outer_aimed, target_said, made_by_row, made_file_shows}
use Rattle.oc_coff.specs.{declared.form.CoffForm.{CoffForm}, declared.form.CoffForm.TheVariants.{Usual32, Usual64, Big32, Big64}, Tables.{tables_of}}
use Rattle.oc_coff.specs.{Entries.{entries_in}, Sections.{carried_in, sections_in}, Symbols.{symbols_in}, Targets.{Aim, target_in}}
use Rattle.oc_coff.specs.{Forms.{format_of, shape_of, word_of}, Fields.{fields_in}, Rules.{coff_dialect}}
use Rattle.oc_coff_file.specs.{Lines.{numbered_lines, outer_number}, Bodies.{field_patch, raw_of, target_number}, Canonical.{coff_file}}
use Rattle.oc_coff_file.proofs.{PartLaws.{length-raw}, TableLaws.{made_tables, tables_read}, EntryLaws.{entries_made}}
use Rattle.oc_coff_file.proofs.CodedLaws.{IsForCoff, seen_kind, coded_section, zero_kind}
use Rattle.oc_coff_file.proofs.{SectionLaws.{made_contents, made_section, made_carried, carried_made, sections_made}, KeyLaws.{grouped}}
use Rattle.oc_coff_file.proofs.{SeenLaws.{shown, again, manner_is, are_shown, seen_there}, SymbolLaws.{S, E, symbols_read}}
use Rattle.oc_coff_file.proofs.{TargetLaws.{section_aim, symbol_aim}, FieldLaws.{meets, row, reloc_made, field_made, no_field, fields_there, fields_past}}
use Rattle.oc_coff_file.proofs.CodableLaws.{HasNumbers}

module _ (w : CoffForm) (n : Object) (is : IsForCoff w n) (has : HasNumbers w n) where
  abbrev file : List ℕ
  file = coff_file w n

  -- what is read of the file
  pub read : tables_of (shape_of w) file ≡ made_tables w n
  read = tables_read w n has.codable

  pub entries_are : entries_in (made_tables w n) ≡ E w n is
  entries_are = entries_made w n has.entered

  pub carried_are : carried_in (made_tables w n) ≡ map (made_carried w n) (enumerate_from 0 n.sections)
  carried_are = carried_made w n has.small (coded_section w n is) (grouped w n is has.small entries_are has.auxes)

  pub sections_are : sections_in (made_tables w n) ≡ S w n is
  sections_are = sections_made w n has.small (coded_section w n is) (grouped w n is has.small entries_are has.auxes)

  symbols_are : symbols_in (tables_of (shape_of w) file) ≡ shown_symbols (again n)
  symbols_are = ap symbols_in read ∙ symbols_read w n is has.tags has.small sections_are entries_are

  field_read : (k at : ℕ) → fields_in (word_of w) (tables_of (shape_of w) file) k at ≡ fields_in (word_of w) (made_tables w n) k at
  field_read k at = ap (λ t. fields_in (word_of w) t k at) read

  -- the target of a number
  abbrev says : Target → Option linked.Target
  says t = target_in (word_of w) (made_tables w n) (target_number (numbered_lines w n) t)

  abbrev aim_of : Option (Option Aim) → Option linked.Target
  aim_of o = option_map (λ (a : Aim). a.target) (option_and_then (λ aim. aim) o)

  symbol_said : (j : ℕ) (t : Symbol) → slice_get n.symbols j ≡ Some t → is_local t.binding ≡ false → (says (target.Symbol j) ≡ Some (numbered_target (outer_number (numbered_lines w n) j)))
      × IsTarget (coff_dialect w) file all (again n) (target.Symbol (new_position (shown n) j)) (numbered_target (outer_number (numbered_lines w n) j))
  symbol_said j t here outer = (
    ap aim_of (symbol_aim w n is has.tags has.small sections_are entries_are j t here outer),
    outer_aimed coff_manner n (coff_dialect w) file symbols_are j t outer (outer_number (numbered_lines w n) j) (seen_there w n is.format j t here outer),
  )

  section_said : (j : ℕ) (s : Section) → slice_get n.sections j ≡ Some s → says (target.Section j) ≡ Some (place_target (word_of w) j 0)
  section_said j s here = ap aim_of (section_aim w n is has.tags has.small sections_are entries_are j s here)

  -- the field of a relocation
  given : (k : ℕ) (s : Section) → slice_get n.sections k ≡ Some s → (at : ℕ) (r : Reloc) → reloc_at n k at ≡ Some r → IsMadeField (coff_dialect w) coff_manner file n k at r
  given k s here at r there =
      let m = meets w n is k at r there in
      let u = target_said coff_manner n (coff_dialect w) file says section_said (outer_number (numbered_lines w n)) symbol_said r.target m.normal.target m.outer in
      made_by_row coff_manner n (coff_dialect w) file k at r (row w n is k at r there) k (number_in (row w n is k at r there) (made_contents w n (k, s)) at) (seen_target (shown n) r.target) u.0
      (field_read k at ∙ fields_there w n is carried_are k s here at ∙ field_made w n is k s here at r there u.0 u.1) (reloc_made w n is k s here at r there) u.2

  contents_have : (k : ℕ) (s : Section) → slice_get n.sections k ≡ Some s → HasContents (again n) k (seen_section coff_manner n (k, s)) (made_contents w n (k, s))
  unfolding raw_of
  contents_have k s here =
      let c = coded_section w n is k s here in
      contents_by_kind coff_manner n (are_shown w n is.format) k s c.bytes (sym (zero_kind (seen_kind s)) ∙ c.zeros) (raw_of w n k s) (length-raw w n k s)
      (patched_beside coff_manner n (are_shown w n is.format) (λ at. field_patch w) (λ at r. refl) k s.bytes) (same_kind Zero (seen_kind s)) c.zeros

  word_back : (w : CoffForm) → word_of w ≡ word_for (format_of w)
  word_back w = elim w as (λ w. word_of w ≡ word_for (format_of w)) [ Usual32 ↦ refl | Usual64 ↦ refl | Big32 ↦ refl | Big64 ↦ refl ]

  file_made : IsMadeFile (coff_dialect w) coff_manner file n (made_section w n)
  file_made = record {
    word = word_back w;
    manner = manner_is w n is.format;
    sections = ap sections_in read ∙ sections_are;
    frames = λ k s here. let e : 1 + k ≡ k + 1 = omega arith in ap (λ m. frame_of (record (made_section w n (k, s)) { number = m })) e;
    contents = contents_have;
    symbols = symbols_are;
    given = given;
    free = λ k s here at none. field_read k at ∙ fields_there w n is carried_are k s here at ∙ no_field w n is k s here at none;
    past = λ k at high. field_read k at ∙ fields_past w n is carried_are k at high;
  }

  pub coff_shows : IsFitted (format_of w) n → Shows (coff_dialect w) file all (seen n)
  coff_shows fitted = made_file_shows (coff_dialect w) coff_manner file n (made_section w n) fitted file_made
