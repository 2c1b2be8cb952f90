-- What is built of a module without faults can be finished, and shows it.
use Rattle.std.proofs.Common.{◌≡◌, ℕ, zero, suc, ◌+◌, ◌≤◌, List, [], ◌∷◌, ◌++◌, get_or, length, map, Option, None, Some, refl, sym, ◌∙◌, ap, subst, arith}
use Rattle.std.specs.{Prelude.{slice_get}, List.{AllByRecursion, enumerate_from}, Option.{option_map}}
use Rattle.std.proofs.Math.Seq.{take-length}
use Rattle.std.proofs.lemmas.{Bool.{true≢false}, Option.{none-some}}
use Rattle.oc_chains.specs.declared.field.Field.{Field}
use Rattle.oc_linking.specs.{declared.terms.Keep.{Keep}, FirstFault.{Stage, first_fault, stage_fault}}
use Rattle.oc_linking.specs.Parts as parts
use Rattle.oc_neutral.specs.{declared.reloc.Reloc.{Reloc}, declared.section.Section.{Section}, Building.{Draft}}
use Rattle.oc_neutral.specs.{Invariants.{AreBegun, AreBytes, IsAlign, IsComplete, IsHinted, IsSymbol, NamesOriginal, groups_of}, Objects.{Object}}
use Rattle.oc_shows.specs.{Built.{HasAdded, IsStarted}, Computed.{computed_symbol}, Finished.{AreFinal, LeavesBlanks}, Readable.{IsReadable}, Shows.{Shows}}
use Rattle.oc_shows.specs.Started.{stored_section}
use Rattle.oc_shows.proofs.{BuiltLaws.{built_shows}, BuiltWhole.{built_is_complete, built_is_readable}, StartedLaws.{fieldless_at}}
use Rattle.oc_shelf.proofs.{ReadingLaws.StageLemmas.{first_fault-append}, WritingLaws.MemberLemmas.{of_map}, ReadingLaws.CollectedLemmas.{all_mapped}}
use Rattle.oc_omf.specs.{declared.structures.Segment.{Segment}, Entries.{Entry, entries_in}, HeaderFaults.{IsModule, header_stage}}
use Rattle.oc_omf.specs.{RelocationFaults.{relocation_stages}, Rules.{fault_of, omf_dialect, stages_of}, SectionFaults.{section_stage}}
use Rattle.oc_omf.specs.{Sections.{align_code, section_of, sections_in}, SymbolFaults.{symbol_stages}, Symbols.{symbols_in}, Tables.{tables_of}}
use Rattle.oc_omf.specs.Tables as all
use Rattle.oc_omf_read.specs.{Built.{started}, Given.{given_at}}
use Rattle.oc_omf_read.proofs.{AddedFields.{standing_named}, ReadyFields.{few_symbols_in}, ContentLemmas.{good_segment}, GivenFields.{free_or_given}}
use Rattle.oc_omf_read.proofs.{ListedFields.{given_standing}, LocalLemmas.{none_of}, ReadableLemmas.{readable}, StandingFields.{standing_hint}}
use Rattle.oc_omf_read.proofs.WholeSymbols.{symbol_whole}

groups_none : (t : all.Tables) (xs : List (ℕ × Segment)) → AreBegun 0 0 (groups_of (map (stored_section []) (map (section_of t) xs)))
groups_none t [] = refl
groups_none t (x ∷ xs) = (tt, groups_none t xs)

-- the codes of alignments
aligned_by : (code : ℕ) → 1 ≤ code → code ≤ 5 → IsAlign (get_or (0 ∷ 1 ∷ 2 ∷ 16 ∷ 256 ∷ 4 ∷ []) code 0)
aligned_by zero first last = absurd (omega (arith, first))
aligned_by (suc zero) first last = (0, omega arith, refl)
aligned_by (suc (suc zero)) first last = (1, omega arith, refl)
aligned_by (suc (suc (suc zero))) first last = (4, omega arith, refl)
aligned_by (suc (suc (suc (suc zero)))) first last = (8, omega arith, refl)
aligned_by (suc (suc (suc (suc (suc zero))))) first last = (2, omega arith, refl)
aligned_by (suc (suc (suc (suc (suc (suc n)))))) first last = absurd (omega (arith, last))

numbered_back : (n : ℕ) (xs : List Segment) (k : ℕ) (y : ℕ × Segment) → slice_get (enumerate_from n xs) k ≡ Some y → slice_get xs k ≡ Some y.1
numbered_back n [] k y e = absurd (none-some y.1 (absurd (none-some y e)))
numbered_back n (x ∷ xs) zero y e = ap (λ (o : Option (ℕ × Segment)). option_map (λ (z : ℕ × Segment). z.1) o) e
numbered_back n (x ∷ xs) (suc k) y e = numbered_back (n + 1) xs k y e

module _ (file : List ℕ) (bytes : AreBytes file) (head : IsModule file) (keep : Keep) (sections : stage_fault (section_stage (entries_in file)) ≡ None) (symbols : first_fault (symbol_stages (entries_in file)) ≡ None)
    (relocs : first_fault (relocation_stages (entries_in file) keep) ≡ None) where
  abbrev es : List Entry
  es = entries_in file

  abbrev t : all.Tables
  t = tables_of es

  abbrev object : Object
  object = (started file).object

  few : length (symbols_in es) ≤ 4294967295
  few = few_symbols_in file head symbols

  aligned : (k : ℕ) (s : parts.Section) → slice_get (sections_in t) k ≡ Some s → IsAlign s.align
  unfolding sections_in
  aligned k s here =
      let m = of_map (section_of t) (enumerate_from 1 t.segments) k s here in
      let there = numbered_back 1 t.segments k m.0 m.1 in
      let sound = (good_segment file sections k m.0.1 there).1.aligned in
      subst (λ (x : parts.Section). IsAlign x.align) m.2 (aligned_by (align_code m.0.1) sound.0 sound.1)

  complete : IsComplete object
  unfolding sections_in
  complete = record {
    keys = record { differ = λ i j g h low at_i at_j. absurd (none-some g at_i); full = tt };
    begun = groups_none t (enumerate_from 1 t.segments);
    aligns = all_mapped (λ (x : Section). IsAlign x.align) (stored_section []) (sections_in t) aligned;
    symbols = subst (AllByRecursion (IsSymbol object)) (ap (map (computed_symbol (symbols_in es))) (sym (take-length (symbols_in es)))) (all_mapped (IsSymbol object) (computed_symbol (symbols_in es)) (symbols_in es) (symbol_whole file bytes sections symbols few));
    hints = λ s. subst (AllByRecursion (λ (x : Field Reloc). IsHinted x.item)) (sym (fieldless_at {T = Reloc} (map (stored_section []) (sections_in t)) s)) tt;
    originals = λ s. subst (AllByRecursion (λ (x : Field Reloc). NamesOriginal object.symbols x.item.target)) (sym (fieldless_at {T = Reloc} (map (stored_section []) (sections_in t)) s)) tt;
  }

  are_final : AreFinal object (given_at es keep)
  are_final = record {
    hints = λ s at r e call. absurd (standing_hint file keep sections relocs s at r (given_standing file keep sections relocs s at r e) call);
    originals = λ s at r e. (standing_named file bytes keep sections symbols relocs few s at r (given_standing file keep sections relocs s at r e)).original;
  }

  leaves_blanks : LeavesBlanks object (given_at es keep)
  leaves_blanks s x there blank at = absurd (true≢false (sym blank))

  module _ (start : IsStarted omf_dialect file keep (started file)) (d : Draft) (added : HasAdded (started file) d (given_at es keep)) where
    pub read_complete : IsComplete d.object
    read_complete = built_is_complete omf_dialect file keep (started file) d (given_at es keep) start added complete are_final

    pub read_readable : IsReadable d.object
    read_readable = built_is_readable omf_dialect file keep (started file) d (given_at es keep) start added (readable file) leaves_blanks

    pub read_shows : Shows omf_dialect file keep d.object
    read_shows = built_shows omf_dialect file keep (started file) d (given_at es keep) start added (free_or_given file keep object start.symbols)

-- ... stages

-- a module without a fault has none of sections, of symbols, or of relocations
pub record IsClean (file : List ℕ) (keep : Keep) : Type 0 where
  pub sections : stage_fault (section_stage (entries_in file)) ≡ None
  pub symbols : first_fault (symbol_stages (entries_in file)) ≡ None
  pub relocs : first_fault (relocation_stages (entries_in file) keep) ≡ None

pub stages_clean : (file : List ℕ) (keep : Keep) → fault_of file keep ≡ None → IsClean file keep
unfolding fault_of stages_of
stages_clean file keep clean =
    let rest : List Stage = symbol_stages (entries_in file) ++ relocation_stages (entries_in file) keep in
    let a = none_of (stage_fault (header_stage file)) (first_fault (section_stage (entries_in file) ∷ rest)) clean in
    let b = none_of (stage_fault (section_stage (entries_in file))) (first_fault rest) a.1 in
    let c = none_of (first_fault (symbol_stages (entries_in file))) (first_fault (relocation_stages (entries_in file) keep)) (sym (first_fault-append (symbol_stages (entries_in file)) (relocation_stages (entries_in file) keep)) ∙ b.1) in
    record { sections = b.0; symbols = c.0; relocs = c.1 }
