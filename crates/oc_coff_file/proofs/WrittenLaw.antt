-- The canonical file of an object that is ready for COFF is well formed and shows the object that is seen.
use Rattle.oc_coff.specs.{Forms.{shape_of, word_of}, declared.form.CoffForm.{CoffForm}, HeaderFaults.{header_conditions, header_stage}}
use Rattle.oc_coff.specs.{SectionFaults.{section_stage}, SymbolFaults.{symbol_stage}, RelocationFaults.{relocation_stage}}
use Rattle.oc_coff.specs.Rules.{stages_of, fault_of, coff_dialect, fault_by}
use Rattle.std.proofs.Common.{◌≡◌, ℕ, None, sym, ◌∙◌, ap, subst, List, [], ◌∷◌, arith}
use Rattle.oc_linking.specs.{Keeping.{all}, FirstFault.{first_fault}}
use Rattle.oc_neutral.specs.{Objects.{Object}, Dialects.{IsDialect}}
use Rattle.oc_shelf.proofs.ReadingLaws.StageLemmas.{Unbroken, no_first_fault}
use Rattle.oc_coff_file.specs.{Canonical.{coff_file}, Writing.{CoffIsWritten}}
use Rattle.oc_coff_file.proofs.{TableLaws.{header_read, made_tables}, CodedLaws.{IsForCoff, for_coff}, CodableLaws.{HasNumbers, has_numbers}}
use Rattle.oc_coff_file.proofs.{ShowsLaw.{read, entries_are, carried_are, sections_are, coff_shows}, HeaderClean.{header_clean}, SectionClean.{sections_clean}}
use Rattle.oc_coff_file.proofs.{SymbolClean.{symbols_clean}, RelocationClean.{relocations_clean}}

-- COFF has the words and the alignments of its format
pub coff_is_dialect : (w : CoffForm) → IsDialect (coff_dialect w)
coff_is_dialect w = grind arith

module _ (w : CoffForm) (n : Object) (is : IsForCoff w n) (numbers : HasNumbers w n) where
  abbrev file : List ℕ
  file = coff_file w n

  pub well_formed : fault_of w file all ≡ None
  unfolding fault_by stages_of
  well_formed =
      ap (λ t. first_fault (header_stage (shape_of w) file ∷ section_stage file t ∷ symbol_stage t ∷ relocation_stage (word_of w) t all ∷ [])) (read w n is numbers)
      ∙ no_first_fault (header_stage (shape_of w) file ∷ section_stage file (made_tables w n) ∷ symbol_stage (made_tables w n) ∷ relocation_stage (word_of w) (made_tables w n) all ∷ []) (
        (λ i l. subst (λ h. Unbroken (header_conditions (shape_of w) file h)) (sym (header_read w n numbers.codable)) (header_clean w n numbers.codable)),
        (
          sections_clean w n is numbers (entries_are w n is numbers),
          (
            symbols_clean w n is numbers (sections_are w n is numbers) (entries_are w n is numbers),
            (relocations_clean w n is numbers (sections_are w n is numbers) (entries_are w n is numbers) (carried_are w n is numbers), tt),
          ),
        ),
      )

pub coff_is_written : CoffIsWritten
coff_is_written w = record {
  dialect = coff_is_dialect w;
  written = λ n fits.
      let is = for_coff w n fits in
      let numbers = has_numbers w n is in
      record { well_formed = well_formed w n is numbers; shows = coff_shows w n is numbers fits };
}
