-- The canonical file of an object that is ready for Mach-O is well formed and shows the object that is seen.
use Rattle.std.proofs.Common.{◌≡◌, List, ◌∷◌, ℕ, None, sym, subst, arith}
use Rattle.std.specs.List.{AllByRecursion}
use Rattle.oc_base.specs.declared.format.Word.{Word}
use Rattle.oc_linking.specs.Keeping.{all}
use Rattle.oc_neutral.specs.{Objects.{Object}, Dialects.{IsDialect}}
use Rattle.oc_shelf.proofs.ReadingLaws.StageLemmas.{IsUnbroken, no_first_fault}
use Rattle.oc_macho.specs.{HeaderFaults.{header_stage}, Rules.{rest_stages, fault_of, mach_dialect}, Tables.{Tables, tables_of}}
use Rattle.oc_macho_file.specs.{Canonical.{mach_file}, Writing.{MachIsWritten}}
use Rattle.oc_macho_file.proofs.{TableLaws.{IsCodable, made_tables, tables_read}, CodedLaws.{IsForMach, for_mach}, CountLaws.{few_lines}, FileSize.{small_file}}
use Rattle.oc_macho_file.proofs.{CodableLaws.{has_numbers}, ShowsLaw.{mach_shows}, HeaderClean.{header_clean}, SectionClean.{sections_clean}}
use Rattle.oc_macho_file.proofs.{SymbolClean.{symbols_clean}, RelocationClean.{relocations_clean}}

-- the rules of Mach-O have the word and the alignments of its format
pub mach_is_dialect : (w : Word) → IsDialect (mach_dialect w)
mach_is_dialect w = grind arith

module _ (w : Word) (n : Object) (is : IsForMach w n) (fits : IsCodable w n) where
  abbrev file : List ℕ
  file = mach_file w n

  rest_clean : AllByRecursion IsUnbroken (rest_stages (made_tables w n) all)
  rest_clean = (sections_clean w n is, (symbols_clean w n is, relocations_clean w n is fits))

  pub well_formed : fault_of w file all ≡ None
  unfolding fault_of
  well_formed = no_first_fault (header_stage w file ∷ rest_stages (tables_of w file) all) (header_clean w n fits, subst (λ (t : Tables). AllByRecursion IsUnbroken (rest_stages t all)) (sym (tables_read w n fits)) rest_clean)

pub mach_is_written : MachIsWritten
mach_is_written w = record {
  dialect = mach_is_dialect w;
  written = λ n fitted.
      let is = for_mach w n fitted in
      let fits = has_numbers w n is (small_file w n is) (few_lines w n is) in
      record { well_formed = well_formed w n is fits; shows = mach_shows w n is fits fitted };
}
