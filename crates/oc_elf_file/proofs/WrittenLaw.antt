-- The canonical file of an object that is ready for ELF is well formed and shows the object that is seen.
use Rattle.std.proofs.Common.{◌≡◌, ℕ, None, sym, subst, List, length}
use Rattle.std.specs.List.{AllByRecursion}
use Rattle.oc_linking.specs.Keeping.{all}
use Rattle.oc_neutral.specs.Objects.{Object}
use Rattle.oc_shelf.proofs.ReadingLaws.StageLemmas.{Unbroken, IsUnbroken, no_first_fault}
use Rattle.oc_elf.specs.{declared.class.ElfClass.{ElfClass}, Elf.{elf_is_dialect, rest_stages, stages_of, fault_in}, Frames.{FileFrame, zero_in}}
use Rattle.oc_elf.specs.{Headers.{header_stage, names_stage, header_conditions, names_conditions}, Classes.{word_of}}
use Rattle.oc_elf_file.specs.{Canonical.{file_header, elf_file}, Writing.{ElfIsWritten}}
use Rattle.oc_elf_file.proofs.{FrameLaws.{IsCodable, made_frame, header_read, zero_read, frame_read}, CodedLaws.{IsForElf, for_elf}, CodableLaws.{has_numbers}}
use Rattle.oc_elf_file.proofs.{ShowsLaw.{elf_shows}, HeaderClean.{header_clean, names_clean}, SectionClean.{sections_clean}, SymbolClean.{symbols_clean}}
use Rattle.oc_elf_file.proofs.RelocationClean.{relocations_clean}

module _ (class : ElfClass) (n : Object) (is : IsForElf class n) (fits : IsCodable class n) where
  abbrev file : List ℕ
  file = elf_file class n

  header_stage_clean : IsUnbroken (header_stage class file)
  header_stage_clean i low =
      subst (λ h. Unbroken (header_conditions class (length file) h (zero_in (word_of class) file))) (sym (header_read class n fits))
      (subst (λ z. Unbroken (header_conditions class (length file) (file_header class n) z)) (sym (zero_read class n fits)) (header_clean class n is fits))

  names_stage_clean : IsUnbroken (names_stage class file)
  names_stage_clean i low = subst (λ (f : FileFrame). Unbroken (names_conditions (length f.headers) f.names)) (sym (frame_read class n fits)) (names_clean class n is fits)

  rest_clean : AllByRecursion IsUnbroken (rest_stages (made_frame class n) all)
  rest_clean = (sections_clean class n is fits, (symbols_clean class n is fits, relocations_clean class n is fits))

  pub well_formed : fault_in class file all ≡ None
  unfolding fault_in
  well_formed =
      no_first_fault (stages_of class file all)
      (header_stage_clean, (names_stage_clean, subst (λ (f : FileFrame). AllByRecursion IsUnbroken (rest_stages f all)) (sym (frame_read class n fits)) rest_clean))

pub elf_is_written : ElfIsWritten
elf_is_written class = record {
  dialect = elf_is_dialect class;
  written = λ n fitted.
      let is = for_elf class n fitted in
      let fits = has_numbers class n is in
      record { well_formed = well_formed class n is fits; shows = elf_shows class n is fits fitted };
}
