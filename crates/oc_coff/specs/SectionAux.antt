-- The auxiliary entry after a section's own symbol (PE/COFF, "Auxiliary Format 5: Section Definitions"; winnt.h, "IMAGE_AUX_SYMBOL_EX").
use Rattle.std.specs.Prelude.{ℕ, ◌+◌, ◌*◌, ◌/◌, ◌%◌, List, [], ◌∷◌}
use Rattle.oc_base.specs.Numbers.{number_at}
use Rattle.oc_shelf.specs.Writing.Packed.{packed}
use Rattle.oc_coff.specs.{declared.form.Shape.{Shape}, declared.form.Shape.TheVariants.{Usual, Big}, declared.section_aux.SectionAux.{SectionAux}}
use Rattle.oc_coff.specs.declared.section_aux.TheConstants.{HIGH_NUMBER}

-- the number of the other section
abbrev pub other_number : Shape → List ℕ → ℕ → ℕ
other_number Usual file at = number_at file (at + 12) 2
other_number Big file at = number_at file (at + 12) 2 + HIGH_NUMBER * number_at file (at + 16) 2

-- the auxiliary entry at a place of the file
unfoldable pub section_aux_at : Shape → List ℕ → ℕ → SectionAux
section_aux_at shape file at = record {
  Length = number_at file at 4;
  NumberOfRelocations = number_at file (at + 4) 2;
  NumberOfLinenumbers = number_at file (at + 6) 2;
  CheckSum = number_at file (at + 8) 4;
  Number = other_number shape file at;
  Selection = number_at file (at + 14) 1;
}

-- its numbers, each after its width; what is left is unused
abbrev pub section_aux_numbers : Shape → SectionAux → List (ℕ × ℕ)
section_aux_numbers Usual a = (4, a.Length) ∷ (2, a.NumberOfRelocations) ∷ (2, a.NumberOfLinenumbers) ∷ (4, a.CheckSum) ∷ (2, a.Number) ∷ (1, a.Selection) ∷ (3, 0) ∷ []
section_aux_numbers Big a = (4, a.Length) ∷ (2, a.NumberOfRelocations) ∷ (2, a.NumberOfLinenumbers) ∷ (4, a.CheckSum) ∷ (2, a.Number % HIGH_NUMBER) ∷ (1, a.Selection) ∷ (1, 0)
    ∷ (2, a.Number / HIGH_NUMBER) ∷ (2, 0) ∷ []

-- its bytes
unfoldable pub section_aux_bytes : Shape → SectionAux → List ℕ
section_aux_bytes shape a = packed (section_aux_numbers shape a)
