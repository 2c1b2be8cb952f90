-- Section headers (PE/COFF, "Section Table").
use Rattle.std.specs.Prelude.{ℕ, ◌+◌, List, [], ◌∷◌, ◌++◌, take, drop}
use Rattle.oc_base.specs.Numbers.{number_at}
use Rattle.oc_shelf.specs.Writing.Packed.{packed}
use Rattle.oc_coff.specs.declared.section_header.SectionHeader.{SectionHeader}

-- the section header at a place of the file
unfoldable pub section_header_at : List ℕ → ℕ → SectionHeader
section_header_at file at = record {
  Name = take 8 (drop at file);
  VirtualSize = number_at file (at + 8) 4;
  VirtualAddress = number_at file (at + 12) 4;
  SizeOfRawData = number_at file (at + 16) 4;
  PointerToRawData = number_at file (at + 20) 4;
  PointerToRelocations = number_at file (at + 24) 4;
  PointerToLinenumbers = number_at file (at + 28) 4;
  NumberOfRelocations = number_at file (at + 32) 2;
  NumberOfLinenumbers = number_at file (at + 34) 2;
  Characteristics = number_at file (at + 36) 4;
}

-- its bytes
unfoldable pub section_header_bytes : SectionHeader → List ℕ
section_header_bytes h = h.Name ++ packed ((4, h.VirtualSize) ∷ (4, h.VirtualAddress) ∷ (4, h.SizeOfRawData) ∷ (4, h.PointerToRawData)
    ∷ (4, h.PointerToRelocations) ∷ (4, h.PointerToLinenumbers) ∷ (2, h.NumberOfRelocations) ∷ (2, h.NumberOfLinenumbers) ∷ (4, h.Characteristics) ∷ [])
