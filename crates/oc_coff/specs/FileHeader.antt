-- The file header (PE/COFF, "COFF File Header"; winnt.h, "ANON_OBJECT_HEADER_BIGOBJ").
use Rattle.std.specs.Prelude.{ℕ, List, [], ◌∷◌, ◌++◌}
use Rattle.oc_base.specs.Numbers.{number_at}
use Rattle.oc_shelf.specs.Writing.Packed.{packed}
use Rattle.oc_coff.specs.{declared.file_header.FileHeader.{FileHeader}, declared.constants.TheConstants.{BIG_SIGNATURE, IMAGE_FILE_MACHINE_UNKNOWN}}
use Rattle.oc_coff.specs.{declared.form.Shape.{Shape}, declared.form.Shape.TheVariants.{Usual, Big}}

-- the file header; what a shape has no room for is 0
unfoldable pub file_header_of : Shape → List ℕ → FileHeader
file_header_of Usual file = record {
  Machine = number_at file 0 2;
  NumberOfSections = number_at file 2 2;
  TimeDateStamp = number_at file 4 4;
  PointerToSymbolTable = number_at file 8 4;
  NumberOfSymbols = number_at file 12 4;
  SizeOfOptionalHeader = number_at file 16 2;
  Characteristics = number_at file 18 2;
  Version = 0;
}
file_header_of Big file = record {
  Machine = number_at file 6 2;
  NumberOfSections = number_at file 44 4;
  TimeDateStamp = number_at file 8 4;
  PointerToSymbolTable = number_at file 48 4;
  NumberOfSymbols = number_at file 52 4;
  SizeOfOptionalHeader = 0;
  Characteristics = 0;
  Version = number_at file 4 2;
}

-- the ClassID of an object of many sections, C7 A1 BA D1 EE BA A9 4B AF 20 FA F6 6A A4 DC B8, as four numbers of four bytes
abbrev pub class_id : List (ℕ × ℕ)
class_id = (4, 0xD1BAA1C7) ∷ (4, 0x4BA9BAEE) ∷ (4, 0xF6FA20AF) ∷ (4, 0xB8DCA46A) ∷ []

-- its numbers, each after its width; of an object of many sections SizeOfData, Flags, MetaDataSize and MetaDataOffset are not used
abbrev pub file_header_numbers : Shape → FileHeader → List (ℕ × ℕ)
file_header_numbers Usual h = (2, h.Machine) ∷ (2, h.NumberOfSections) ∷ (4, h.TimeDateStamp) ∷ (4, h.PointerToSymbolTable) ∷ (4, h.NumberOfSymbols)
    ∷ (2, h.SizeOfOptionalHeader) ∷ (2, h.Characteristics) ∷ []
file_header_numbers Big h = (2, IMAGE_FILE_MACHINE_UNKNOWN) ∷ (2, BIG_SIGNATURE) ∷ (2, h.Version) ∷ (2, h.Machine) ∷ (4, h.TimeDateStamp)
    ∷ class_id ++ (4, 0) ∷ (4, 0) ∷ (4, 0) ∷ (4, 0)
    ∷ (4, h.NumberOfSections) ∷ (4, h.PointerToSymbolTable) ∷ (4, h.NumberOfSymbols) ∷ []

-- its bytes
unfoldable pub file_header_bytes : Shape → FileHeader → List ℕ
file_header_bytes shape h = packed (file_header_numbers shape h)
