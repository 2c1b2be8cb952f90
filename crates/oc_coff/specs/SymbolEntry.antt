-- Symbol table entries (PE/COFF, "COFF Symbol Table" and "Section Number Values"; winnt.h, "IMAGE_SYMBOL_EX").
use Rattle.std.specs.Prelude.{ℕ, ◌+◌, ◌%◌, ◌^◌, nat_lt, if◌then◌else◌, List, [], ◌∷◌, ◌++◌, take, drop}
use Rattle.oc_base.specs.Numbers.{number_at}
use Rattle.oc_shelf.specs.Writing.Packed.{packed}
use Rattle.oc_coff.specs.{declared.form.Shape.{Shape}, declared.form.Shape.TheVariants.{Usual, Big}, declared.symbol.SymbolEntry.{SymbolEntry}}
use Rattle.oc_coff.specs.declared.symbol.TheConstants.{NEGATIVE_SECTION, SIGN_BITS}

-- a section number of 16 bits with its sign in 32 bits: those from 0xFF00 up are below 0
abbrev pub signed_number : ℕ → ℕ
signed_number n = if nat_lt n NEGATIVE_SECTION then n else n + SIGN_BITS

-- the symbol table entry at a place of the file
unfoldable pub symbol_at : Shape → List ℕ → ℕ → SymbolEntry
symbol_at Usual file at = record {
  Name = take 8 (drop at file);
  Value = number_at file (at + 8) 4;
  SectionNumber = signed_number (number_at file (at + 12) 2);
  «Type» = number_at file (at + 14) 2;
  StorageClass = number_at file (at + 16) 1;
  NumberOfAuxSymbols = number_at file (at + 17) 1;
}
symbol_at Big file at = record {
  Name = take 8 (drop at file);
  Value = number_at file (at + 8) 4;
  SectionNumber = number_at file (at + 12) 4;
  «Type» = number_at file (at + 16) 2;
  StorageClass = number_at file (at + 18) 1;
  NumberOfAuxSymbols = number_at file (at + 19) 1;
}

-- its numbers after the name, each after its width
abbrev pub symbol_numbers : Shape → SymbolEntry → List (ℕ × ℕ)
symbol_numbers Usual s = (4, s.Value) ∷ (2, s.SectionNumber % 2 ^ 16) ∷ (2, s.Type) ∷ (1, s.StorageClass) ∷ (1, s.NumberOfAuxSymbols) ∷ []
symbol_numbers Big s = (4, s.Value) ∷ (4, s.SectionNumber) ∷ (2, s.Type) ∷ (1, s.StorageClass) ∷ (1, s.NumberOfAuxSymbols) ∷ []

-- its bytes
unfoldable pub symbol_bytes : Shape → SymbolEntry → List ℕ
symbol_bytes shape s = s.Name ++ packed (symbol_numbers shape s)
