-- The symbols among the entries of a symbol table (PE/COFF, "COFF Symbol Table", "Storage Class" and "Section Number Values").
use Rattle.std.specs.{Prelude.{ℕ, zero, suc, ◌+◌, Bool, ◌&&◌, nat_eq, nat_le, if◌then◌else◌, List, [], ◌∷◌, find, Option, Some, None}, Option.{unwrap_or}}
use Rattle.oc_coff.specs.{declared.symbol.SymbolEntry.{SymbolEntry}, declared.constants.TheConstants.{IMAGE_SYM_SECTION_MAX_EX}, Tables.{Slot, Tables}}
use Rattle.oc_coff.specs.Names.{symbol_name}

-- a symbol with its number, and its first auxiliary entry, where it has one in the table
pub record Entry : Type 0 where
  pub number : ℕ
  pub symbol : SymbolEntry
  pub aux : Option Slot

-- the first of the entries
abbrev pub first_of : List Slot → Option Slot
first_of [] = None
first_of (x ∷ entries) = Some x

-- the symbols among the entries from number i on, of which the first `auxiliary` belong to the symbol before
abbrev pub symbols_from : ℕ → ℕ → List Slot → List Entry
symbols_from i auxiliary [] = []
symbols_from i zero (x ∷ entries) =
    record { number = i; symbol = x.symbol; aux = if nat_eq x.symbol.NumberOfAuxSymbols 0 then None else first_of entries }
    ∷ symbols_from (i + 1) x.symbol.NumberOfAuxSymbols entries
symbols_from i (suc auxiliary) (x ∷ entries) = symbols_from (i + 1) auxiliary entries

-- the symbols of a file, auxiliary entries passed over
unfoldable pub entries_in : Tables → List Entry
entries_in t = symbols_from 0 0 t.entries

-- the symbol of a number
abbrev pub entry_numbered : List Entry → ℕ → Option Entry
entry_numbered entries j = find (λ e. nat_eq e.number j) entries

-- the name of a symbol, empty where it cannot be read
abbrev pub name_of : List ℕ → Entry → List ℕ
name_of strings e = unwrap_or (symbol_name strings e.symbol.Name) []

-- a symbol is of a class
abbrev pub is_class : ℕ → SymbolEntry → Bool
is_class class s = nat_eq s.StorageClass class

-- the symbol has a section of the file
abbrev pub has_section : SymbolEntry → Bool
has_section s = nat_le 1 s.SectionNumber && nat_le s.SectionNumber IMAGE_SYM_SECTION_MAX_EX

-- it has that one
abbrev pub is_in : ℕ → SymbolEntry → Bool
is_in k s = has_section s && nat_eq s.SectionNumber k
