-- What files are refused for, computed on worked files that were changed at some places: each condition alone, and beside the one before it.
use Rattle.std.proofs.Common.{◌≡◌, ℕ, zero, suc, true, false, List, [], ◌∷◌, ◌++◌, length, map, Some, None, Option, refl}
use Rattle.std.specs.{Prelude.{drop, replicate, take}, Option.{option_map}}
use Rattle.oc_coff.specs.{declared.form.CoffForm.{CoffForm}, declared.form.CoffForm.TheVariants.{Usual32, Usual64}, FileHeader.{file_header_of}}
use Rattle.oc_coff.specs.{SectionHeader.{section_header_at}, SymbolEntry.{symbol_at}, SectionAux.{section_aux_at}, WeakAux.{weak_aux_at}}
use Rattle.oc_coff.specs.{Relocation.{relocation_at}, Tables.{section_table, slot_at, strings_of, entries_of, section_tables, tables_of}}
use Rattle.oc_coff.specs.{Names.{string_at, section_name, symbol_name}, Entries.{entries_in}, Comdat.{definition_in, led_key, key_in}}
use Rattle.oc_coff.specs.{Sections.{kind_in, carried_of, carried_in, position_of}, Symbols.{value_of, binding_of, symbol_of, symbols_in}, Targets.{aim_in}}
use Rattle.oc_coff.specs.{Fields.{field_by, fields_in}, HeaderFaults.{header_conditions}, SectionFaults.{section_conditions}, SymbolFaults.{symbol_conditions}}
use Rattle.oc_coff.specs.{RelocationFaults.{relocation_conditions, judged_in}, Rules.{coff_rules, fault_by, stages_of}}
use Rattle.oc_base.specs.{declared.code.Code.{Code}, declared.fault.Fault.{Fault}, declared.fault.Phase.{Phase}, Numbers.{number_at}}
use Rattle.oc_base.specs.declared.code.Code.TheVariants as code
use Rattle.oc_base.specs.declared.fault.Phase.TheVariants as phase
use Rattle.oc_linking.specs.{declared.terms.Keep.{Keep}, Keeping.{all}}
use Rattle.oc_neutral.specs.Coff.Kinds.{coff_kind, coff_tag}
use Rattle.oc_coff.proofs.WorkedFiles.{call, grouped, msvc, weakened, tails, nearer, overflowed, copied, zeroed, manifold, assorted}

-- a fault: its phase, index, code and place
abbrev Told : Type 0
Told = Option (Phase × ℕ × Code × ℕ)

abbrev told : Phase → ℕ → Code → ℕ → Told
told phase index code place = Some (phase, index, code, place)

abbrev told_of : CoffForm → List ℕ → Told
told_of w file = option_map (λ (f : Fault). (f.phase, f.index, f.code, f.place)) ((coff_rules w).fault file all)

-- a file with other bytes from an offset on
abbrev with : ℕ → List ℕ → List ℕ → List ℕ
with zero bytes file = bytes ++ drop (length bytes) file
with (suc at) bytes [] = []
with (suc at) bytes (b ∷ file) = b ∷ with at bytes file

-- and at several
abbrev patched : List (ℕ × List ℕ) → List ℕ → List ℕ
patched [] file = file
patched (p ∷ patches) file = with p.0 p.1 (patched patches file)

-- what is changed of a file, and the fault that it then has
abbrev FaultRow : Type 0
FaultRow = List (ℕ × List ℕ) × Told

-- the header, and what it places
abbrev header_rows : List FaultRow
header_rows =
    -- the file as it is
    ([], None)
    -- an optional header
    ∷ ((16, 1 ∷ []) ∷ [], told phase.Header 0 code.NotRelocatable 0)
    -- symbols without a place, alone and beside it
    ∷ ((8, 0 ∷ 0 ∷ 0 ∷ 0 ∷ []) ∷ [], told phase.Header 0 code.BadHeader 0)
    ∷ ((8, 0 ∷ 0 ∷ 0 ∷ 0 ∷ []) ∷ (16, 1 ∷ []) ∷ [], told phase.Header 0 code.NotRelocatable 0)
    -- no symbols at all: then no field has a target
    ∷ ((8, 0 ∷ 0 ∷ 0 ∷ 0 ∷ []) ∷ (12, 0 ∷ 0 ∷ 0 ∷ 0 ∷ []) ∷ [], told phase.Relocation 1 code.BadTarget 66)
    -- more section headers than the file has room for, alone and beside symbols without a place
    ∷ ((2, 255 ∷ 255 ∷ []) ∷ [], told phase.Header 0 code.Short 20)
    ∷ ((2, 4 ∷ []) ∷ [], told phase.Header 0 code.Short 20)
    ∷ ((2, 4 ∷ []) ∷ (8, 0 ∷ 0 ∷ 0 ∷ 0 ∷ []) ∷ [], told phase.Header 0 code.BadHeader 0)
    -- more symbols, alone and beside more section headers
    ∷ ((12, 5 ∷ []) ∷ [], told phase.Header 0 code.Short 76)
    ∷ ((12, 255 ∷ 255 ∷ 255 ∷ 255 ∷ []) ∷ [], told phase.Header 0 code.Short 76)
    ∷ ((12, 5 ∷ []) ∷ (2, 4 ∷ []) ∷ [], told phase.Header 0 code.Short 20)
    ∷ ((8, 255 ∷ 255 ∷ 255 ∷ 255 ∷ []) ∷ [], told phase.Header 0 code.Short 4294967295)
    -- a string table whose size is below its own four bytes, and one that is longer than the file
    ∷ ((148, 3 ∷ []) ∷ [], told phase.Header 0 code.BadHeader 0)
    ∷ ((148, 5 ∷ []) ∷ [], told phase.Header 0 code.Short 148)
    ∷ ((148, 5 ∷ []) ∷ (12, 5 ∷ []) ∷ [], told phase.Header 0 code.Short 76)
    -- what is judged first: the header
    ∷ ((148, 5 ∷ []) ∷ (32, 1 ∷ []) ∷ [], told phase.Header 0 code.Short 148) ∷ []

header-faults : map (λ (r : FaultRow). told_of Usual32 (patched r.0 call)) header_rows ≡ map (λ (r : FaultRow). r.1) header_rows
unfolding file_header_of section_header_at symbol_at section_aux_at weak_aux_at relocation_at section_table slot_at strings_of entries_of section_tables tables_of string_at section_name symbol_name entries_in definition_in led_key key_in kind_in carried_of carried_in position_of value_of binding_of symbol_of symbols_in aim_in field_by fields_in number_at coff_kind coff_tag fault_by stages_of header_conditions section_conditions symbol_conditions relocation_conditions judged_in
header-faults = refl

-- the section headers
abbrev section_rows : List FaultRow
section_rows =
    -- names: `/` without digits, with a letter, with an offset in the head of the string table, and behind it
    ((20, 47 ∷ 0 ∷ 0 ∷ 0 ∷ 0 ∷ []) ∷ [], told phase.Section 1 code.BadName 20)
    ∷ ((20, 47 ∷ 120 ∷ 0 ∷ 0 ∷ 0 ∷ []) ∷ [], told phase.Section 1 code.BadName 20)
    ∷ ((20, 47 ∷ 51 ∷ 0 ∷ 0 ∷ 0 ∷ []) ∷ [], told phase.Section 1 code.BadName 20)
    ∷ ((20, 47 ∷ 52 ∷ 0 ∷ 0 ∷ 0 ∷ []) ∷ [], told phase.Section 1 code.BadName 20)
    -- an address, alone and beside a bad name
    ∷ ((32, 1 ∷ []) ∷ [], told phase.Section 1 code.SectionKind 20)
    ∷ ((32, 1 ∷ []) ∷ (20, 47 ∷ 0 ∷ 0 ∷ 0 ∷ 0 ∷ []) ∷ [], told phase.Section 1 code.BadName 20)
    -- an alignment of 15, alone and beside an address; one of 14, and none
    ∷ ((58, 240 ∷ []) ∷ [], told phase.Section 1 code.BadAlign 20)
    ∷ ((58, 240 ∷ []) ∷ (32, 1 ∷ []) ∷ [], told phase.Section 1 code.SectionKind 20)
    ∷ ((58, 224 ∷ []) ∷ [], None)
    ∷ ((58, 0 ∷ []) ∷ [], None)
    -- bytes without a place, alone and beside such an alignment; a section without initialized data needs none
    ∷ ((40, 0 ∷ []) ∷ [], told phase.Section 1 code.BadTable 20)
    ∷ ((40, 0 ∷ []) ∷ (58, 240 ∷ []) ∷ [], told phase.Section 1 code.BadAlign 20)
    ∷ ((40, 0 ∷ []) ∷ (36, 0 ∷ []) ∷ (52, 0 ∷ []) ∷ (120, 0 ∷ []) ∷ [], None)
    -- bytes that pass the end, by their size and by their place, alone and beside bytes without a place
    ∷ ((36, 93 ∷ []) ∷ [], told phase.Section 1 code.Short 60)
    ∷ ((40, 147 ∷ []) ∷ [], told phase.Section 1 code.Short 147)
    ∷ ((40, 0 ∷ []) ∷ (36, 93 ∷ []) ∷ [], told phase.Section 1 code.BadTable 20)
    -- relocation entries that pass the end, alone and beside bytes that do
    ∷ ((52, 9 ∷ []) ∷ [], told phase.Section 1 code.Short 66)
    ∷ ((44, 0 ∷ 0 ∷ 0 ∷ 128 ∷ []) ∷ [], told phase.Section 1 code.Short 2147483648)
    ∷ ((52, 9 ∷ []) ∷ (36, 93 ∷ []) ∷ [], told phase.Section 1 code.Short 60)
    ∷ ((52, 255 ∷ 255 ∷ []) ∷ [], told phase.Section 1 code.Short 66)
    -- a section of zeros of 2^31 bytes, alone and beside entries that pass the end; one of a byte less is refused for the field in it
    ∷ ((56, 128 ∷ 0 ∷ 80 ∷ 192 ∷ []) ∷ (36, 0 ∷ 0 ∷ 0 ∷ 128 ∷ []) ∷ [], told phase.Section 1 code.LimitSection 2147483648)
    ∷ ((56, 128 ∷ 0 ∷ 80 ∷ 192 ∷ []) ∷ (36, 0 ∷ 0 ∷ 0 ∷ 128 ∷ []) ∷ (52, 9 ∷ []) ∷ [], told phase.Section 1 code.Short 66)
    ∷ ((56, 128 ∷ 0 ∷ 80 ∷ 192 ∷ []) ∷ (36, 255 ∷ 255 ∷ 255 ∷ 127 ∷ []) ∷ [], told phase.Relocation 1 code.BadOffset 66)
    -- more bytes of contents than 64 MiB, which a section that says it has no initialized data need not hold
    ∷ ((20, 46 ∷ 100 ∷ 101 ∷ 98 ∷ 117 ∷ 103 ∷ 0 ∷ 0 ∷ []) ∷ (56, 128 ∷ 0 ∷ 80 ∷ 192 ∷ []) ∷ (40, 0 ∷ []) ∷ (36, 1 ∷ 0 ∷ 0 ∷ 4 ∷ []) ∷ [], told phase.Section 1 code.LimitBytes 67108865)
    ∷ ((20, 46 ∷ 100 ∷ 101 ∷ 98 ∷ 117 ∷ 103 ∷ 0 ∷ 0 ∷ []) ∷ (56, 128 ∷ 0 ∷ 80 ∷ 192 ∷ []) ∷ (40, 0 ∷ []) ∷ (36, 0 ∷ 0 ∷ 0 ∷ 128 ∷ []) ∷ [], told phase.Section 1 code.LimitSection 2147483648)
    -- the place of the bytes of a section of zeros is not looked at
    ∷ ((56, 128 ∷ 0 ∷ 80 ∷ 192 ∷ []) ∷ (40, 255 ∷ 255 ∷ []) ∷ (52, 0 ∷ []) ∷ [], None)
    -- a relocation table without a place is read from 0
    ∷ ((44, 0 ∷ []) ∷ [], told phase.Relocation 1 code.RelocKind 0)
    -- what is judged first: the sections
    ∷ ((32, 1 ∷ []) ∷ (146, 5 ∷ []) ∷ [], told phase.Section 1 code.SectionKind 20) ∷ []

section-faults : map (λ (r : FaultRow). told_of Usual32 (patched r.0 call)) section_rows ≡ map (λ (r : FaultRow). r.1) section_rows
unfolding file_header_of section_header_at symbol_at section_aux_at weak_aux_at relocation_at section_table slot_at strings_of entries_of section_tables tables_of string_at section_name symbol_name entries_in definition_in led_key key_in kind_in carried_of carried_in position_of value_of binding_of symbol_of symbols_in aim_in field_by fields_in number_at coff_kind coff_tag fault_by stages_of header_conditions section_conditions symbol_conditions relocation_conditions judged_in
section-faults = refl

-- the symbols
abbrev symbol_rows : List FaultRow
symbol_rows =
    -- auxiliary entries behind the end of the table
    ((147, 1 ∷ []) ∷ [], told phase.Symbol 3 code.BadSymbol 130)
    -- names: an offset behind the end of the string table, and one in its head; alone and beside such entries
    ∷ ((130, 0 ∷ 0 ∷ 0 ∷ 0 ∷ 4 ∷ []) ∷ [], told phase.Symbol 3 code.BadName 130)
    ∷ ((130, 0 ∷ 0 ∷ 0 ∷ 0 ∷ 3 ∷ []) ∷ [], told phase.Symbol 3 code.BadName 130)
    ∷ ((130, 0 ∷ 0 ∷ 0 ∷ 0 ∷ 4 ∷ []) ∷ (147, 1 ∷ []) ∷ [], told phase.Symbol 3 code.BadSymbol 130)
    -- section numbers: one more than there are, the greatest of a section, the first below zero and -3; alone and beside a bad name
    ∷ ((142, 2 ∷ []) ∷ [], told phase.Symbol 3 code.BadSymbol 130)
    ∷ ((142, 255 ∷ 254 ∷ []) ∷ [], told phase.Symbol 3 code.BadSymbol 130)
    ∷ ((142, 0 ∷ 255 ∷ []) ∷ [], told phase.Symbol 3 code.BadSymbol 130)
    ∷ ((142, 253 ∷ 255 ∷ []) ∷ [], told phase.Symbol 3 code.BadSymbol 130)
    ∷ ((142, 2 ∷ []) ∷ (130, 0 ∷ 0 ∷ 0 ∷ 0 ∷ 4 ∷ []) ∷ [], told phase.Symbol 3 code.BadName 130)
    -- an unknown class, alone and beside such a section number
    ∷ ((146, 5 ∷ []) ∷ [], told phase.Symbol 3 code.SymbolKind 130)
    ∷ ((146, 5 ∷ []) ∷ (142, 2 ∷ []) ∷ [], told phase.Symbol 3 code.BadSymbol 130)
    -- a STATIC symbol and a LABEL without a section; classes of functions and files may be without
    ∷ ((146, 3 ∷ []) ∷ [], told phase.Symbol 3 code.SymbolKind 130)
    ∷ ((146, 6 ∷ []) ∷ [], told phase.Symbol 3 code.SymbolKind 130)
    ∷ ((146, 101 ∷ []) ∷ [], told phase.Relocation 1 code.BadTarget 66)
    ∷ ((146, 103 ∷ []) ∷ [], told phase.Relocation 1 code.BadTarget 66)
    -- a weak external with a section; it is told before the end of the section
    ∷ ((142, 1 ∷ []) ∷ (146, 105 ∷ []) ∷ [], told phase.Symbol 3 code.SymbolKind 130)
    ∷ ((120, 7 ∷ []) ∷ (128, 105 ∷ []) ∷ [], told phase.Symbol 2 code.SymbolKind 112)
    -- a value behind the end of the section, and at its end
    ∷ ((120, 7 ∷ []) ∷ [], told phase.Symbol 2 code.SymbolPastEnd 112)
    ∷ ((120, 6 ∷ []) ∷ [], None)
    -- a weak external without an auxiliary entry
    ∷ ((146, 105 ∷ []) ∷ [], told phase.Symbol 3 code.BadSymbol 130)
    -- an EXTERNAL symbol of a section that is not carried; it is told after the end of the section
    ∷ ((57, 8 ∷ []) ∷ [], told phase.Symbol 2 code.SymbolKind 112)
    ∷ ((57, 8 ∷ []) ∷ (120, 7 ∷ []) ∷ [], told phase.Symbol 2 code.SymbolPastEnd 112)
    -- an EXTERNAL symbol without a name, alone and in such a section
    ∷ ((130, 0 ∷ 0 ∷ 0 ∷ []) ∷ [], told phase.Symbol 3 code.SymbolKind 130)
    ∷ ((112, 0 ∷ 0 ∷ 0 ∷ 0 ∷ []) ∷ (57, 8 ∷ []) ∷ [], told phase.Symbol 2 code.SymbolKind 112)
    -- two EXTERNAL symbols of one name; two without one; a symbol for debuggers takes no part
    ∷ ((130, 109 ∷ 97 ∷ 105 ∷ 110 ∷ 0 ∷ 0 ∷ 0 ∷ 0 ∷ []) ∷ [], told phase.Symbol 3 code.DuplicateName 130)
    ∷ ((130, 0 ∷ 0 ∷ 0 ∷ 0 ∷ 0 ∷ 0 ∷ 0 ∷ 0 ∷ []) ∷ (112, 0 ∷ 0 ∷ 0 ∷ 0 ∷ 0 ∷ 0 ∷ 0 ∷ 0 ∷ []) ∷ [], told phase.Symbol 2 code.SymbolKind 112)
    ∷ ((130, 109 ∷ 97 ∷ 105 ∷ 110 ∷ 0 ∷ 0 ∷ 0 ∷ 0 ∷ []) ∷ (142, 254 ∷ 255 ∷ []) ∷ [], told phase.Relocation 1 code.BadTarget 66)
    ∷ ((130, 109 ∷ 97 ∷ 105 ∷ 110 ∷ 0 ∷ 0 ∷ 0 ∷ 0 ∷ []) ∷ (142, 1 ∷ []) ∷ (146, 3 ∷ []) ∷ [], None)
    -- what is judged first: the symbols
    ∷ ((120, 7 ∷ []) ∷ (74, 99 ∷ []) ∷ [], told phase.Symbol 2 code.SymbolPastEnd 112) ∷ []

symbol-faults : map (λ (r : FaultRow). told_of Usual32 (patched r.0 call)) symbol_rows ≡ map (λ (r : FaultRow). r.1) symbol_rows
unfolding file_header_of section_header_at symbol_at section_aux_at weak_aux_at relocation_at section_table slot_at strings_of entries_of section_tables tables_of string_at section_name symbol_name entries_in definition_in led_key key_in kind_in carried_of carried_in position_of value_of binding_of symbol_of symbols_in aim_in field_by fields_in number_at coff_kind coff_tag fault_by stages_of header_conditions section_conditions symbol_conditions relocation_conditions judged_in
symbol-faults = refl

-- weak externals and what they tag
abbrev weak_rows : List FaultRow
weak_rows =
    -- a number behind the last entry, and one of an auxiliary entry
    ((133, 9 ∷ []) ∷ [], told phase.Symbol 3 code.BadSymbol 115)
    ∷ ((133, 1 ∷ []) ∷ [], told phase.Symbol 3 code.BadSymbol 115)
    -- itself; a STATIC symbol that is absolute, but not 0, and one that is 0; a LABEL; an EXTERNAL symbol
    ∷ ((133, 3 ∷ []) ∷ [], told phase.Symbol 3 code.SymbolKind 115)
    ∷ ((105, 1 ∷ []) ∷ (109, 255 ∷ 255 ∷ []) ∷ [], told phase.Symbol 3 code.SymbolKind 115)
    ∷ ((109, 255 ∷ 255 ∷ []) ∷ [], None)
    ∷ ((113, 6 ∷ []) ∷ [], told phase.Symbol 3 code.SymbolKind 115)
    ∷ ((113, 2 ∷ []) ∷ [], None)
    ∷ ((113, 2 ∷ []) ∷ (109, 254 ∷ 255 ∷ []) ∷ [], told phase.Symbol 3 code.SymbolKind 115)
    -- a STATIC symbol of a section that is not carried
    ∷ ((57, 8 ∷ []) ∷ [], told phase.Symbol 3 code.SymbolKind 115)
    -- no name, which is told after what it tags
    ∷ ((115, 0 ∷ []) ∷ [], told phase.Symbol 3 code.SymbolKind 115)
    ∷ ((115, 0 ∷ []) ∷ (133, 9 ∷ []) ∷ [], told phase.Symbol 3 code.BadSymbol 115) ∷ []

weak-faults : map (λ (r : FaultRow). told_of Usual64 (patched r.0 weakened)) weak_rows ≡ map (λ (r : FaultRow). r.1) weak_rows
unfolding file_header_of section_header_at symbol_at section_aux_at weak_aux_at relocation_at section_table slot_at strings_of entries_of section_tables tables_of string_at section_name symbol_name entries_in definition_in led_key key_in kind_in carried_of carried_in position_of value_of binding_of symbol_of symbols_in aim_in field_by fields_in number_at coff_kind coff_tag fault_by stages_of header_conditions section_conditions symbol_conditions relocation_conditions judged_in
weak-faults = refl

-- sections of which there are copies, where the first symbol of the section says which
abbrev copy_rows : List FaultRow
copy_rows =
    -- no selection, and each that is not known; 1, 2 and 5 are
    ((188, 0 ∷ []) ∷ [], told phase.Section 2 code.Group 60)
    ∷ ((188, 3 ∷ []) ∷ [], told phase.Section 2 code.Group 60)
    ∷ ((188, 4 ∷ []) ∷ [], told phase.Section 2 code.Group 60)
    ∷ ((188, 6 ∷ []) ∷ [], told phase.Section 2 code.Group 60)
    ∷ ((188, 1 ∷ []) ∷ [], None)
    ∷ ((188, 5 ∷ []) ∷ (186, 1 ∷ []) ∷ [], None)
    -- without the flag of copies nothing of that matters
    ∷ ((188, 3 ∷ []) ∷ (97, 0 ∷ []) ∷ [], None)
    -- a first symbol without an auxiliary entry, one with a value, and one that is not STATIC
    ∷ ((173, 0 ∷ []) ∷ [], told phase.Section 2 code.Group 60)
    ∷ ((164, 1 ∷ []) ∷ [], told phase.Section 2 code.Group 60)
    ∷ ((172, 6 ∷ []) ∷ [], told phase.Section 2 code.Group 60)
    -- kept with no section, with itself, with one that is not there
    ∷ ((188, 5 ∷ []) ∷ [], told phase.Section 2 code.BadTable 60)
    ∷ ((188, 5 ∷ []) ∷ (186, 2 ∷ []) ∷ [], told phase.Section 2 code.BadTable 60)
    ∷ ((188, 5 ∷ []) ∷ (186, 3 ∷ []) ∷ [], told phase.Section 2 code.BadTable 60)
    -- any copy, where the second symbol is not EXTERNAL
    ∷ ((208, 3 ∷ []) ∷ [], told phase.Section 2 code.Group 60)
    -- it is told behind the name, and before the address
    ∷ ((188, 3 ∷ []) ∷ (60, 47 ∷ 0 ∷ 0 ∷ 0 ∷ 0 ∷ []) ∷ [], told phase.Section 2 code.BadName 60)
    ∷ ((188, 3 ∷ []) ∷ (72, 1 ∷ []) ∷ [], told phase.Section 2 code.Group 60)
    ∷ ((188, 5 ∷ []) ∷ (72, 1 ∷ []) ∷ [], told phase.Section 2 code.BadTable 60) ∷ []

copy-faults : map (λ (r : FaultRow). told_of Usual32 (patched r.0 grouped)) copy_rows ≡ map (λ (r : FaultRow). r.1) copy_rows
unfolding file_header_of section_header_at symbol_at section_aux_at weak_aux_at relocation_at section_table slot_at strings_of entries_of section_tables tables_of string_at section_name symbol_name entries_in definition_in led_key key_in kind_in carried_of carried_in position_of value_of binding_of symbol_of symbols_in aim_in field_by fields_in number_at coff_kind coff_tag fault_by stages_of header_conditions section_conditions symbol_conditions relocation_conditions judged_in
copy-faults = refl

-- sections that are kept with others
abbrev follower_rows : List FaultRow
follower_rows =
    -- the file as it is
    ([], None)
    -- one that is kept with a section that is itself kept with another, alone and beside a section that is not there
    ∷ ((329, 2 ∷ []) ∷ [], told phase.Section 4 code.Group 140)
    ∷ ((329, 5 ∷ []) ∷ [], told phase.Section 4 code.BadTable 140)
    -- two that are kept with each other
    ∷ ((221, 2 ∷ 0 ∷ 5 ∷ []) ∷ [], told phase.Section 1 code.Group 20)
    -- a leader without its key symbol
    ∷ ((351, 3 ∷ []) ∷ [], told phase.Section 1 code.Group 20) ∷ []

follower-faults : map (λ (r : FaultRow). told_of Usual64 (patched r.0 copied)) follower_rows ≡ map (λ (r : FaultRow). r.1) follower_rows
unfolding file_header_of section_header_at symbol_at section_aux_at weak_aux_at relocation_at section_table slot_at strings_of entries_of section_tables tables_of string_at section_name symbol_name entries_in definition_in led_key key_in kind_in carried_of carried_in position_of value_of binding_of symbol_of symbols_in aim_in field_by fields_in number_at coff_kind coff_tag fault_by stages_of header_conditions section_conditions symbol_conditions relocation_conditions judged_in
follower-faults = refl

-- two sections of zeros, of 2^31 - 1 bytes and of 2
abbrev limit_rows : List FaultRow
limit_rows =
    -- more than 2^31 bytes together, and as many; the second section alone has too many
    ([], told phase.Section 2 code.LimitSum 2147483649)
    ∷ ((76, 1 ∷ []) ∷ [], None)
    ∷ ((76, 0 ∷ 0 ∷ 0 ∷ 128 ∷ []) ∷ [], told phase.Section 2 code.LimitSection 2147483648)
    -- more than 64 MiB of contents together, and as many; they are told behind those sums
    ∷ ((20, 46 ∷ 100 ∷ 101 ∷ 98 ∷ 117 ∷ 103 ∷ 0 ∷ 0 ∷ []) ∷ (60, 46 ∷ 100 ∷ 101 ∷ 98 ∷ 117 ∷ 103 ∷ 0 ∷ 0 ∷ []) ∷ (36, 0 ∷ 0 ∷ 0 ∷ 4 ∷ []) ∷ (76, 1 ∷ []) ∷ [], told phase.Section 2 code.LimitBytes 67108865)
    ∷ ((20, 46 ∷ 100 ∷ 101 ∷ 98 ∷ 117 ∷ 103 ∷ 0 ∷ 0 ∷ []) ∷ (60, 46 ∷ 100 ∷ 101 ∷ 98 ∷ 117 ∷ 103 ∷ 0 ∷ 0 ∷ []) ∷ (36, 255 ∷ 255 ∷ 255 ∷ 3 ∷ []) ∷ (76, 1 ∷ []) ∷ [], None)
    ∷ ((20, 46 ∷ 100 ∷ 101 ∷ 98 ∷ 117 ∷ 103 ∷ 0 ∷ 0 ∷ []) ∷ (60, 46 ∷ 100 ∷ 101 ∷ 98 ∷ 117 ∷ 103 ∷ 0 ∷ 0 ∷ []) ∷ (36, 1 ∷ 0 ∷ 0 ∷ 0 ∷ []) ∷ (76, 255 ∷ 255 ∷ 255 ∷ 127 ∷ []) ∷ [], told phase.Section 2 code.LimitBytes 2147483648)
    ∷ ((20, 46 ∷ 100 ∷ 101 ∷ 98 ∷ 117 ∷ 103 ∷ 0 ∷ 0 ∷ []) ∷ (60, 46 ∷ 100 ∷ 101 ∷ 98 ∷ 117 ∷ 103 ∷ 0 ∷ 0 ∷ []) ∷ (36, 2 ∷ 0 ∷ 0 ∷ 0 ∷ []) ∷ (76, 255 ∷ 255 ∷ 255 ∷ 127 ∷ []) ∷ [], told phase.Section 2 code.LimitSum 2147483649) ∷ []

limit-faults : map (λ (r : FaultRow). told_of Usual32 (patched r.0 zeroed)) limit_rows ≡ map (λ (r : FaultRow). r.1) limit_rows
unfolding file_header_of section_header_at symbol_at section_aux_at weak_aux_at relocation_at section_table slot_at strings_of entries_of section_tables tables_of string_at section_name symbol_name entries_in definition_in led_key key_in kind_in carried_of carried_in position_of value_of binding_of symbol_of symbols_in aim_in field_by fields_in number_at coff_kind coff_tag fault_by stages_of header_conditions section_conditions symbol_conditions relocation_conditions judged_in
limit-faults = refl

-- a count of relocation entries in the first of them
abbrev crowd_rows : List FaultRow
crowd_rows =
    -- the file as it is
    ([], None)
    -- a first entry that passes the end, alone and beside bytes that do
    ∷ ((44, 170 ∷ []) ∷ [], told phase.Section 1 code.Short 170)
    ∷ ((44, 170 ∷ []) ∷ (40, 173 ∷ []) ∷ [], told phase.Section 1 code.Short 173)
    -- a count of 0; one that counts itself alone; entries that pass the end
    ∷ ((68, 0 ∷ []) ∷ [], told phase.Section 1 code.BadTable 20)
    ∷ ((68, 1 ∷ []) ∷ [], None)
    ∷ ((68, 11 ∷ []) ∷ [], told phase.Section 1 code.Short 68)
    ∷ ((68, 255 ∷ 255 ∷ 255 ∷ 255 ∷ []) ∷ [], told phase.Section 1 code.Short 68)
    -- fields that meet, by one byte and by all; they are told in the order of their entries
    ∷ ((88, 3 ∷ []) ∷ [], told phase.Relocation 1 code.Overlap 88)
    ∷ ((88, 0 ∷ []) ∷ [], told phase.Relocation 1 code.Overlap 88)
    ∷ ((88, 3 ∷ []) ∷ (78, 5 ∷ []) ∷ [], told phase.Relocation 1 code.BadOffset 78) ∷ []

crowd-faults : map (λ (r : FaultRow). told_of Usual32 (patched r.0 overflowed)) crowd_rows ≡ map (λ (r : FaultRow). r.1) crowd_rows
unfolding file_header_of section_header_at symbol_at section_aux_at weak_aux_at relocation_at section_table slot_at strings_of entries_of section_tables tables_of string_at section_name symbol_name entries_in definition_in led_key key_in kind_in carried_of carried_in position_of value_of binding_of symbol_of symbols_in aim_in field_by fields_in number_at coff_kind coff_tag fault_by stages_of header_conditions section_conditions symbol_conditions relocation_conditions judged_in
crowd-faults = refl

-- the relocation entries
abbrev relocation_rows : List FaultRow
relocation_rows =
    -- an unknown type; one that says nothing, with whatever symbol
    ((74, 99 ∷ []) ∷ [], told phase.Relocation 1 code.RelocKind 66)
    ∷ ((74, 0 ∷ []) ∷ (70, 255 ∷ 255 ∷ 255 ∷ 255 ∷ []) ∷ (66, 255 ∷ []) ∷ [], None)
    -- a field that passes the end of its section, alone and with an unknown type; one that ends with it; one in zeros
    ∷ ((66, 3 ∷ []) ∷ [], told phase.Relocation 1 code.BadOffset 66)
    ∷ ((66, 3 ∷ []) ∷ (74, 99 ∷ []) ∷ [], told phase.Relocation 1 code.RelocKind 66)
    ∷ ((66, 2 ∷ []) ∷ [], None)
    ∷ ((56, 128 ∷ 0 ∷ 80 ∷ 192 ∷ []) ∷ [], told phase.Relocation 1 code.BadOffset 66)
    -- a symbol that is not there, and an auxiliary entry; alone and with such a field
    ∷ ((70, 9 ∷ []) ∷ [], told phase.Relocation 1 code.BadTarget 66)
    ∷ ((70, 1 ∷ []) ∷ [], told phase.Relocation 1 code.BadTarget 66)
    ∷ ((70, 9 ∷ []) ∷ (66, 3 ∷ []) ∷ [], told phase.Relocation 1 code.BadOffset 66)
    -- the number of the section of an absolute symbol, and its offset there; alone and with such a field
    ∷ ((142, 255 ∷ 255 ∷ []) ∷ (74, 10 ∷ []) ∷ [], told phase.Relocation 1 code.TargetKind 66)
    ∷ ((142, 255 ∷ 255 ∷ []) ∷ (74, 11 ∷ []) ∷ [], told phase.Relocation 1 code.TargetKind 66)
    ∷ ((142, 255 ∷ 255 ∷ []) ∷ (74, 10 ∷ []) ∷ (66, 5 ∷ []) ∷ [], told phase.Relocation 1 code.BadOffset 66)
    ∷ ((74, 10 ∷ []) ∷ [], None)
    ∷ ((142, 255 ∷ 255 ∷ []) ∷ [], None)
    -- a symbol of this file alone that has a number and no place
    ∷ ((142, 255 ∷ 255 ∷ []) ∷ (146, 3 ∷ []) ∷ [], told phase.Relocation 1 code.TargetKind 66)
    -- the section's own symbol
    ∷ ((70, 0 ∷ []) ∷ [], None) ∷ []

relocation-faults : map (λ (r : FaultRow). told_of Usual32 (patched r.0 call)) relocation_rows ≡ map (λ (r : FaultRow). r.1) relocation_rows
unfolding file_header_of section_header_at symbol_at section_aux_at weak_aux_at relocation_at section_table slot_at strings_of entries_of section_tables tables_of string_at section_name symbol_name entries_in definition_in led_key key_in kind_in carried_of carried_in position_of value_of binding_of symbol_of symbols_in aim_in field_by fields_in number_at coff_kind coff_tag fault_by stages_of header_conditions section_conditions symbol_conditions relocation_conditions judged_in
relocation-faults = refl

-- symbols that are not carried, as targets, and sections that are not
abbrev target_rows : List FaultRow
target_rows =
    -- a file name, a symbol of `.bf`, one without a name, one for debuggers, one of a section that is not carried, and none
    ((113, 0 ∷ []) ∷ [], told phase.Relocation 2 code.BadTarget 109)
    ∷ ((113, 3 ∷ []) ∷ [], told phase.Relocation 2 code.BadTarget 109)
    ∷ ((113, 6 ∷ []) ∷ [], told phase.Relocation 2 code.BadTarget 109)
    ∷ ((113, 14 ∷ []) ∷ [], told phase.Relocation 2 code.BadTarget 109)
    ∷ ((113, 15 ∷ []) ∷ [], told phase.Relocation 2 code.BadTarget 109)
    ∷ ((113, 16 ∷ []) ∷ [], told phase.Relocation 2 code.BadTarget 109)
    -- an absolute symbol, and a section's own where the section is not carried
    ∷ ((113, 2 ∷ []) ∷ [], told phase.Relocation 2 code.TargetKind 109)
    ∷ ((113, 10 ∷ []) ∷ [], told phase.Relocation 2 code.TargetKind 109)
    -- an EXTERNAL symbol, and a weak external that tags it, also for its home
    ∷ ((113, 9 ∷ []) ∷ [], None)
    ∷ ((113, 12 ∷ []) ∷ (117, 11 ∷ []) ∷ [], None)
    -- values behind the end: of a symbol of `.bf`, and in the section that is not carried
    ∷ ((191, 9 ∷ []) ∷ [], told phase.Symbol 3 code.SymbolPastEnd 183)
    ∷ ((317, 2 ∷ []) ∷ [], told phase.Symbol 10 code.SymbolPastEnd 309)
    -- the bytes of the section that is not carried are looked at, also where it says that it has zeros
    ∷ ((40, 255 ∷ 255 ∷ []) ∷ [], told phase.Section 1 code.Short 65535)
    ∷ ((40, 255 ∷ 255 ∷ []) ∷ (56, 128 ∷ []) ∷ [], told phase.Section 1 code.Short 65535) ∷ []

target-faults : map (λ (r : FaultRow). told_of Usual32 (patched r.0 assorted)) target_rows ≡ map (λ (r : FaultRow). r.1) target_rows
unfolding file_header_of section_header_at symbol_at section_aux_at weak_aux_at relocation_at section_table slot_at strings_of entries_of section_tables tables_of string_at section_name symbol_name entries_in definition_in led_key key_in kind_in carried_of carried_in position_of value_of binding_of symbol_of symbols_in aim_in field_by fields_in number_at coff_kind coff_tag fault_by stages_of header_conditions section_conditions symbol_conditions relocation_conditions judged_in
target-faults = refl

-- the home of a target
abbrev home_rows : List FaultRow
home_rows =
    -- a default that is absolute, a weak external with it, and an absolute symbol
    ((308, 16 ∷ []) ∷ [], told phase.Relocation 1 code.TargetKind 304)
    ∷ ((308, 19 ∷ []) ∷ [], told phase.Relocation 1 code.TargetKind 304)
    ∷ ((308, 26 ∷ []) ∷ [], told phase.Relocation 1 code.TargetKind 304)
    -- a default with a place, a weak external with it, one with a name, a common, and an undefined symbol
    ∷ ((308, 15 ∷ []) ∷ [], None)
    ∷ ((308, 17 ∷ []) ∷ [], None)
    ∷ ((308, 21 ∷ []) ∷ [], None)
    ∷ ((308, 24 ∷ []) ∷ [], None)
    ∷ ((308, 25 ∷ []) ∷ [], None) ∷ []

home-faults : map (λ (r : FaultRow). told_of Usual64 (patched r.0 manifold)) home_rows ≡ map (λ (r : FaultRow). r.1) home_rows
unfolding file_header_of section_header_at symbol_at section_aux_at weak_aux_at relocation_at section_table slot_at strings_of entries_of section_tables tables_of string_at section_name symbol_name entries_in definition_in led_key key_in kind_in carried_of carried_in position_of value_of binding_of symbol_of symbols_in aim_in field_by fields_in number_at coff_kind coff_tag fault_by stages_of header_conditions section_conditions symbol_conditions relocation_conditions judged_in
home-faults = refl

-- the worked files have no fault
worked-faults : told_of Usual32 call ∷ told_of Usual32 grouped ∷ told_of Usual64 msvc ∷ told_of Usual64 weakened ∷ told_of Usual32 tails ∷ told_of Usual64 nearer ∷ told_of Usual32 overflowed ∷ told_of Usual64 copied ∷ told_of Usual64 manifold ∷ told_of Usual32 assorted ∷ []
    ≡ replicate 10 None
unfolding file_header_of section_header_at symbol_at section_aux_at weak_aux_at relocation_at section_table slot_at strings_of entries_of section_tables tables_of string_at section_name symbol_name entries_in definition_in led_key key_in kind_in carried_of carried_in position_of value_of binding_of symbol_of symbols_in aim_in field_by fields_in number_at coff_kind coff_tag fault_by stages_of header_conditions section_conditions symbol_conditions relocation_conditions judged_in
worked-faults = refl

-- fields of sections that are dropped are not judged
dropped-faults : map (λ (keep : Keep). option_map (λ (f : Fault). f.code) ((coff_rules Usual32).fault (patched ((20, 46 ∷ 100 ∷ 101 ∷ 98 ∷ 117 ∷ 103 ∷ []) ∷ (70, 9 ∷ []) ∷ []) call) keep)) (all ∷ record { debug = false; exceptions = true; notes = true } ∷ [])
    ≡ Some code.BadTarget ∷ None ∷ []
unfolding file_header_of section_header_at symbol_at section_aux_at weak_aux_at relocation_at section_table slot_at strings_of entries_of section_tables tables_of string_at section_name symbol_name entries_in definition_in led_key key_in kind_in carried_of carried_in position_of value_of binding_of symbol_of symbols_in aim_in field_by fields_in number_at coff_kind coff_tag fault_by stages_of header_conditions section_conditions symbol_conditions relocation_conditions judged_in
dropped-faults = refl

-- the call, cut at both ends of each part
cut-faults : map (λ length. told_of Usual32 (take length call)) (0 ∷ 1 ∷ 2 ∷ 19 ∷ 20 ∷ 59 ∷ 60 ∷ 75 ∷ 76 ∷ 147 ∷ 148 ∷ 149 ∷ 151 ∷ 152 ∷ [])
    ≡ replicate 4 (told phase.Header 0 code.Short 0) ++ replicate 2 (told phase.Header 0 code.Short 20) ++ replicate 4 (told phase.Header 0 code.Short 76) ++ None ∷ replicate 2 (told phase.Header 0 code.Short 148) ++ None ∷ []
unfolding file_header_of section_header_at symbol_at section_aux_at weak_aux_at relocation_at section_table slot_at strings_of entries_of section_tables tables_of string_at section_name symbol_name entries_in definition_in led_key key_in kind_in carried_of carried_in position_of value_of binding_of symbol_of symbols_in aim_in field_by fields_in number_at coff_kind coff_tag fault_by stages_of header_conditions section_conditions symbol_conditions relocation_conditions judged_in
cut-faults = refl
