-- An object with a table of section numbers, and with one fault each, read by computing the definitions (gABI, "Sections" and "Symbol Table").
use Rattle.std.proofs.Common.{◌≡◌, ℕ, List, [], ◌∷◌, map, Option, Some, None, refl}
use Rattle.std.specs.Prelude.{codes, slice_set}
use Rattle.oc_base.specs.{declared.code.Code.{Code}, declared.fault.Fault.{Fault}, declared.fault.Phase.{Phase}, Numbers.{number_at}}
use Rattle.oc_base.specs.declared.code.Code.TheVariants as code
use Rattle.oc_base.specs.declared.fault.Phase.TheVariants as phase
use Rattle.oc_linking.specs.{declared.terms.Value.TheVariants.{Place}, declared.terms.Binding.{Binding}}
use Rattle.oc_linking.specs.{declared.terms.Binding.TheVariants.{Local, Global, Undefined}, Keeping.{all}, Parts.{Symbol}}
use Rattle.oc_neutral.specs.Elf.Kinds.{elf_kind}
use Rattle.oc_elf.specs.{declared.class.ElfClass.TheVariants.{Class32, Big32}, CarriedSections.{section_of, section_with}}
use Rattle.oc_elf.specs.{CarriedSymbols.{binding_of, is_passed, symbol_by, symbol_of, symbol_with, symbols_of}, Ehdr.{ehdr_in}, Elf.{fault_in}}
use Rattle.oc_elf.specs.{Entries.{name_at}, Frames.{framed, header_of, headers_of}, Groups.{key_of}, Headers.{header_conditions}, Names.{name_in, table_bytes}}
use Rattle.oc_elf.specs.{Rel.{rel_in}, RelocRules.{is_nameable, is_target_for, own_conditions, rel_conditions, reloc_conditions}}
use Rattle.oc_elf.specs.SectionRules.{carried_conditions, conditions_on, form_conditions, group_conditions, is_bad_member, is_good_group, is_good_shndx, is_good_symtab, is_good_table, is_left_out, section_conditions, table_conditions}
use Rattle.oc_elf.specs.{Shdr.{shdr_in}, Sym.{sym_in}, SymbolRules.{entry_conditions, is_odd_symbol, symbol_conditions}, Tables.{entry_of, reloc_of}}
use Rattle.oc_elf_read.proofs.Objects.{told}

-- bytes of a file, each with its place, that are others
abbrev changed : List (ℕ × ℕ) → List ℕ → List ℕ
changed [] file = file
changed (x ∷ xs) file = changed xs (slice_set file x.0 x.1)

-- a fault
abbrev at : Phase → ℕ → Code → ℕ → Option Fault
at p index c place = Some (record { phase = p; index = index; code = c; place = place })

-- what is changed, and the fault that it makes
abbrev Row : Type 0
Row = List (ℕ × ℕ) × Option Fault

abbrev rows : List Row
rows =
    ([], None)
    -- header 0 says that there are no headers; one more than there is room for; that their names stand in the symbol table
    ∷ ((232, 0) ∷ [], at phase.Header 0 code.BadHeader 0)
    ∷ ((232, 7) ∷ [], at phase.Header 0 code.Short 212)
    ∷ ((236, 2) ∷ [], at phase.Header 0 code.BadTable 0)
    -- header 0 passes the end by a byte, alone and where headers are of another size
    ∷ ((32, 157) ∷ (33, 1) ∷ [], at phase.Header 0 code.Short 413)
    ∷ ((32, 157) ∷ (33, 1) ∷ (46, 41) ∷ [], at phase.Header 0 code.BadHeader 0)
    -- the table has entries of 8 bytes, goes with the names of symbols, has a broken entry, has one too few, and one too many
    ∷ ((368, 8) ∷ [], at phase.Section 3 code.BadTable 332)
    ∷ ((356, 4) ∷ [], at phase.Section 3 code.BadTable 332)
    ∷ ((352, 19) ∷ [], at phase.Section 3 code.BadTable 332)
    ∷ ((352, 16) ∷ [], at phase.Section 3 code.BadTable 332)
    ∷ ((352, 24) ∷ [], None)
    -- `.text` is such a table too, before it
    ∷ ((256, 18) ∷ (272, 20) ∷ (276, 2) ∷ (288, 4) ∷ [], at phase.Section 3 code.BadTable 332)
    -- there is no such table
    ∷ ((336, 3) ∷ [], at phase.Symbol 1 code.BadSymbol 72)
    -- the entry of `l` is 0, where its value is 2 and where it is 0; and that of `f`
    ∷ ((144, 0) ∷ [], at phase.Symbol 2 code.SymbolPastEnd 88)
    ∷ ((144, 0) ∷ (92, 0) ∷ [], None)
    ∷ ((148, 0) ∷ [], at phase.Symbol 3 code.SymbolKind 104)
    -- the entry of `l` is the number of headers, and reserved ones
    ∷ ((144, 6) ∷ [], at phase.Symbol 2 code.BadSymbol 88)
    ∷ ((144, 0xF1) ∷ (145, 0xFF) ∷ [], at phase.Symbol 2 code.BadSymbol 88)
    ∷ ((144, 0xF1) ∷ (145, 0xFF) ∷ (146, 0xFF) ∷ (147, 0xFF) ∷ [], at phase.Symbol 2 code.BadSymbol 88)
    ∷ ((144, 0xFF) ∷ (145, 0xFF) ∷ (146, 0xFF) ∷ (147, 0xFF) ∷ [], at phase.Symbol 2 code.BadSymbol 88) ∷ []

faults : map (λ (row : Row). fault_in Big32 (changed row.0 told) all) rows ≡ map (λ (row : Row). row.1) rows
unfolding number_at elf_kind ehdr_in shdr_in table_bytes name_in header_of headers_of framed header_conditions is_bad_member is_good_group is_left_out form_conditions group_conditions is_good_symtab is_good_table is_good_shndx table_conditions carried_conditions conditions_on section_conditions sym_in entry_of name_at key_of section_with section_of binding_of is_passed symbol_with symbol_by symbol_of is_odd_symbol entry_conditions symbol_conditions rel_in reloc_of is_nameable is_target_for own_conditions rel_conditions reloc_conditions fault_in
faults = refl

-- where sections are few, with the numbers in the file header, there is no such table
refused : fault_in Class32 (changed ((48, 6) ∷ (50, 5) ∷ (51, 0) ∷ []) told) all ≡ at phase.Section 3 code.ExtendedNumbering 332
unfolding number_at elf_kind ehdr_in shdr_in table_bytes name_in header_of headers_of framed header_conditions is_bad_member is_good_group is_left_out form_conditions group_conditions is_good_symtab is_good_table is_good_shndx table_conditions carried_conditions conditions_on section_conditions sym_in entry_of name_at key_of section_with section_of binding_of is_passed symbol_with symbol_by symbol_of is_odd_symbol entry_conditions symbol_conditions rel_in reloc_of is_nameable is_target_for own_conditions rel_conditions reloc_conditions fault_in
refused = refl

-- what a symbol is
abbrev mien : Symbol → List ℕ × Binding × ℕ
mien s = (s.name, s.binding, s.number)

symbols : map mien (symbols_of (framed Big32 told)) ≡ (codes "l", Local (Place 0 2), 2) ∷ (codes "f", Global (Place 0 1), 3) ∷ (codes "u", Undefined, 4) ∷ []
unfolding number_at elf_kind ehdr_in shdr_in table_bytes name_in header_of headers_of framed sym_in entry_of name_at key_of section_with section_of binding_of is_passed symbol_with symbol_by symbol_of
symbols = refl
