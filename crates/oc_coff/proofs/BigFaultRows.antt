-- What many-section objects are refused for, and that they show what the usual form of them does; computed, and compared with an independent program's answers.
use Rattle.std.proofs.Common.{◌≡◌, ℕ, zero, suc, List, [], ◌∷◌, ◌++◌, length, map, Some, None, Option, refl}
use Rattle.std.specs.{Prelude.{drop, replicate, take}, List.{range_with_len}, Option.{option_map}}
use Rattle.oc_coff.specs.{declared.form.CoffForm.{CoffForm}, FileHeader.{file_header_of}, SectionHeader.{section_header_at}, SymbolEntry.{symbol_at}}
use Rattle.oc_coff.specs.{SectionAux.{section_aux_at}, WeakAux.{weak_aux_at}, Relocation.{relocation_at}}
use Rattle.oc_coff.specs.{Tables.{section_table, slot_at, strings_of, entries_of, section_tables, tables_of}, Names.{string_at, section_name, symbol_name}}
use Rattle.oc_coff.specs.{Entries.{entries_in}, Comdat.{definition_in, led_key, key_in}, Sections.{kind_in, carried_of, carried_in, position_of}}
use Rattle.oc_coff.specs.{Symbols.{value_of, binding_of, symbol_of, symbols_in}, Targets.{aim_in}, Fields.{field_by, fields_in}}
use Rattle.oc_coff.specs.{HeaderFaults.{header_conditions}, SectionFaults.{section_conditions}, SymbolFaults.{symbol_conditions}}
use Rattle.oc_coff.specs.{RelocationFaults.{relocation_conditions, judged_in}, Rules.{coff_rules, fault_by, stages_of}}
use Rattle.oc_coff.specs.declared.form.CoffForm.TheVariants.{Usual32, Usual64, Big32, Big64}
use Rattle.oc_base.specs.{declared.code.Code.{Code}, declared.fault.Fault.{Fault}, declared.fault.Phase.{Phase}, Numbers.{number_at}}
use Rattle.oc_base.specs.declared.code.Code.TheVariants as code
use Rattle.oc_base.specs.declared.fault.Phase.TheVariants as phase
use Rattle.oc_linking.specs.Keeping.{all}
use Rattle.oc_neutral.specs.Coff.Kinds.{coff_kind, coff_tag}
use Rattle.oc_coff.proofs.{WorkedFiles.{grouped, manifold, weakened}, BigFiles.{big_call, big_call_64, big_grouped, big_weakened, big_manifold}}

-- a fault: its phase, index, code and place
abbrev Told : Type 0
Told = Option (Phase × ℕ × Code × ℕ)

abbrev told : Phase → ℕ → Code → ℕ → Told
told phase index code place = Some (phase, index, code, place)

abbrev told_of : CoffForm → List ℕ → Told
told_of w file = option_map (λ (f : Fault). (f.phase, f.index, f.code, f.place)) ((coff_rules w).fault file all)

-- a file with other bytes from an offset on
abbrev with : ℕ → List ℕ → List ℕ → List ℕ
with zero bytes file = bytes ++ drop (length bytes) file
with (suc at) bytes [] = []
with (suc at) bytes (b ∷ file) = b ∷ with at bytes file

-- and at several
abbrev patched : List (ℕ × List ℕ) → List ℕ → List ℕ
patched [] file = file
patched (p ∷ patches) file = with p.0 p.1 (patched patches file)

-- what is changed of a file, and the fault that it then has
abbrev FaultRow : Type 0
FaultRow = List (ℕ × List ℕ) × Told

-- of the call
abbrev big_rows : List FaultRow
big_rows =
    -- the file as it is
    ([], None)
    -- versions 1 and 0, and one above 2
    ∷ (((4, 1 ∷ []) ∷ []), told phase.Header 0 code.BadHeader 0)
    ∷ (((4, 0 ∷ []) ∷ []), told phase.Header 0 code.BadHeader 0)
    ∷ (((4, 3 ∷ []) ∷ []), None)
    -- what stands in the words that are not used
    ∷ (((28, 1 ∷ 2 ∷ 3 ∷ 4 ∷ 5 ∷ 6 ∷ 7 ∷ 8 ∷ 9 ∷ 10 ∷ 11 ∷ 12 ∷ 13 ∷ 14 ∷ 15 ∷ 16 ∷ []) ∷ []), None)
    -- symbols without a place, alone and beside a version of 1
    ∷ (((48, 0 ∷ 0 ∷ 0 ∷ 0 ∷ []) ∷ []), told phase.Header 0 code.BadHeader 0)
    ∷ (((48, 0 ∷ 0 ∷ 0 ∷ 0 ∷ []) ∷ (4, 1 ∷ []) ∷ []), told phase.Header 0 code.BadHeader 0)
    -- more section headers than the file has room for
    ∷ (((44, 255 ∷ 255 ∷ 255 ∷ 255 ∷ []) ∷ []), told phase.Header 0 code.Short 56)
    ∷ (((44, 4 ∷ []) ∷ []), told phase.Header 0 code.Short 56)
    ∷ (((44, 4 ∷ []) ∷ (48, 0 ∷ 0 ∷ 0 ∷ 0 ∷ []) ∷ []), told phase.Header 0 code.BadHeader 0)
    -- more symbols
    ∷ (((52, 5 ∷ []) ∷ []), told phase.Header 0 code.Short 112)
    ∷ (((52, 255 ∷ 255 ∷ 255 ∷ 255 ∷ []) ∷ []), told phase.Header 0 code.Short 112)
    ∷ (((48, 255 ∷ 255 ∷ 255 ∷ 255 ∷ []) ∷ []), told phase.Header 0 code.Short 4294967295)
    -- a string table whose size is below its own four bytes, and one that is longer than the file
    ∷ (((192, 3 ∷ []) ∷ []), told phase.Header 0 code.BadHeader 0)
    ∷ (((192, 5 ∷ []) ∷ []), told phase.Header 0 code.Short 192)
    -- section numbers of main: 2, 65,537, -1 and -3
    ∷ (((164, 2 ∷ []) ∷ []), told phase.Symbol 2 code.BadSymbol 152)
    ∷ (((166, 1 ∷ []) ∷ []), told phase.Symbol 2 code.BadSymbol 152)
    ∷ (((164, 255 ∷ 255 ∷ 255 ∷ 255 ∷ []) ∷ []), None)
    ∷ (((164, 253 ∷ 255 ∷ 255 ∷ 255 ∷ []) ∷ []), told phase.Symbol 2 code.BadSymbol 152)
    ∷ (((164, 254 ∷ 255 ∷ 255 ∷ 255 ∷ []) ∷ []), None)
    ∷ (((164, 255 ∷ 255 ∷ 0 ∷ 0 ∷ []) ∷ []), told phase.Symbol 2 code.BadSymbol 152)
    ∷ (((164, 255 ∷ 255 ∷ 255 ∷ 127 ∷ []) ∷ []), told phase.Symbol 2 code.BadSymbol 152)
    ∷ (((164, 0 ∷ 0 ∷ 0 ∷ 128 ∷ []) ∷ []), told phase.Symbol 2 code.BadSymbol 152)
    -- of foo, 0xFFFF, which is no section number here
    ∷ (((184, 255 ∷ 255 ∷ 0 ∷ 0 ∷ []) ∷ []), told phase.Symbol 3 code.BadSymbol 172)
    -- the class of foo
    ∷ (((190, 7 ∷ []) ∷ []), told phase.Symbol 3 code.SymbolKind 172)
    -- a symbol whose auxiliary entries pass the table
    ∷ (((191, 1 ∷ []) ∷ []), told phase.Symbol 3 code.BadSymbol 172) ∷ []

big-faults : map (λ (r : FaultRow). told_of Big32 (patched r.0 big_call)) big_rows ≡ map (λ (r : FaultRow). r.1) big_rows
unfolding file_header_of section_header_at symbol_at section_aux_at weak_aux_at relocation_at section_table slot_at strings_of entries_of section_tables tables_of string_at section_name symbol_name entries_in definition_in led_key key_in kind_in carried_of carried_in position_of value_of binding_of symbol_of symbols_in aim_in field_by fields_in number_at coff_kind coff_tag fault_by stages_of header_conditions section_conditions symbol_conditions relocation_conditions judged_in
big-faults = refl

-- what is changed of the group: the section with which the second one is kept, 1 and 65,537, and what is unused beside its number
abbrev grouped_rows : List FaultRow
grouped_rows =
    (((228, 1 ∷ 0 ∷ 5 ∷ []) ∷ []), None)
    ∷ (((228, 1 ∷ 0 ∷ 5 ∷ 0 ∷ 1 ∷ 0 ∷ []) ∷ []), told phase.Section 2 code.BadTable 96)
    ∷ (((228, 0 ∷ 0 ∷ 5 ∷ 0 ∷ 1 ∷ 0 ∷ []) ∷ []), told phase.Section 2 code.BadTable 96)
    ∷ (((228, 1 ∷ 0 ∷ 5 ∷ 9 ∷ 0 ∷ 0 ∷ 9 ∷ 9 ∷ []) ∷ []), None) ∷ []

grouped-faults : map (λ (r : FaultRow). told_of Big32 (patched r.0 big_grouped)) grouped_rows ≡ map (λ (r : FaultRow). r.1) grouped_rows
unfolding file_header_of section_header_at symbol_at section_aux_at weak_aux_at relocation_at section_table slot_at strings_of entries_of section_tables tables_of string_at section_name symbol_name entries_in definition_in led_key key_in kind_in carried_of carried_in position_of value_of binding_of symbol_of symbols_in aim_in field_by fields_in number_at coff_kind coff_tag fault_by stages_of header_conditions section_conditions symbol_conditions relocation_conditions judged_in
grouped-faults = refl

-- the call for x64 has no fault, and one where its version is 1
call_64-faults : map (λ version. told_of Big64 (with 4 (version ∷ []) big_call_64)) (2 ∷ 1 ∷ []) ≡ None ∷ told phase.Header 0 code.BadHeader 0 ∷ []
unfolding file_header_of section_header_at symbol_at section_aux_at weak_aux_at relocation_at section_table slot_at strings_of entries_of section_tables tables_of string_at section_name symbol_name entries_in definition_in led_key key_in kind_in carried_of carried_in position_of value_of binding_of symbol_of symbols_in aim_in field_by fields_in number_at coff_kind coff_tag fault_by stages_of header_conditions section_conditions symbol_conditions relocation_conditions judged_in
call_64-faults = refl

-- cut files: of 28 to 55 bytes, which end in the header, and two that end in the section header
cut-header : map (λ k. told_of Big64 (take k big_call_64)) (range_with_len 28 28) ≡ replicate 28 (told phase.Header 0 code.Short 0)
unfolding file_header_of section_header_at symbol_at section_aux_at weak_aux_at relocation_at section_table slot_at strings_of entries_of section_tables tables_of string_at section_name symbol_name entries_in definition_in led_key key_in kind_in carried_of carried_in position_of value_of binding_of symbol_of symbols_in aim_in field_by fields_in number_at coff_kind coff_tag fault_by stages_of header_conditions section_conditions symbol_conditions relocation_conditions judged_in
cut-header = refl

cut-sections : map (λ k. told_of Big32 (take k big_call)) (56 ∷ 95 ∷ []) ≡ told phase.Header 0 code.Short 56 ∷ told phase.Header 0 code.Short 56 ∷ []
unfolding file_header_of section_header_at symbol_at section_aux_at weak_aux_at relocation_at section_table slot_at strings_of entries_of section_tables tables_of string_at section_name symbol_name entries_in definition_in led_key key_in kind_in carried_of carried_in position_of value_of binding_of symbol_of symbols_in aim_in field_by fields_in number_at coff_kind coff_tag fault_by stages_of header_conditions section_conditions symbol_conditions relocation_conditions judged_in
cut-sections = refl

-- the sections and the symbols are those of the usual form, groups included
group-same : (coff_rules Big32).sections big_grouped ≡ (coff_rules Usual32).sections grouped
unfolding file_header_of section_header_at symbol_at section_aux_at weak_aux_at relocation_at section_table slot_at strings_of entries_of section_tables tables_of string_at section_name symbol_name entries_in definition_in led_key key_in kind_in carried_of carried_in position_of value_of binding_of symbol_of symbols_in aim_in field_by fields_in number_at coff_kind coff_tag fault_by stages_of header_conditions section_conditions symbol_conditions relocation_conditions judged_in
group-same = refl

manifold-sections : (coff_rules Big64).sections big_manifold ≡ (coff_rules Usual64).sections manifold
unfolding file_header_of section_header_at symbol_at section_aux_at weak_aux_at relocation_at section_table slot_at strings_of entries_of section_tables tables_of string_at section_name symbol_name entries_in definition_in led_key key_in kind_in carried_of carried_in position_of value_of binding_of symbol_of symbols_in aim_in field_by fields_in number_at coff_kind coff_tag fault_by stages_of header_conditions section_conditions symbol_conditions relocation_conditions judged_in
manifold-sections = refl

manifold-symbols : (coff_rules Big64).symbols big_manifold all ≡ (coff_rules Usual64).symbols manifold all
unfolding file_header_of section_header_at symbol_at section_aux_at weak_aux_at relocation_at section_table slot_at strings_of entries_of section_tables tables_of string_at section_name symbol_name entries_in definition_in led_key key_in kind_in carried_of carried_in position_of value_of binding_of symbol_of symbols_in aim_in field_by fields_in number_at coff_kind coff_tag fault_by stages_of header_conditions section_conditions symbol_conditions relocation_conditions judged_in
manifold-symbols = refl

weakened-symbols : (coff_rules Big64).symbols big_weakened all ≡ (coff_rules Usual64).symbols weakened all
unfolding file_header_of section_header_at symbol_at section_aux_at weak_aux_at relocation_at section_table slot_at strings_of entries_of section_tables tables_of string_at section_name symbol_name entries_in definition_in led_key key_in kind_in carried_of carried_in position_of value_of binding_of symbol_of symbols_in aim_in field_by fields_in number_at coff_kind coff_tag fault_by stages_of header_conditions section_conditions symbol_conditions relocation_conditions judged_in
weakened-symbols = refl
