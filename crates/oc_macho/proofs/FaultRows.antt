-- What files are refused for, computed on worked files that were changed at some places: each condition alone, and beside the one before it.
use Rattle.std.proofs.Common.{◌≡◌, ℕ, zero, suc, List, [], ◌∷◌, ◌++◌, length, map, Some, None, Option, refl}
use Rattle.std.specs.{Prelude.{drop}, Option.{option_map}}
use Rattle.oc_base.specs.{declared.format.Word.{Word}, declared.format.Word.TheVariants.{W32, W64}, declared.code.Code.{Code}, declared.fault.Fault.{Fault}}
use Rattle.oc_base.specs.{declared.fault.Phase.{Phase}, Numbers.{number_at}}
use Rattle.oc_base.specs.declared.code.Code.TheVariants as code
use Rattle.oc_base.specs.declared.fault.Phase.TheVariants as phase
use Rattle.oc_linking.specs.Keeping.{all}
use Rattle.oc_algebra.specs.{Fields.{extended}, Residues.{residue_of}}
use Rattle.oc_neutral.specs.Mach.Kinds.{mach_kind, mach_tag}
use Rattle.oc_macho.specs.{MachHeader.{mach_header_of}, LoadCommand.{load_command_at}, SegmentCommand.{segment_command_at}, SymtabCommand.{symtab_command_at}}
use Rattle.oc_macho.specs.{SectionHeader.{section_header_at}, Nlist.{nlist_at}}
use Rattle.oc_macho.specs.{RelocationInfo.{relocation_info_at, relocation_info_of, reference_of, scattered_of}, Tables.{section_table, tables_of}}
use Rattle.oc_macho.specs.{Sections.{kind_of, contents_of, holder_of}, Symbols.{name_at, is_own, binding_of, symbol_of}, Entries.{row_for, item_at}}
use Rattle.oc_macho.specs.{Aims.{aim_in}, Fields.{field_parts_by, added_by, field_of}, HeaderFaults.{is_bad, least_size, header_conditions}}
use Rattle.oc_macho.specs.RelocationFaults.{is_unknown, is_no_pair, refers_to_nothing, refers_wrongly, form_conditions, target_conditions, is_too_wide, entry_conditions}
use Rattle.oc_macho.specs.Rules.{mach_rules, fault_of}
use Rattle.oc_macho.specs.SectionFaults as sections
use Rattle.oc_macho.specs.SymbolFaults as symbols
use Rattle.oc_macho.proofs.WorkedFiles.{called, difference, folded}

-- a fault: its phase, index, code and place
abbrev Told : Type 0
Told = Option (Phase × ℕ × Code × ℕ)

abbrev told : Phase → ℕ → Code → ℕ → Told
told phase index code place = Some (phase, index, code, place)

abbrev fault_by : Word → List ℕ → Told
fault_by w file = option_map (λ (f : Fault). (f.phase, f.index, f.code, f.place)) ((mach_rules w).fault file all)

-- a file with other bytes from an offset on
abbrev pub with : ℕ → List ℕ → List ℕ → List ℕ
with zero bytes file = bytes ++ drop (length bytes) file
with (suc at) bytes [] = []
with (suc at) bytes (b ∷ file) = b ∷ with at bytes file

-- and at several
abbrev pub patched : List (ℕ × List ℕ) → List ℕ → List ℕ
patched [] file = file
patched (p ∷ patches) file = with p.0 p.1 (patched patches file)

-- what is changed of a file, and the fault that it then has
abbrev FaultRow : Type 0
FaultRow = List (ℕ × List ℕ) × Told

-- ... the header and the commands of `called`: the segment at 32, symbols and strings at 184, and the third command at 208

abbrev header_rows : List FaultRow
header_rows =
    -- the file as it is
    ([], None)
    -- another processor, and another type of file
    ∷ ((4, 8 ∷ []) ∷ [], told phase.Header 0 code.NotRelocatable 0)
    ∷ ((12, 2 ∷ []) ∷ [], told phase.Header 0 code.NotRelocatable 0)
    -- commands that pass the end, alone and beside another type of file
    ∷ ((20, 65 ∷ 1 ∷ []) ∷ [], told phase.Header 0 code.Short 32)
    ∷ ((20, 65 ∷ 1 ∷ []) ∷ (12, 2 ∷ []) ∷ [], told phase.Header 0 code.NotRelocatable 0)
    -- more commands than there are, and many more than have room
    ∷ ((16, 4 ∷ []) ∷ [], told phase.Header 0 code.BadHeader 0)
    ∷ ((16, 255 ∷ 255 ∷ 255 ∷ 255 ∷ []) ∷ [], told phase.Header 0 code.BadHeader 0)
    -- fewer: without the third, and without symbols and strings
    ∷ ((16, 2 ∷ []) ∷ [], None)
    ∷ ((16, 1 ∷ []) ∷ [], told phase.Header 0 code.BadHeader 0)
    -- sizes of commands: too small, no multiple of 4, past the end of the commands, too short for what is in it
    ∷ ((36, 4 ∷ []) ∷ [], told phase.Header 0 code.BadHeader 0)
    ∷ ((212, 82 ∷ []) ∷ [], told phase.Header 0 code.BadHeader 0)
    ∷ ((212, 84 ∷ []) ∷ [], told phase.Header 0 code.BadHeader 0)
    ∷ ((212, 76 ∷ []) ∷ [], told phase.Header 0 code.BadHeader 0)
    ∷ ((188, 20 ∷ []) ∷ [], told phase.Header 0 code.BadHeader 0)
    -- one section more than the segment has room for
    ∷ ((96, 2 ∷ []) ∷ [], told phase.Header 0 code.BadHeader 0)
    -- no section: then the symbol has none
    ∷ ((96, 0 ∷ []) ∷ [], told phase.Symbol 0 code.BadSymbol 304)
    -- the segment of the other word, and a command that is not known
    ∷ ((32, 1 ∷ []) ∷ [], told phase.Header 0 code.BadHeader 0)
    ∷ ((32, 26 ∷ []) ∷ [], told phase.Symbol 0 code.BadSymbol 304)
    -- symbols and strings twice; a second segment, alone and beside such a command
    ∷ ((208, 2 ∷ []) ∷ [], told phase.Header 0 code.BadHeader 0)
    ∷ ((208, 25 ∷ []) ∷ [], told phase.Header 0 code.NotRelocatable 0)
    ∷ ((208, 25 ∷ []) ∷ (184, 11 ∷ []) ∷ [], told phase.Header 0 code.BadHeader 0)
    -- symbols that pass the end, by their number and by their place; and strings
    ∷ ((196, 4 ∷ []) ∷ [], told phase.Header 0 code.Short 304)
    ∷ ((192, 65 ∷ []) ∷ [], told phase.Header 0 code.Short 321)
    ∷ ((204, 17 ∷ []) ∷ [], told phase.Header 0 code.Short 336)
    ∷ ((204, 17 ∷ []) ∷ (196, 4 ∷ []) ∷ [], told phase.Header 0 code.Short 304)
    ∷ ((204, 17 ∷ []) ∷ (208, 25 ∷ []) ∷ [], told phase.Header 0 code.NotRelocatable 0)
    -- what is judged first: the header
    ∷ ((204, 17 ∷ []) ∷ (156, 16 ∷ []) ∷ [], told phase.Header 0 code.Short 336) ∷ []

-- ... the section of `called`: its header at 104

abbrev section_rows : List FaultRow
section_rows =
    -- the alignment
    ((156, 15 ∷ []) ∷ [], None)
    ∷ ((156, 16 ∷ []) ∷ [], told phase.Section 1 code.AlignRange 104)
    ∷ ((159, 128 ∷ []) ∷ [], told phase.Section 1 code.AlignRange 104)
    -- a comma in the segment, alone and beside it; one behind the name, and one in the name of the section
    ∷ ((121, 44 ∷ []) ∷ [], told phase.Section 1 code.SectionKind 104)
    ∷ ((121, 44 ∷ []) ∷ (156, 16 ∷ []) ∷ [], told phase.Section 1 code.AlignRange 104)
    ∷ ((127, 44 ∷ []) ∷ [], None)
    ∷ ((105, 44 ∷ []) ∷ [], None)
    -- types that are not read: 6, and 12
    ∷ ((168, 6 ∷ []) ∷ [], told phase.Section 1 code.SectionKind 104)
    ∷ ((168, 12 ∷ []) ∷ [], told phase.Section 1 code.SectionKind 104)
    -- an end past the last address, alone and beside such a type; and one at it, whose symbol then lies before it
    ∷ ((136, 251 ∷ 255 ∷ 255 ∷ 255 ∷ 255 ∷ 255 ∷ 255 ∷ 255 ∷ []) ∷ [], told phase.Section 1 code.BadTable 104)
    ∷ ((136, 251 ∷ 255 ∷ 255 ∷ 255 ∷ 255 ∷ 255 ∷ 255 ∷ 255 ∷ []) ∷ (168, 6 ∷ []) ∷ [], told phase.Section 1 code.SectionKind 104)
    ∷ ((136, 250 ∷ 255 ∷ 255 ∷ 255 ∷ 255 ∷ 255 ∷ 255 ∷ 255 ∷ []) ∷ [], told phase.Symbol 0 code.SymbolPastEnd 304)
    -- bytes that pass the end, by their size and by their place, alone and beside such an end
    ∷ ((144, 65 ∷ []) ∷ [], told phase.Section 1 code.Short 288)
    ∷ ((152, 97 ∷ 1 ∷ []) ∷ [], told phase.Section 1 code.Short 353)
    ∷ ((144, 65 ∷ []) ∷ (136, 251 ∷ 255 ∷ 255 ∷ 255 ∷ 255 ∷ 255 ∷ 255 ∷ 255 ∷ []) ∷ [], told phase.Section 1 code.BadTable 104)
    -- zeros have no bytes in the file, and then no field lies in them
    ∷ ((144, 65 ∷ []) ∷ (168, 1 ∷ []) ∷ [], told phase.Relocation 1 code.BadOffset 296)
    -- entries that pass the end, by their number and by their place, alone and beside such bytes
    ∷ ((164, 8 ∷ []) ∷ [], told phase.Section 1 code.Short 296)
    ∷ ((160, 89 ∷ 1 ∷ []) ∷ [], told phase.Section 1 code.Short 345)
    ∷ ((164, 8 ∷ []) ∷ (144, 65 ∷ []) ∷ [], told phase.Section 1 code.Short 288)
    -- zeros above a limit
    ∷ ((144, 0 ∷ 0 ∷ 0 ∷ 128 ∷ []) ∷ (168, 1 ∷ []) ∷ [], told phase.Section 1 code.LimitSection 2147483648)
    -- and zeros that are unwinding data, which are stored, above another
    ∷ ((144, 255 ∷ 255 ∷ 255 ∷ 127 ∷ []) ∷ (168, 1 ∷ []) ∷ [], told phase.Relocation 1 code.BadOffset 296)
    ∷ ((144, 255 ∷ 255 ∷ 255 ∷ 127 ∷ []) ∷ (168, 1 ∷ []) ∷ (120, 95 ∷ 95 ∷ 76 ∷ 68 ∷ 0 ∷ 0 ∷ []) ∷ [], told phase.Section 1 code.LimitBytes 2147483647)
    -- what is judged first: the sections
    ∷ ((164, 8 ∷ []) ∷ (304, 16 ∷ []) ∷ [], told phase.Section 1 code.Short 296) ∷ []

-- ... the symbols of `called`: `main` at 304 and `foo` at 320

abbrev symbol_rows : List FaultRow
symbol_rows =
    -- a name behind the strings; the last NUL; no NUL at all behind it
    ((304, 16 ∷ []) ∷ [], told phase.Symbol 0 code.BadName 304)
    ∷ ((304, 15 ∷ []) ∷ [], told phase.Symbol 0 code.SymbolKind 304)
    ∷ ((204, 9 ∷ []) ∷ [], told phase.Symbol 1 code.BadName 320)
    ∷ ((204, 10 ∷ []) ∷ [], None)
    -- types: indirect, prebound, 4; a Local that is undefined; an absolute number, which may not be weak
    ∷ ((308, 11 ∷ []) ∷ [], told phase.Symbol 0 code.SymbolKind 304)
    ∷ ((308, 13 ∷ []) ∷ [], told phase.Symbol 0 code.SymbolKind 304)
    ∷ ((308, 5 ∷ []) ∷ [], told phase.Symbol 0 code.SymbolKind 304)
    ∷ ((308, 0 ∷ []) ∷ [], told phase.Symbol 0 code.SymbolKind 304)
    ∷ ((308, 3 ∷ []) ∷ [], None)
    ∷ ((308, 3 ∷ 1 ∷ 128 ∷ []) ∷ [], told phase.Symbol 0 code.SymbolKind 304)
    ∷ ((308, 2 ∷ 1 ∷ 128 ∷ []) ∷ [], None)
    -- alone and beside a name behind the strings
    ∷ ((304, 16 ∷ []) ∷ (308, 11 ∷ []) ∷ [], told phase.Symbol 0 code.BadName 304)
    -- an entry for debuggers is passed over
    ∷ ((304, 16 ∷ []) ∷ (308, 43 ∷ []) ∷ [], None)
    -- sections: none, and one too many
    ∷ ((309, 0 ∷ []) ∷ [], told phase.Symbol 0 code.BadSymbol 304)
    ∷ ((309, 2 ∷ []) ∷ [], told phase.Symbol 0 code.BadSymbol 304)
    ∷ ((309, 2 ∷ []) ∷ (308, 11 ∷ []) ∷ [], told phase.Symbol 0 code.SymbolKind 304)
    -- values: at the end of the section, and past it; before it
    ∷ ((312, 6 ∷ []) ∷ [], None)
    ∷ ((312, 7 ∷ []) ∷ [], told phase.Symbol 0 code.SymbolPastEnd 304)
    ∷ ((136, 1 ∷ []) ∷ [], told phase.Symbol 0 code.SymbolPastEnd 304)
    ∷ ((312, 7 ∷ []) ∷ (304, 0 ∷ []) ∷ [], told phase.Symbol 0 code.SymbolPastEnd 304)
    -- empty names: of an external symbol, and of a Local
    ∷ ((304, 0 ∷ []) ∷ [], told phase.Symbol 0 code.SymbolKind 304)
    ∷ ((304, 0 ∷ []) ∷ (308, 14 ∷ []) ∷ [], None)
    -- a name that stands again: of two external symbols, of a Local and one, of an entry for debuggers and one
    ∷ ((320, 1 ∷ []) ∷ [], told phase.Symbol 1 code.DuplicateName 320)
    ∷ ((320, 1 ∷ []) ∷ (308, 14 ∷ []) ∷ [], None)
    ∷ ((320, 1 ∷ []) ∷ (308, 47 ∷ []) ∷ [], None)
    -- what is judged first: the symbols
    ∷ ((320, 1 ∷ []) ∷ (296, 6 ∷ []) ∷ [], told phase.Symbol 1 code.DuplicateName 320) ∷ []

-- ... the entry of `called`, at 296: a SIGNED of four bytes at 1, to symbol 1

abbrev entry_rows : List FaultRow
entry_rows =
    -- kinds: not self-relative, two bytes, type 9, scattered, a slot of a section
    ((303, 28 ∷ []) ∷ [], told phase.Relocation 1 code.RelocKind 296)
    ∷ ((303, 27 ∷ []) ∷ [], told phase.Relocation 1 code.RelocKind 296)
    ∷ ((303, 157 ∷ []) ∷ [], told phase.Relocation 1 code.RelocKind 296)
    ∷ ((299, 128 ∷ []) ∷ [], told phase.Relocation 1 code.RelocKind 296)
    ∷ ((303, 69 ∷ []) ∷ [], told phase.Relocation 1 code.RelocKind 296)
    ∷ ((303, 77 ∷ []) ∷ [], None)
    -- the first of a pair that has no second
    ∷ ((303, 92 ∷ []) ∷ [], told phase.Relocation 1 code.BadPair 296)
    -- fields that end with the section, and behind it; alone and beside such a kind
    ∷ ((296, 2 ∷ []) ∷ [], None)
    ∷ ((296, 3 ∷ []) ∷ [], told phase.Relocation 1 code.BadOffset 296)
    ∷ ((296, 255 ∷ 255 ∷ 255 ∷ 127 ∷ []) ∷ [], told phase.Relocation 1 code.BadOffset 296)
    ∷ ((296, 3 ∷ []) ∷ (303, 157 ∷ []) ∷ [], told phase.Relocation 1 code.RelocKind 296)
    -- symbols: one that is not there, an entry for debuggers, a Local without a name, an absolute Local
    ∷ ((300, 2 ∷ []) ∷ [], told phase.Relocation 1 code.BadTarget 296)
    ∷ ((300, 0 ∷ []) ∷ (308, 47 ∷ []) ∷ [], told phase.Relocation 1 code.BadTarget 296)
    ∷ ((300, 0 ∷ []) ∷ (308, 14 ∷ []) ∷ (304, 0 ∷ []) ∷ [], told phase.Relocation 1 code.BadTarget 296)
    ∷ ((300, 0 ∷ []) ∷ (308, 2 ∷ []) ∷ [], told phase.Relocation 1 code.TargetKind 296)
    ∷ ((300, 2 ∷ []) ∷ (296, 3 ∷ []) ∷ [], told phase.Relocation 1 code.BadOffset 296)
    -- a Local with a place, and an absolute external symbol; the slot of that Local
    ∷ ((300, 0 ∷ []) ∷ (308, 14 ∷ []) ∷ [], None)
    ∷ ((300, 0 ∷ []) ∷ (308, 3 ∷ []) ∷ [], None)
    ∷ ((303, 77 ∷ []) ∷ (300, 0 ∷ []) ∷ (308, 14 ∷ []) ∷ [], told phase.Relocation 1 code.TargetKind 296)
    -- sections: number 1, number 2, and number 0
    ∷ ((303, 21 ∷ []) ∷ [], None)
    ∷ ((303, 21 ∷ []) ∷ (300, 2 ∷ []) ∷ [], told phase.Relocation 1 code.BadTarget 296)
    ∷ ((303, 21 ∷ []) ∷ (300, 0 ∷ []) ∷ [], told phase.Relocation 1 code.TargetKind 296) ∷ []

-- ... the pairs of `difference`, at 408 and 424: SUBTRACTOR and UNSIGNED of four bytes at 8, and of eight at 16, from `_base` to `_ext`

abbrev pair_rows : List FaultRow
pair_rows =
    ([], None)
    -- the second is of another type; has another length, or another address; refers by an address; is self-relative
    ∷ ((423, 28 ∷ []) ∷ [], told phase.Relocation 2 code.BadPair 408)
    ∷ ((423, 14 ∷ []) ∷ [], told phase.Relocation 2 code.BadPair 408)
    ∷ ((416, 9 ∷ []) ∷ [], told phase.Relocation 2 code.BadPair 408)
    ∷ ((419, 128 ∷ []) ∷ [], told phase.Relocation 2 code.BadPair 408)
    ∷ ((423, 13 ∷ []) ∷ [], told phase.Relocation 2 code.RelocKind 408)
    -- there is no entry behind the last
    ∷ ((244, 3 ∷ []) ∷ [], told phase.Relocation 2 code.BadPair 424)
    -- a pair of two SUBTRACTORs is one structure, and so is what is behind it
    ∷ ((423, 92 ∷ []) ∷ [], told phase.Relocation 2 code.BadPair 408)
    -- offsets: past the section
    ∷ ((424, 17 ∷ []) ∷ (432, 17 ∷ []) ∷ [], told phase.Relocation 2 code.BadOffset 424)
    -- what is taken: nothing, an undefined symbol, an external one with a place, a weak one, an absolute Local
    ∷ ((412, 2 ∷ []) ∷ [], told phase.Relocation 2 code.BadTarget 408)
    ∷ ((412, 1 ∷ []) ∷ [], told phase.Relocation 2 code.TargetKind 408)
    ∷ ((444, 15 ∷ []) ∷ [], None)
    ∷ ((444, 15 ∷ 2 ∷ 128 ∷ []) ∷ [], told phase.Relocation 2 code.TargetKind 408)
    ∷ ((444, 2 ∷ []) ∷ [], told phase.Relocation 2 code.TargetKind 408)
    -- a target that is not there stands before what is taken wrongly
    ∷ ((412, 1 ∷ []) ∷ (420, 2 ∷ []) ∷ [], told phase.Relocation 2 code.BadTarget 408)
    -- fields that meet: the second pair four bytes before its place, and at the place of the first
    ∷ ((424, 12 ∷ []) ∷ (432, 12 ∷ []) ∷ [], None)
    ∷ ((424, 11 ∷ []) ∷ (432, 11 ∷ []) ∷ [], told phase.Relocation 2 code.Overlap 424)
    ∷ ((424, 8 ∷ []) ∷ (432, 8 ∷ []) ∷ [], told phase.Relocation 2 code.Overlap 424)
    -- differences of one section: of `_base` and itself, a constant that fits; and of a section at a high address, one that does not
    ∷ ((420, 0 ∷ []) ∷ [], None)
    ∷ ((420, 2 ∷ 0 ∷ 0 ∷ 4 ∷ []) ∷ [], None)
    ∷ ((420, 2 ∷ 0 ∷ 0 ∷ 4 ∷ []) ∷ (216, 0 ∷ 0 ∷ 0 ∷ 0 ∷ 1 ∷ []) ∷ (448, 0 ∷ 0 ∷ 0 ∷ 0 ∷ 1 ∷ []) ∷ [], told phase.Relocation 2 code.FoldTooWide 408) ∷ []

-- ... the pair of `folded`, at 364: SECTDIFF and PAIR at 4 of the second section, of two addresses in the first

abbrev scattered_rows : List FaultRow
scattered_rows =
    ([], None)
    -- LOCAL_SECTDIFF is read alike
    ∷ ((367, 164 ∷ []) ∷ [], None)
    -- types that must be scattered; others; a PAIR of two bytes, and one that is self-relative
    ∷ ((367, 2 ∷ []) ∷ [], told phase.Relocation 2 code.RelocKind 364)
    ∷ ((367, 163 ∷ []) ∷ [], told phase.Relocation 2 code.RelocKind 364)
    ∷ ((375, 145 ∷ []) ∷ [], told phase.Relocation 2 code.RelocKind 364)
    ∷ ((375, 225 ∷ []) ∷ [], told phase.Relocation 2 code.RelocKind 364)
    -- the second is no PAIR, or is not scattered, or is not there
    ∷ ((375, 162 ∷ []) ∷ [], told phase.Relocation 2 code.BadPair 364)
    ∷ ((375, 33 ∷ []) ∷ [], told phase.Relocation 2 code.BadPair 364)
    ∷ ((204, 1 ∷ []) ∷ [], told phase.Relocation 2 code.BadPair 364)
    -- a PAIR alone; behind an entry that stands alone
    ∷ ((367, 161 ∷ []) ∷ [], told phase.Relocation 2 code.BadPair 364)
    ∷ ((367, 160 ∷ []) ∷ [], told phase.Relocation 2 code.BadPair 372)
    -- the address of the PAIR counts for nothing
    ∷ ((372, 255 ∷ 255 ∷ []) ∷ [], None)
    ∷ ((364, 5 ∷ []) ∷ [], told phase.Relocation 2 code.BadOffset 364)
    -- addresses: at the end of the last section, behind it, and of what is taken
    ∷ ((368, 40 ∷ []) ∷ [], None)
    ∷ ((368, 41 ∷ []) ∷ [], told phase.Relocation 2 code.BadTarget 364)
    ∷ ((376, 41 ∷ []) ∷ [], told phase.Relocation 2 code.BadTarget 364) ∷ []

-- the rows of a file have the faults that they tell
abbrev AreTold : Word → List ℕ → List FaultRow → Type 0
AreTold w file rows = map (λ (r : FaultRow). fault_by w (patched r.0 file)) rows ≡ map (λ (r : FaultRow). r.1) rows

header-faults : AreTold W64 called header_rows
unfolding number_at residue_of extended mach_kind mach_tag mach_header_of load_command_at segment_command_at symtab_command_at section_header_at nlist_at relocation_info_at relocation_info_of reference_of scattered_of section_table tables_of kind_of contents_of holder_of name_at is_own binding_of symbol_of row_for item_at aim_in field_parts_by added_by field_of least_size is_bad header_conditions sections.own_conditions sections.limit_conditions sections.section_conditions symbols.symbol_conditions is_unknown is_no_pair refers_to_nothing refers_wrongly form_conditions target_conditions is_too_wide entry_conditions fault_of
header-faults = refl

section-faults : AreTold W64 called section_rows
unfolding number_at residue_of extended mach_kind mach_tag mach_header_of load_command_at segment_command_at symtab_command_at section_header_at nlist_at relocation_info_at relocation_info_of reference_of scattered_of section_table tables_of kind_of contents_of holder_of name_at is_own binding_of symbol_of row_for item_at aim_in field_parts_by added_by field_of least_size is_bad header_conditions sections.own_conditions sections.limit_conditions sections.section_conditions symbols.symbol_conditions is_unknown is_no_pair refers_to_nothing refers_wrongly form_conditions target_conditions is_too_wide entry_conditions fault_of
section-faults = refl

symbol-faults : AreTold W64 called symbol_rows
unfolding number_at residue_of extended mach_kind mach_tag mach_header_of load_command_at segment_command_at symtab_command_at section_header_at nlist_at relocation_info_at relocation_info_of reference_of scattered_of section_table tables_of kind_of contents_of holder_of name_at is_own binding_of symbol_of row_for item_at aim_in field_parts_by added_by field_of least_size is_bad header_conditions sections.own_conditions sections.limit_conditions sections.section_conditions symbols.symbol_conditions is_unknown is_no_pair refers_to_nothing refers_wrongly form_conditions target_conditions is_too_wide entry_conditions fault_of
symbol-faults = refl

entry-faults : AreTold W64 called entry_rows
unfolding number_at residue_of extended mach_kind mach_tag mach_header_of load_command_at segment_command_at symtab_command_at section_header_at nlist_at relocation_info_at relocation_info_of reference_of scattered_of section_table tables_of kind_of contents_of holder_of name_at is_own binding_of symbol_of row_for item_at aim_in field_parts_by added_by field_of least_size is_bad header_conditions sections.own_conditions sections.limit_conditions sections.section_conditions symbols.symbol_conditions is_unknown is_no_pair refers_to_nothing refers_wrongly form_conditions target_conditions is_too_wide entry_conditions fault_of
entry-faults = refl

pair-faults : AreTold W64 difference pair_rows
unfolding number_at residue_of extended mach_kind mach_tag mach_header_of load_command_at segment_command_at symtab_command_at section_header_at nlist_at relocation_info_at relocation_info_of reference_of scattered_of section_table tables_of kind_of contents_of holder_of name_at is_own binding_of symbol_of row_for item_at aim_in field_parts_by added_by field_of least_size is_bad header_conditions sections.own_conditions sections.limit_conditions sections.section_conditions symbols.symbol_conditions is_unknown is_no_pair refers_to_nothing refers_wrongly form_conditions target_conditions is_too_wide entry_conditions fault_of
pair-faults = refl

scattered-faults : AreTold W32 folded scattered_rows
unfolding number_at residue_of extended mach_kind mach_tag mach_header_of load_command_at segment_command_at symtab_command_at section_header_at nlist_at relocation_info_at relocation_info_of reference_of scattered_of section_table tables_of kind_of contents_of holder_of name_at is_own binding_of symbol_of row_for item_at aim_in field_parts_by added_by field_of least_size is_bad header_conditions sections.own_conditions sections.limit_conditions sections.section_conditions symbols.symbol_conditions is_unknown is_no_pair refers_to_nothing refers_wrongly form_conditions target_conditions is_too_wide entry_conditions fault_of
scattered-faults = refl
