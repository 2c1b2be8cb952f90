-- What modules are refused for, computed on modules that were put together by hand from TIS OMF 1.1: each condition alone, and beside the one before it.
use Rattle.std.proofs.Common.{◌≡◌, ℕ, ◌+◌, false, List, [], ◌∷◌, ◌++◌, length, map, Some, None, Option, refl}
use Rattle.std.specs.{Prelude.{flat_map}, Option.{option_map}}
use Rattle.oc_base.specs.{declared.code.Code.{Code}, declared.fault.Fault.{Fault}, declared.fault.Phase.{Phase}, Numbers.{number_at}}
use Rattle.oc_base.specs.declared.code.Code.TheVariants as code
use Rattle.oc_base.specs.declared.fault.Phase.TheVariants as phase
use Rattle.oc_linking.specs.{declared.terms.Keep.{Keep}, Keeping.{all}}
use Rattle.oc_neutral.specs.Omf.Kinds.{omf_kind}
use Rattle.oc_omf.specs.Cursor.{number_read, index_read, name_read, each_read}
use Rattle.oc_omf.specs.Structures.{segment_read, member_read, group_read, base_read, public_read, external_read, communal_length, communal_read, piece_read, method_read, thread_read, frame_read, target_read, displacement_read, fixup_read, subrecord_read}
use Rattle.oc_omf.specs.{Entries.{said_by, places_in, entries_in}, Tables.{tables_of}, Symbols.{mentions_in, binding_of, symbols_in}}
use Rattle.oc_omf.specs.{Fixups.{subrecords_upto, fixed_in}, Targets.{meaning_of}, HeaderFaults.{entry_conditions}}
use Rattle.oc_omf.specs.SectionFaults.{form_conditions, size_conditions, group_conditions, piece_conditions, all_bytes, conditions_on}
use Rattle.oc_omf.specs.SymbolFaults.{base_conditions, public_conditions, communal_conditions, external_conditions, symbol_table}
use Rattle.oc_omf.specs.{RelocationFaults.{fixup_conditions, relocation_conditions}, Rules.{stages_of, fault_of}}

-- a fault: its phase, index, code and place
abbrev Told : Type 0
Told = Option (Phase × ℕ × Code × ℕ)

abbrev told : Phase → ℕ → Code → ℕ → Told
told phase index code place = Some (phase, index, code, place)

abbrev fault_by : Keep → List ℕ → Told
fault_by keep file = option_map (λ (f : Fault). (f.phase, f.index, f.code, f.place)) (fault_of file keep)

-- an entry by its type and its contents, below 255 bytes
abbrev Written : Type 0
Written = ℕ × List ℕ

-- its bytes, with a checksum of 0
abbrev entry : Written → List ℕ
entry e = e.0 ∷ (length e.1 + 1) ∷ 0 ∷ e.1 ++ 0 ∷ []

-- entries, the bytes behind them, and the fault of the file that they are
abbrev FaultRow : Type 0
FaultRow = List Written × List ℕ × Told

abbrev file_of : FaultRow → List ℕ
file_of row = flat_map entry row.0 ++ row.1

abbrev expected : FaultRow → Told
expected row = row.2

-- debugging data are not kept
abbrev stripped : Keep
stripped = record { debug = false; exceptions = false; notes = false }

-- the front, whose name is `a`
abbrev theadr : Written
theadr = (0x80, 1 ∷ 97 ∷ [])

-- the names, `FLAT` and `_TEXT`, and the classes `CODE`, `DATA`, `BSS` and `DEBSYM`
abbrev lnames : Written
lnames = (0x96, 0 ∷ 4 ∷ 70 ∷ 76 ∷ 65 ∷ 84 ∷ 5 ∷ 95 ∷ 84 ∷ 69 ∷ 88 ∷ 84 ∷ 4 ∷ 67 ∷ 79 ∷ 68 ∷ 69 ∷ 4 ∷ 68 ∷ 65 ∷ 84 ∷ 65 ∷ 3 ∷ 66 ∷ 83 ∷ 83 ∷ 6 ∷ 68 ∷ 69 ∷ 66 ∷ 83 ∷ 89 ∷ 77 ∷ [])

-- a segment `_TEXT` of class `CODE` and 8 bytes
abbrev segdef : Written
segdef = (0x99, 105 ∷ 8 ∷ 0 ∷ 0 ∷ 0 ∷ 3 ∷ 4 ∷ 1 ∷ [])

-- the group FLAT
abbrev flat : Written
flat = (0x9A, 2 ∷ [])

-- the external symbols `foo` and `bar`
abbrev externals : Written
externals = (0x8C, 3 ∷ 102 ∷ 111 ∷ 111 ∷ 0 ∷ 3 ∷ 98 ∷ 97 ∷ 114 ∷ 0 ∷ [])

-- 8 bytes of segment 1
abbrev ledata : Written
ledata = (0xA1, 1 ∷ 0 ∷ 0 ∷ 0 ∷ 0 ∷ 0 ∷ 0 ∷ 0 ∷ 0 ∷ 0 ∷ 0 ∷ 0 ∷ 0 ∷ [])

-- the end
abbrev modend : Written
modend = (0x8A, 0 ∷ [])

-- ... what is no entry, or of no record of the profile

abbrev headers : List FaultRow
headers =
    (theadr ∷ [], [], told phase.Header 1 code.Short 6)
    ∷ (theadr ∷ [], 136 ∷ 0 ∷ 0 ∷ [], told phase.Header 1 code.Short 6)
    ∷ (theadr ∷ [], 136 ∷ 5 ∷ 0 ∷ 0 ∷ 0 ∷ [], told phase.Header 1 code.Short 6)
    ∷ (theadr ∷ [], 136 ∷ 3 ∷ 0 ∷ 0 ∷ 0 ∷ 1 ∷ [], told phase.Header 1 code.BadChecksum 6)
    ∷ (theadr ∷ (0x88, 0 ∷ []) ∷ modend ∷ [], [], told phase.Header 1 code.BadTable 6)
    ∷ (theadr ∷ (0x8A, []) ∷ modend ∷ [], [], told phase.Header 1 code.BadTable 6)
    ∷ (theadr ∷ (0x82, []) ∷ modend ∷ [], [], told phase.Header 1 code.RecordKind 6)
    ∷ (theadr ∷ (0x7E, 0 ∷ []) ∷ modend ∷ [], [], told phase.Header 1 code.RecordKind 6)
    ∷ (theadr ∷ theadr ∷ modend ∷ [], [], told phase.Header 1 code.RecordKind 6)
    ∷ (theadr ∷ (0x88, 0 ∷ 168 ∷ []) ∷ modend ∷ [], [], told phase.Header 1 code.RecordKind 6)
    ∷ (theadr ∷ (0x88, 0 ∷ 169 ∷ 1 ∷ []) ∷ modend ∷ [], [], told phase.Header 1 code.RecordKind 6)
    ∷ (theadr ∷ (0x8A, 64 ∷ []) ∷ modend ∷ [], [], told phase.Header 1 code.RecordKind 6)
    ∷ (theadr ∷ (0x8B, 192 ∷ []) ∷ modend ∷ [], [], told phase.Header 1 code.RecordKind 6)
    ∷ ((0x81, 1 ∷ 97 ∷ []) ∷ (0x88, 0 ∷ 167 ∷ []) ∷ (0x89, 0 ∷ 0 ∷ []) ∷ (0x94, 1 ∷ []) ∷ (0x95, []) ∷ (0x8B, 128 ∷ []) ∷ [], 1 ∷ 2 ∷ 3 ∷ [], None)
    ∷ (theadr ∷ modend ∷ [], 130 ∷ [], None)
    ∷ []

headers-told : map (λ (row : FaultRow). fault_by all (file_of row)) headers ≡ map expected headers
unfolding number_at omf_kind number_read index_read name_read each_read segment_read member_read group_read base_read public_read external_read communal_length communal_read piece_read method_read thread_read frame_read target_read displacement_read fixup_read subrecord_read said_by places_in entries_in tables_of mentions_in binding_of symbols_in subrecords_upto fixed_in meaning_of entry_conditions form_conditions size_conditions group_conditions piece_conditions all_bytes conditions_on base_conditions public_conditions communal_conditions external_conditions symbol_table fixup_conditions relocation_conditions stages_of fault_of
headers-told = refl

-- ... names and segments

abbrev segments : List FaultRow
segments =
    (theadr ∷ (0x96, 0 ∷ 3 ∷ 65 ∷ []) ∷ modend ∷ [], [], told phase.Section 1 code.BadName 6)
    ∷ (theadr ∷ (0x99, 105 ∷ 8 ∷ 0 ∷ 0 ∷ 0 ∷ 3 ∷ 4 ∷ []) ∷ modend ∷ [], [], told phase.Section 1 code.BadTable 6)
    ∷ (theadr ∷ (0x98, 105 ∷ 8 ∷ 0 ∷ 129 ∷ []) ∷ modend ∷ [], [], told phase.Section 1 code.BadTable 6)
    ∷ (theadr ∷ lnames ∷ (0x99, 104 ∷ 8 ∷ 0 ∷ 0 ∷ 0 ∷ 3 ∷ 4 ∷ 1 ∷ []) ∷ modend ∷ [], [], told phase.Section 2 code.SectionKind 43)
    ∷ (theadr ∷ lnames ∷ (0x99, 101 ∷ 8 ∷ 0 ∷ 0 ∷ 0 ∷ 3 ∷ 4 ∷ 1 ∷ []) ∷ modend ∷ [], [], told phase.Section 2 code.SectionKind 43)
    ∷ (theadr ∷ lnames ∷ (0x99, 109 ∷ 8 ∷ 0 ∷ 0 ∷ 0 ∷ 3 ∷ 4 ∷ 1 ∷ []) ∷ modend ∷ [], [], told phase.Section 2 code.SectionKind 43)
    ∷ (theadr ∷ lnames ∷ (0x99, 117 ∷ 8 ∷ 0 ∷ 0 ∷ 0 ∷ 3 ∷ 4 ∷ 1 ∷ []) ∷ modend ∷ [], [], told phase.Section 2 code.SectionKind 43)
    ∷ (theadr ∷ lnames ∷ (0x99, 121 ∷ 8 ∷ 0 ∷ 0 ∷ 0 ∷ 3 ∷ 4 ∷ 1 ∷ []) ∷ modend ∷ [], [], told phase.Section 2 code.SectionKind 43)
    ∷ (theadr ∷ lnames ∷ (0x99, 9 ∷ 8 ∷ 0 ∷ 0 ∷ 0 ∷ 3 ∷ 4 ∷ 1 ∷ []) ∷ modend ∷ [], [], told phase.Section 2 code.SectionKind 43)
    ∷ (theadr ∷ lnames ∷ (0x99, 201 ∷ 8 ∷ 0 ∷ 0 ∷ 0 ∷ 3 ∷ 4 ∷ 1 ∷ []) ∷ modend ∷ [], [], told phase.Section 2 code.BadAlign 43)
    ∷ (theadr ∷ lnames ∷ (0x99, 233 ∷ 8 ∷ 0 ∷ 0 ∷ 0 ∷ 3 ∷ 4 ∷ 1 ∷ []) ∷ modend ∷ [], [], told phase.Section 2 code.BadAlign 43)
    ∷ (theadr ∷ lnames ∷ (0x99, 97 ∷ 8 ∷ 0 ∷ 0 ∷ 0 ∷ 3 ∷ 4 ∷ 1 ∷ []) ∷ modend ∷ [], [], None)
    ∷ (theadr ∷ lnames ∷ (0x99, 113 ∷ 8 ∷ 0 ∷ 0 ∷ 0 ∷ 3 ∷ 4 ∷ 1 ∷ []) ∷ modend ∷ [], [], None)
    ∷ (theadr ∷ lnames ∷ (0x99, 125 ∷ 8 ∷ 0 ∷ 0 ∷ 0 ∷ 3 ∷ 4 ∷ 1 ∷ []) ∷ modend ∷ [], [], None)
    ∷ (theadr ∷ lnames ∷ (0x99, 41 ∷ 8 ∷ 0 ∷ 0 ∷ 0 ∷ 3 ∷ 4 ∷ 1 ∷ []) ∷ modend ∷ [], [], None)
    ∷ (theadr ∷ lnames ∷ (0x99, 73 ∷ 8 ∷ 0 ∷ 0 ∷ 0 ∷ 3 ∷ 4 ∷ 1 ∷ []) ∷ modend ∷ [], [], None)
    ∷ (theadr ∷ lnames ∷ (0x99, 137 ∷ 8 ∷ 0 ∷ 0 ∷ 0 ∷ 3 ∷ 4 ∷ 1 ∷ []) ∷ modend ∷ [], [], None)
    ∷ (theadr ∷ lnames ∷ (0x99, 169 ∷ 8 ∷ 0 ∷ 0 ∷ 0 ∷ 3 ∷ 4 ∷ 1 ∷ []) ∷ modend ∷ [], [], None)
    ∷ (theadr ∷ lnames ∷ (0x99, 105 ∷ 8 ∷ 0 ∷ 0 ∷ 0 ∷ 8 ∷ 4 ∷ 1 ∷ []) ∷ modend ∷ [], [], told phase.Section 2 code.BadIndex 43)
    ∷ (theadr ∷ lnames ∷ (0x99, 105 ∷ 8 ∷ 0 ∷ 0 ∷ 0 ∷ 3 ∷ 8 ∷ 1 ∷ []) ∷ modend ∷ [], [], told phase.Section 2 code.BadIndex 43)
    ∷ (theadr ∷ lnames ∷ (0x99, 105 ∷ 8 ∷ 0 ∷ 0 ∷ 0 ∷ 3 ∷ 4 ∷ 8 ∷ []) ∷ modend ∷ [], [], told phase.Section 2 code.BadIndex 43)
    ∷ (theadr ∷ segdef ∷ lnames ∷ modend ∷ [], [], told phase.Section 1 code.BadIndex 6)
    ∷ (theadr ∷ (0x99, 105 ∷ 8 ∷ 0 ∷ 0 ∷ 0 ∷ 0 ∷ 0 ∷ 0 ∷ []) ∷ modend ∷ [], [], None)
    ∷ (theadr ∷ lnames ∷ (0x99, 105 ∷ 0 ∷ 0 ∷ 0 ∷ 128 ∷ 3 ∷ 6 ∷ 1 ∷ []) ∷ modend ∷ [], [], told phase.Section 2 code.LimitSection 2147483648)
    ∷ (theadr ∷ lnames ∷ (0x99, 107 ∷ 7 ∷ 0 ∷ 0 ∷ 0 ∷ 3 ∷ 6 ∷ 1 ∷ []) ∷ modend ∷ [], [], told phase.Section 2 code.LimitSection 4294967296)
    ∷ (theadr ∷ lnames ∷ (0x98, 107 ∷ 7 ∷ 0 ∷ 3 ∷ 6 ∷ 1 ∷ []) ∷ modend ∷ [], [], None)
    ∷ (theadr ∷ lnames ∷ (0x99, 105 ∷ 255 ∷ 255 ∷ 255 ∷ 127 ∷ 3 ∷ 6 ∷ 1 ∷ []) ∷ (0x99, 105 ∷ 1 ∷ 0 ∷ 0 ∷ 0 ∷ 3 ∷ 6 ∷ 1 ∷ []) ∷ modend ∷ [], [], None)
    ∷ (theadr ∷ lnames ∷ (0x99, 105 ∷ 255 ∷ 255 ∷ 255 ∷ 127 ∷ 3 ∷ 6 ∷ 1 ∷ []) ∷ (0x99, 105 ∷ 2 ∷ 0 ∷ 0 ∷ 0 ∷ 3 ∷ 6 ∷ 1 ∷ []) ∷ modend ∷ [], [], told phase.Section 3 code.LimitSum 2147483649)
    ∷ (theadr ∷ lnames ∷ (0x99, 105 ∷ 0 ∷ 0 ∷ 0 ∷ 4 ∷ 3 ∷ 5 ∷ 1 ∷ []) ∷ (0x99, 105 ∷ 8 ∷ 0 ∷ 0 ∷ 0 ∷ 3 ∷ 6 ∷ 1 ∷ []) ∷ modend ∷ [], [], None)
    ∷ (theadr ∷ lnames ∷ (0x99, 105 ∷ 0 ∷ 0 ∷ 0 ∷ 4 ∷ 3 ∷ 5 ∷ 1 ∷ []) ∷ (0x99, 105 ∷ 1 ∷ 0 ∷ 0 ∷ 0 ∷ 3 ∷ 7 ∷ 1 ∷ []) ∷ modend ∷ [], [], told phase.Section 4 code.LimitBytes 67108865)
    ∷ (theadr ∷ lnames ∷ (0x99, 105 ∷ 0 ∷ 0 ∷ 0 ∷ 4 ∷ 3 ∷ 5 ∷ 1 ∷ []) ∷ (0x99, 105 ∷ 1 ∷ 0 ∷ 0 ∷ 0 ∷ 3 ∷ 6 ∷ 1 ∷ []) ∷ (0xA1, 2 ∷ 0 ∷ 0 ∷ 0 ∷ 0 ∷ 0 ∷ []) ∷ modend ∷ [], [], told phase.Section 5 code.LimitBytes 67108865)
    ∷ []

segments-told : map (λ (row : FaultRow). fault_by all (file_of row)) segments ≡ map expected segments
unfolding number_at omf_kind number_read index_read name_read each_read segment_read member_read group_read base_read public_read external_read communal_length communal_read piece_read method_read thread_read frame_read target_read displacement_read fixup_read subrecord_read said_by places_in entries_in tables_of mentions_in binding_of symbols_in subrecords_upto fixed_in meaning_of entry_conditions form_conditions size_conditions group_conditions piece_conditions all_bytes conditions_on base_conditions public_conditions communal_conditions external_conditions symbol_table fixup_conditions relocation_conditions stages_of fault_of
segments-told = refl

-- ... groups

abbrev groups : List FaultRow
groups =
    (theadr ∷ lnames ∷ segdef ∷ (0x9A, []) ∷ modend ∷ [], [], told phase.Section 3 code.BadTable 55)
    ∷ (theadr ∷ lnames ∷ segdef ∷ (0x9A, 2 ∷ 255 ∷ []) ∷ modend ∷ [], [], told phase.Section 3 code.BadTable 55)
    ∷ (theadr ∷ lnames ∷ segdef ∷ (0x9A, 2 ∷ 254 ∷ 1 ∷ []) ∷ modend ∷ [], [], told phase.Section 3 code.SectionKind 55)
    ∷ (theadr ∷ lnames ∷ segdef ∷ (0x9A, 2 ∷ 254 ∷ 1 ∷ 255 ∷ []) ∷ modend ∷ [], [], told phase.Section 3 code.BadTable 55)
    ∷ (theadr ∷ lnames ∷ segdef ∷ (0x9A, 8 ∷ []) ∷ modend ∷ [], [], told phase.Section 3 code.BadIndex 55)
    ∷ (theadr ∷ lnames ∷ segdef ∷ (0x9A, 2 ∷ 255 ∷ 0 ∷ []) ∷ modend ∷ [], [], told phase.Section 3 code.BadIndex 55)
    ∷ (theadr ∷ lnames ∷ segdef ∷ (0x9A, 2 ∷ 255 ∷ 1 ∷ 255 ∷ 2 ∷ []) ∷ modend ∷ [], [], told phase.Section 3 code.BadIndex 55)
    ∷ (theadr ∷ lnames ∷ segdef ∷ (0x9A, 8 ∷ 254 ∷ 1 ∷ []) ∷ modend ∷ [], [], told phase.Section 3 code.SectionKind 55)
    ∷ (theadr ∷ lnames ∷ segdef ∷ (0x9A, 0 ∷ 255 ∷ 1 ∷ 255 ∷ 1 ∷ []) ∷ modend ∷ [], [], None)
    ∷ (theadr ∷ lnames ∷ (0x9A, 2 ∷ 255 ∷ 1 ∷ []) ∷ segdef ∷ modend ∷ [], [], told phase.Section 2 code.BadIndex 43)
    ∷ []

groups-told : map (λ (row : FaultRow). fault_by all (file_of row)) groups ≡ map expected groups
unfolding number_at omf_kind number_read index_read name_read each_read segment_read member_read group_read base_read public_read external_read communal_length communal_read piece_read method_read thread_read frame_read target_read displacement_read fixup_read subrecord_read said_by places_in entries_in tables_of mentions_in binding_of symbols_in subrecords_upto fixed_in meaning_of entry_conditions form_conditions size_conditions group_conditions piece_conditions all_bytes conditions_on base_conditions public_conditions communal_conditions external_conditions symbol_table fixup_conditions relocation_conditions stages_of fault_of
groups-told = refl

-- ... data

abbrev data_rows : List FaultRow
data_rows =
    (theadr ∷ lnames ∷ segdef ∷ (0xA1, []) ∷ modend ∷ [], [], told phase.Section 3 code.BadTable 55)
    ∷ (theadr ∷ lnames ∷ segdef ∷ (0xA1, 1 ∷ 0 ∷ 0 ∷ 0 ∷ []) ∷ modend ∷ [], [], told phase.Section 3 code.BadTable 55)
    ∷ (theadr ∷ lnames ∷ segdef ∷ (0xA1, 0 ∷ 0 ∷ 0 ∷ 0 ∷ 0 ∷ 0 ∷ 0 ∷ 0 ∷ 0 ∷ 0 ∷ 0 ∷ 0 ∷ 0 ∷ []) ∷ modend ∷ [], [], told phase.Section 3 code.BadIndex 55)
    ∷ (theadr ∷ lnames ∷ segdef ∷ (0xA1, 2 ∷ 0 ∷ 0 ∷ 0 ∷ 0 ∷ 0 ∷ 0 ∷ 0 ∷ 0 ∷ 0 ∷ 0 ∷ 0 ∷ 0 ∷ []) ∷ modend ∷ [], [], told phase.Section 3 code.BadIndex 55)
    ∷ (theadr ∷ lnames ∷ segdef ∷ (0xA1, 1 ∷ 1 ∷ 0 ∷ 0 ∷ 0 ∷ 0 ∷ 0 ∷ 0 ∷ 0 ∷ 0 ∷ 0 ∷ 0 ∷ 0 ∷ []) ∷ modend ∷ [], [], told phase.Section 3 code.DataPastEnd 55)
    ∷ (theadr ∷ lnames ∷ segdef ∷ (0xA1, 1 ∷ 9 ∷ 0 ∷ 0 ∷ 0 ∷ []) ∷ modend ∷ [], [], told phase.Section 3 code.DataPastEnd 55)
    ∷ (theadr ∷ lnames ∷ segdef ∷ (0xA3, 1 ∷ 0 ∷ 0 ∷ 0 ∷ 0 ∷ 1 ∷ 0 ∷ 0 ∷ 0 ∷ 0 ∷ 0 ∷ 2 ∷ 7 ∷ []) ∷ modend ∷ [], [], told phase.Section 3 code.BadTable 55)
    ∷ (theadr ∷ lnames ∷ segdef ∷ (0xA3, 1 ∷ 0 ∷ 0 ∷ 0 ∷ 0 ∷ 1 ∷ 0 ∷ 0 ∷ 0 ∷ 1 ∷ 0 ∷ []) ∷ modend ∷ [], [], told phase.Section 3 code.BadTable 55)
    ∷ (theadr ∷ lnames ∷ segdef ∷ (0xA3, 2 ∷ 0 ∷ 0 ∷ 0 ∷ 0 ∷ 1 ∷ 0 ∷ 0 ∷ []) ∷ modend ∷ [], [], told phase.Section 3 code.BadTable 55)
    ∷ (theadr ∷ lnames ∷ segdef ∷ (0xA3, 1 ∷ 0 ∷ 0 ∷ 0 ∷ 0 ∷ 3 ∷ 0 ∷ 0 ∷ 0 ∷ 0 ∷ 0 ∷ 3 ∷ 1 ∷ 2 ∷ 3 ∷ []) ∷ modend ∷ [], [], told phase.Section 3 code.DataPastEnd 55)
    ∷ (theadr ∷ lnames ∷ segdef ∷ (0xA3, 1 ∷ 0 ∷ 0 ∷ 0 ∷ 0 ∷ 255 ∷ 255 ∷ 255 ∷ 255 ∷ 0 ∷ 0 ∷ 1 ∷ 0 ∷ []) ∷ modend ∷ [], [], told phase.Section 3 code.DataPastEnd 55)
    ∷ (theadr ∷ lnames ∷ segdef ∷ (0xA3, 1 ∷ 0 ∷ 0 ∷ 0 ∷ 0 ∷ 1 ∷ 0 ∷ 0 ∷ 0 ∷ 1 ∷ 0 ∷ 1 ∷ 0 ∷ 0 ∷ 0 ∷ 1 ∷ 0 ∷ 1 ∷ 0 ∷ 0 ∷ 0 ∷ 1 ∷ 0 ∷ 1 ∷ 0 ∷ 0 ∷ 0 ∷ 1 ∷ 0 ∷ 1 ∷ 0 ∷ 0 ∷ 0 ∷ 1 ∷ 0 ∷ 1 ∷ 0 ∷ 0 ∷ 0 ∷ 1 ∷ 0 ∷ 1 ∷ 0 ∷ 0 ∷ 0 ∷ 1 ∷ 0 ∷ 1 ∷ 0 ∷ 0 ∷ 0 ∷ 1 ∷ 0 ∷ 1 ∷ 0 ∷ 0 ∷ 0 ∷ 1 ∷ 0 ∷ 1 ∷ 0 ∷ 0 ∷ 0 ∷ 1 ∷ 0 ∷ 1 ∷ 0 ∷ 0 ∷ 0 ∷ 1 ∷ 0 ∷ 1 ∷ 0 ∷ 0 ∷ 0 ∷ 1 ∷ 0 ∷ 1 ∷ 0 ∷ 0 ∷ 0 ∷ 1 ∷ 0 ∷ 1 ∷ 0 ∷ 0 ∷ 0 ∷ 1 ∷ 0 ∷ 1 ∷ 0 ∷ 0 ∷ 0 ∷ 1 ∷ 0 ∷ 1 ∷ 0 ∷ 0 ∷ 0 ∷ 1 ∷ 0 ∷ 1 ∷ 0 ∷ 0 ∷ 0 ∷ 1 ∷ 0 ∷ 1 ∷ 0 ∷ 0 ∷ 0 ∷ 1 ∷ 0 ∷ 1 ∷ 0 ∷ 0 ∷ 0 ∷ 1 ∷ 0 ∷ 1 ∷ 0 ∷ 0 ∷ 0 ∷ 1 ∷ 0 ∷ 1 ∷ 0 ∷ 0 ∷ 0 ∷ 1 ∷ 0 ∷ 1 ∷ 0 ∷ 0 ∷ 0 ∷ 1 ∷ 0 ∷ 1 ∷ 0 ∷ 0 ∷ 0 ∷ 1 ∷ 0 ∷ 1 ∷ 0 ∷ 0 ∷ 0 ∷ 1 ∷ 0 ∷ 1 ∷ 0 ∷ 0 ∷ 0 ∷ 1 ∷ 0 ∷ 1 ∷ 0 ∷ 0 ∷ 0 ∷ 1 ∷ 0 ∷ 1 ∷ 0 ∷ 0 ∷ 0 ∷ 1 ∷ 0 ∷ 1 ∷ 0 ∷ 0 ∷ 0 ∷ 1 ∷ 0 ∷ 1 ∷ 0 ∷ 0 ∷ 0 ∷ 1 ∷ 0 ∷ 1 ∷ 0 ∷ 0 ∷ 0 ∷ 1 ∷ 0 ∷ 1 ∷ 0 ∷ 0 ∷ 0 ∷ 1 ∷ 0 ∷ 1 ∷ 0 ∷ 0 ∷ 0 ∷ 0 ∷ 0 ∷ 1 ∷ 1 ∷ []) ∷ modend ∷ [], [], None)
    ∷ (theadr ∷ lnames ∷ segdef ∷ (0xA3, 1 ∷ 0 ∷ 0 ∷ 0 ∷ 0 ∷ 1 ∷ 0 ∷ 0 ∷ 0 ∷ 1 ∷ 0 ∷ 1 ∷ 0 ∷ 0 ∷ 0 ∷ 1 ∷ 0 ∷ 1 ∷ 0 ∷ 0 ∷ 0 ∷ 1 ∷ 0 ∷ 1 ∷ 0 ∷ 0 ∷ 0 ∷ 1 ∷ 0 ∷ 1 ∷ 0 ∷ 0 ∷ 0 ∷ 1 ∷ 0 ∷ 1 ∷ 0 ∷ 0 ∷ 0 ∷ 1 ∷ 0 ∷ 1 ∷ 0 ∷ 0 ∷ 0 ∷ 1 ∷ 0 ∷ 1 ∷ 0 ∷ 0 ∷ 0 ∷ 1 ∷ 0 ∷ 1 ∷ 0 ∷ 0 ∷ 0 ∷ 1 ∷ 0 ∷ 1 ∷ 0 ∷ 0 ∷ 0 ∷ 1 ∷ 0 ∷ 1 ∷ 0 ∷ 0 ∷ 0 ∷ 1 ∷ 0 ∷ 1 ∷ 0 ∷ 0 ∷ 0 ∷ 1 ∷ 0 ∷ 1 ∷ 0 ∷ 0 ∷ 0 ∷ 1 ∷ 0 ∷ 1 ∷ 0 ∷ 0 ∷ 0 ∷ 1 ∷ 0 ∷ 1 ∷ 0 ∷ 0 ∷ 0 ∷ 1 ∷ 0 ∷ 1 ∷ 0 ∷ 0 ∷ 0 ∷ 1 ∷ 0 ∷ 1 ∷ 0 ∷ 0 ∷ 0 ∷ 1 ∷ 0 ∷ 1 ∷ 0 ∷ 0 ∷ 0 ∷ 1 ∷ 0 ∷ 1 ∷ 0 ∷ 0 ∷ 0 ∷ 1 ∷ 0 ∷ 1 ∷ 0 ∷ 0 ∷ 0 ∷ 1 ∷ 0 ∷ 1 ∷ 0 ∷ 0 ∷ 0 ∷ 1 ∷ 0 ∷ 1 ∷ 0 ∷ 0 ∷ 0 ∷ 1 ∷ 0 ∷ 1 ∷ 0 ∷ 0 ∷ 0 ∷ 1 ∷ 0 ∷ 1 ∷ 0 ∷ 0 ∷ 0 ∷ 1 ∷ 0 ∷ 1 ∷ 0 ∷ 0 ∷ 0 ∷ 1 ∷ 0 ∷ 1 ∷ 0 ∷ 0 ∷ 0 ∷ 1 ∷ 0 ∷ 1 ∷ 0 ∷ 0 ∷ 0 ∷ 1 ∷ 0 ∷ 1 ∷ 0 ∷ 0 ∷ 0 ∷ 1 ∷ 0 ∷ 1 ∷ 0 ∷ 0 ∷ 0 ∷ 1 ∷ 0 ∷ 1 ∷ 0 ∷ 0 ∷ 0 ∷ 1 ∷ 0 ∷ 1 ∷ 0 ∷ 0 ∷ 0 ∷ 1 ∷ 0 ∷ 1 ∷ 0 ∷ 0 ∷ 0 ∷ 1 ∷ 0 ∷ 1 ∷ 0 ∷ 0 ∷ 0 ∷ 0 ∷ 0 ∷ 1 ∷ 1 ∷ []) ∷ modend ∷ [], [], told phase.Section 3 code.TooDeep 55)
    ∷ (theadr ∷ lnames ∷ segdef ∷ (0xA3, 2 ∷ 0 ∷ 0 ∷ 0 ∷ 0 ∷ 1 ∷ 0 ∷ 0 ∷ 0 ∷ 1 ∷ 0 ∷ 1 ∷ 0 ∷ 0 ∷ 0 ∷ 1 ∷ 0 ∷ 1 ∷ 0 ∷ 0 ∷ 0 ∷ 1 ∷ 0 ∷ 1 ∷ 0 ∷ 0 ∷ 0 ∷ 1 ∷ 0 ∷ 1 ∷ 0 ∷ 0 ∷ 0 ∷ 1 ∷ 0 ∷ 1 ∷ 0 ∷ 0 ∷ 0 ∷ 1 ∷ 0 ∷ 1 ∷ 0 ∷ 0 ∷ 0 ∷ 1 ∷ 0 ∷ 1 ∷ 0 ∷ 0 ∷ 0 ∷ 1 ∷ 0 ∷ 1 ∷ 0 ∷ 0 ∷ 0 ∷ 1 ∷ 0 ∷ 1 ∷ 0 ∷ 0 ∷ 0 ∷ 1 ∷ 0 ∷ 1 ∷ 0 ∷ 0 ∷ 0 ∷ 1 ∷ 0 ∷ 1 ∷ 0 ∷ 0 ∷ 0 ∷ 1 ∷ 0 ∷ 1 ∷ 0 ∷ 0 ∷ 0 ∷ 1 ∷ 0 ∷ 1 ∷ 0 ∷ 0 ∷ 0 ∷ 1 ∷ 0 ∷ 1 ∷ 0 ∷ 0 ∷ 0 ∷ 1 ∷ 0 ∷ 1 ∷ 0 ∷ 0 ∷ 0 ∷ 1 ∷ 0 ∷ 1 ∷ 0 ∷ 0 ∷ 0 ∷ 1 ∷ 0 ∷ 1 ∷ 0 ∷ 0 ∷ 0 ∷ 1 ∷ 0 ∷ 1 ∷ 0 ∷ 0 ∷ 0 ∷ 1 ∷ 0 ∷ 1 ∷ 0 ∷ 0 ∷ 0 ∷ 1 ∷ 0 ∷ 1 ∷ 0 ∷ 0 ∷ 0 ∷ 1 ∷ 0 ∷ 1 ∷ 0 ∷ 0 ∷ 0 ∷ 1 ∷ 0 ∷ 1 ∷ 0 ∷ 0 ∷ 0 ∷ 1 ∷ 0 ∷ 1 ∷ 0 ∷ 0 ∷ 0 ∷ 1 ∷ 0 ∷ 1 ∷ 0 ∷ 0 ∷ 0 ∷ 1 ∷ 0 ∷ 1 ∷ 0 ∷ 0 ∷ 0 ∷ 1 ∷ 0 ∷ 1 ∷ 0 ∷ 0 ∷ 0 ∷ 1 ∷ 0 ∷ 1 ∷ 0 ∷ 0 ∷ 0 ∷ 1 ∷ 0 ∷ 1 ∷ 0 ∷ 0 ∷ 0 ∷ 1 ∷ 0 ∷ 1 ∷ 0 ∷ 0 ∷ 0 ∷ 1 ∷ 0 ∷ 1 ∷ 0 ∷ 0 ∷ 0 ∷ 1 ∷ 0 ∷ 1 ∷ 0 ∷ 0 ∷ 0 ∷ 1 ∷ 0 ∷ 1 ∷ 0 ∷ 0 ∷ 0 ∷ 0 ∷ 0 ∷ 1 ∷ 1 ∷ []) ∷ modend ∷ [], [], told phase.Section 3 code.BadIndex 55)
    ∷ (theadr ∷ lnames ∷ segdef ∷ (0xA3, 1 ∷ 0 ∷ 0 ∷ 0 ∷ 0 ∷ 0 ∷ 0 ∷ 0 ∷ 0 ∷ 1 ∷ 0 ∷ 255 ∷ 255 ∷ 255 ∷ 255 ∷ 0 ∷ 0 ∷ 2 ∷ 1 ∷ 2 ∷ []) ∷ modend ∷ [], [], None)
    ∷ (theadr ∷ lnames ∷ segdef ∷ (0xA1, 1 ∷ 0 ∷ 0 ∷ 0 ∷ 0 ∷ 0 ∷ 0 ∷ 0 ∷ 0 ∷ []) ∷ (0xA1, 1 ∷ 3 ∷ 0 ∷ 0 ∷ 0 ∷ 0 ∷ []) ∷ modend ∷ [], [], told phase.Section 4 code.DataOverlap 68)
    ∷ (theadr ∷ lnames ∷ segdef ∷ (0xA1, 1 ∷ 4 ∷ 0 ∷ 0 ∷ 0 ∷ 0 ∷ 0 ∷ 0 ∷ 0 ∷ []) ∷ (0xA3, 1 ∷ 1 ∷ 0 ∷ 0 ∷ 0 ∷ 2 ∷ 0 ∷ 0 ∷ 0 ∷ 0 ∷ 0 ∷ 2 ∷ 1 ∷ 2 ∷ []) ∷ modend ∷ [], [], told phase.Section 4 code.DataOverlap 68)
    ∷ (theadr ∷ lnames ∷ segdef ∷ (0xA1, 1 ∷ 4 ∷ 0 ∷ 0 ∷ 0 ∷ 0 ∷ 0 ∷ 0 ∷ 0 ∷ []) ∷ (0xA3, 1 ∷ 0 ∷ 0 ∷ 0 ∷ 0 ∷ 2 ∷ 0 ∷ 0 ∷ 0 ∷ 0 ∷ 0 ∷ 2 ∷ 1 ∷ 2 ∷ []) ∷ (0xA1, 1 ∷ 5 ∷ 0 ∷ 0 ∷ 0 ∷ []) ∷ (0xA1, 1 ∷ 8 ∷ 0 ∷ 0 ∷ 0 ∷ []) ∷ modend ∷ [], [], None)
    ∷ (theadr ∷ lnames ∷ segdef ∷ segdef ∷ ledata ∷ (0xA1, 2 ∷ 0 ∷ 0 ∷ 0 ∷ 0 ∷ 0 ∷ 0 ∷ 0 ∷ 0 ∷ 0 ∷ 0 ∷ 0 ∷ 0 ∷ []) ∷ modend ∷ [], [], None)
    ∷ []

data_rows-told : map (λ (row : FaultRow). fault_by all (file_of row)) data_rows ≡ map expected data_rows
unfolding number_at omf_kind number_read index_read name_read each_read segment_read member_read group_read base_read public_read external_read communal_length communal_read piece_read method_read thread_read frame_read target_read displacement_read fixup_read subrecord_read said_by places_in entries_in tables_of mentions_in binding_of symbols_in subrecords_upto fixed_in meaning_of entry_conditions form_conditions size_conditions group_conditions piece_conditions all_bytes conditions_on base_conditions public_conditions communal_conditions external_conditions symbol_table fixup_conditions relocation_conditions stages_of fault_of
data_rows-told = refl

-- ... symbols

abbrev symbols : List FaultRow
symbols =
    (theadr ∷ lnames ∷ segdef ∷ flat ∷ (0x91, 1 ∷ []) ∷ modend ∷ [], [], told phase.Symbol 4 code.BadIndex 60)
    ∷ (theadr ∷ lnames ∷ segdef ∷ flat ∷ (0x91, 1 ∷ 128 ∷ []) ∷ modend ∷ [], [], told phase.Symbol 4 code.BadIndex 60)
    ∷ (theadr ∷ lnames ∷ segdef ∷ flat ∷ (0x91, 2 ∷ 1 ∷ []) ∷ modend ∷ [], [], told phase.Symbol 4 code.BadIndex 60)
    ∷ (theadr ∷ lnames ∷ segdef ∷ flat ∷ (0x91, 1 ∷ 2 ∷ []) ∷ modend ∷ [], [], told phase.Symbol 4 code.BadIndex 60)
    ∷ (theadr ∷ lnames ∷ segdef ∷ flat ∷ (0x91, 1 ∷ 0 ∷ []) ∷ modend ∷ [], [], told phase.Symbol 4 code.SymbolKind 60)
    ∷ (theadr ∷ lnames ∷ segdef ∷ flat ∷ (0x91, 1 ∷ 1 ∷ 2 ∷ 65 ∷ []) ∷ modend ∷ [], [], told phase.Symbol 4 code.BadName 65)
    ∷ (theadr ∷ lnames ∷ segdef ∷ flat ∷ (0x91, 1 ∷ 1 ∷ 1 ∷ 109 ∷ 0 ∷ 0 ∷ 0 ∷ []) ∷ modend ∷ [], [], told phase.Symbol 4 code.BadTable 65)
    ∷ (theadr ∷ lnames ∷ segdef ∷ flat ∷ (0x91, 1 ∷ 1 ∷ 1 ∷ 109 ∷ 0 ∷ 0 ∷ 0 ∷ 0 ∷ []) ∷ modend ∷ [], [], told phase.Symbol 4 code.BadIndex 65)
    ∷ (theadr ∷ lnames ∷ segdef ∷ flat ∷ (0x91, 1 ∷ 1 ∷ 1 ∷ 109 ∷ 9 ∷ 0 ∷ 0 ∷ 0 ∷ 0 ∷ []) ∷ modend ∷ [], [], told phase.Symbol 4 code.SymbolPastEnd 65)
    ∷ (theadr ∷ lnames ∷ segdef ∷ flat ∷ (0x91, 1 ∷ 1 ∷ 1 ∷ 109 ∷ 8 ∷ 0 ∷ 0 ∷ 0 ∷ 0 ∷ 1 ∷ 110 ∷ 0 ∷ 0 ∷ 0 ∷ 0 ∷ 129 ∷ 0 ∷ []) ∷ modend ∷ [], [], None)
    ∷ (theadr ∷ lnames ∷ segdef ∷ flat ∷ (0x90, 1 ∷ 1 ∷ 1 ∷ 109 ∷ 8 ∷ 0 ∷ 0 ∷ []) ∷ modend ∷ [], [], None)
    ∷ (theadr ∷ lnames ∷ segdef ∷ flat ∷ (0x91, 1 ∷ 1 ∷ 1 ∷ 109 ∷ 8 ∷ 0 ∷ 0 ∷ 0 ∷ 0 ∷ 0 ∷ 0 ∷ 0 ∷ 0 ∷ 0 ∷ 0 ∷ []) ∷ modend ∷ [], [], told phase.Symbol 4 code.SymbolKind 72)
    ∷ (theadr ∷ lnames ∷ segdef ∷ flat ∷ (0x91, 1 ∷ 1 ∷ 1 ∷ 109 ∷ 8 ∷ 0 ∷ 0 ∷ 0 ∷ 0 ∷ 1 ∷ 109 ∷ 0 ∷ 0 ∷ 0 ∷ 0 ∷ 0 ∷ []) ∷ modend ∷ [], [], told phase.Symbol 4 code.DuplicateName 72)
    ∷ (theadr ∷ lnames ∷ segdef ∷ flat ∷ (0x91, 1 ∷ 1 ∷ 1 ∷ 109 ∷ 8 ∷ 0 ∷ 0 ∷ 0 ∷ 0 ∷ []) ∷ (0x91, 0 ∷ 1 ∷ 1 ∷ 109 ∷ 8 ∷ 0 ∷ 0 ∷ 0 ∷ 0 ∷ []) ∷ modend ∷ [], [], told phase.Symbol 5 code.DuplicateName 78)
    ∷ (theadr ∷ lnames ∷ segdef ∷ flat ∷ (0x91, 1 ∷ 1 ∷ 1 ∷ 109 ∷ 8 ∷ 0 ∷ 0 ∷ 0 ∷ 0 ∷ []) ∷ (0xB7, 0 ∷ 1 ∷ 1 ∷ 109 ∷ 8 ∷ 0 ∷ 0 ∷ 0 ∷ 0 ∷ []) ∷ modend ∷ [], [], None)
    ∷ (theadr ∷ lnames ∷ segdef ∷ flat ∷ (0xB7, 1 ∷ 1 ∷ 1 ∷ 109 ∷ 8 ∷ 0 ∷ 0 ∷ 0 ∷ 0 ∷ []) ∷ (0xB7, 0 ∷ 1 ∷ 1 ∷ 109 ∷ 8 ∷ 0 ∷ 0 ∷ 0 ∷ 0 ∷ []) ∷ modend ∷ [], [], told phase.Symbol 5 code.DuplicateName 78)
    ∷ (theadr ∷ lnames ∷ segdef ∷ flat ∷ (0x8C, 3 ∷ 65 ∷ []) ∷ modend ∷ [], [], told phase.Symbol 4 code.BadName 63)
    ∷ (theadr ∷ lnames ∷ segdef ∷ flat ∷ (0x8C, 1 ∷ 97 ∷ []) ∷ modend ∷ [], [], told phase.Symbol 4 code.BadIndex 63)
    ∷ (theadr ∷ lnames ∷ segdef ∷ flat ∷ (0x8C, 1 ∷ 97 ∷ 0 ∷ 0 ∷ 0 ∷ []) ∷ modend ∷ [], [], told phase.Symbol 4 code.SymbolKind 66)
    ∷ (theadr ∷ lnames ∷ segdef ∷ flat ∷ (0x8C, 1 ∷ 97 ∷ 0 ∷ 1 ∷ 97 ∷ 0 ∷ []) ∷ modend ∷ [], [], None)
    ∷ (theadr ∷ lnames ∷ segdef ∷ flat ∷ (0xB4, 1 ∷ 97 ∷ 0 ∷ []) ∷ modend ∷ [], [], told phase.Symbol 4 code.BadSymbol 63)
    ∷ (theadr ∷ lnames ∷ segdef ∷ flat ∷ (0xB7, 0 ∷ 1 ∷ 1 ∷ 97 ∷ 8 ∷ 0 ∷ 0 ∷ 0 ∷ 0 ∷ []) ∷ (0xB4, 1 ∷ 97 ∷ 0 ∷ []) ∷ modend ∷ [], [], None)
    ∷ (theadr ∷ lnames ∷ segdef ∷ flat ∷ (0xB4, 1 ∷ 97 ∷ 0 ∷ []) ∷ (0xB7, 0 ∷ 1 ∷ 1 ∷ 97 ∷ 8 ∷ 0 ∷ 0 ∷ 0 ∷ 0 ∷ []) ∷ modend ∷ [], [], None)
    ∷ (theadr ∷ lnames ∷ segdef ∷ flat ∷ (0xB7, 0 ∷ 1 ∷ 1 ∷ 97 ∷ 8 ∷ 0 ∷ 0 ∷ 0 ∷ 0 ∷ []) ∷ (0xB4, 0 ∷ 0 ∷ []) ∷ modend ∷ [], [], told phase.Symbol 5 code.BadSymbol 76)
    ∷ (theadr ∷ lnames ∷ segdef ∷ flat ∷ (0xB0, 1 ∷ 99 ∷ 0 ∷ []) ∷ modend ∷ [], [], told phase.Symbol 4 code.BadTable 63)
    ∷ (theadr ∷ lnames ∷ segdef ∷ flat ∷ (0xB0, 1 ∷ 99 ∷ 0 ∷ 98 ∷ []) ∷ modend ∷ [], [], told phase.Symbol 4 code.BadTable 63)
    ∷ (theadr ∷ lnames ∷ segdef ∷ flat ∷ (0xB0, 1 ∷ 99 ∷ 0 ∷ 98 ∷ 132 ∷ 1 ∷ 2 ∷ []) ∷ modend ∷ [], [], told phase.Symbol 4 code.BadTable 63)
    ∷ (theadr ∷ lnames ∷ segdef ∷ flat ∷ (0xB0, 1 ∷ 99 ∷ 0 ∷ 97 ∷ 4 ∷ []) ∷ modend ∷ [], [], told phase.Symbol 4 code.SymbolKind 63)
    ∷ (theadr ∷ lnames ∷ segdef ∷ flat ∷ (0xB0, 1 ∷ 99 ∷ 0 ∷ 97 ∷ 129 ∷ 4 ∷ []) ∷ modend ∷ [], [], told phase.Symbol 4 code.BadTable 63)
    ∷ (theadr ∷ lnames ∷ segdef ∷ flat ∷ (0xB0, 1 ∷ 99 ∷ 0 ∷ 98 ∷ 130 ∷ []) ∷ modend ∷ [], [], told phase.Symbol 4 code.BadCommon 63)
    ∷ (theadr ∷ lnames ∷ segdef ∷ flat ∷ (0xB0, 1 ∷ 99 ∷ 0 ∷ 98 ∷ 0 ∷ []) ∷ modend ∷ [], [], told phase.Symbol 4 code.BadCommon 63)
    ∷ (theadr ∷ lnames ∷ segdef ∷ flat ∷ (0xB0, 1 ∷ 99 ∷ 0 ∷ 98 ∷ 136 ∷ 0 ∷ 0 ∷ 0 ∷ 0 ∷ []) ∷ modend ∷ [], [], told phase.Symbol 4 code.BadCommon 63)
    ∷ (theadr ∷ lnames ∷ segdef ∷ flat ∷ (0xB0, 1 ∷ 99 ∷ 0 ∷ 98 ∷ 128 ∷ 1 ∷ 100 ∷ 0 ∷ 98 ∷ 129 ∷ 1 ∷ 2 ∷ 1 ∷ 101 ∷ 0 ∷ 98 ∷ 132 ∷ 1 ∷ 2 ∷ 3 ∷ 1 ∷ 102 ∷ 0 ∷ 98 ∷ 136 ∷ 1 ∷ 2 ∷ 3 ∷ 4 ∷ []) ∷ modend ∷ [], [], None)
    ∷ (theadr ∷ lnames ∷ segdef ∷ flat ∷ (0xB0, 0 ∷ 0 ∷ 98 ∷ 4 ∷ []) ∷ modend ∷ [], [], told phase.Symbol 4 code.SymbolKind 63)
    ∷ (theadr ∷ lnames ∷ segdef ∷ flat ∷ (0xB0, 1 ∷ 99 ∷ 0 ∷ 98 ∷ 4 ∷ 1 ∷ 99 ∷ 0 ∷ 98 ∷ 129 ∷ 4 ∷ 0 ∷ []) ∷ modend ∷ [], [], None)
    ∷ (theadr ∷ lnames ∷ segdef ∷ flat ∷ (0xB0, 1 ∷ 99 ∷ 0 ∷ 98 ∷ 4 ∷ 1 ∷ 99 ∷ 0 ∷ 98 ∷ 5 ∷ []) ∷ modend ∷ [], [], told phase.Symbol 4 code.DuplicateName 68)
    ∷ (theadr ∷ lnames ∷ segdef ∷ flat ∷ (0xB0, 1 ∷ 99 ∷ 0 ∷ 98 ∷ 4 ∷ []) ∷ (0xB0, 1 ∷ 99 ∷ 0 ∷ 98 ∷ 5 ∷ []) ∷ modend ∷ [], [], told phase.Symbol 5 code.DuplicateName 72)
    ∷ (theadr ∷ lnames ∷ segdef ∷ flat ∷ (0x91, 1 ∷ 1 ∷ 1 ∷ 99 ∷ 8 ∷ 0 ∷ 0 ∷ 0 ∷ 0 ∷ []) ∷ (0xB0, 1 ∷ 99 ∷ 0 ∷ 98 ∷ 5 ∷ []) ∷ modend ∷ [], [], None)
    ∷ []

symbols-told : map (λ (row : FaultRow). fault_by all (file_of row)) symbols ≡ map expected symbols
unfolding number_at omf_kind number_read index_read name_read each_read segment_read member_read group_read base_read public_read external_read communal_length communal_read piece_read method_read thread_read frame_read target_read displacement_read fixup_read subrecord_read said_by places_in entries_in tables_of mentions_in binding_of symbols_in subrecords_upto fixed_in meaning_of entry_conditions form_conditions size_conditions group_conditions piece_conditions all_bytes conditions_on base_conditions public_conditions communal_conditions external_conditions symbol_table fixup_conditions relocation_conditions stages_of fault_of
symbols-told = refl

-- ... threads and fixups

abbrev fixups : List FaultRow
fixups =
    (theadr ∷ lnames ∷ segdef ∷ segdef ∷ flat ∷ externals ∷ ledata ∷ (0x9D, 228 ∷ []) ∷ modend ∷ [], [], told phase.Relocation 7 code.BadTable 106)
    ∷ (theadr ∷ lnames ∷ segdef ∷ segdef ∷ flat ∷ externals ∷ ledata ∷ (0x9D, 228 ∷ 0 ∷ 22 ∷ 1 ∷ []) ∷ modend ∷ [], [], told phase.Relocation 7 code.BadTable 106)
    ∷ (theadr ∷ lnames ∷ segdef ∷ segdef ∷ flat ∷ externals ∷ ledata ∷ (0x9D, 228 ∷ 0 ∷ 18 ∷ 1 ∷ 1 ∷ 0 ∷ 0 ∷ 0 ∷ []) ∷ modend ∷ [], [], told phase.Relocation 7 code.BadTable 106)
    ∷ (theadr ∷ lnames ∷ segdef ∷ segdef ∷ flat ∷ externals ∷ ledata ∷ (0x9D, 0 ∷ []) ∷ modend ∷ [], [], told phase.Relocation 7 code.BadTable 106)
    ∷ (theadr ∷ lnames ∷ segdef ∷ segdef ∷ flat ∷ externals ∷ ledata ∷ (0x9D, 64 ∷ []) ∷ modend ∷ [], [], told phase.Relocation 7 code.BadTable 106)
    ∷ (theadr ∷ lnames ∷ segdef ∷ segdef ∷ flat ∷ externals ∷ ledata ∷ (0x9D, 228 ∷ 0 ∷ 22 ∷ 1 ∷ 1 ∷ 132 ∷ []) ∷ modend ∷ [], [], told phase.Relocation 7 code.BadTable 111)
    ∷ (theadr ∷ lnames ∷ segdef ∷ segdef ∷ flat ∷ externals ∷ ledata ∷ (0x9D, 196 ∷ 0 ∷ 22 ∷ 1 ∷ 1 ∷ []) ∷ modend ∷ [], [], told phase.Relocation 7 code.RelocKind 106)
    ∷ (theadr ∷ lnames ∷ segdef ∷ segdef ∷ flat ∷ externals ∷ ledata ∷ (0x9D, 180 ∷ 0 ∷ 86 ∷ 1 ∷ []) ∷ modend ∷ [], [], told phase.Relocation 7 code.RelocKind 106)
    ∷ (theadr ∷ lnames ∷ segdef ∷ segdef ∷ flat ∷ externals ∷ (0x9D, 228 ∷ 0 ∷ 22 ∷ 1 ∷ 1 ∷ []) ∷ modend ∷ [], [], told phase.Relocation 6 code.BadOffset 89)
    ∷ (theadr ∷ lnames ∷ segdef ∷ segdef ∷ flat ∷ externals ∷ ledata ∷ (0x9D, 228 ∷ 5 ∷ 22 ∷ 1 ∷ 1 ∷ []) ∷ modend ∷ [], [], told phase.Relocation 7 code.BadOffset 106)
    ∷ (theadr ∷ lnames ∷ segdef ∷ segdef ∷ flat ∷ externals ∷ ledata ∷ (0x9D, 228 ∷ 4 ∷ 22 ∷ 1 ∷ 1 ∷ []) ∷ modend ∷ [], [], None)
    ∷ (theadr ∷ lnames ∷ segdef ∷ segdef ∷ flat ∷ externals ∷ ledata ∷ (0x9D, 229 ∷ 0 ∷ 22 ∷ 1 ∷ 1 ∷ []) ∷ modend ∷ [], [], told phase.Relocation 7 code.BadOffset 106)
    ∷ (theadr ∷ lnames ∷ segdef ∷ segdef ∷ flat ∷ externals ∷ ledata ∷ (0x9D, 228 ∷ 0 ∷ 22 ∷ 1 ∷ 1 ∷ 228 ∷ 4 ∷ 22 ∷ 1 ∷ 1 ∷ []) ∷ modend ∷ [], [], None)
    ∷ (theadr ∷ lnames ∷ segdef ∷ segdef ∷ flat ∷ externals ∷ ledata ∷ (0x9D, 228 ∷ 0 ∷ 22 ∷ 1 ∷ 1 ∷ 228 ∷ 3 ∷ 22 ∷ 1 ∷ 1 ∷ []) ∷ modend ∷ [], [], told phase.Relocation 7 code.Overlap 111)
    ∷ (theadr ∷ lnames ∷ segdef ∷ segdef ∷ flat ∷ externals ∷ ledata ∷ (0x9D, 164 ∷ 4 ∷ 86 ∷ 1 ∷ 228 ∷ 4 ∷ 22 ∷ 1 ∷ 1 ∷ []) ∷ modend ∷ [], [], told phase.Relocation 7 code.Overlap 110)
    ∷ (theadr ∷ lnames ∷ segdef ∷ segdef ∷ flat ∷ externals ∷ ledata ∷ (0x9D, 164 ∷ 0 ∷ 86 ∷ 0 ∷ []) ∷ modend ∷ [], [], told phase.Relocation 7 code.BadTarget 106)
    ∷ (theadr ∷ lnames ∷ segdef ∷ segdef ∷ flat ∷ externals ∷ ledata ∷ (0x9D, 164 ∷ 0 ∷ 86 ∷ 3 ∷ []) ∷ modend ∷ [], [], told phase.Relocation 7 code.BadTarget 106)
    ∷ (theadr ∷ lnames ∷ segdef ∷ segdef ∷ flat ∷ externals ∷ ledata ∷ (0x9D, 164 ∷ 0 ∷ 84 ∷ 3 ∷ []) ∷ modend ∷ [], [], told phase.Relocation 7 code.BadTarget 106)
    ∷ (theadr ∷ lnames ∷ segdef ∷ segdef ∷ flat ∷ externals ∷ ledata ∷ (0x9D, 164 ∷ 0 ∷ 84 ∷ 2 ∷ []) ∷ modend ∷ [], [], None)
    ∷ (theadr ∷ lnames ∷ segdef ∷ segdef ∷ flat ∷ externals ∷ ledata ∷ (0x9D, 228 ∷ 0 ∷ 22 ∷ 2 ∷ 1 ∷ []) ∷ modend ∷ [], [], told phase.Relocation 7 code.BadTarget 106)
    ∷ (theadr ∷ lnames ∷ segdef ∷ segdef ∷ flat ∷ externals ∷ ledata ∷ (0x9D, 164 ∷ 0 ∷ 22 ∷ 2 ∷ 1 ∷ []) ∷ modend ∷ [], [], told phase.Relocation 7 code.BadTarget 106)
    ∷ (theadr ∷ lnames ∷ segdef ∷ segdef ∷ flat ∷ externals ∷ ledata ∷ (0x9D, 228 ∷ 0 ∷ 6 ∷ 3 ∷ 1 ∷ []) ∷ modend ∷ [], [], told phase.Relocation 7 code.BadTarget 106)
    ∷ (theadr ∷ lnames ∷ segdef ∷ segdef ∷ flat ∷ externals ∷ ledata ∷ (0x9D, 228 ∷ 0 ∷ 38 ∷ 3 ∷ 1 ∷ []) ∷ modend ∷ [], [], told phase.Relocation 7 code.BadTarget 106)
    ∷ (theadr ∷ lnames ∷ segdef ∷ segdef ∷ flat ∷ externals ∷ ledata ∷ (0x9D, 228 ∷ 0 ∷ 134 ∷ 1 ∷ []) ∷ modend ∷ [], [], told phase.Relocation 7 code.BadTarget 106)
    ∷ (theadr ∷ lnames ∷ segdef ∷ segdef ∷ flat ∷ externals ∷ ledata ∷ (0x9D, 228 ∷ 0 ∷ 30 ∷ 1 ∷ []) ∷ modend ∷ [], [], told phase.Relocation 7 code.BadTarget 106)
    ∷ (theadr ∷ lnames ∷ segdef ∷ segdef ∷ flat ∷ externals ∷ ledata ∷ (0x9D, 8 ∷ 3 ∷ []) ∷ modend ∷ [], [], told phase.Relocation 7 code.BadTarget 106)
    ∷ (theadr ∷ lnames ∷ segdef ∷ segdef ∷ flat ∷ externals ∷ ledata ∷ (0x9D, 4 ∷ 2 ∷ []) ∷ modend ∷ [], [], told phase.Relocation 7 code.BadTarget 106)
    ∷ (theadr ∷ lnames ∷ segdef ∷ segdef ∷ flat ∷ externals ∷ ledata ∷ (0x9D, 4 ∷ 1 ∷ []) ∷ modend ∷ [], [], None)
    ∷ (theadr ∷ lnames ∷ segdef ∷ segdef ∷ flat ∷ externals ∷ ledata ∷ (0x9D, 0 ∷ 0 ∷ []) ∷ modend ∷ [], [], told phase.Relocation 7 code.BadTarget 106)
    ∷ (theadr ∷ lnames ∷ segdef ∷ segdef ∷ flat ∷ externals ∷ ledata ∷ (0x9D, 76 ∷ 80 ∷ []) ∷ modend ∷ [], [], None)
    ∷ (theadr ∷ lnames ∷ segdef ∷ segdef ∷ flat ∷ externals ∷ ledata ∷ (0x9D, 68 ∷ 1 ∷ 8 ∷ 1 ∷ 228 ∷ 0 ∷ 140 ∷ []) ∷ modend ∷ [], [], None)
    ∷ (theadr ∷ lnames ∷ segdef ∷ segdef ∷ flat ∷ externals ∷ ledata ∷ (0x9D, 68 ∷ 1 ∷ 8 ∷ 1 ∷ 228 ∷ 0 ∷ 200 ∷ 0 ∷ 0 ∷ 0 ∷ 0 ∷ []) ∷ modend ∷ [], [], told phase.Relocation 7 code.BadTarget 110)
    ∷ (theadr ∷ lnames ∷ segdef ∷ segdef ∷ flat ∷ externals ∷ ledata ∷ (0x9D, 68 ∷ 1 ∷ 9 ∷ 1 ∷ 228 ∷ 0 ∷ 140 ∷ []) ∷ modend ∷ [], [], told phase.Relocation 7 code.BadTarget 110)
    ∷ (theadr ∷ lnames ∷ segdef ∷ segdef ∷ flat ∷ externals ∷ ledata ∷ (0x9D, 228 ∷ 0 ∷ 21 ∷ 1 ∷ 1 ∷ []) ∷ modend ∷ [], [], told phase.Relocation 7 code.TargetKind 106)
    ∷ (theadr ∷ lnames ∷ segdef ∷ segdef ∷ flat ∷ externals ∷ ledata ∷ (0x9D, 228 ∷ 0 ∷ 23 ∷ 1 ∷ 1 ∷ []) ∷ modend ∷ [], [], told phase.Relocation 7 code.TargetKind 106)
    ∷ (theadr ∷ lnames ∷ segdef ∷ segdef ∷ flat ∷ externals ∷ ledata ∷ (0x9D, 228 ∷ 0 ∷ 54 ∷ 1 ∷ []) ∷ modend ∷ [], [], told phase.Relocation 7 code.TargetKind 106)
    ∷ (theadr ∷ lnames ∷ segdef ∷ segdef ∷ flat ∷ externals ∷ ledata ∷ (0x9D, 164 ∷ 0 ∷ 54 ∷ 1 ∷ []) ∷ modend ∷ [], [], None)
    ∷ (theadr ∷ lnames ∷ segdef ∷ segdef ∷ flat ∷ externals ∷ ledata ∷ (0x9D, 228 ∷ 0 ∷ 6 ∷ 1 ∷ 1 ∷ []) ∷ modend ∷ [], [], told phase.Relocation 7 code.TargetKind 106)
    ∷ (theadr ∷ lnames ∷ segdef ∷ segdef ∷ flat ∷ externals ∷ ledata ∷ (0x9D, 228 ∷ 0 ∷ 4 ∷ 1 ∷ 1 ∷ []) ∷ modend ∷ [], [], None)
    ∷ (theadr ∷ lnames ∷ segdef ∷ segdef ∷ flat ∷ externals ∷ ledata ∷ (0x9D, 228 ∷ 0 ∷ 4 ∷ 1 ∷ 2 ∷ []) ∷ modend ∷ [], [], told phase.Relocation 7 code.TargetKind 106)
    ∷ (theadr ∷ lnames ∷ segdef ∷ segdef ∷ flat ∷ externals ∷ ledata ∷ (0x9D, 228 ∷ 0 ∷ 68 ∷ 1 ∷ []) ∷ modend ∷ [], [], None)
    ∷ (theadr ∷ lnames ∷ segdef ∷ segdef ∷ flat ∷ externals ∷ ledata ∷ (0x9D, 228 ∷ 0 ∷ 68 ∷ 2 ∷ []) ∷ modend ∷ [], [], told phase.Relocation 7 code.TargetKind 106)
    ∷ (theadr ∷ lnames ∷ segdef ∷ segdef ∷ flat ∷ externals ∷ ledata ∷ (0x9D, 228 ∷ 0 ∷ 38 ∷ 1 ∷ 1 ∷ []) ∷ modend ∷ [], [], None)
    ∷ (theadr ∷ lnames ∷ segdef ∷ segdef ∷ flat ∷ externals ∷ ledata ∷ (0x9D, 228 ∷ 0 ∷ 38 ∷ 2 ∷ 1 ∷ []) ∷ modend ∷ [], [], told phase.Relocation 7 code.TargetKind 106)
    ∷ (theadr ∷ lnames ∷ segdef ∷ segdef ∷ flat ∷ externals ∷ ledata ∷ (0x9D, 228 ∷ 0 ∷ 86 ∷ 1 ∷ []) ∷ modend ∷ [], [], None)
    ∷ (theadr ∷ lnames ∷ segdef ∷ segdef ∷ flat ∷ externals ∷ (0xA3, 1 ∷ 0 ∷ 0 ∷ 0 ∷ 0 ∷ 2 ∷ 0 ∷ 0 ∷ 0 ∷ 0 ∷ 0 ∷ 4 ∷ 1 ∷ 2 ∷ 3 ∷ 4 ∷ []) ∷ (0x9D, 228 ∷ 7 ∷ 22 ∷ 1 ∷ 1 ∷ []) ∷ modend ∷ [], [], None)
    ∷ (theadr ∷ lnames ∷ segdef ∷ segdef ∷ flat ∷ externals ∷ (0xA3, 1 ∷ 0 ∷ 0 ∷ 0 ∷ 0 ∷ 2 ∷ 0 ∷ 0 ∷ 0 ∷ 0 ∷ 0 ∷ 4 ∷ 1 ∷ 2 ∷ 3 ∷ 4 ∷ []) ∷ (0x9D, 228 ∷ 6 ∷ 22 ∷ 1 ∷ 1 ∷ []) ∷ modend ∷ [], [], told phase.Relocation 7 code.BadOffset 109)
    ∷ (theadr ∷ lnames ∷ segdef ∷ segdef ∷ flat ∷ externals ∷ (0xA3, 1 ∷ 0 ∷ 0 ∷ 0 ∷ 0 ∷ 2 ∷ 0 ∷ 0 ∷ 0 ∷ 0 ∷ 0 ∷ 4 ∷ 1 ∷ 2 ∷ 3 ∷ 4 ∷ []) ∷ (0x9D, 228 ∷ 8 ∷ 22 ∷ 1 ∷ 1 ∷ []) ∷ modend ∷ [], [], told phase.Relocation 7 code.BadOffset 109)
    ∷ (theadr ∷ lnames ∷ segdef ∷ segdef ∷ flat ∷ externals ∷ (0xA3, 1 ∷ 0 ∷ 0 ∷ 0 ∷ 0 ∷ 2 ∷ 0 ∷ 0 ∷ 0 ∷ 0 ∷ 0 ∷ 4 ∷ 1 ∷ 2 ∷ 3 ∷ 4 ∷ []) ∷ (0x9D, 228 ∷ 7 ∷ 22 ∷ 1 ∷ 1 ∷ 164 ∷ 7 ∷ 86 ∷ 1 ∷ []) ∷ modend ∷ [], [], told phase.Relocation 7 code.Overlap 114)
    ∷ (theadr ∷ lnames ∷ segdef ∷ segdef ∷ flat ∷ externals ∷ (0xA3, 1 ∷ 0 ∷ 0 ∷ 0 ∷ 0 ∷ 0 ∷ 0 ∷ 0 ∷ 0 ∷ 0 ∷ 0 ∷ 4 ∷ 1 ∷ 2 ∷ 3 ∷ 4 ∷ []) ∷ (0x9D, 228 ∷ 7 ∷ 22 ∷ 1 ∷ 1 ∷ 164 ∷ 7 ∷ 86 ∷ 1 ∷ []) ∷ modend ∷ [], [], None)
    ∷ (theadr ∷ lnames ∷ segdef ∷ (0x9A, 3 ∷ []) ∷ externals ∷ ledata ∷ (0x9D, 228 ∷ 0 ∷ 22 ∷ 1 ∷ 1 ∷ []) ∷ modend ∷ [], [], told phase.Relocation 6 code.TargetKind 94)
    ∷ (theadr ∷ lnames ∷ segdef ∷ flat ∷ externals ∷ (0x91, 0 ∷ 1 ∷ 3 ∷ 102 ∷ 111 ∷ 111 ∷ 4 ∷ 0 ∷ 0 ∷ 0 ∷ 0 ∷ []) ∷ ledata ∷ (0x9D, 228 ∷ 0 ∷ 6 ∷ 1 ∷ 1 ∷ []) ∷ modend ∷ [], [], told phase.Relocation 7 code.TargetKind 109)
    ∷ (theadr ∷ lnames ∷ segdef ∷ flat ∷ externals ∷ (0x91, 0 ∷ 1 ∷ 3 ∷ 102 ∷ 111 ∷ 111 ∷ 4 ∷ 0 ∷ 0 ∷ 0 ∷ 0 ∷ []) ∷ ledata ∷ (0x9D, 228 ∷ 0 ∷ 38 ∷ 1 ∷ 1 ∷ []) ∷ modend ∷ [], [], None)
    ∷ (theadr ∷ lnames ∷ segdef ∷ flat ∷ (0xB4, 3 ∷ 102 ∷ 111 ∷ 111 ∷ 0 ∷ []) ∷ (0xB7, 0 ∷ 1 ∷ 3 ∷ 102 ∷ 111 ∷ 111 ∷ 4 ∷ 0 ∷ 0 ∷ 0 ∷ 0 ∷ []) ∷ ledata ∷ (0x9D, 228 ∷ 0 ∷ 6 ∷ 1 ∷ 1 ∷ []) ∷ modend ∷ [], [], None)
    ∷ (theadr ∷ lnames ∷ segdef ∷ flat ∷ (0xB4, 3 ∷ 102 ∷ 111 ∷ 111 ∷ 0 ∷ []) ∷ (0xB7, 0 ∷ 1 ∷ 3 ∷ 102 ∷ 111 ∷ 111 ∷ 4 ∷ 0 ∷ 0 ∷ 0 ∷ 0 ∷ []) ∷ ledata ∷ (0x9D, 228 ∷ 0 ∷ 70 ∷ 1 ∷ []) ∷ modend ∷ [], [], None)
    ∷ (theadr ∷ lnames ∷ segdef ∷ flat ∷ ledata ∷ (0x9D, 228 ∷ 0 ∷ 22 ∷ 1 ∷ 1 ∷ []) ∷ externals ∷ modend ∷ [], [], told phase.Relocation 5 code.BadTarget 80)
    ∷ (theadr ∷ lnames ∷ segdef ∷ flat ∷ (0x8C, 1 ∷ 97 ∷ []) ∷ (0xA1, 1 ∷ 1 ∷ 0 ∷ 0 ∷ 0 ∷ 0 ∷ 0 ∷ 0 ∷ 0 ∷ 0 ∷ 0 ∷ 0 ∷ 0 ∷ []) ∷ modend ∷ [], [], told phase.Section 5 code.DataPastEnd 66)
    ∷ (theadr ∷ lnames ∷ segdef ∷ ledata ∷ (0x9D, 228 ∷ []) ∷ (0x8C, 1 ∷ 97 ∷ []) ∷ modend ∷ [], [], told phase.Symbol 5 code.BadIndex 80)
    ∷ (theadr ∷ lnames ∷ segdef ∷ flat ∷ externals ∷ ledata ∷ (0x9D, 228 ∷ 5 ∷ 22 ∷ 1 ∷ 1 ∷ []) ∷ (0x9D, 228 ∷ []) ∷ modend ∷ [], [], told phase.Relocation 6 code.BadOffset 94)
    ∷ []

fixups-told : map (λ (row : FaultRow). fault_by all (file_of row)) fixups ≡ map expected fixups
unfolding number_at omf_kind number_read index_read name_read each_read segment_read member_read group_read base_read public_read external_read communal_length communal_read piece_read method_read thread_read frame_read target_read displacement_read fixup_read subrecord_read said_by places_in entries_in tables_of mentions_in binding_of symbols_in subrecords_upto fixed_in meaning_of entry_conditions form_conditions size_conditions group_conditions piece_conditions all_bytes conditions_on base_conditions public_conditions communal_conditions external_conditions symbol_table fixup_conditions relocation_conditions stages_of fault_of
fixups-told = refl

-- ... fixups of data that are not kept: their form alone counts

abbrev dropped : List FaultRow
dropped =
    (theadr ∷ lnames ∷ (0x99, 105 ∷ 8 ∷ 0 ∷ 0 ∷ 0 ∷ 3 ∷ 7 ∷ 1 ∷ []) ∷ flat ∷ externals ∷ ledata ∷ (0x9D, 228 ∷ 5 ∷ 22 ∷ 1 ∷ 1 ∷ []) ∷ modend ∷ [], [], None)
    ∷ (theadr ∷ lnames ∷ (0x99, 105 ∷ 8 ∷ 0 ∷ 0 ∷ 0 ∷ 3 ∷ 7 ∷ 1 ∷ []) ∷ flat ∷ externals ∷ ledata ∷ (0x9D, 132 ∷ 0 ∷ 22 ∷ 1 ∷ 1 ∷ []) ∷ modend ∷ [], [], None)
    ∷ (theadr ∷ lnames ∷ (0x99, 105 ∷ 8 ∷ 0 ∷ 0 ∷ 0 ∷ 3 ∷ 7 ∷ 1 ∷ []) ∷ flat ∷ externals ∷ ledata ∷ (0x9D, 228 ∷ 0 ∷ []) ∷ modend ∷ [], [], told phase.Relocation 6 code.BadTable 94)
    ∷ (theadr ∷ lnames ∷ (0x99, 105 ∷ 8 ∷ 0 ∷ 0 ∷ 0 ∷ 3 ∷ 7 ∷ 1 ∷ []) ∷ flat ∷ externals ∷ ledata ∷ (0x9D, 8 ∷ 3 ∷ []) ∷ modend ∷ [], [], told phase.Relocation 6 code.BadTarget 94)
    ∷ []

dropped-told : map (λ (row : FaultRow). fault_by stripped (file_of row)) dropped ≡ map expected dropped
unfolding number_at omf_kind number_read index_read name_read each_read segment_read member_read group_read base_read public_read external_read communal_length communal_read piece_read method_read thread_read frame_read target_read displacement_read fixup_read subrecord_read said_by places_in entries_in tables_of mentions_in binding_of symbols_in subrecords_upto fixed_in meaning_of entry_conditions form_conditions size_conditions group_conditions piece_conditions all_bytes conditions_on base_conditions public_conditions communal_conditions external_conditions symbol_table fixup_conditions relocation_conditions stages_of fault_of
dropped-told = refl
