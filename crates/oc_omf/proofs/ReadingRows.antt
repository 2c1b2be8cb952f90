-- What modules show, computed on worked modules: faults, sections, symbols, and fields with their residues where everything is at 0.
use Rattle.std.proofs.Common.{◌≡◌, ℕ, ◌-◌, ◌^◌, List, [], ◌∷◌, map, codes, Some, None, Option, refl}
use Rattle.std.specs.{Prelude.{replicate, take}, Option.{option_map}}
use Rattle.oc_base.specs.{declared.code.Code.{Code}, declared.fault.Fault.{Fault}, declared.fault.Phase.{Phase}, Numbers.{number_at}}
use Rattle.oc_base.specs.declared.code.Code.TheVariants as code
use Rattle.oc_base.specs.declared.fault.Phase.TheVariants as phase
use Rattle.oc_linking.specs.{declared.terms.Kind.{Kind}, declared.terms.Width.{Width}, declared.terms.Width.TheVariants.{Four}, declared.terms.Check.{Check}}
use Rattle.oc_linking.specs.{declared.terms.Check.TheVariants.{Wrap}, declared.terms.Base.{Base}, declared.terms.Base.TheVariants.{Address}}
use Rattle.oc_linking.specs.{declared.terms.Less.{Less}, declared.terms.Value.TheVariants.{Place}, declared.terms.Binding.{Binding}}
use Rattle.oc_linking.specs.{declared.terms.Binding.TheVariants.{Local, Global, Undefined, Common}, Keeping.{all}, Parts.{Section, Symbol}, Placing.{zeros}}
use Rattle.oc_linking.specs.{Rules.{Field, Named, Symbolic, Sectional}, Values.{worthless}}
use Rattle.oc_linking.specs.declared.terms.Kind.TheVariants as kind
use Rattle.oc_linking.specs.declared.terms.Less.TheVariants as less
use Rattle.oc_algebra.specs.{Residues.{residue_of}, Fields.{extended}}
use Rattle.oc_neutral.specs.Omf.Kinds.{omf_kind}
use Rattle.oc_omf.specs.Cursor.{number_read, index_read, name_read, each_read}
use Rattle.oc_omf.specs.Structures.{segment_read, member_read, group_read, base_read, public_read, external_read, communal_length, communal_read, piece_read, method_read, thread_read, frame_read, target_read, displacement_read, fixup_read, subrecord_read}
use Rattle.oc_omf.specs.{Entries.{said_by, places_in, entries_in}, Tables.{tables_of}, Sections.{contents_of, sections_in}}
use Rattle.oc_omf.specs.{Symbols.{mentions_in, binding_of, symbols_in}, Fixups.{subrecords_upto, fixed_in}, Targets.{meaning_of}, Fields.{field_by, fields_in}}
use Rattle.oc_omf.specs.HeaderFaults.{entry_conditions}
use Rattle.oc_omf.specs.SectionFaults.{form_conditions, size_conditions, group_conditions, piece_conditions, all_bytes, conditions_on}
use Rattle.oc_omf.specs.SymbolFaults.{base_conditions, public_conditions, communal_conditions, external_conditions, symbol_table}
use Rattle.oc_omf.specs.{RelocationFaults.{fixup_conditions, relocation_conditions}, Rules.{omf_rules, stages_of, fault_of}}
use Rattle.oc_omf.proofs.WorkedFiles.{threads, iterated, named, unsummed, missummed, lying, call, assorted}

-- ... faults

abbrev Told : Type 0
Told = Option (Phase × ℕ × Code × ℕ)

abbrev fault_by : List ℕ → Told
fault_by file = option_map (λ (f : Fault). (f.phase, f.index, f.code, f.place)) (omf_rules.fault file all)

-- files, and what they are refused for
abbrev judged : List (List ℕ × Told)
judged =
    (threads, None) ∷ (iterated, None) ∷ (named, None) ∷ (unsummed, None) ∷ (call, None) ∷ (assorted, None)
    ∷ (missummed, Some (phase.Header, 0, code.BadChecksum, 0))
    ∷ (lying, Some (phase.Section, 3, code.DataPastEnd, 23))
    ∷ (take 1 named, Some (phase.Header, 0, code.Short, 0))
    ∷ (take 5 named, Some (phase.Header, 0, code.Short, 0))
    ∷ (take 6 named, Some (phase.Header, 1, code.Short, 6))
    ∷ (take 10 named, Some (phase.Header, 1, code.Short, 6))
    ∷ []

judged-told : map (λ (row : List ℕ × Told). fault_by row.0) judged ≡ map (λ (row : List ℕ × Told). row.1) judged
unfolding number_at residue_of extended omf_kind number_read index_read name_read each_read segment_read member_read group_read base_read public_read external_read communal_length communal_read piece_read method_read thread_read frame_read target_read displacement_read fixup_read subrecord_read said_by places_in entries_in tables_of contents_of sections_in mentions_in binding_of symbols_in subrecords_upto fixed_in meaning_of field_by fields_in entry_conditions form_conditions size_conditions group_conditions piece_conditions all_bytes conditions_on base_conditions public_conditions communal_conditions external_conditions symbol_table fixup_conditions relocation_conditions stages_of fault_of
judged-told = refl

-- ... sections

-- a section: its name, kind, alignment, size and number
abbrev Frame : Type 0
Frame = List ℕ × Kind × ℕ × ℕ × ℕ

abbrev sections_of : List ℕ → List Frame
sections_of file = map (λ (s : Section). (s.name, s.kind, s.align, s.size, s.number)) (omf_rules.sections file)

threads-sections : sections_of threads ≡ (codes "_TEXT", kind.Code, 16, 8, 1) ∷ []
unfolding number_at residue_of extended omf_kind number_read index_read name_read each_read segment_read member_read group_read base_read public_read external_read communal_length communal_read piece_read method_read thread_read frame_read target_read displacement_read fixup_read subrecord_read said_by places_in entries_in tables_of contents_of sections_in mentions_in binding_of symbols_in subrecords_upto fixed_in meaning_of field_by fields_in entry_conditions form_conditions size_conditions group_conditions piece_conditions all_bytes conditions_on base_conditions public_conditions communal_conditions external_conditions symbol_table fixup_conditions relocation_conditions stages_of fault_of
threads-sections = refl

assorted-sections : sections_of assorted ≡ (codes "_TEXT", kind.Code, 1, 12, 1) ∷ (codes "DATA", kind.Zero, 2, 4, 2) ∷ (codes "DATA", kind.Data, 256, 8, 3)
    ∷ (codes "DEBSYM", kind.Debug, 4, 2, 4) ∷ (codes "CONST", kind.ReadOnly, 16, 2, 5) ∷ []
unfolding number_at residue_of extended omf_kind number_read index_read name_read each_read segment_read member_read group_read base_read public_read external_read communal_length communal_read piece_read method_read thread_read frame_read target_read displacement_read fixup_read subrecord_read said_by places_in entries_in tables_of contents_of sections_in mentions_in binding_of symbols_in subrecords_upto fixed_in meaning_of field_by fields_in entry_conditions form_conditions size_conditions group_conditions piece_conditions all_bytes conditions_on base_conditions public_conditions communal_conditions external_conditions symbol_table fixup_conditions relocation_conditions stages_of fault_of
assorted-sections = refl

abbrev contents_in : List ℕ → List (List ℕ)
contents_in file = map (λ (s : Section). s.contents) (omf_rules.sections file)

call-contents : contents_in call ≡ (0xE8 ∷ 0 ∷ 0 ∷ 0 ∷ 0 ∷ 0xC3 ∷ []) ∷ []
unfolding number_at residue_of extended omf_kind number_read index_read name_read each_read segment_read member_read group_read base_read public_read external_read communal_length communal_read piece_read method_read thread_read frame_read target_read displacement_read fixup_read subrecord_read said_by places_in entries_in tables_of contents_of sections_in mentions_in binding_of symbols_in subrecords_upto fixed_in meaning_of field_by fields_in entry_conditions form_conditions size_conditions group_conditions piece_conditions all_bytes conditions_on base_conditions public_conditions communal_conditions external_conditions symbol_table fixup_conditions relocation_conditions stages_of fault_of
call-contents = refl

assorted-contents : contents_in assorted ≡ (0xFE ∷ 0xFF ∷ 0xFF ∷ 0xFF ∷ 0x10 ∷ replicate 7 0) ∷ replicate 4 0
    ∷ (0 ∷ 1 ∷ 2 ∷ 3 ∷ 1 ∷ 2 ∷ 3 ∷ 0 ∷ []) ∷ replicate 2 0 ∷ replicate 2 0 ∷ []
unfolding number_at residue_of extended omf_kind number_read index_read name_read each_read segment_read member_read group_read base_read public_read external_read communal_length communal_read piece_read method_read thread_read frame_read target_read displacement_read fixup_read subrecord_read said_by places_in entries_in tables_of contents_of sections_in mentions_in binding_of symbols_in subrecords_upto fixed_in meaning_of field_by fields_in entry_conditions form_conditions size_conditions group_conditions piece_conditions all_bytes conditions_on base_conditions public_conditions communal_conditions external_conditions symbol_table fixup_conditions relocation_conditions stages_of fault_of
assorted-contents = refl

-- ... symbols

abbrev symbols_of : List ℕ → List (List ℕ × Binding × ℕ)
symbols_of file = map (λ (s : Symbol). (s.name, s.binding, s.number)) (omf_rules.symbols file all)

threads-symbols : symbols_of threads ≡ (codes "foo", Undefined, 0) ∷ (codes "bar", Undefined, 1) ∷ []
unfolding number_at residue_of extended omf_kind number_read index_read name_read each_read segment_read member_read group_read base_read public_read external_read communal_length communal_read piece_read method_read thread_read frame_read target_read displacement_read fixup_read subrecord_read said_by places_in entries_in tables_of contents_of sections_in mentions_in binding_of symbols_in subrecords_upto fixed_in meaning_of field_by fields_in entry_conditions form_conditions size_conditions group_conditions piece_conditions all_bytes conditions_on base_conditions public_conditions communal_conditions external_conditions symbol_table fixup_conditions relocation_conditions stages_of fault_of
threads-symbols = refl

call-symbols : symbols_of call ≡ (codes "foo", Undefined, 0) ∷ (codes "main", Global (Place 0 0), 1) ∷ []
unfolding number_at residue_of extended omf_kind number_read index_read name_read each_read segment_read member_read group_read base_read public_read external_read communal_length communal_read piece_read method_read thread_read frame_read target_read displacement_read fixup_read subrecord_read said_by places_in entries_in tables_of contents_of sections_in mentions_in binding_of symbols_in subrecords_upto fixed_in meaning_of field_by fields_in entry_conditions form_conditions size_conditions group_conditions piece_conditions all_bytes conditions_on base_conditions public_conditions communal_conditions external_conditions symbol_table fixup_conditions relocation_conditions stages_of fault_of
call-symbols = refl

assorted-symbols : symbols_of assorted ≡ (codes "loc", Local (Place 0 4), 0) ∷ (codes "foo", Undefined, 1) ∷ (codes "com", Common 12 16, 2) ∷ (codes "pub", Global (Place 2 8), 3) ∷ []
unfolding number_at residue_of extended omf_kind number_read index_read name_read each_read segment_read member_read group_read base_read public_read external_read communal_length communal_read piece_read method_read thread_read frame_read target_read displacement_read fixup_read subrecord_read said_by places_in entries_in tables_of contents_of sections_in mentions_in binding_of symbols_in subrecords_upto fixed_in meaning_of field_by fields_in entry_conditions form_conditions size_conditions group_conditions piece_conditions all_bytes conditions_on base_conditions public_conditions communal_conditions external_conditions symbol_table fixup_conditions relocation_conditions stages_of fault_of
assorted-symbols = refl

-- ... fields

-- a field: its width, check, base, what is taken, its target, and its residue where all is at 0
abbrev Found : Type 0
Found = Width × Check × Base × Less × Named × ℕ

abbrev field_at : List ℕ → ℕ × ℕ → Option Found
field_at file at = option_map (λ (f : Field). (f.width, f.check, f.base, f.less, f.target, f.residue zeros (λ k. worthless))) (omf_rules.fields file all at.0 at.1)

-- a field of OMF
abbrev field : Less → Named → ℕ → Option Found
field taken target residue = Some (Four, Wrap, Address, taken, target, residue)

-- files, with positions of sections and offsets in them, and the fields there
abbrev fields : List (List ℕ × (ℕ × ℕ) × Option Found)
fields =
    (threads, (0, 0), field less.Zero (Symbolic 0) 0) ∷ (threads, (0, 4), field less.Zero (Symbolic 1) 0) ∷ (threads, (0, 1), None) ∷ (threads, (1, 0), None)
    ∷ (call, (0, 1), field less.Place (Symbolic 0) (2 ^ 32 - 5))
    ∷ (iterated, (0, 0), field less.Place (Symbolic 0) (2 ^ 32 - 4)) ∷ (iterated, (0, 4), field less.Place (Symbolic 0) (2 ^ 32 - 8))
    ∷ (iterated, (0, 8), field less.Place (Symbolic 0) (2 ^ 32 - 12)) ∷ (iterated, (0, 12), field less.Place (Symbolic 0) (2 ^ 32 - 16))
    ∷ (iterated, (0, 16), field less.Place (Symbolic 0) (2 ^ 32 - 20)) ∷ (iterated, (0, 20), field less.Place (Symbolic 0) (2 ^ 32 - 24))
    ∷ (iterated, (0, 2), None) ∷ (iterated, (0, 24), None)
    ∷ (assorted, (0, 0), field less.Zero (Sectional 0) 3) ∷ (assorted, (0, 4), field less.Home (Symbolic 1) 16) ∷ (assorted, (0, 8), field less.Home (Sectional 2) 0)
    ∷ []

fields-found : map (λ (row : List ℕ × (ℕ × ℕ) × Option Found). field_at row.0 row.1) fields ≡ map (λ (row : List ℕ × (ℕ × ℕ) × Option Found). row.2) fields
unfolding number_at residue_of extended omf_kind number_read index_read name_read each_read segment_read member_read group_read base_read public_read external_read communal_length communal_read piece_read method_read thread_read frame_read target_read displacement_read fixup_read subrecord_read said_by places_in entries_in tables_of contents_of sections_in mentions_in binding_of symbols_in subrecords_upto fixed_in meaning_of field_by fields_in entry_conditions form_conditions size_conditions group_conditions piece_conditions all_bytes conditions_on base_conditions public_conditions communal_conditions external_conditions symbol_table fixup_conditions relocation_conditions stages_of fault_of
fields-found = refl
