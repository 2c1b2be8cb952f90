-- Canonical files of many-section objects, and what they show, compared with an independent program's.
use Rattle.std.proofs.Common.{◌≡◌, ℕ, List, [], ◌∷◌, refl}
use Rattle.std.specs.Fmt.{digits}
use Rattle.oc_base.specs.Strings as strings
use Rattle.oc_base.specs.Numbers.{bytes_of_number, number_at}
use Rattle.oc_algebra.specs.{Fields.{field_for, to_field_of}, Residues.{reduced_number, residue_of}}
use Rattle.oc_neutral.specs.{HomeNames.{output_names, wanted_names}, Spelling.{written_row}, Coff.Strings.{coff_strings, string_offset}}
use Rattle.oc_coff.specs.{FileHeader.{file_header_bytes}, SectionHeader.{section_header_bytes}, SymbolEntry.{symbol_at, symbol_bytes}}
use Rattle.oc_coff.specs.{SectionAux.{section_aux_at, section_aux_bytes}, WeakAux.{weak_aux_bytes}, Relocation.{relocation_bytes}, Flags.{align_field}}
use Rattle.oc_coff.specs.{declared.form.CoffForm.TheVariants.{Big32, Big64}, declared.form.Shape.TheVariants.{Big}}
use Rattle.oc_coff.specs.{declared.section_aux.SectionAux.{SectionAux}, declared.symbol.SymbolEntry.{SymbolEntry}}
use Rattle.oc_coff_file.specs.{Lines.{lines_of}, Layout.{parts_of, text_of}, Bodies.{field_number, raw_of, relocs_of, type_of}}
use Rattle.oc_coff_file.specs.Canonical.{coff_file, part_bytes, file_header, line_rows, header_at, leader_number, section_field, symbol_field}
use Rattle.oc_coff.proofs.BigFiles.{big_call, big_call_64, big_grouped, big_weakened, big_tails, big_manifold}
use Rattle.oc_coff_file.proofs.CanonicalRows.{call_32, call_64, group, weak_definition, shared_tail, everything}

call_32-big : coff_file Big32 call_32 ≡ big_call
unfolding coff_file part_bytes file_header line_rows header_at align_field leader_number section_field symbol_field relocs_of type_of raw_of field_number lines_of parts_of text_of file_header_bytes section_header_bytes symbol_bytes section_aux_bytes weak_aux_bytes relocation_bytes string_offset coff_strings strings.table_place strings.tops_of strings.text_of strings.table_text bytes_of_number written_row to_field_of field_for output_names wanted_names reduced_number residue_of
call_32-big = refl

call_64-big : coff_file Big64 call_64 ≡ big_call_64
unfolding coff_file part_bytes file_header line_rows header_at align_field leader_number section_field symbol_field relocs_of type_of raw_of field_number lines_of parts_of text_of file_header_bytes section_header_bytes symbol_bytes section_aux_bytes weak_aux_bytes relocation_bytes string_offset coff_strings strings.table_place strings.tops_of strings.text_of strings.table_text bytes_of_number written_row to_field_of field_for output_names wanted_names reduced_number residue_of
call_64-big = refl

group-big : coff_file Big32 group ≡ big_grouped
unfolding coff_file part_bytes file_header line_rows header_at align_field leader_number section_field symbol_field relocs_of type_of raw_of field_number lines_of parts_of text_of file_header_bytes section_header_bytes symbol_bytes section_aux_bytes weak_aux_bytes relocation_bytes string_offset coff_strings strings.table_place strings.tops_of strings.text_of strings.table_text bytes_of_number written_row to_field_of field_for output_names wanted_names reduced_number residue_of
group-big = refl

weak_definition-big : coff_file Big64 weak_definition ≡ big_weakened
unfolding coff_file part_bytes file_header line_rows header_at align_field leader_number section_field symbol_field relocs_of type_of raw_of field_number lines_of parts_of text_of file_header_bytes section_header_bytes symbol_bytes section_aux_bytes weak_aux_bytes relocation_bytes string_offset coff_strings strings.table_place strings.tops_of strings.text_of strings.table_text bytes_of_number written_row to_field_of field_for output_names wanted_names reduced_number residue_of
weak_definition-big = refl

shared_tail-big : coff_file Big32 shared_tail ≡ big_tails
unfolding coff_file part_bytes file_header line_rows header_at align_field leader_number section_field symbol_field relocs_of type_of raw_of field_number lines_of parts_of text_of file_header_bytes section_header_bytes symbol_bytes section_aux_bytes weak_aux_bytes relocation_bytes string_offset coff_strings strings.table_place strings.tops_of strings.text_of strings.table_text bytes_of_number written_row to_field_of field_for output_names wanted_names reduced_number residue_of
shared_tail-big = refl

everything-big : coff_file Big64 everything ≡ big_manifold
unfolding coff_file part_bytes file_header line_rows header_at align_field leader_number section_field symbol_field relocs_of type_of raw_of field_number lines_of parts_of text_of file_header_bytes section_header_bytes symbol_bytes section_aux_bytes weak_aux_bytes relocation_bytes string_offset coff_strings strings.table_place strings.tops_of strings.text_of strings.table_text bytes_of_number written_row to_field_of field_for output_names wanted_names reduced_number residue_of digits
everything-big = refl

-- ... numbers above 65,535, by hand from the structures

-- the auxiliary entry of a section of six bytes and one relocation that is kept with section 70,000, and it in bytes
abbrev high_aux : SectionAux
high_aux = record { Length = 6; NumberOfRelocations = 1; NumberOfLinenumbers = 0; CheckSum = 0; Number = 70000; Selection = 5 }

abbrev high_aux_bytes : List ℕ
high_aux_bytes = 6 ∷ 0 ∷ 0 ∷ 0 ∷ 1 ∷ 0 ∷ 0 ∷ 0 ∷ 0 ∷ 0 ∷ 0 ∷ 0 ∷ 0x70 ∷ 0x11 ∷ 5 ∷ 0 ∷ 1 ∷ 0 ∷ 0 ∷ 0 ∷ []

high_aux-written : section_aux_bytes Big high_aux ≡ high_aux_bytes
unfolding section_aux_bytes bytes_of_number
high_aux-written = refl

high_aux-read : section_aux_at Big high_aux_bytes 0 ≡ high_aux
unfolding section_aux_at number_at
high_aux-read = refl

-- the symbol `f` at 4 of section 70,000, and it in bytes
abbrev high_symbol : SymbolEntry
high_symbol = record { Name = 0x66 ∷ 0 ∷ 0 ∷ 0 ∷ 0 ∷ 0 ∷ 0 ∷ 0 ∷ []; Value = 4; SectionNumber = 70000; «Type» = 0x20; StorageClass = 2; NumberOfAuxSymbols = 0 }

abbrev high_symbol_bytes : List ℕ
high_symbol_bytes = 0x66 ∷ 0 ∷ 0 ∷ 0 ∷ 0 ∷ 0 ∷ 0 ∷ 0 ∷ 4 ∷ 0 ∷ 0 ∷ 0 ∷ 0x70 ∷ 0x11 ∷ 1 ∷ 0 ∷ 0x20 ∷ 0 ∷ 2 ∷ 0 ∷ []

high_symbol-written : symbol_bytes Big high_symbol ≡ high_symbol_bytes
unfolding symbol_bytes bytes_of_number
high_symbol-written = refl

high_symbol-read : symbol_at Big high_symbol_bytes 0 ≡ high_symbol
unfolding symbol_at number_at
high_symbol-read = refl
