-- Listings of worked Omf files, as an independent program prints them.
use Rattle.std.proofs.Common.{◌≡◌, refl}
use Rattle.std.specs.{Prelude.{codes, []}, Fmt.{digits}}
use Rattle.oc_base.specs.Numbers.{number_at}
use Rattle.oc_algebra.specs.{Residues.{residue_of}, Fields.{extended}}
use Rattle.oc_neutral.specs.{Omf.Kinds.{omf_kind}, Dialects.{is_folded, looks_in, patches_in}}
use Rattle.oc_omf.specs.Cursor.{number_read, index_read, name_read, each_read}
use Rattle.oc_omf.specs.Structures.{segment_read, member_read, group_read, base_read, public_read, external_read, communal_length, communal_read, piece_read, method_read, thread_read, frame_read, target_read, displacement_read, fixup_read, subrecord_read}
use Rattle.oc_omf.specs.{Entries.{said_by, places_in, entries_in}, Tables.{tables_of}, Sections.{contents_of, sections_in}}
use Rattle.oc_omf.specs.{Symbols.{mentions_in, binding_of, symbols_in}, Fixups.{subrecords_upto, fixed_in}, Targets.{meaning_of}, Fields.{field_by, fields_in}}
use Rattle.oc_omf.specs.{SectionFaults.{all_bytes}, SymbolFaults.{symbol_table}, Rules.{stages_of, fault_of, omf_dialect}}
use Rattle.oc_dump.specs.Lines.{hex}
use Rattle.oc_omf.proofs.WorkedFiles.{call, threads, assorted}
use Rattle.oc_listings.specs.declared.listing.Listing.TheVariants.{Header, Sections, Relocations}
use Rattle.oc_listings.specs.{Texts.{field_text, format_text, header_text, line_text, section_text}, Listings.{listing_of}}

call-header : listing_of (omf_dialect) call Header ≡ codes "format omf\nsections 1\nsymbols 2\nrelocations 1\nbytes 104\n"
unfolding listing_of header_text format_text line_text section_text field_text hex digits is_folded looks_in patches_in number_at residue_of extended omf_kind number_read index_read name_read each_read segment_read member_read group_read base_read public_read external_read communal_length communal_read piece_read method_read thread_read frame_read target_read displacement_read fixup_read subrecord_read said_by places_in entries_in tables_of contents_of sections_in mentions_in binding_of symbols_in subrecords_upto fixed_in meaning_of field_by fields_in all_bytes symbol_table stages_of fault_of
call-header = refl

call-sections : listing_of (omf_dialect) call Sections ≡ codes "1 code 16 6 _TEXT\n"
unfolding listing_of header_text format_text line_text section_text field_text hex digits is_folded looks_in patches_in number_at residue_of extended omf_kind number_read index_read name_read each_read segment_read member_read group_read base_read public_read external_read communal_length communal_read piece_read method_read thread_read frame_read target_read displacement_read fixup_read subrecord_read said_by places_in entries_in tables_of contents_of sections_in mentions_in binding_of symbols_in subrecords_upto fixed_in meaning_of field_by fields_in all_bytes symbol_table stages_of fault_of
call-sections = refl

call-relocations : listing_of (omf_dialect) call Relocations ≡ codes "1 1 4 wrap fffffffb symbol foo\n"
unfolding listing_of header_text format_text line_text section_text field_text hex digits is_folded looks_in patches_in number_at residue_of extended omf_kind number_read index_read name_read each_read segment_read member_read group_read base_read public_read external_read communal_length communal_read piece_read method_read thread_read frame_read target_read displacement_read fixup_read subrecord_read said_by places_in entries_in tables_of contents_of sections_in mentions_in binding_of symbols_in subrecords_upto fixed_in meaning_of field_by fields_in all_bytes symbol_table stages_of fault_of
call-relocations = refl

threads-header : listing_of (omf_dialect) threads Header ≡ codes "format omf\nsections 1\nsymbols 2\nrelocations 2\nbytes 100\n"
unfolding listing_of header_text format_text line_text section_text field_text hex digits is_folded looks_in patches_in number_at residue_of extended omf_kind number_read index_read name_read each_read segment_read member_read group_read base_read public_read external_read communal_length communal_read piece_read method_read thread_read frame_read target_read displacement_read fixup_read subrecord_read said_by places_in entries_in tables_of contents_of sections_in mentions_in binding_of symbols_in subrecords_upto fixed_in meaning_of field_by fields_in all_bytes symbol_table stages_of fault_of
threads-header = refl

threads-sections : listing_of (omf_dialect) threads Sections ≡ codes "1 code 16 8 _TEXT\n"
unfolding listing_of header_text format_text line_text section_text field_text hex digits is_folded looks_in patches_in number_at residue_of extended omf_kind number_read index_read name_read each_read segment_read member_read group_read base_read public_read external_read communal_length communal_read piece_read method_read thread_read frame_read target_read displacement_read fixup_read subrecord_read said_by places_in entries_in tables_of contents_of sections_in mentions_in binding_of symbols_in subrecords_upto fixed_in meaning_of field_by fields_in all_bytes symbol_table stages_of fault_of
threads-sections = refl

threads-relocations : listing_of (omf_dialect) threads Relocations ≡ codes "1 0 4 wrap 00000000 symbol foo\n1 4 4 wrap 00000000 symbol bar\n"
unfolding listing_of header_text format_text line_text section_text field_text hex digits is_folded looks_in patches_in number_at residue_of extended omf_kind number_read index_read name_read each_read segment_read member_read group_read base_read public_read external_read communal_length communal_read piece_read method_read thread_read frame_read target_read displacement_read fixup_read subrecord_read said_by places_in entries_in tables_of contents_of sections_in mentions_in binding_of symbols_in subrecords_upto fixed_in meaning_of field_by fields_in all_bytes symbol_table stages_of fault_of
threads-relocations = refl

assorted-header : listing_of (omf_dialect) assorted Header ≡ codes "format omf\nsections 5\nsymbols 4\nrelocations 3\nbytes 268\n"
unfolding listing_of header_text format_text line_text section_text field_text hex digits is_folded looks_in patches_in number_at residue_of extended omf_kind number_read index_read name_read each_read segment_read member_read group_read base_read public_read external_read communal_length communal_read piece_read method_read thread_read frame_read target_read displacement_read fixup_read subrecord_read said_by places_in entries_in tables_of contents_of sections_in mentions_in binding_of symbols_in subrecords_upto fixed_in meaning_of field_by fields_in all_bytes symbol_table stages_of fault_of
assorted-header = refl

assorted-sections : listing_of (omf_dialect) assorted Sections ≡ codes "1 code 1 12 _TEXT\n2 zero 2 4 DATA\n3 data 256 8 DATA\n4 debug 4 2 DEBSYM\n5 readonly 16 2 CONST\n"
unfolding listing_of header_text format_text line_text section_text field_text hex digits is_folded looks_in patches_in number_at residue_of extended omf_kind number_read index_read name_read each_read segment_read member_read group_read base_read public_read external_read communal_length communal_read piece_read method_read thread_read frame_read target_read displacement_read fixup_read subrecord_read said_by places_in entries_in tables_of contents_of sections_in mentions_in binding_of symbols_in subrecords_upto fixed_in meaning_of field_by fields_in all_bytes symbol_table stages_of fault_of
assorted-sections = refl

assorted-relocations : listing_of (omf_dialect) assorted Relocations ≡ codes "1 0 4 wrap 00000007 section 1\n1 4 4 wrap 00000010 symbol foo\n1 8 4 wrap 00000000 section 3\n"
unfolding listing_of header_text format_text line_text section_text field_text hex digits is_folded looks_in patches_in number_at residue_of extended omf_kind number_read index_read name_read each_read segment_read member_read group_read base_read public_read external_read communal_length communal_read piece_read method_read thread_read frame_read target_read displacement_read fixup_read subrecord_read said_by places_in entries_in tables_of contents_of sections_in mentions_in binding_of symbols_in subrecords_upto fixed_in meaning_of field_by fields_in all_bytes symbol_table stages_of fault_of
assorted-relocations = refl
