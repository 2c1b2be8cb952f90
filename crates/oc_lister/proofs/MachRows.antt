-- Listings of worked Mach files, as an independent program prints them.
use Rattle.std.proofs.Common.{◌≡◌, refl}
use Rattle.std.specs.{Prelude.{codes, []}, Fmt.{digits}}
use Rattle.oc_base.specs.{Numbers.{number_at}, declared.format.Word.TheVariants.{W32, W64}}
use Rattle.oc_algebra.specs.{Fields.{extended}, Residues.{residue_of}}
use Rattle.oc_neutral.specs.{Mach.Kinds.{mach_kind, mach_tag}, Dialects.{is_folded, looks_in, patches_in}}
use Rattle.oc_macho.specs.{MachHeader.{mach_header_of}, LoadCommand.{load_command_at}, SegmentCommand.{segment_command_at}, SymtabCommand.{symtab_command_at}}
use Rattle.oc_macho.specs.{SectionHeader.{section_header_at}, Nlist.{nlist_at}}
use Rattle.oc_macho.specs.{RelocationInfo.{relocation_info_at, relocation_info_of, reference_of, scattered_of}, Tables.{section_table, tables_of}}
use Rattle.oc_macho.specs.{Sections.{kind_of, contents_of, section_of, sections_in, holder_of}, Symbols.{name_at, is_own, binding_of, symbol_of, symbols_by}}
use Rattle.oc_macho.specs.{Entries.{row_for, item_at, is_pinned}, Aims.{aim_in}, Fields.{field_parts_by, added_by, field_of, item_for, fields_in}}
use Rattle.oc_macho.specs.Rules.{symbols_in, mach_dialect}
use Rattle.oc_dump.specs.Lines.{hex}
use Rattle.oc_macho.proofs.WorkedFiles.{called, called32, behind, difference, folded}
use Rattle.oc_listings.specs.declared.listing.Listing.TheVariants.{Header, Sections, Relocations}
use Rattle.oc_listings.specs.{Texts.{field_text, format_text, header_text, line_text, section_text}, Listings.{listing_of}}

called-header : listing_of (mach_dialect W64) called Header ≡ codes "format mac64\nsections 1\nsymbols 2\nrelocations 1\nbytes 352\n"
unfolding listing_of header_text format_text line_text section_text field_text hex digits is_folded looks_in patches_in number_at residue_of extended mach_kind mach_tag mach_header_of load_command_at segment_command_at symtab_command_at section_header_at nlist_at relocation_info_at section_table tables_of kind_of contents_of section_of sections_in relocation_info_of reference_of scattered_of name_at is_own binding_of symbol_of symbols_by row_for item_at is_pinned symbols_in holder_of aim_in field_parts_by added_by field_of item_for fields_in
called-header = refl

called-sections : listing_of (mach_dialect W64) called Sections ≡ codes "1 code 16 6 __TEXT,__text\n"
unfolding listing_of header_text format_text line_text section_text field_text hex digits is_folded looks_in patches_in number_at residue_of extended mach_kind mach_tag mach_header_of load_command_at segment_command_at symtab_command_at section_header_at nlist_at relocation_info_at section_table tables_of kind_of contents_of section_of sections_in relocation_info_of reference_of scattered_of name_at is_own binding_of symbol_of symbols_by row_for item_at is_pinned symbols_in holder_of aim_in field_parts_by added_by field_of item_for fields_in
called-sections = refl

called-relocations : listing_of (mach_dialect W64) called Relocations ≡ codes "1 1 4 signed fffffffffffffffb symbol foo\n"
unfolding listing_of header_text format_text line_text section_text field_text hex digits is_folded looks_in patches_in number_at residue_of extended mach_kind mach_tag mach_header_of load_command_at segment_command_at symtab_command_at section_header_at nlist_at relocation_info_at section_table tables_of kind_of contents_of section_of sections_in relocation_info_of reference_of scattered_of name_at is_own binding_of symbol_of symbols_by row_for item_at is_pinned symbols_in holder_of aim_in field_parts_by added_by field_of item_for fields_in
called-relocations = refl

called32-header : listing_of (mach_dialect W32) called32 Header ≡ codes "format mac32\nsections 1\nsymbols 2\nrelocations 1\nbytes 308\n"
unfolding listing_of header_text format_text line_text section_text field_text hex digits is_folded looks_in patches_in number_at residue_of extended mach_kind mach_tag mach_header_of load_command_at segment_command_at symtab_command_at section_header_at nlist_at relocation_info_at section_table tables_of kind_of contents_of section_of sections_in relocation_info_of reference_of scattered_of name_at is_own binding_of symbol_of symbols_by row_for item_at is_pinned symbols_in holder_of aim_in field_parts_by added_by field_of item_for fields_in
called32-header = refl

called32-sections : listing_of (mach_dialect W32) called32 Sections ≡ codes "1 code 16 6 __TEXT,__text\n"
unfolding listing_of header_text format_text line_text section_text field_text hex digits is_folded looks_in patches_in number_at residue_of extended mach_kind mach_tag mach_header_of load_command_at segment_command_at symtab_command_at section_header_at nlist_at relocation_info_at section_table tables_of kind_of contents_of section_of sections_in relocation_info_of reference_of scattered_of name_at is_own binding_of symbol_of symbols_by row_for item_at is_pinned symbols_in holder_of aim_in field_parts_by added_by field_of item_for fields_in
called32-sections = refl

called32-relocations : listing_of (mach_dialect W32) called32 Relocations ≡ codes "1 1 4 wrap fffffffb symbol foo\n"
unfolding listing_of header_text format_text line_text section_text field_text hex digits is_folded looks_in patches_in number_at residue_of extended mach_kind mach_tag mach_header_of load_command_at segment_command_at symtab_command_at section_header_at nlist_at relocation_info_at section_table tables_of kind_of contents_of section_of sections_in relocation_info_of reference_of scattered_of name_at is_own binding_of symbol_of symbols_by row_for item_at is_pinned symbols_in holder_of aim_in field_parts_by added_by field_of item_for fields_in
called32-relocations = refl

behind-header : listing_of (mach_dialect W32) behind Header ≡ codes "format mac32\nsections 2\nsymbols 1\nrelocations 1\nbytes 376\n"
unfolding listing_of header_text format_text line_text section_text field_text hex digits is_folded looks_in patches_in number_at residue_of extended mach_kind mach_tag mach_header_of load_command_at segment_command_at symtab_command_at section_header_at nlist_at relocation_info_at section_table tables_of kind_of contents_of section_of sections_in relocation_info_of reference_of scattered_of name_at is_own binding_of symbol_of symbols_by row_for item_at is_pinned symbols_in holder_of aim_in field_parts_by added_by field_of item_for fields_in
behind-header = refl

behind-sections : listing_of (mach_dialect W32) behind Sections ≡ codes "1 readonly 16 16 __TEXT,__const\n2 code 16 5 __TEXT,__text\n"
unfolding listing_of header_text format_text line_text section_text field_text hex digits is_folded looks_in patches_in number_at residue_of extended mach_kind mach_tag mach_header_of load_command_at segment_command_at symtab_command_at section_header_at nlist_at relocation_info_at section_table tables_of kind_of contents_of section_of sections_in relocation_info_of reference_of scattered_of name_at is_own binding_of symbol_of symbols_by row_for item_at is_pinned symbols_in holder_of aim_in field_parts_by added_by field_of item_for fields_in
behind-sections = refl

behind-relocations : listing_of (mach_dialect W32) behind Relocations ≡ codes "2 1 4 wrap fffffffb symbol foo\n"
unfolding listing_of header_text format_text line_text section_text field_text hex digits is_folded looks_in patches_in number_at residue_of extended mach_kind mach_tag mach_header_of load_command_at segment_command_at symtab_command_at section_header_at nlist_at relocation_info_at section_table tables_of kind_of contents_of section_of sections_in relocation_info_of reference_of scattered_of name_at is_own binding_of symbol_of symbols_by row_for item_at is_pinned symbols_in holder_of aim_in field_parts_by added_by field_of item_for fields_in
behind-relocations = refl

difference-header : listing_of (mach_dialect W64) difference Header ≡ codes "format mac64\nsections 2\nsymbols 2\nrelocations 2\nbytes 488\n"
unfolding listing_of header_text format_text line_text section_text field_text hex digits is_folded looks_in patches_in number_at residue_of extended mach_kind mach_tag mach_header_of load_command_at segment_command_at symtab_command_at section_header_at nlist_at relocation_info_at section_table tables_of kind_of contents_of section_of sections_in relocation_info_of reference_of scattered_of name_at is_own binding_of symbol_of symbols_by row_for item_at is_pinned symbols_in holder_of aim_in field_parts_by added_by field_of item_for fields_in
difference-header = refl

difference-sections : listing_of (mach_dialect W64) difference Sections ≡ codes "1 code 16 16 __TEXT,__text\n2 data 16 24 __DATA,__data\n"
unfolding listing_of header_text format_text line_text section_text field_text hex digits is_folded looks_in patches_in number_at residue_of extended mach_kind mach_tag mach_header_of load_command_at segment_command_at symtab_command_at section_header_at nlist_at relocation_info_at section_table tables_of kind_of contents_of section_of sections_in relocation_info_of reference_of scattered_of name_at is_own binding_of symbol_of symbols_by row_for item_at is_pinned symbols_in holder_of aim_in field_parts_by added_by field_of item_for fields_in
difference-sections = refl

difference-relocations : listing_of (mach_dialect W64) difference Relocations ≡ codes "2 8 4 signed 0000000000000010 symbol _ext\n2 16 8 wrap 0000000000000000 symbol _ext\n"
unfolding listing_of header_text format_text line_text section_text field_text hex digits is_folded looks_in patches_in number_at residue_of extended mach_kind mach_tag mach_header_of load_command_at segment_command_at symtab_command_at section_header_at nlist_at relocation_info_at section_table tables_of kind_of contents_of section_of sections_in relocation_info_of reference_of scattered_of name_at is_own binding_of symbol_of symbols_by row_for item_at is_pinned symbols_in holder_of aim_in field_parts_by added_by field_of item_for fields_in
difference-relocations = refl

folded-header : listing_of (mach_dialect W32) folded Header ≡ codes "format mac32\nsections 2\nsymbols 0\nrelocations 0\nbytes 380\n"
unfolding listing_of header_text format_text line_text section_text field_text hex digits is_folded looks_in patches_in number_at residue_of extended mach_kind mach_tag mach_header_of load_command_at segment_command_at symtab_command_at section_header_at nlist_at relocation_info_at section_table tables_of kind_of contents_of section_of sections_in relocation_info_of reference_of scattered_of name_at is_own binding_of symbol_of symbols_by row_for item_at is_pinned symbols_in holder_of aim_in field_parts_by added_by field_of item_for fields_in
folded-header = refl

folded-sections : listing_of (mach_dialect W32) folded Sections ≡ codes "1 code 16 32 __TEXT,__text\n2 data 16 8 __DATA,__data\n"
unfolding listing_of header_text format_text line_text section_text field_text hex digits is_folded looks_in patches_in number_at residue_of extended mach_kind mach_tag mach_header_of load_command_at segment_command_at symtab_command_at section_header_at nlist_at relocation_info_at section_table tables_of kind_of contents_of section_of sections_in relocation_info_of reference_of scattered_of name_at is_own binding_of symbol_of symbols_by row_for item_at is_pinned symbols_in holder_of aim_in field_parts_by added_by field_of item_for fields_in
folded-sections = refl

folded-relocations : listing_of (mach_dialect W32) folded Relocations ≡ []
unfolding listing_of header_text format_text line_text section_text field_text hex digits is_folded looks_in patches_in number_at residue_of extended mach_kind mach_tag mach_header_of load_command_at segment_command_at symtab_command_at section_header_at nlist_at relocation_info_at section_table tables_of kind_of contents_of section_of sections_in relocation_info_of reference_of scattered_of name_at is_own binding_of symbol_of symbols_by row_for item_at is_pinned symbols_in holder_of aim_in field_parts_by added_by field_of item_for fields_in
folded-relocations = refl
