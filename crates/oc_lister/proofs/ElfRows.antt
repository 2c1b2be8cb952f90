-- Listings of worked Elf files, as an independent program prints them.
use Rattle.std.proofs.Common.{◌≡◌, refl}
use Rattle.std.specs.{Prelude.{codes, []}, Fmt.{digits}}
use Rattle.oc_elf.specs.{Fields.{field_at, field_by, rel_at, target_of}, CarriedSections.{section_of, section_with}}
use Rattle.oc_elf.specs.{CarriedSymbols.{binding_of, is_passed, symbol_by, symbol_of, symbol_with}, Ehdr.{ehdr_in}, Elf.{fault_in}, Entries.{name_at}}
use Rattle.oc_elf.specs.{Frames.{framed, header_of, headers_of}, Groups.{key_of}, Names.{name_in, table_bytes}, Rel.{rel_in}}
use Rattle.oc_elf.specs.{RelocRules.{is_nameable, is_target_for}, SectionRules.{is_bad_member, is_good_group, is_good_symtab, is_good_table, is_left_out}}
use Rattle.oc_elf.specs.{Shdr.{shdr_in}, Sym.{sym_in}, SymbolRules.{is_odd_symbol}, Tables.{entry_of, reloc_of}}
use Rattle.oc_elf.specs.{declared.class.ElfClass.TheVariants.{Class32, Class64, Big32}, Elf.{elf_dialect}}
use Rattle.oc_base.specs.Numbers.{number_at}
use Rattle.oc_neutral.specs.{Elf.Kinds.{elf_kind}, Dialects.{is_folded, looks_in, patches_in}}
use Rattle.oc_dump.specs.Lines.{hex}
use Rattle.oc_elf_read.proofs.Objects.{call_32, grouped, weak_64, common_12, told}
use Rattle.oc_listings.specs.declared.listing.Listing.TheVariants.{Header, Sections, Relocations}
use Rattle.oc_listings.specs.{Texts.{field_text, format_text, header_text, line_text, section_text}, Listings.{listing_of}}
use Rattle.oc_algebra.specs.{Residues.{residue_of}, Fields.{extended}}

call_32-header : listing_of (elf_dialect Class32) call_32 Header ≡ codes "format elf32\nsections 1\nsymbols 2\nrelocations 1\nbytes 432\n"
unfolding listing_of header_text format_text line_text section_text field_text hex digits is_folded looks_in patches_in number_at elf_kind ehdr_in shdr_in table_bytes name_in header_of headers_of framed is_bad_member is_good_group is_left_out is_good_symtab is_good_table sym_in entry_of name_at key_of section_with section_of binding_of is_passed symbol_with symbol_by symbol_of is_odd_symbol rel_in reloc_of is_nameable is_target_for fault_in target_of field_by rel_at field_at residue_of extended
call_32-header = refl

call_32-sections : listing_of (elf_dialect Class32) call_32 Sections ≡ codes "1 code 16 6 .text\n"
unfolding listing_of header_text format_text line_text section_text field_text hex digits is_folded looks_in patches_in number_at elf_kind ehdr_in shdr_in table_bytes name_in header_of headers_of framed is_bad_member is_good_group is_left_out is_good_symtab is_good_table sym_in entry_of name_at key_of section_with section_of binding_of is_passed symbol_with symbol_by symbol_of is_odd_symbol rel_in reloc_of is_nameable is_target_for fault_in target_of field_by rel_at field_at residue_of extended
call_32-sections = refl

call_32-relocations : listing_of (elf_dialect Class32) call_32 Relocations ≡ codes "1 1 4 wrap fffffffb symbol foo\n"
unfolding listing_of header_text format_text line_text section_text field_text hex digits is_folded looks_in patches_in number_at elf_kind ehdr_in shdr_in table_bytes name_in header_of headers_of framed is_bad_member is_good_group is_left_out is_good_symtab is_good_table sym_in entry_of name_at key_of section_with section_of binding_of is_passed symbol_with symbol_by symbol_of is_odd_symbol rel_in reloc_of is_nameable is_target_for fault_in target_of field_by rel_at field_at residue_of extended
call_32-relocations = refl

grouped-header : listing_of (elf_dialect Class32) grouped Header ≡ codes "format elf32\nsections 2\nsymbols 2\nrelocations 1\nbytes 552\n"
unfolding listing_of header_text format_text line_text section_text field_text hex digits is_folded looks_in patches_in number_at elf_kind ehdr_in shdr_in table_bytes name_in header_of headers_of framed is_bad_member is_good_group is_left_out is_good_symtab is_good_table sym_in entry_of name_at key_of section_with section_of binding_of is_passed symbol_with symbol_by symbol_of is_odd_symbol rel_in reloc_of is_nameable is_target_for fault_in target_of field_by rel_at field_at residue_of extended
grouped-header = refl

grouped-sections : listing_of (elf_dialect Class32) grouped Sections ≡ codes "2 code 16 6 .text\n3 code 16 4 .text.t\n"
unfolding listing_of header_text format_text line_text section_text field_text hex digits is_folded looks_in patches_in number_at elf_kind ehdr_in shdr_in table_bytes name_in header_of headers_of framed is_bad_member is_good_group is_left_out is_good_symtab is_good_table sym_in entry_of name_at key_of section_with section_of binding_of is_passed symbol_with symbol_by symbol_of is_odd_symbol rel_in reloc_of is_nameable is_target_for fault_in target_of field_by rel_at field_at residue_of extended
grouped-sections = refl

grouped-relocations : listing_of (elf_dialect Class32) grouped Relocations ≡ codes "2 1 4 wrap fffffffb symbol t\n"
unfolding listing_of header_text format_text line_text section_text field_text hex digits is_folded looks_in patches_in number_at elf_kind ehdr_in shdr_in table_bytes name_in header_of headers_of framed is_bad_member is_good_group is_left_out is_good_symtab is_good_table sym_in entry_of name_at key_of section_with section_of binding_of is_passed symbol_with symbol_by symbol_of is_odd_symbol rel_in reloc_of is_nameable is_target_for fault_in target_of field_by rel_at field_at residue_of extended
grouped-relocations = refl

weak_64-header : listing_of (elf_dialect Class64) weak_64 Header ≡ codes "format elf64\nsections 1\nsymbols 1\nrelocations 0\nbytes 504\n"
unfolding listing_of header_text format_text line_text section_text field_text hex digits is_folded looks_in patches_in number_at elf_kind ehdr_in shdr_in table_bytes name_in header_of headers_of framed is_bad_member is_good_group is_left_out is_good_symtab is_good_table sym_in entry_of name_at key_of section_with section_of binding_of is_passed symbol_with symbol_by symbol_of is_odd_symbol rel_in reloc_of is_nameable is_target_for fault_in target_of field_by rel_at field_at residue_of extended
weak_64-header = refl

weak_64-sections : listing_of (elf_dialect Class64) weak_64 Sections ≡ codes "1 code 16 1 .text\n"
unfolding listing_of header_text format_text line_text section_text field_text hex digits is_folded looks_in patches_in number_at elf_kind ehdr_in shdr_in table_bytes name_in header_of headers_of framed is_bad_member is_good_group is_left_out is_good_symtab is_good_table sym_in entry_of name_at key_of section_with section_of binding_of is_passed symbol_with symbol_by symbol_of is_odd_symbol rel_in reloc_of is_nameable is_target_for fault_in target_of field_by rel_at field_at residue_of extended
weak_64-sections = refl

weak_64-relocations : listing_of (elf_dialect Class64) weak_64 Relocations ≡ []
unfolding listing_of header_text format_text line_text section_text field_text hex digits is_folded looks_in patches_in number_at elf_kind ehdr_in shdr_in table_bytes name_in header_of headers_of framed is_bad_member is_good_group is_left_out is_good_symtab is_good_table sym_in entry_of name_at key_of section_with section_of binding_of is_passed symbol_with symbol_by symbol_of is_odd_symbol rel_in reloc_of is_nameable is_target_for fault_in target_of field_by rel_at field_at residue_of extended
weak_64-relocations = refl

common_12-header : listing_of (elf_dialect Class32) common_12 Header ≡ codes "format elf32\nsections 0\nsymbols 1\nrelocations 0\nbytes 276\n"
unfolding listing_of header_text format_text line_text section_text field_text hex digits is_folded looks_in patches_in number_at elf_kind ehdr_in shdr_in table_bytes name_in header_of headers_of framed is_bad_member is_good_group is_left_out is_good_symtab is_good_table sym_in entry_of name_at key_of section_with section_of binding_of is_passed symbol_with symbol_by symbol_of is_odd_symbol rel_in reloc_of is_nameable is_target_for fault_in target_of field_by rel_at field_at residue_of extended
common_12-header = refl

common_12-sections : listing_of (elf_dialect Class32) common_12 Sections ≡ []
unfolding listing_of header_text format_text line_text section_text field_text hex digits is_folded looks_in patches_in number_at elf_kind ehdr_in shdr_in table_bytes name_in header_of headers_of framed is_bad_member is_good_group is_left_out is_good_symtab is_good_table sym_in entry_of name_at key_of section_with section_of binding_of is_passed symbol_with symbol_by symbol_of is_odd_symbol rel_in reloc_of is_nameable is_target_for fault_in target_of field_by rel_at field_at residue_of extended
common_12-sections = refl

common_12-relocations : listing_of (elf_dialect Class32) common_12 Relocations ≡ []
unfolding listing_of header_text format_text line_text section_text field_text hex digits is_folded looks_in patches_in number_at elf_kind ehdr_in shdr_in table_bytes name_in header_of headers_of framed is_bad_member is_good_group is_left_out is_good_symtab is_good_table sym_in entry_of name_at key_of section_with section_of binding_of is_passed symbol_with symbol_by symbol_of is_odd_symbol rel_in reloc_of is_nameable is_target_for fault_in target_of field_by rel_at field_at residue_of extended
common_12-relocations = refl

-- many sections: a big format has its own name
told-header : listing_of (elf_dialect Big32) told Header ≡ codes "format bigelf32\nsections 1\nsymbols 3\nrelocations 0\nbytes 452\n"
unfolding listing_of header_text format_text line_text section_text field_text hex digits is_folded looks_in patches_in number_at elf_kind ehdr_in shdr_in table_bytes name_in header_of headers_of framed is_bad_member is_good_group is_left_out is_good_symtab is_good_table sym_in entry_of name_at key_of section_with section_of binding_of is_passed symbol_with symbol_by symbol_of is_odd_symbol rel_in reloc_of is_nameable is_target_for fault_in target_of field_by rel_at field_at residue_of extended
told-header = refl

told-sections : listing_of (elf_dialect Big32) told Sections ≡ codes "1 code 4 4 .text\n"
unfolding listing_of header_text format_text line_text section_text field_text hex digits is_folded looks_in patches_in number_at elf_kind ehdr_in shdr_in table_bytes name_in header_of headers_of framed is_bad_member is_good_group is_left_out is_good_symtab is_good_table sym_in entry_of name_at key_of section_with section_of binding_of is_passed symbol_with symbol_by symbol_of is_odd_symbol rel_in reloc_of is_nameable is_target_for fault_in target_of field_by rel_at field_at residue_of extended
told-sections = refl
