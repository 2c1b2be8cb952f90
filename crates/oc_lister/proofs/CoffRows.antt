-- Listings of worked Coff files, as an independent program prints them.
use Rattle.std.proofs.Common.{◌≡◌, refl}
use Rattle.std.specs.{Prelude.{codes, []}, Fmt.{digits}}
use Rattle.oc_algebra.specs.{Residues.{residue_of}, Fields.{extended}}
use Rattle.oc_base.specs.Numbers.{number_at}
use Rattle.oc_neutral.specs.{Coff.Kinds.{coff_kind, coff_tag}, Dialects.{is_folded, looks_in, patches_in}}
use Rattle.oc_coff.specs.{FileHeader.{file_header_of}, SectionHeader.{section_header_at}, SymbolEntry.{symbol_at}, SectionAux.{section_aux_at}}
use Rattle.oc_coff.specs.{WeakAux.{weak_aux_at}, Relocation.{relocation_at}, Tables.{section_table, slot_at, strings_of, entries_of, section_tables, tables_of}}
use Rattle.oc_coff.specs.{Names.{string_at, section_name, symbol_name}, Entries.{entries_in}, Comdat.{definition_in, led_key, key_in}}
use Rattle.oc_coff.specs.{Sections.{kind_in, carried_of, carried_in, position_of}, Symbols.{value_of, binding_of, symbol_of, symbols_in}, Targets.{aim_in}}
use Rattle.oc_coff.specs.{Fields.{field_by, fields_in}, declared.form.CoffForm.TheVariants.{Usual32, Usual64, Big32}, Rules.{coff_dialect}}
use Rattle.oc_dump.specs.Lines.{hex}
use Rattle.oc_coff.proofs.{BigFiles.{big_call}, WorkedFiles.{call, manifold, msvc, nearer}}
use Rattle.oc_listings.specs.declared.listing.Listing.TheVariants.{Header, Sections, Relocations}
use Rattle.oc_listings.specs.{Texts.{field_text, format_text, header_text, line_text, section_text}, Listings.{listing_of}}

call-header : listing_of (coff_dialect Usual32) call Header ≡ codes "format coff32\nsections 1\nsymbols 2\nrelocations 1\nbytes 152\n"
unfolding listing_of header_text format_text line_text section_text field_text hex digits is_folded looks_in patches_in file_header_of section_header_at symbol_at section_aux_at weak_aux_at relocation_at section_table slot_at strings_of entries_of section_tables tables_of string_at section_name symbol_name entries_in definition_in led_key key_in kind_in carried_of carried_in number_at coff_kind coff_tag position_of value_of binding_of symbol_of symbols_in aim_in field_by fields_in residue_of extended
call-header = refl

call-sections : listing_of (coff_dialect Usual32) call Sections ≡ codes "1 code 16 6 .text\n"
unfolding listing_of header_text format_text line_text section_text field_text hex digits is_folded looks_in patches_in file_header_of section_header_at symbol_at section_aux_at weak_aux_at relocation_at section_table slot_at strings_of entries_of section_tables tables_of string_at section_name symbol_name entries_in definition_in led_key key_in kind_in carried_of carried_in number_at coff_kind coff_tag position_of value_of binding_of symbol_of symbols_in aim_in field_by fields_in residue_of extended
call-sections = refl

call-relocations : listing_of (coff_dialect Usual32) call Relocations ≡ codes "1 1 4 wrap fffffffb symbol foo\n"
unfolding listing_of header_text format_text line_text section_text field_text hex digits is_folded looks_in patches_in file_header_of section_header_at symbol_at section_aux_at weak_aux_at relocation_at section_table slot_at strings_of entries_of section_tables tables_of string_at section_name symbol_name entries_in definition_in led_key key_in kind_in carried_of carried_in number_at coff_kind coff_tag position_of value_of binding_of symbol_of symbols_in aim_in field_by fields_in residue_of extended
call-relocations = refl

manifold-header : listing_of (coff_dialect Usual64) manifold Header ≡ codes "format coff64\nsections 6\nsymbols 11\nrelocations 5\nbytes 932\n"
unfolding listing_of header_text format_text line_text section_text field_text hex digits is_folded looks_in patches_in file_header_of section_header_at symbol_at section_aux_at weak_aux_at relocation_at section_table slot_at strings_of entries_of section_tables tables_of string_at section_name symbol_name entries_in definition_in led_key key_in kind_in carried_of carried_in number_at coff_kind coff_tag position_of value_of binding_of symbol_of symbols_in aim_in field_by fields_in residue_of extended
manifold-header = refl

manifold-sections : listing_of (coff_dialect Usual64) manifold Sections ≡ codes "1 code 16 24 .text\n2 readonly 4 4 .rdata_of_it\n3 zero 8 8 .bss\n4 exception 4 4 .xdata$k\n5 code 1 2 .text$k\n6 data 8192 1 /x\n"
unfolding listing_of header_text format_text line_text section_text field_text hex digits is_folded looks_in patches_in file_header_of section_header_at symbol_at section_aux_at weak_aux_at relocation_at section_table slot_at strings_of entries_of section_tables tables_of string_at section_name symbol_name entries_in definition_in led_key key_in kind_in carried_of carried_in number_at coff_kind coff_tag position_of value_of binding_of symbol_of symbols_in aim_in field_by fields_in residue_of extended
manifold-sections = refl

manifold-relocations : listing_of (coff_dialect Usual64) manifold Relocations ≡ codes "1 0 8 wrap 0000000000000003 section 2\n1 8 4 signed fffffffffffffff8 symbol _key_of_it\n1 12 2 wrap 0000000000000000 symbol the_key_of_it\n1 14 4 unsigned 0000000000000002 section 4\n1 20 4 unsigned 0000000000000000 symbol c\n"
unfolding listing_of header_text format_text line_text section_text field_text hex digits is_folded looks_in patches_in file_header_of section_header_at symbol_at section_aux_at weak_aux_at relocation_at section_table slot_at strings_of entries_of section_tables tables_of string_at section_name symbol_name entries_in definition_in led_key key_in kind_in carried_of carried_in number_at coff_kind coff_tag position_of value_of binding_of symbol_of symbols_in aim_in field_by fields_in residue_of extended
manifold-relocations = refl

msvc-header : listing_of (coff_dialect Usual64) msvc Header ≡ codes "format coff64\nsections 5\nsymbols 4\nrelocations 3\nbytes 568\n"
unfolding listing_of header_text format_text line_text section_text field_text hex digits is_folded looks_in patches_in file_header_of section_header_at symbol_at section_aux_at weak_aux_at relocation_at section_table slot_at strings_of entries_of section_tables tables_of string_at section_name symbol_name entries_in definition_in led_key key_in kind_in carried_of carried_in number_at coff_kind coff_tag position_of value_of binding_of symbol_of symbols_in aim_in field_by fields_in residue_of extended
msvc-header = refl

msvc-sections : listing_of (coff_dialect Usual64) msvc Sections ≡ codes "1 note 1 11 .drectve\n2 debug 1 16 .debug$S\n3 code 16 5 .text$mn\n4 exception 4 8 .xdata\n5 exception 4 12 .pdata\n"
unfolding listing_of header_text format_text line_text section_text field_text hex digits is_folded looks_in patches_in file_header_of section_header_at symbol_at section_aux_at weak_aux_at relocation_at section_table slot_at strings_of entries_of section_tables tables_of string_at section_name symbol_name entries_in definition_in led_key key_in kind_in carried_of carried_in number_at coff_kind coff_tag position_of value_of binding_of symbol_of symbols_in aim_in field_by fields_in residue_of extended
msvc-sections = refl

msvc-relocations : listing_of (coff_dialect Usual64) msvc Relocations ≡ codes "5 0 4 unsigned 0000000000000000 section 3\n5 4 4 unsigned 0000000000000005 section 3\n5 8 4 unsigned 0000000000000000 section 4\n"
unfolding listing_of header_text format_text line_text section_text field_text hex digits is_folded looks_in patches_in file_header_of section_header_at symbol_at section_aux_at weak_aux_at relocation_at section_table slot_at strings_of entries_of section_tables tables_of string_at section_name symbol_name entries_in definition_in led_key key_in kind_in carried_of carried_in number_at coff_kind coff_tag position_of value_of binding_of symbol_of symbols_in aim_in field_by fields_in residue_of extended
msvc-relocations = refl

nearer-header : listing_of (coff_dialect Usual64) nearer Header ≡ codes "format coff64\nsections 1\nsymbols 1\nrelocations 1\nbytes 136\n"
unfolding listing_of header_text format_text line_text section_text field_text hex digits is_folded looks_in patches_in file_header_of section_header_at symbol_at section_aux_at weak_aux_at relocation_at section_table slot_at strings_of entries_of section_tables tables_of string_at section_name symbol_name entries_in definition_in led_key key_in kind_in carried_of carried_in number_at coff_kind coff_tag position_of value_of binding_of symbol_of symbols_in aim_in field_by fields_in residue_of extended
nearer-header = refl

nearer-sections : listing_of (coff_dialect Usual64) nearer Sections ≡ codes "1 code 16 8 .text\n"
unfolding listing_of header_text format_text line_text section_text field_text hex digits is_folded looks_in patches_in file_header_of section_header_at symbol_at section_aux_at weak_aux_at relocation_at section_table slot_at strings_of entries_of section_tables tables_of string_at section_name symbol_name entries_in definition_in led_key key_in kind_in carried_of carried_in number_at coff_kind coff_tag position_of value_of binding_of symbol_of symbols_in aim_in field_by fields_in residue_of extended
nearer-sections = refl

nearer-relocations : listing_of (coff_dialect Usual64) nearer Relocations ≡ codes "1 1 4 signed fffffffffffffff7 symbol foo\n"
unfolding listing_of header_text format_text line_text section_text field_text hex digits is_folded looks_in patches_in file_header_of section_header_at symbol_at section_aux_at weak_aux_at relocation_at section_table slot_at strings_of entries_of section_tables tables_of string_at section_name symbol_name entries_in definition_in led_key key_in kind_in carried_of carried_in number_at coff_kind coff_tag position_of value_of binding_of symbol_of symbols_in aim_in field_by fields_in residue_of extended
nearer-relocations = refl

-- many sections: a big format has its own name
big_call-header : listing_of (coff_dialect Big32) big_call Header ≡ codes "format bigcoff32\nsections 1\nsymbols 2\nrelocations 1\nbytes 196\n"
unfolding listing_of header_text format_text line_text section_text field_text hex digits is_folded looks_in patches_in file_header_of section_header_at symbol_at section_aux_at weak_aux_at relocation_at section_table slot_at strings_of entries_of section_tables tables_of string_at section_name symbol_name entries_in definition_in led_key key_in kind_in carried_of carried_in number_at coff_kind coff_tag position_of value_of binding_of symbol_of symbols_in aim_in field_by fields_in residue_of extended
big_call-header = refl

big_call-sections : listing_of (coff_dialect Big32) big_call Sections ≡ codes "1 code 16 6 .text\n"
unfolding listing_of header_text format_text line_text section_text field_text hex digits is_folded looks_in patches_in file_header_of section_header_at symbol_at section_aux_at weak_aux_at relocation_at section_table slot_at strings_of entries_of section_tables tables_of string_at section_name symbol_name entries_in definition_in led_key key_in kind_in carried_of carried_in number_at coff_kind coff_tag position_of value_of binding_of symbol_of symbols_in aim_in field_by fields_in residue_of extended
big_call-sections = refl

big_call-relocations : listing_of (coff_dialect Big32) big_call Relocations ≡ codes "1 1 4 wrap fffffffb symbol foo\n"
unfolding listing_of header_text format_text line_text section_text field_text hex digits is_folded looks_in patches_in file_header_of section_header_at symbol_at section_aux_at weak_aux_at relocation_at section_table slot_at strings_of entries_of section_tables tables_of string_at section_name symbol_name entries_in definition_in led_key key_in kind_in carried_of carried_in number_at coff_kind coff_tag position_of value_of binding_of symbol_of symbols_in aim_in field_by fields_in residue_of extended
big_call-relocations = refl
