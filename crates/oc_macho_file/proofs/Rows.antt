-- Canonical files of objects, computed, and compared with files from outside.
use Rattle.std.proofs.Common.{◌≡◌, ℕ, List, [], ◌∷◌, None, refl, ℤ, false}
use Rattle.std.specs.{Prelude.{codes, pos, negsuc}, Fmt.{digits}}
use Rattle.oc_base.specs.{declared.format.Format.TheVariants.{Mac32, Mac64}, declared.format.Word.TheVariants.{W32, W64}, Numbers.{bytes_of_number}}
use Rattle.oc_base.specs.Strings as strings
use Rattle.oc_algebra.specs.{Fields.{field_for, to_field_of}, Residues.{reduced_number, residue_of}}
use Rattle.oc_linking.specs.{Fits.{bytes_of}, declared.terms.Base.{Base}, declared.terms.Less.{Less}, declared.terms.Width.{Width}}
use Rattle.oc_linking.specs.{declared.terms.Width.TheVariants.{Four, Eight}, declared.terms.Check.{Check}}
use Rattle.oc_linking.specs.{declared.terms.Check.TheVariants.{Wrap, Signed, Unsigned}, declared.terms.Hint.{Hint}}
use Rattle.oc_linking.specs.{declared.terms.Hint.TheVariants.{Plain, Call}, declared.terms.Kind.{Kind}, declared.terms.Mark.TheVariants.{NoType}}
use Rattle.oc_linking.specs.{declared.terms.Visibility.{Visibility}, declared.terms.Visibility.TheVariants.{Default, Internal, Hidden, Protected}}
use Rattle.oc_linking.specs.{declared.terms.Binding.{Binding}, declared.terms.Binding.TheVariants.{Local, Global, Undefined, Common, Weak}}
use Rattle.oc_linking.specs.declared.terms.Base.TheVariants as base
use Rattle.oc_linking.specs.declared.terms.Less.TheVariants as less
use Rattle.oc_linking.specs.declared.terms.Kind.TheVariants as kind
use Rattle.oc_linking.specs.declared.terms.Value.TheVariants as value
use Rattle.oc_linking.specs.declared.terms.Fallback.TheVariants as fallback
use Rattle.oc_chains.specs.declared.field.Field.{Field}
use Rattle.oc_neutral.specs.{declared.section.Section.{Section}, declared.symbol.Symbol.{Symbol}, declared.reloc.Reloc.{Reloc}, declared.reloc.Target.{Target}}
use Rattle.oc_neutral.specs.{Mach.SectionSymbols.{needs_section_symbol, needed_sections}, Objects.{Object}, Spelling.{written_row}}
use Rattle.oc_neutral.specs.declared.reloc.Target.TheVariants as target
use Rattle.oc_macho.specs.Structures.{mach_header_bytes, symtab_bytes, section_bytes, nlist_bytes, relocation_bytes}
use Rattle.oc_macho_file.specs.{Addresses.{address_of}, Lines.{lines_of}, Bodies.{field_number, raw_of, standing_entries, entries_of}}
use Rattle.oc_macho_file.specs.{Layout.{parts_of, line_names, string_table}, Symbols.{exponent_of, line_entry}}
use Rattle.oc_macho_file.specs.Canonical.{file_header, segment_numbers, section_header, symtab_command, dysymtab_numbers, part_bytes, mach_file}
use Rattle.oc_macho.proofs.WorkedFiles.{called, behind, compiled}
use Rattle.oc_macho_file.proofs.WorkedFiles.{distance, everything_64, everything_32}

-- a section
abbrev section : List ℕ → Kind → ℕ → ℕ → List ℕ → ℕ → Section
section name kind align size bytes tag = record { name = name; kind = kind; align = align; size = size; bytes = bytes; tag = tag; number = 0; group = None }

-- a symbol
abbrev symbol : List ℕ → Binding → Visibility → Symbol
symbol name binding vis = record { name = name; binding = binding; mark = NoType; vis = vis; size = 0; pinned = false; number = 0 }

-- a relocation at an offset
abbrev field : ℕ → Target → Base → Less → Width → Check → ℤ → Hint → Field Reloc
field at target base less width check addend hint = record { at = at; width = bytes_of width; item = record { target = target; form = record { base = base; less = less; width = width; check = check }; addend = addend; hint = hint } }

-- a call in x86-64
abbrev pub call_64_object : Object
call_64_object = record {
  format = Mac64;
  groups = [];
  sections =
      section (codes "__TEXT,__text") kind.Code 16 6 (232 ∷ 0 ∷ 0 ∷ 0 ∷ 0 ∷ 195 ∷ []) 2147484672 ∷ [];
  symbols =
      symbol (codes "main") (Global (value.Place 0 0)) Default
      ∷ symbol (codes "foo") Undefined Default ∷ [];
  relocs =
      (field 1 (target.Symbol 1) base.Address less.Place Four Signed (negsuc 3) Plain ∷ []) ∷ [];
}

pub call_64-file : mach_file W64 call_64_object ≡ called
unfolding mach_file part_bytes file_header segment_numbers section_header symtab_command dysymtab_numbers mach_header_bytes symtab_bytes section_bytes nlist_bytes relocation_bytes parts_of line_names string_table lines_of line_entry exponent_of address_of raw_of field_number standing_entries entries_of needed_sections needs_section_symbol strings.table_place strings.tops_of strings.text_of strings.table_text bytes_of_number written_row digits to_field_of field_for reduced_number residue_of
call_64-file = refl

-- a call in i386, in the second section
abbrev pub call_32_object : Object
call_32_object = record {
  format = Mac32;
  groups = [];
  sections =
      section (codes "__TEXT,__const") kind.ReadOnly 16 16 (0 ∷ 1 ∷ 2 ∷ 3 ∷ 4 ∷ 5 ∷ 6 ∷ 7 ∷ 8 ∷ 9 ∷ 10 ∷ 11 ∷ 12 ∷ 13 ∷ 14 ∷ 15 ∷ []) 0
      ∷ section (codes "__TEXT,__text") kind.Code 16 5 (232 ∷ 0 ∷ 0 ∷ 0 ∷ 0 ∷ []) 2147484672 ∷ [];
  symbols =
      symbol (codes "foo") Undefined Default ∷ [];
  relocs =
      []
      ∷ (field 1 (target.Symbol 0) base.Address less.Place Four Wrap (negsuc 3) Plain ∷ []) ∷ [];
}

pub call_32-file : mach_file W32 call_32_object ≡ behind
unfolding mach_file part_bytes file_header segment_numbers section_header symtab_command dysymtab_numbers mach_header_bytes symtab_bytes section_bytes nlist_bytes relocation_bytes parts_of line_names string_table lines_of line_entry exponent_of address_of raw_of field_number standing_entries entries_of needed_sections needs_section_symbol strings.table_place strings.tops_of strings.text_of strings.table_text bytes_of_number written_row digits to_field_of field_for reduced_number residue_of
call_32-file = refl

-- eight bytes of an address less the place of the field
abbrev pub distance_object : Object
distance_object = record {
  format = Mac64;
  groups = [];
  sections =
      section (codes "__DATA,__data") kind.Data 16 16 (0 ∷ 0 ∷ 0 ∷ 0 ∷ 0 ∷ 0 ∷ 0 ∷ 0 ∷ 0 ∷ 0 ∷ 0 ∷ 0 ∷ 0 ∷ 0 ∷ 0 ∷ 0 ∷ []) 0 ∷ [];
  symbols =
      symbol (codes "x") Undefined Default ∷ [];
  relocs =
      (field 8 (target.Symbol 0) base.Address less.Place Eight Wrap (pos 0) Plain ∷ []) ∷ [];
}

pub distance-file : mach_file W64 distance_object ≡ distance
unfolding mach_file part_bytes file_header segment_numbers section_header symtab_command dysymtab_numbers mach_header_bytes symtab_bytes section_bytes nlist_bytes relocation_bytes parts_of line_names string_table lines_of line_entry exponent_of address_of raw_of field_number standing_entries entries_of needed_sections needs_section_symbol strings.table_place strings.tops_of strings.text_of strings.table_text bytes_of_number written_row digits to_field_of field_for reduced_number residue_of
distance-file = refl

-- an object that a compiler made
abbrev pub compiled_object : Object
compiled_object = record {
  format = Mac64;
  groups = [];
  sections =
      section (codes "__TEXT,__text") kind.Code 1 20 (72 ∷ 141 ∷ 61 ∷ 0 ∷ 0 ∷ 0 ∷ 0 ∷ 232 ∷ 0 ∷ 0 ∷ 0 ∷ 0 ∷ 72 ∷ 139 ∷ 5 ∷ 0 ∷ 0 ∷ 0 ∷ 0 ∷ 195 ∷ []) 2147484672
      ∷ section (codes "__DATA,__data") kind.Data 1 0 ([]) 0
      ∷ section (codes "__DATA,__bss") kind.Zero 1 0 ([]) 1
      ∷ section (codes "__TEXT,__const") kind.ReadOnly 1 3 (104 ∷ 105 ∷ 0 ∷ []) 0 ∷ [];
  symbols =
      symbol (codes "main") (Global (value.Place 0 0)) Default
      ∷ symbol (codes "puts") Undefined Default
      ∷ symbol (codes "stderr") Undefined Default ∷ [];
  relocs =
      (field 3 (target.Section 3) base.Address less.Place Four Signed (negsuc 3) Plain
      ∷ field 8 (target.Symbol 1) base.Address less.Place Four Signed (negsuc 3) Call
      ∷ field 15 (target.Symbol 2) base.Slot less.Place Four Signed (negsuc 3) Plain ∷ [])
      ∷ []
      ∷ []
      ∷ [] ∷ [];
}

pub compiled-file : mach_file W64 compiled_object ≡ compiled
unfolding mach_file part_bytes file_header segment_numbers section_header symtab_command dysymtab_numbers mach_header_bytes symtab_bytes section_bytes nlist_bytes relocation_bytes parts_of line_names string_table lines_of line_entry exponent_of address_of raw_of field_number standing_entries entries_of needed_sections needs_section_symbol strings.table_place strings.tops_of strings.text_of strings.table_text bytes_of_number written_row digits to_field_of field_for reduced_number residue_of
compiled-file = refl

-- sections, symbols and relocations of all kinds in x86-64
abbrev pub everything_64_object : Object
everything_64_object = record {
  format = Mac64;
  groups = [];
  sections =
      section (codes "__TEXT,__text") kind.Code 16 21 (1 ∷ 0 ∷ 0 ∷ 0 ∷ 0 ∷ 36 ∷ 0 ∷ 0 ∷ 0 ∷ 0 ∷ 71 ∷ 78 ∷ 0 ∷ 0 ∷ 0 ∷ 0 ∷ 113 ∷ 120 ∷ 127 ∷ 134 ∷ 141 ∷ []) 2147484672
      ∷ section (codes "__DATA,__bss") kind.Zero 8 12 ([]) 1
      ∷ section (codes "__DATA,__data") kind.Data 4 40 (0 ∷ 0 ∷ 0 ∷ 0 ∷ 0 ∷ 0 ∷ 0 ∷ 0 ∷ 0 ∷ 0 ∷ 0 ∷ 0 ∷ 0 ∷ 0 ∷ 0 ∷ 0 ∷ 0 ∷ 0 ∷ 0 ∷ 0 ∷ 147 ∷ 154 ∷ 161 ∷ 168
      ∷ 0 ∷ 0 ∷ 0 ∷ 0 ∷ 0 ∷ 0 ∷ 0 ∷ 0 ∷ 0 ∷ 0 ∷ 0 ∷ 0 ∷ 8 ∷ 15 ∷ 22 ∷ 29 ∷ []) 0
      ∷ section (codes "__DATA,__empty") kind.Data 32 0 ([]) 0
      ∷ section (codes "__TEXT,__const") kind.ReadOnly 2 5 (97 ∷ 98 ∷ 99 ∷ 100 ∷ 0 ∷ []) 0 ∷ [];
  symbols =
      symbol (codes "alpha") (Global (value.Place 0 3)) Default
      ∷ symbol (codes "beta") Undefined Default
      ∷ symbol (codes "here") (Local (value.Place 2 4)) Default
      ∷ symbol (codes "_beta") (Weak (fallback.Name 5)) Internal
      ∷ symbol (codes "l_section_3") (Local (value.Place 2 0)) Hidden
      ∷ symbol (codes "gamma") (Global (value.Place 2 8)) Hidden
      ∷ symbol (codes "number") (Global (value.Absolute 4096)) Protected
      ∷ symbol (codes "common") (Common 24 16) Default
      ∷ symbol (codes "gone") (Weak fallback.Zero) Hidden
      ∷ symbol (codes "lenient") (Weak (fallback.Place 4 2)) Hidden
      ∷ symbol (codes "late") Undefined Hidden
      ∷ symbol (codes "ma") (Local (value.Absolute 7)) Default ∷ [];
  relocs =
      (field 1 (target.Symbol 1) base.Address less.Place Four Signed (negsuc 3) Call
      ∷ field 6 (target.Section 4) base.Address less.Place Four Signed (negsuc 1) Plain
      ∷ field 12 (target.Symbol 10) base.Slot less.Place Four Signed (negsuc 3) Plain ∷ [])
      ∷ []
      ∷ (field 0 (target.Symbol 7) base.Address less.Zero Eight Wrap (pos 5) Plain
      ∷ field 8 (target.Section 1) base.Address (less.Section 0) Eight Wrap (pos 3) Plain
      ∷ field 16 (target.Symbol 0) base.Address (less.Section 4) Four Signed (negsuc 8) Plain
      ∷ field 24 (target.Symbol 8) base.Address less.Place Eight Wrap (pos 1) Plain
      ∷ field 32 (target.Section 2) base.Address less.Zero Four Unsigned (pos 12) Plain ∷ [])
      ∷ []
      ∷ [] ∷ [];
}

pub everything_64-file : mach_file W64 everything_64_object ≡ everything_64
unfolding mach_file part_bytes file_header segment_numbers section_header symtab_command dysymtab_numbers mach_header_bytes symtab_bytes section_bytes nlist_bytes relocation_bytes parts_of line_names string_table lines_of line_entry exponent_of address_of raw_of field_number standing_entries entries_of needed_sections needs_section_symbol strings.table_place strings.tops_of strings.text_of strings.table_text bytes_of_number written_row digits to_field_of field_for reduced_number residue_of
everything_64-file = refl

-- the same in i386
abbrev pub everything_32_object : Object
everything_32_object = record {
  format = Mac32;
  groups = [];
  sections =
      section (codes "__TEXT,__text") kind.Code 16 21 (1 ∷ 0 ∷ 0 ∷ 0 ∷ 0 ∷ 36 ∷ 0 ∷ 0 ∷ 0 ∷ 0 ∷ 71 ∷ 78 ∷ 0 ∷ 0 ∷ 0 ∷ 0 ∷ 113 ∷ 120 ∷ 127 ∷ 134 ∷ 141 ∷ []) 2147484672
      ∷ section (codes "__DATA,__bss") kind.Zero 8 12 ([]) 1
      ∷ section (codes "__DATA,__data") kind.Data 4 40 (0 ∷ 0 ∷ 0 ∷ 0 ∷ 35 ∷ 42 ∷ 49 ∷ 56 ∷ 0 ∷ 0 ∷ 0 ∷ 0 ∷ 91 ∷ 98 ∷ 105 ∷ 112 ∷ 0 ∷ 0 ∷ 0 ∷ 0 ∷ 147 ∷ 154 ∷ 161 ∷ 168
      ∷ 0 ∷ 0 ∷ 0 ∷ 0 ∷ 203 ∷ 210 ∷ 217 ∷ 224 ∷ 0 ∷ 0 ∷ 0 ∷ 0 ∷ 8 ∷ 15 ∷ 22 ∷ 29 ∷ []) 0
      ∷ section (codes "__DATA,__empty") kind.Data 32 0 ([]) 0
      ∷ section (codes "__TEXT,__const") kind.ReadOnly 2 5 (97 ∷ 98 ∷ 99 ∷ 100 ∷ 0 ∷ []) 0 ∷ [];
  symbols =
      symbol (codes "alpha") (Global (value.Place 0 3)) Default
      ∷ symbol (codes "beta") Undefined Default
      ∷ symbol (codes "here") (Local (value.Place 2 4)) Default
      ∷ symbol (codes "_beta") (Weak (fallback.Name 5)) Internal
      ∷ symbol (codes "l_section_3") (Local (value.Place 2 0)) Hidden
      ∷ symbol (codes "gamma") (Global (value.Place 2 8)) Hidden
      ∷ symbol (codes "number") (Global (value.Absolute 4096)) Protected
      ∷ symbol (codes "common") (Common 24 16) Default
      ∷ symbol (codes "gone") (Weak fallback.Zero) Hidden
      ∷ symbol (codes "lenient") (Weak (fallback.Place 4 2)) Hidden
      ∷ symbol (codes "late") Undefined Hidden
      ∷ symbol (codes "ma") (Local (value.Absolute 7)) Default ∷ [];
  relocs =
      (field 1 (target.Symbol 1) base.Address less.Place Four Wrap (negsuc 3) Plain
      ∷ field 6 (target.Section 4) base.Address less.Place Four Wrap (negsuc 1) Plain
      ∷ field 12 (target.Symbol 10) base.Address less.Zero Four Wrap (negsuc 3) Plain ∷ [])
      ∷ []
      ∷ (field 0 (target.Symbol 7) base.Address less.Zero Four Wrap (pos 5) Plain
      ∷ field 8 (target.Section 1) base.Address (less.Section 0) Four Wrap (pos 3) Plain
      ∷ field 16 (target.Symbol 0) base.Address (less.Section 4) Four Wrap (negsuc 8) Plain
      ∷ field 24 (target.Symbol 8) base.Address less.Place Four Wrap (pos 1) Plain
      ∷ field 32 (target.Section 2) base.Address less.Zero Four Wrap (pos 12) Plain ∷ [])
      ∷ []
      ∷ [] ∷ [];
}

pub everything_32-file : mach_file W32 everything_32_object ≡ everything_32
unfolding mach_file part_bytes file_header segment_numbers section_header symtab_command dysymtab_numbers mach_header_bytes symtab_bytes section_bytes nlist_bytes relocation_bytes parts_of line_names string_table lines_of line_entry exponent_of address_of raw_of field_number standing_entries entries_of needed_sections needs_section_symbol strings.table_place strings.tops_of strings.text_of strings.table_text bytes_of_number written_row digits to_field_of field_for reduced_number residue_of
everything_32-file = refl
