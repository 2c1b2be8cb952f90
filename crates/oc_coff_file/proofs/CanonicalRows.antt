-- Canonical files of objects, computed, and compared with worked files of our own and of others; one file with everything was put together by hand.
use Rattle.std.proofs.Common.{◌≡◌, ℕ, List, [], ◌∷◌, Some, None, Option, refl, ℤ, false}
use Rattle.std.specs.{Prelude.{codes, replicate, pos, negsuc}, Fmt.{digits}}
use Rattle.oc_base.specs.Strings as strings
use Rattle.oc_base.specs.{Numbers.{bytes_of_number}, declared.format.Format.TheVariants.{Coff32, Coff64}}
use Rattle.oc_algebra.specs.{Fields.{field_for, to_field_of}, Residues.{reduced_number, residue_of}}
use Rattle.oc_neutral.specs.{HomeNames.{output_names, wanted_names}, Spelling.{written_row}, declared.section.Section.{Section}}
use Rattle.oc_neutral.specs.{declared.symbol.Symbol.{Symbol}, declared.reloc.Reloc.{Reloc}, declared.reloc.Target.{Target}, Objects.{Object}}
use Rattle.oc_neutral.specs.Coff.Strings.{coff_strings, string_offset}
use Rattle.oc_coff.specs.{declared.form.CoffForm.TheVariants.{Usual32, Usual64}, FileHeader.{file_header_bytes}, SectionHeader.{section_header_bytes}}
use Rattle.oc_coff.specs.{SymbolEntry.{symbol_bytes}, SectionAux.{section_aux_bytes}, WeakAux.{weak_aux_bytes}, Relocation.{relocation_bytes}}
use Rattle.oc_coff.specs.Flags.{align_field}
use Rattle.oc_linking.specs.{declared.terms.Base.{Base}, declared.terms.Less.{Less}, declared.terms.Width.{Width}}
use Rattle.oc_linking.specs.{declared.terms.Width.TheVariants.{Two, Four, Eight}, declared.terms.Check.{Check}}
use Rattle.oc_linking.specs.{declared.terms.Check.TheVariants.{Wrap, Signed, Unsigned}, declared.terms.Hint.TheVariants.{Plain}, declared.terms.Kind.{Kind}}
use Rattle.oc_linking.specs.{declared.terms.Mark.{Mark}, declared.terms.Mark.TheVariants.{NoType, Function}, declared.terms.Visibility.TheVariants.{Default}}
use Rattle.oc_linking.specs.{declared.terms.Binding.{Binding}, declared.terms.Binding.TheVariants.{Local, Global, Undefined, Common, Weak}}
use Rattle.oc_linking.specs.declared.terms.Base.TheVariants as base
use Rattle.oc_linking.specs.declared.terms.Less.TheVariants as less
use Rattle.oc_linking.specs.declared.terms.Kind.TheVariants as kind
use Rattle.oc_linking.specs.declared.terms.Value.TheVariants as value
use Rattle.oc_linking.specs.declared.terms.Fallback.TheVariants as fallback
use Rattle.oc_chains.specs.declared.field.Field.{Field}
use Rattle.oc_neutral.specs.declared.reloc.Target.TheVariants as target
use Rattle.oc_coff_file.specs.{Lines.{lines_of}, Layout.{parts_of, text_of}, Bodies.{field_number, raw_of, relocs_of, type_of}}
use Rattle.oc_coff_file.specs.Canonical.{coff_file, part_bytes, file_header, line_rows, header_at, leader_number, section_field, symbol_field}
use Rattle.oc_coff.proofs.WorkedFiles.{call, grouped, weakened, tails, manifold}

-- a section
abbrev pub section : List ℕ → Kind → ℕ → ℕ → List ℕ → ℕ → Option ℕ → Section
section name kind align size bytes tag group = record { name = name; kind = kind; align = align; size = size; bytes = bytes; tag = tag; number = 0; group = group }

-- a symbol
abbrev pub symbol : List ℕ → Binding → Mark → Symbol
symbol name binding mark = record { name = name; binding = binding; mark = mark; vis = Default; size = 0; pinned = false; number = 0 }

-- a relocation at an offset
abbrev pub field : ℕ → ℕ → Target → Base → Less → Width → Check → ℤ → Field Reloc
field at bytes target base less width check addend = record { at = at; width = bytes; item = record { target = target; form = record { base = base; less = less; width = width; check = check }; addend = addend; hint = Plain } }

-- the call, for i386
abbrev pub call_32 : Object
call_32 = record {
  format = Coff32;
  groups = [];
  sections =
      section (codes ".text") kind.Code 16 6 (232 ∷ 0 ∷ 0 ∷ 0 ∷ 0 ∷ 195 ∷ []) 0x60000020 None ∷ [];
  symbols =
      symbol (codes "main") (Global (value.Place 0 0)) Function
      ∷ symbol (codes "foo") Undefined NoType ∷ [];
  relocs =
      (field 1 4 (target.Symbol 1) base.Address less.Place Four Wrap (negsuc 3) ∷ []) ∷ [];
}

call_32-file : coff_file Usual32 call_32 ≡ call
unfolding coff_file part_bytes file_header line_rows header_at align_field leader_number section_field symbol_field relocs_of type_of raw_of field_number lines_of parts_of text_of file_header_bytes section_header_bytes symbol_bytes section_aux_bytes weak_aux_bytes relocation_bytes string_offset coff_strings strings.table_place strings.tops_of strings.text_of strings.table_text bytes_of_number written_row to_field_of field_for output_names wanted_names reduced_number residue_of
call_32-file = refl

-- and for x64
abbrev pub call_64 : Object
call_64 = record {
  format = Coff64;
  groups = [];
  sections =
      section (codes ".text") kind.Code 16 6 (232 ∷ 0 ∷ 0 ∷ 0 ∷ 0 ∷ 195 ∷ []) 0x60000020 None ∷ [];
  symbols =
      symbol (codes "main") (Global (value.Place 0 0)) Function
      ∷ symbol (codes "foo") Undefined NoType ∷ [];
  relocs =
      (field 1 4 (target.Symbol 1) base.Address less.Place Four Signed (negsuc 3) ∷ []) ∷ [];
}

call_64-file : coff_file Usual64 call_64 ≡ (
    100 ∷ 134 ∷ 1 ∷ 0 ∷ 0 ∷ 0 ∷ 0 ∷ 0 ∷ 76 ∷ 0 ∷ 0 ∷ 0 ∷ 4 ∷ 0 ∷ 0 ∷ 0 ∷ 0 ∷ 0 ∷ 0 ∷ 0 ∷ 46 ∷ 116 ∷ 101 ∷ 120
    ∷ 116 ∷ 0 ∷ 0 ∷ 0 ∷ 0 ∷ 0 ∷ 0 ∷ 0 ∷ 0 ∷ 0 ∷ 0 ∷ 0 ∷ 6 ∷ 0 ∷ 0 ∷ 0 ∷ 60 ∷ 0 ∷ 0 ∷ 0 ∷ 66 ∷ 0 ∷ 0 ∷ 0
    ∷ 0 ∷ 0 ∷ 0 ∷ 0 ∷ 1 ∷ 0 ∷ 0 ∷ 0 ∷ 32 ∷ 0 ∷ 80 ∷ 96 ∷ 232 ∷ 0 ∷ 0 ∷ 0 ∷ 0 ∷ 195 ∷ 1 ∷ 0 ∷ 0 ∷ 0 ∷ 3 ∷ 0
    ∷ 0 ∷ 0 ∷ 4 ∷ 0 ∷ 46 ∷ 116 ∷ 101 ∷ 120 ∷ 116 ∷ 0 ∷ 0 ∷ 0 ∷ 0 ∷ 0 ∷ 0 ∷ 0 ∷ 1 ∷ 0 ∷ 0 ∷ 0 ∷ 3 ∷ 1 ∷ 6 ∷ 0
    ∷ 0 ∷ 0 ∷ 1 ∷ 0 ∷ 0 ∷ 0 ∷ 0 ∷ 0 ∷ 0 ∷ 0 ∷ 0 ∷ 0 ∷ 0 ∷ 0 ∷ 0 ∷ 0 ∷ 109 ∷ 97 ∷ 105 ∷ 110 ∷ 0 ∷ 0 ∷ 0 ∷ 0
    ∷ 0 ∷ 0 ∷ 0 ∷ 0 ∷ 1 ∷ 0 ∷ 32 ∷ 0 ∷ 2 ∷ 0 ∷ 102 ∷ 111 ∷ 111 ∷ 0 ∷ 0 ∷ 0 ∷ 0 ∷ 0 ∷ 0 ∷ 0 ∷ 0 ∷ 0 ∷ 0 ∷ 0
    ∷ 0 ∷ 0 ∷ 2 ∷ 0 ∷ 4 ∷ 0 ∷ 0 ∷ 0 ∷ []
    )
unfolding coff_file part_bytes file_header line_rows header_at align_field leader_number section_field symbol_field relocs_of type_of raw_of field_number lines_of parts_of text_of file_header_bytes section_header_bytes symbol_bytes section_aux_bytes weak_aux_bytes relocation_bytes string_offset coff_strings strings.table_place strings.tops_of strings.text_of strings.table_text bytes_of_number written_row to_field_of field_for output_names wanted_names reduced_number residue_of
call_64-file = refl

-- a group, whose key symbol stands in the second section
abbrev pub group : Object
group = record {
  format = Coff32;
  groups = record { key = codes "t" } ∷ [];
  sections =
      section (codes ".text") kind.Code 16 6 (232 ∷ 0 ∷ 0 ∷ 0 ∷ 0 ∷ 195 ∷ []) 0x60000020 None
      ∷ section (codes ".text") kind.Code 16 4 (139 ∷ 4 ∷ 36 ∷ 195 ∷ []) 0x60000020 (Some 0) ∷ [];
  symbols =
      symbol (codes "main") (Global (value.Place 0 0)) Function
      ∷ symbol (codes "t") (Global (value.Place 1 0)) Function ∷ [];
  relocs =
      (field 1 4 (target.Symbol 1) base.Address less.Place Four Wrap (negsuc 3) ∷ [])
      ∷ [] ∷ [];
}

group-file : coff_file Usual32 group ≡ grouped
unfolding coff_file part_bytes file_header line_rows header_at align_field leader_number section_field symbol_field relocs_of type_of raw_of field_number lines_of parts_of text_of file_header_bytes section_header_bytes symbol_bytes section_aux_bytes weak_aux_bytes relocation_bytes string_offset coff_strings strings.table_place strings.tops_of strings.text_of strings.table_text bytes_of_number written_row to_field_of field_for output_names wanted_names reduced_number residue_of
group-file = refl

-- a weak definition
abbrev pub weak_definition : Object
weak_definition = record {
  format = Coff64;
  groups = [];
  sections =
      section (codes ".text") kind.Code 16 1 (195 ∷ []) 0x60000020 None ∷ [];
  symbols =
      symbol (codes "f") (Weak (fallback.Place 0 0)) Function ∷ [];
  relocs =
      [] ∷ [];
}

weak_definition-file : coff_file Usual64 weak_definition ≡ weakened
unfolding coff_file part_bytes file_header line_rows header_at align_field leader_number section_field symbol_field relocs_of type_of raw_of field_number lines_of parts_of text_of file_header_bytes section_header_bytes symbol_bytes section_aux_bytes weak_aux_bytes relocation_bytes string_offset coff_strings strings.table_place strings.tops_of strings.text_of strings.table_text bytes_of_number written_row to_field_of field_for output_names wanted_names reduced_number residue_of
weak_definition-file = refl

-- an addend of -5, of which four bytes are taken in the field
abbrev minus_five : Object
minus_five = record {
  format = Coff64;
  groups = [];
  sections =
      section (codes ".text") kind.Code 16 8 (replicate 8 0) 0x60000020 None ∷ [];
  symbols =
      symbol (codes "foo") Undefined NoType ∷ [];
  relocs =
      (field 1 4 (target.Symbol 0) base.Address less.Place Four Signed (negsuc 4) ∷ []) ∷ [];
}

minus_five-file : coff_file Usual64 minus_five ≡ (
    100 ∷ 134 ∷ 1 ∷ 0 ∷ 0 ∷ 0 ∷ 0 ∷ 0 ∷ 78 ∷ 0 ∷ 0 ∷ 0 ∷ 3 ∷ 0 ∷ 0 ∷ 0 ∷ 0 ∷ 0 ∷ 0 ∷ 0 ∷ 46 ∷ 116 ∷ 101 ∷ 120
    ∷ 116 ∷ 0 ∷ 0 ∷ 0 ∷ 0 ∷ 0 ∷ 0 ∷ 0 ∷ 0 ∷ 0 ∷ 0 ∷ 0 ∷ 8 ∷ 0 ∷ 0 ∷ 0 ∷ 60 ∷ 0 ∷ 0 ∷ 0 ∷ 68 ∷ 0 ∷ 0 ∷ 0
    ∷ 0 ∷ 0 ∷ 0 ∷ 0 ∷ 1 ∷ 0 ∷ 0 ∷ 0 ∷ 32 ∷ 0 ∷ 80 ∷ 96 ∷ 0 ∷ 255 ∷ 255 ∷ 255 ∷ 255 ∷ 0 ∷ 0 ∷ 0 ∷ 1 ∷ 0 ∷ 0 ∷ 0
    ∷ 2 ∷ 0 ∷ 0 ∷ 0 ∷ 4 ∷ 0 ∷ 46 ∷ 116 ∷ 101 ∷ 120 ∷ 116 ∷ 0 ∷ 0 ∷ 0 ∷ 0 ∷ 0 ∷ 0 ∷ 0 ∷ 1 ∷ 0 ∷ 0 ∷ 0 ∷ 3 ∷ 1
    ∷ 8 ∷ 0 ∷ 0 ∷ 0 ∷ 1 ∷ 0 ∷ 0 ∷ 0 ∷ 0 ∷ 0 ∷ 0 ∷ 0 ∷ 0 ∷ 0 ∷ 0 ∷ 0 ∷ 0 ∷ 0 ∷ 102 ∷ 111 ∷ 111 ∷ 0 ∷ 0 ∷ 0
    ∷ 0 ∷ 0 ∷ 0 ∷ 0 ∷ 0 ∷ 0 ∷ 0 ∷ 0 ∷ 0 ∷ 0 ∷ 2 ∷ 0 ∷ 4 ∷ 0 ∷ 0 ∷ 0 ∷ []
    )
unfolding coff_file part_bytes file_header line_rows header_at align_field leader_number section_field symbol_field relocs_of type_of raw_of field_number lines_of parts_of text_of file_header_bytes section_header_bytes symbol_bytes section_aux_bytes weak_aux_bytes relocation_bytes string_offset coff_strings strings.table_place strings.tops_of strings.text_of strings.table_text bytes_of_number written_row to_field_of field_for output_names wanted_names reduced_number residue_of
minus_five-file = refl

-- the greatest addend that fits the field with its four bytes
abbrev greatest : Object
greatest = record {
  format = Coff64;
  groups = [];
  sections =
      section (codes ".text") kind.Code 16 8 (replicate 8 0) 0x60000020 None ∷ [];
  symbols =
      symbol (codes "foo") Undefined NoType ∷ [];
  relocs =
      (field 1 4 (target.Symbol 0) base.Address less.Place Four Signed (pos 2147483643) ∷ []) ∷ [];
}

greatest-file : coff_file Usual64 greatest ≡ (
    100 ∷ 134 ∷ 1 ∷ 0 ∷ 0 ∷ 0 ∷ 0 ∷ 0 ∷ 78 ∷ 0 ∷ 0 ∷ 0 ∷ 3 ∷ 0 ∷ 0 ∷ 0 ∷ 0 ∷ 0 ∷ 0 ∷ 0 ∷ 46 ∷ 116 ∷ 101 ∷ 120
    ∷ 116 ∷ 0 ∷ 0 ∷ 0 ∷ 0 ∷ 0 ∷ 0 ∷ 0 ∷ 0 ∷ 0 ∷ 0 ∷ 0 ∷ 8 ∷ 0 ∷ 0 ∷ 0 ∷ 60 ∷ 0 ∷ 0 ∷ 0 ∷ 68 ∷ 0 ∷ 0 ∷ 0
    ∷ 0 ∷ 0 ∷ 0 ∷ 0 ∷ 1 ∷ 0 ∷ 0 ∷ 0 ∷ 32 ∷ 0 ∷ 80 ∷ 96 ∷ 0 ∷ 255 ∷ 255 ∷ 255 ∷ 127 ∷ 0 ∷ 0 ∷ 0 ∷ 1 ∷ 0 ∷ 0 ∷ 0
    ∷ 2 ∷ 0 ∷ 0 ∷ 0 ∷ 4 ∷ 0 ∷ 46 ∷ 116 ∷ 101 ∷ 120 ∷ 116 ∷ 0 ∷ 0 ∷ 0 ∷ 0 ∷ 0 ∷ 0 ∷ 0 ∷ 1 ∷ 0 ∷ 0 ∷ 0 ∷ 3 ∷ 1
    ∷ 8 ∷ 0 ∷ 0 ∷ 0 ∷ 1 ∷ 0 ∷ 0 ∷ 0 ∷ 0 ∷ 0 ∷ 0 ∷ 0 ∷ 0 ∷ 0 ∷ 0 ∷ 0 ∷ 0 ∷ 0 ∷ 102 ∷ 111 ∷ 111 ∷ 0 ∷ 0 ∷ 0
    ∷ 0 ∷ 0 ∷ 0 ∷ 0 ∷ 0 ∷ 0 ∷ 0 ∷ 0 ∷ 0 ∷ 0 ∷ 2 ∷ 0 ∷ 4 ∷ 0 ∷ 0 ∷ 0 ∷ []
    )
unfolding coff_file part_bytes file_header line_rows header_at align_field leader_number section_field symbol_field relocs_of type_of raw_of field_number lines_of parts_of text_of file_header_bytes section_header_bytes symbol_bytes section_aux_bytes weak_aux_bytes relocation_bytes string_offset coff_strings strings.table_place strings.tops_of strings.text_of strings.table_text bytes_of_number written_row to_field_of field_for output_names wanted_names reduced_number residue_of
greatest-file = refl

-- an addend that passes 32 bits with them
abbrev wrapped : Object
wrapped = record {
  format = Coff32;
  groups = [];
  sections =
      section (codes ".text") kind.Code 16 8 (replicate 8 0) 0x60000020 None ∷ [];
  symbols =
      symbol (codes "foo") Undefined NoType ∷ [];
  relocs =
      (field 1 4 (target.Symbol 0) base.Address less.Place Four Wrap (pos 2147483647) ∷ []) ∷ [];
}

wrapped-file : coff_file Usual32 wrapped ≡ (
    76 ∷ 1 ∷ 1 ∷ 0 ∷ 0 ∷ 0 ∷ 0 ∷ 0 ∷ 78 ∷ 0 ∷ 0 ∷ 0 ∷ 3 ∷ 0 ∷ 0 ∷ 0 ∷ 0 ∷ 0 ∷ 0 ∷ 0 ∷ 46 ∷ 116 ∷ 101 ∷ 120
    ∷ 116 ∷ 0 ∷ 0 ∷ 0 ∷ 0 ∷ 0 ∷ 0 ∷ 0 ∷ 0 ∷ 0 ∷ 0 ∷ 0 ∷ 8 ∷ 0 ∷ 0 ∷ 0 ∷ 60 ∷ 0 ∷ 0 ∷ 0 ∷ 68 ∷ 0 ∷ 0 ∷ 0
    ∷ 0 ∷ 0 ∷ 0 ∷ 0 ∷ 1 ∷ 0 ∷ 0 ∷ 0 ∷ 32 ∷ 0 ∷ 80 ∷ 96 ∷ 0 ∷ 3 ∷ 0 ∷ 0 ∷ 128 ∷ 0 ∷ 0 ∷ 0 ∷ 1 ∷ 0 ∷ 0 ∷ 0
    ∷ 2 ∷ 0 ∷ 0 ∷ 0 ∷ 20 ∷ 0 ∷ 46 ∷ 116 ∷ 101 ∷ 120 ∷ 116 ∷ 0 ∷ 0 ∷ 0 ∷ 0 ∷ 0 ∷ 0 ∷ 0 ∷ 1 ∷ 0 ∷ 0 ∷ 0 ∷ 3 ∷ 1
    ∷ 8 ∷ 0 ∷ 0 ∷ 0 ∷ 1 ∷ 0 ∷ 0 ∷ 0 ∷ 0 ∷ 0 ∷ 0 ∷ 0 ∷ 0 ∷ 0 ∷ 0 ∷ 0 ∷ 0 ∷ 0 ∷ 102 ∷ 111 ∷ 111 ∷ 0 ∷ 0 ∷ 0
    ∷ 0 ∷ 0 ∷ 0 ∷ 0 ∷ 0 ∷ 0 ∷ 0 ∷ 0 ∷ 0 ∷ 0 ∷ 2 ∷ 0 ∷ 4 ∷ 0 ∷ 0 ∷ 0 ∷ []
    )
unfolding coff_file part_bytes file_header line_rows header_at align_field leader_number section_field symbol_field relocs_of type_of raw_of field_number lines_of parts_of text_of file_header_bytes section_header_bytes symbol_bytes section_aux_bytes weak_aux_bytes relocation_bytes string_offset coff_strings strings.table_place strings.tops_of strings.text_of strings.table_text bytes_of_number written_row to_field_of field_for output_names wanted_names reduced_number residue_of
wrapped-file = refl

-- a common, whose size alone is stored
abbrev common_of_12 : Object
common_of_12 = record {
  format = Coff32;
  groups = [];
  sections = [];
  symbols =
      symbol (codes "c") (Common 12 16) NoType ∷ [];
  relocs = [];
}

common_of_12-file : coff_file Usual32 common_of_12 ≡ (
    76 ∷ 1 ∷ 0 ∷ 0 ∷ 0 ∷ 0 ∷ 0 ∷ 0 ∷ 20 ∷ 0 ∷ 0 ∷ 0 ∷ 1 ∷ 0 ∷ 0 ∷ 0 ∷ 0 ∷ 0 ∷ 0 ∷ 0 ∷ 99 ∷ 0 ∷ 0 ∷ 0
    ∷ 0 ∷ 0 ∷ 0 ∷ 0 ∷ 12 ∷ 0 ∷ 0 ∷ 0 ∷ 0 ∷ 0 ∷ 0 ∷ 0 ∷ 2 ∷ 0 ∷ 4 ∷ 0 ∷ 0 ∷ 0 ∷ []
    )
unfolding coff_file part_bytes file_header line_rows header_at align_field leader_number section_field symbol_field relocs_of type_of raw_of field_number lines_of parts_of text_of file_header_bytes section_header_bytes symbol_bytes section_aux_bytes weak_aux_bytes relocation_bytes string_offset coff_strings strings.table_place strings.tops_of strings.text_of strings.table_text bytes_of_number written_row to_field_of field_for output_names wanted_names reduced_number residue_of
common_of_12-file = refl

-- two names that share a tail
abbrev pub shared_tail : Object
shared_tail = record {
  format = Coff32;
  groups = [];
  sections = [];
  symbols =
      symbol (codes "my_function") Undefined NoType
      ∷ symbol (codes "_my_function") Undefined NoType ∷ [];
  relocs = [];
}

shared_tail-file : coff_file Usual32 shared_tail ≡ tails
unfolding coff_file part_bytes file_header line_rows header_at align_field leader_number section_field symbol_field relocs_of type_of raw_of field_number lines_of parts_of text_of file_header_bytes section_header_bytes symbol_bytes section_aux_bytes weak_aux_bytes relocation_bytes string_offset coff_strings strings.table_place strings.tops_of strings.text_of strings.table_text bytes_of_number written_row to_field_of field_for output_names wanted_names reduced_number residue_of
shared_tail-file = refl

-- sections of each sort, long and short names, a group whose second section leads it, symbols of each binding, and each type that is written for x64
abbrev pub everything : Object
everything = record {
  format = Coff64;
  groups = record { key = codes "the_key_of_it" } ∷ [];
  sections =
      section (codes ".text") kind.Code 16 24 (replicate 24 0) 0x60000020 None
      ∷ section (codes ".rdata_of_it") kind.ReadOnly 4 4 (1 ∷ 2 ∷ 3 ∷ 4 ∷ []) 0x40000040 None
      ∷ section (codes ".bss") kind.Zero 8 8 [] 0xC0000080 None
      ∷ section (codes ".xdata$k") kind.Exception 4 4 (9 ∷ 9 ∷ 9 ∷ 9 ∷ []) 0x40000040 (Some 0)
      ∷ section (codes ".text$k") kind.Code 1 2 (144 ∷ 195 ∷ []) 0x60000020 (Some 0)
      ∷ section (codes "/x") kind.Data 8192 1 (7 ∷ []) 0xC0000040 None ∷ [];
  symbols =
      symbol (codes "here") (Local (value.Place 0 5)) NoType
      ∷ symbol (codes "w") (Weak (fallback.Place 2 4)) NoType
      ∷ symbol (codes "five") (Local (value.Absolute 5)) NoType
      ∷ symbol (codes "z") (Weak fallback.Zero) Function
      ∷ symbol (codes "n") (Weak (fallback.Name 5)) NoType
      ∷ symbol (codes "f") (Global (value.Place 0 1)) Function
      ∷ symbol (codes "c") (Common 12 8) NoType
      ∷ symbol (codes "_key_of_it") Undefined Function
      ∷ symbol (codes "the_key_of_it") (Global (value.Place 4 1)) Function
      ∷ symbol (codes "a") (Global (value.Absolute 7)) NoType
      ∷ symbol (codes "is_lost_and_nine") (Global (value.Place 5 1)) NoType ∷ [];
  relocs =
      (field 0 8 (target.Section 1) base.Address less.Zero Eight Wrap (pos 3) ∷ field 8 4 (target.Symbol 7) base.Address less.Place Four Signed (pos 0) ∷ field 12 2 (target.Symbol 8) base.HomeNumber less.Zero Two Wrap (pos 0) ∷ field 14 4 (target.Section 3) base.Address less.Home Four Unsigned (pos 2) ∷ field 20 4 (target.Symbol 6) base.Address less.ImageBase Four Unsigned (pos 0) ∷ [])
      ∷ []
      ∷ []
      ∷ []
      ∷ []
      ∷ [] ∷ [];
}

everything-file : coff_file Usual64 everything ≡ manifold
unfolding coff_file part_bytes file_header line_rows header_at align_field leader_number section_field symbol_field relocs_of type_of raw_of field_number lines_of parts_of text_of file_header_bytes section_header_bytes symbol_bytes section_aux_bytes weak_aux_bytes relocation_bytes string_offset coff_strings strings.table_place strings.tops_of strings.text_of strings.table_text bytes_of_number written_row to_field_of field_for output_names wanted_names reduced_number residue_of digits
everything-file = refl
