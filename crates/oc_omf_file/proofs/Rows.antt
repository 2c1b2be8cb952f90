-- Canonical files of objects, computed, and compared with files from outside.
use Rattle.std.proofs.Common.{◌≡◌, ℕ, List, [], ◌∷◌, None, refl, ℤ, false}
use Rattle.std.specs.Prelude.{map, codes, replicate, pos, negsuc, ◌++◌}
use Rattle.oc_base.specs.{declared.format.Format.TheVariants.{Omf}, Numbers.{bytes_of_number}}
use Rattle.oc_algebra.specs.{Fields.{field_for, to_field_of}, Residues.{reduced_number, residue_of}}
use Rattle.oc_linking.specs.{Fits.{bytes_of}, declared.terms.Base.TheVariants.{Address}, declared.terms.Less.{Less}, declared.terms.Width.TheVariants.{Four}}
use Rattle.oc_linking.specs.{declared.terms.Check.TheVariants.{Wrap}, declared.terms.Hint.TheVariants.{Plain}, declared.terms.Kind.{Kind}}
use Rattle.oc_linking.specs.{declared.terms.Mark.TheVariants.{NoType}, declared.terms.Visibility.TheVariants.{Default}, declared.terms.Binding.{Binding}}
use Rattle.oc_linking.specs.declared.terms.Binding.TheVariants.{Global, Undefined, Common}
use Rattle.oc_linking.specs.declared.terms.Less.TheVariants as less
use Rattle.oc_linking.specs.declared.terms.Kind.TheVariants as kind
use Rattle.oc_linking.specs.declared.terms.Value.TheVariants as value
use Rattle.oc_chains.specs.declared.field.Field.{Field}
use Rattle.oc_neutral.specs.{declared.section.Section.{Section}, declared.symbol.Symbol.{Symbol}, declared.reloc.Reloc.{Reloc}, declared.reloc.Target.{Target}}
use Rattle.oc_neutral.specs.{Objects.{Object}, Spelling.{written_row}}
use Rattle.oc_neutral.specs.declared.reloc.Target.TheVariants as target
use Rattle.oc_omf.specs.Bytes.{entry_bytes, index_bytes, length_bytes}
use Rattle.oc_omf_file.specs.{Names.{names_of, names_size, filled_from}, Pieces.{pieces_of}, Outputs.{symbol_outputs, outputs_of}}
use Rattle.oc_omf_file.specs.{Fixups.{field_number, raw_of}, Canonical.{output_contents, omf_file}}
use Rattle.oc_omf.proofs.WorkedFiles.{call}
use Rattle.oc_omf_file.proofs.WorkedFiles.{bare, everything, cut}

-- a section
abbrev section : List ℕ → Kind → ℕ → ℕ → List ℕ → Section
section name kind align size bytes = record { name = name; kind = kind; align = align; size = size; bytes = bytes; tag = 0; number = 0; group = None }

-- a symbol
abbrev symbol : List ℕ → Binding → Symbol
symbol name binding = record { name = name; binding = binding; mark = NoType; vis = Default; size = 0; pinned = false; number = 0 }

-- a relocation at an offset
abbrev field : ℕ → Target → Less → ℤ → Field Reloc
field at target less addend =
    record { at = at; width = bytes_of Four; item = record { target = target; form = record { base = Address; less = less; width = Four; check = Wrap }; addend = addend; hint = Plain } }

-- nothing at all
abbrev pub bare_object : Object
bare_object = record {
  format = Omf;
  groups = [];
  sections = [];
  symbols = [];
  relocs = [];
}

pub bare-file : omf_file bare_object ≡ bare
unfolding omf_file output_contents outputs_of symbol_outputs names_of pieces_of field_number raw_of entry_bytes length_bytes bytes_of_number written_row to_field_of field_for reduced_number residue_of
bare-file = refl

-- a call of `foo` by `main`
abbrev pub call_object : Object
call_object = record {
  format = Omf;
  groups = [];
  sections =
      section (codes "_TEXT") kind.Code 16 6 (232 ∷ 0 ∷ 0 ∷ 0 ∷ 0 ∷ 195 ∷ [])
      ∷ [];
  symbols =
      symbol (codes "main") (Global (value.Place 0 0))
      ∷ symbol (codes "foo") Undefined
      ∷ [];
  relocs =
      (field 1 (target.Symbol 1) less.Place (negsuc 3) ∷ [])
      ∷ [];
}

pub call-file : omf_file call_object ≡ call
unfolding omf_file output_contents outputs_of symbol_outputs names_of pieces_of field_number raw_of entry_bytes length_bytes bytes_of_number written_row to_field_of field_for reduced_number residue_of
call-file = refl

-- all kinds, alignments and forms
abbrev pub everything_object : Object
everything_object = record {
  format = Omf;
  groups = [];
  sections =
      section (codes "_TEXT") kind.Code 16 16 (144 ∷ 0 ∷ 0 ∷ 0 ∷ 0 ∷ 144 ∷ 0 ∷ 0 ∷ 0 ∷ 0 ∷ 195 ∷ 195 ∷ 0 ∷ 0 ∷ 0 ∷ 0 ∷ [])
      ∷ section (codes "CONST") kind.ReadOnly 4 8 (0 ∷ 0 ∷ 0 ∷ 0 ∷ 0 ∷ 0 ∷ 0 ∷ 0 ∷ [])
      ∷ section (codes "_DATA") kind.Data 256 5 (1 ∷ 2 ∷ 3 ∷ 4 ∷ 5 ∷ [])
      ∷ section (codes "_BSS") kind.Zero 2 300 ([])
      ∷ section (codes "_DATA") kind.Data 1 0 ([])
      ∷ [];
  symbols =
      symbol (codes "far") (Global (value.Place 2 3))
      ∷ symbol (codes "c1") (Common 128 16)
      ∷ symbol (codes "ext") Undefined
      ∷ symbol (codes "c2") (Common 129 16)
      ∷ symbol (codes "ext2") Undefined
      ∷ symbol (codes "here") (Global (value.Place 0 10))
      ∷ symbol (codes "c3") (Common 65536 16)
      ∷ symbol (codes "c4") (Common 16777216 16)
      ∷ [];
  relocs =
      (field 1 (target.Symbol 0) less.Place (negsuc 3) ∷ field 6 (target.Symbol 3) less.Zero (pos 0) ∷ field 12 (target.Section 2) less.Home (pos 8) ∷ [])
      ∷ (field 0 (target.Symbol 5) less.Zero (pos 1) ∷ field 4 (target.Symbol 4) less.Home (negsuc 1) ∷ [])
      ∷ ([])
      ∷ ([])
      ∷ ([])
      ∷ [];
}

pub everything-file : omf_file everything_object ≡ everything
unfolding omf_file output_contents outputs_of symbol_outputs names_of pieces_of field_number raw_of entry_bytes length_bytes bytes_of_number written_row to_field_of field_for reduced_number residue_of
everything-file = refl

-- a field over the place where a full piece would end
abbrev pub cut_object : Object
cut_object = record {
  format = Omf;
  groups = [];
  sections =
      section (codes "_DATA") kind.Data 1 1032 (replicate 4 7 ++ (replicate 4 0 ++ (replicate 1014 7 ++ (replicate 8 0 ++ replicate 2 7))))
      ∷ [];
  symbols = [];
  relocs =
      (field 4 (target.Section 0) less.Zero (pos 2) ∷ field 1022 (target.Section 0) less.Zero (pos 3) ∷ field 1026 (target.Section 0) less.Zero (pos 4) ∷ [])
      ∷ [];
}

pub cut-file : omf_file cut_object ≡ cut
unfolding omf_file output_contents outputs_of symbol_outputs names_of pieces_of field_number raw_of entry_bytes length_bytes bytes_of_number written_row to_field_of field_for reduced_number residue_of
cut-file = refl

-- indexes at the ends of their two forms (TIS OMF 1.1, "Indexed References")
pub indexes : map index_bytes (127 ∷ 128 ∷ 32767 ∷ []) ≡ (127 ∷ []) ∷ (128 ∷ 128 ∷ []) ∷ (255 ∷ 255 ∷ []) ∷ []
indexes = refl

-- lengths at the ends of their four forms (TIS OMF 1.1, "COMDEF: Communal Names Definition Record")
pub lengths : map length_bytes (128 ∷ 129 ∷ 65535 ∷ 65536 ∷ 16777215 ∷ 16777216 ∷ [])
    ≡ (128 ∷ []) ∷ (129 ∷ 129 ∷ 0 ∷ []) ∷ (129 ∷ 255 ∷ 255 ∷ []) ∷ (132 ∷ 0 ∷ 0 ∷ 1 ∷ []) ∷ (132 ∷ 255 ∷ 255 ∷ 255 ∷ []) ∷ (136 ∷ 0 ∷ 0 ∷ 0 ∷ 1 ∷ []) ∷ []
unfolding length_bytes bytes_of_number
lengths = refl

-- four names of 255 bytes fill an entry, and a fifth begins another
pub names-fill : map names_size (filled_from [] (replicate 5 (replicate 255 65))) ≡ 1024 ∷ 256 ∷ []
names-fill = refl
