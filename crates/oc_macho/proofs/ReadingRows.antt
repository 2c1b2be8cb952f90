-- What files show, computed on worked files: sections, symbols, and fields with their residues where everything is at 0.
use Rattle.std.proofs.Common.{◌≡◌, ℕ, ◌-◌, ◌^◌, true, false, Bool, List, [], ◌∷◌, map, codes, Some, None, Option, refl}
use Rattle.std.specs.Option.{option_map}
use Rattle.oc_base.specs.{declared.format.Word.{Word}, declared.format.Word.TheVariants.{W32, W64}, Numbers.{number_at}}
use Rattle.oc_linking.specs.{declared.terms.Kind.{Kind}, declared.terms.Kind.TheVariants.{Code, ReadOnly, Data, Zero}, declared.terms.Hint.{Hint}}
use Rattle.oc_linking.specs.{declared.terms.Hint.TheVariants.{Plain}, declared.terms.Width.{Width}, declared.terms.Width.TheVariants.{Four, Eight}}
use Rattle.oc_linking.specs.{declared.terms.Check.{Check}, declared.terms.Check.TheVariants.{Wrap, Signed}, declared.terms.Base.{Base}}
use Rattle.oc_linking.specs.{declared.terms.Base.TheVariants.{Address}, declared.terms.Less.{Less}, declared.terms.Value.TheVariants.{Place}}
use Rattle.oc_linking.specs.{declared.terms.Binding.{Binding}, declared.terms.Binding.TheVariants.{Local, Global, Undefined, Common, Weak}, Keeping.{all}}
use Rattle.oc_linking.specs.{Parts.{Section, Symbol}, Placing.{zeros}, Rules.{Field, Named, Symbolic, Sectional}, Values.{worthless}}
use Rattle.oc_linking.specs.declared.terms.Less.TheVariants as less
use Rattle.oc_linking.specs.declared.terms.Fallback.TheVariants as fallback
use Rattle.oc_algebra.specs.{Fields.{extended}, Residues.{residue_of}}
use Rattle.oc_neutral.specs.Mach.Kinds.{mach_kind, mach_tag}
use Rattle.oc_macho.specs.{MachHeader.{mach_header_of}, LoadCommand.{load_command_at}, SegmentCommand.{segment_command_at}, SymtabCommand.{symtab_command_at}}
use Rattle.oc_macho.specs.{SectionHeader.{section_header_at}, Nlist.{nlist_at}}
use Rattle.oc_macho.specs.{RelocationInfo.{relocation_info_at, relocation_info_of, reference_of, scattered_of}, Tables.{section_table, tables_of}}
use Rattle.oc_macho.specs.{Sections.{kind_of, contents_of, section_of, sections_in, holder_of}, Symbols.{name_at, is_own, binding_of, symbol_of, symbols_by}}
use Rattle.oc_macho.specs.{Entries.{row_for, item_at, is_pinned}, Aims.{aim_in}, Fields.{field_parts_by, added_by, field_of, item_for, fields_in}}
use Rattle.oc_macho.specs.Rules.{mach_rules, symbols_in}
use Rattle.oc_macho.proofs.{FaultRows.{patched}, WorkedFiles.{called, called32, behind, signed, difference, foreign, folded, compiled}}

-- a section: its name, kind, alignment, size and tag
abbrev Frame : Type 0
Frame = List ℕ × Kind × ℕ × ℕ × ℕ

abbrev frames_of : Word → List ℕ → List Frame
frames_of w file = map (λ (s : Section). (s.name, s.kind, s.align, s.size, s.tag)) ((mach_rules w).sections file)

-- a symbol: its name, binding, whether it is pinned, and its number
abbrev faces_of : Word → List ℕ → List (List ℕ × Binding × Bool × ℕ)
faces_of w file = map (λ (s : Symbol). (s.name, s.binding, s.pinned, s.number)) ((mach_rules w).symbols file all)

-- a field: its width, check, base, what is taken, its target, its hint, and its residue where all is at 0
abbrev Look : Type 0
Look = Width × Check × Base × Less × Named × Hint × ℕ

abbrev look_at : Word → List ℕ → ℕ → ℕ → Option Look
look_at w file s at =
    option_map (λ (f : Field). (f.width, f.check, f.base, f.less, f.target, f.hint, f.residue zeros (λ k. worthless))) ((mach_rules w).fields file all s at)

-- ... sections

called-frames : frames_of W64 called ≡ (codes "__TEXT,__text", Code, 16, 6, 0x80000400) ∷ []
unfolding number_at residue_of extended mach_kind mach_tag mach_header_of load_command_at segment_command_at symtab_command_at section_header_at nlist_at relocation_info_at section_table tables_of kind_of contents_of section_of sections_in
called-frames = refl

behind-frames : frames_of W32 behind ≡ (codes "__TEXT,__const", ReadOnly, 16, 16, 0) ∷ (codes "__TEXT,__text", Code, 16, 5, 0x80000400) ∷ []
unfolding number_at residue_of extended mach_kind mach_tag mach_header_of load_command_at segment_command_at symtab_command_at section_header_at nlist_at relocation_info_at section_table tables_of kind_of contents_of section_of sections_in
behind-frames = refl

compiled-frames : frames_of W64 compiled ≡ (codes "__TEXT,__text", Code, 1, 20, 0x80000400) ∷ (codes "__DATA,__data", Data, 1, 0, 0) ∷ (codes "__DATA,__bss", Zero, 1, 0, 1)
    ∷ (codes "__TEXT,__const", ReadOnly, 1, 3, 0) ∷ []
unfolding number_at residue_of extended mach_kind mach_tag mach_header_of load_command_at segment_command_at symtab_command_at section_header_at nlist_at relocation_info_at section_table tables_of kind_of contents_of section_of sections_in
compiled-frames = refl

-- ... symbols

called-faces : faces_of W64 called ≡ (codes "main", Global (Place 0 0), false, 0) ∷ (codes "foo", Undefined, false, 1) ∷ []
unfolding number_at residue_of extended mach_kind mach_header_of load_command_at segment_command_at symtab_command_at section_header_at nlist_at relocation_info_at relocation_info_of reference_of scattered_of section_table tables_of kind_of name_at is_own binding_of symbol_of symbols_by row_for item_at is_pinned symbols_in
called-faces = refl

-- a subtrahend is pinned
difference-faces : faces_of W64 difference ≡ (codes "_base", Local (Place 1 0), true, 0) ∷ (codes "_ext", Undefined, false, 1) ∷ []
unfolding number_at residue_of extended mach_kind mach_header_of load_command_at segment_command_at symtab_command_at section_header_at nlist_at relocation_info_at relocation_info_of reference_of scattered_of section_table tables_of kind_of name_at is_own binding_of symbol_of symbols_by row_for item_at is_pinned symbols_in
difference-faces = refl

-- `foo` as a common of nine bytes and alignment 8: the exponent stands in bits 8 to 11, beside others
common-faces : faces_of W64 (patched ((326, 0 ∷ 0x13 ∷ 9 ∷ []) ∷ []) called) ≡ (codes "main", Global (Place 0 0), false, 0) ∷ (codes "foo", Common 9 8, false, 1) ∷ []
unfolding number_at residue_of extended mach_kind mach_header_of load_command_at segment_command_at symtab_command_at section_header_at nlist_at relocation_info_at relocation_info_of reference_of scattered_of section_table tables_of kind_of name_at is_own binding_of symbol_of symbols_by row_for item_at is_pinned symbols_in
common-faces = refl

-- and undefined, and weak, with no size
outer-faces : map (λ (desc : ℕ). faces_of W64 (patched ((326, desc ∷ []) ∷ []) called)) (0 ∷ 0x40 ∷ [])
    ≡ map (λ (b : Binding). (codes "main", Global (Place 0 0), false, 0) ∷ (codes "foo", b, false, 1) ∷ []) (Undefined ∷ Weak fallback.Zero ∷ [])
unfolding number_at residue_of extended mach_kind mach_header_of load_command_at segment_command_at symtab_command_at section_header_at nlist_at relocation_info_at relocation_info_of reference_of scattered_of section_table tables_of kind_of name_at is_own binding_of symbol_of symbols_by row_for item_at is_pinned symbols_in
outer-faces = refl

-- ... fields

-- the field of the call is 0: the value is -5, as it lies at 1 and four bytes follow
called-field : look_at W64 called 0 1 ≡ Some (Four, Signed, Address, less.Place, Symbolic 1, Plain, 2 ^ 64 - 5)
unfolding number_at residue_of extended mach_kind mach_header_of load_command_at segment_command_at symtab_command_at section_header_at nlist_at relocation_info_at relocation_info_of reference_of scattered_of section_table tables_of kind_of contents_of section_of sections_in holder_of name_at is_own binding_of symbol_of row_for item_at aim_in field_parts_by added_by field_of item_for fields_in
called-field = refl

-- in mac32 the field is -5 itself, whatever it lies at
called32-field : look_at W32 called32 0 1 ≡ Some (Four, Wrap, Address, less.Place, Symbolic 1, Plain, 2 ^ 32 - 5)
unfolding number_at residue_of extended mach_kind mach_header_of load_command_at segment_command_at symtab_command_at section_header_at nlist_at relocation_info_at relocation_info_of reference_of scattered_of section_table tables_of kind_of contents_of section_of sections_in holder_of name_at is_own binding_of symbol_of row_for item_at aim_in field_parts_by added_by field_of item_for fields_in
called32-field = refl

-- in the second section the field is -21, and its section is moved from 16 to 0
behind-field : look_at W32 behind 1 1 ≡ Some (Four, Wrap, Address, less.Place, Symbolic 0, Plain, 2 ^ 32 - 5)
unfolding number_at residue_of extended mach_kind mach_header_of load_command_at segment_command_at symtab_command_at section_header_at nlist_at relocation_info_at relocation_info_of reference_of scattered_of section_table tables_of kind_of contents_of section_of sections_in holder_of name_at is_own binding_of symbol_of row_for item_at aim_in field_parts_by added_by field_of item_for fields_in
behind-field = refl

-- SIGNED_1 counts from the end of its field, as SIGNED does; the field is -1
signed-field : look_at W64 signed 0 2 ≡ Some (Four, Signed, Address, less.Place, Symbolic 0, Plain, 2 ^ 64 - 7)
unfolding number_at residue_of extended mach_kind mach_header_of load_command_at segment_command_at symtab_command_at section_header_at nlist_at relocation_info_at relocation_info_of reference_of scattered_of section_table tables_of kind_of contents_of section_of sections_in holder_of name_at is_own binding_of symbol_of row_for item_at aim_in field_parts_by added_by field_of item_for fields_in
signed-field = refl

-- a difference from a symbol takes its section; the first field is 16
difference-fields : map (look_at W64 difference 1) (8 ∷ 16 ∷ 12 ∷ []) ≡ Some (Four, Signed, Address, less.Section 1, Symbolic 1, Plain, 16) ∷ Some (Eight, Wrap, Address, less.Section 1, Symbolic 1, Plain, 0) ∷ None ∷ []
unfolding number_at residue_of extended mach_kind mach_header_of load_command_at segment_command_at symtab_command_at section_header_at nlist_at relocation_info_at relocation_info_of reference_of scattered_of section_table tables_of kind_of contents_of section_of sections_in holder_of name_at is_own binding_of symbol_of row_for item_at aim_in field_parts_by added_by field_of item_for fields_in
difference-fields = refl

foreign-field : look_at W64 foreign 1 8 ≡ Some (Four, Signed, Address, less.Section 0, Symbolic 1, Plain, 16)
unfolding number_at residue_of extended mach_kind mach_header_of load_command_at segment_command_at symtab_command_at section_header_at nlist_at relocation_info_at relocation_info_of reference_of scattered_of section_table tables_of kind_of contents_of section_of sections_in holder_of name_at is_own binding_of symbol_of row_for item_at aim_in field_parts_by added_by field_of item_for fields_in
foreign-field = refl

-- a difference of one section is a constant: it is folded
folded-field : look_at W32 folded 1 4 ≡ Some (Four, Wrap, Address, less.Section 0, Sectional 0, Plain, 8)
unfolding number_at residue_of extended mach_kind mach_header_of load_command_at segment_command_at symtab_command_at section_header_at nlist_at relocation_info_at relocation_info_of reference_of scattered_of section_table tables_of kind_of contents_of section_of sections_in holder_of name_at is_own binding_of symbol_of row_for item_at aim_in field_parts_by added_by field_of item_for fields_in
folded-field = refl
