-- What files show, computed on worked files: sections, symbols, and fields with their residues where everything is at 0.
use Rattle.std.proofs.Common.{◌≡◌, ℕ, ◌-◌, ◌^◌, List, [], ◌∷◌, map, codes, Some, None, Option, refl}
use Rattle.std.specs.Option.{option_map}
use Rattle.oc_coff.specs.{declared.form.CoffForm.{CoffForm}, declared.form.CoffForm.TheVariants.{Usual32, Usual64}, FileHeader.{file_header_of}}
use Rattle.oc_coff.specs.{SectionHeader.{section_header_at}, SymbolEntry.{symbol_at}, SectionAux.{section_aux_at}, WeakAux.{weak_aux_at}}
use Rattle.oc_coff.specs.{Relocation.{relocation_at}, Tables.{section_table, slot_at, strings_of, entries_of, section_tables, tables_of}}
use Rattle.oc_coff.specs.{Names.{string_at, section_name, symbol_name}, Entries.{entries_in}, Comdat.{definition_in, led_key, key_in}}
use Rattle.oc_coff.specs.{Sections.{kind_in, carried_of, carried_in, position_of}, Symbols.{value_of, binding_of, symbol_of, symbols_in}, Targets.{aim_in}}
use Rattle.oc_coff.specs.{Fields.{field_by, fields_in}, Rules.{coff_rules}}
use Rattle.oc_linking.specs.{declared.terms.Kind.{Kind}, declared.terms.Kind.TheVariants.{Code, ReadOnly, Data, Zero, Debug, Exception, Note}}
use Rattle.oc_linking.specs.{declared.terms.Mark.{Mark}, declared.terms.Mark.TheVariants.{NoType, Function}, declared.terms.Width.{Width}}
use Rattle.oc_linking.specs.{declared.terms.Width.TheVariants.{Two, Four, Eight}, declared.terms.Check.{Check}}
use Rattle.oc_linking.specs.{declared.terms.Check.TheVariants.{Wrap, Signed, Unsigned}, declared.terms.Base.{Base}}
use Rattle.oc_linking.specs.{declared.terms.Base.TheVariants.{Address, HomeNumber}, declared.terms.Less.{Less}}
use Rattle.oc_linking.specs.{declared.terms.Value.TheVariants.{Place, Absolute}, declared.terms.Binding.{Binding}}
use Rattle.oc_linking.specs.{declared.terms.Binding.TheVariants.{Local, Global, Undefined, Common, Weak}, Keeping.{all}, Parts.{Section, Symbol}}
use Rattle.oc_linking.specs.{Placing.{zeros}, Rules.{Field, Named, Symbolic, Sectional}, Values.{worthless}}
use Rattle.oc_linking.specs.declared.terms.Less.TheVariants as less
use Rattle.oc_linking.specs.declared.terms.Fallback.TheVariants as fallback
use Rattle.oc_algebra.specs.{Residues.{residue_of}, Fields.{extended}}
use Rattle.oc_base.specs.Numbers.{number_at}
use Rattle.oc_neutral.specs.Coff.Kinds.{coff_kind, coff_tag}
use Rattle.oc_coff.proofs.WorkedFiles.{call, grouped, msvc, weakened, tails, nearer, overflowed, copied, manifold, assorted}

-- a section: its name, kind, alignment, size, tag and group
abbrev Frame : Type 0
Frame = List ℕ × Kind × ℕ × ℕ × ℕ × Option (List ℕ)

abbrev sections_of : CoffForm → List ℕ → List Frame
sections_of w file = map (λ (s : Section). (s.name, s.kind, s.align, s.size, s.tag, s.group)) ((coff_rules w).sections file)

-- a symbol: its name, binding, mark and number
abbrev symbols_of : CoffForm → List ℕ → List (List ℕ × Binding × Mark × ℕ)
symbols_of w file = map (λ (s : Symbol). (s.name, s.binding, s.mark, s.number)) ((coff_rules w).symbols file all)

-- a field: its width, check, base, what is taken, its target, and its residue where all is at 0
abbrev Found : Type 0
Found = Width × Check × Base × Less × Named × ℕ

abbrev field_of : CoffForm → List ℕ → ℕ × ℕ → Option Found
field_of w file at = option_map (λ (f : Field). (f.width, f.check, f.base, f.less, f.target, f.residue zeros (λ k. worthless))) ((coff_rules w).fields file all at.0 at.1)

-- ... sections

call-sections : sections_of Usual32 call ≡ (codes ".text", Code, 16, 6, 0x60000020, None) ∷ []
unfolding file_header_of section_header_at symbol_at section_aux_at weak_aux_at relocation_at section_table slot_at strings_of entries_of section_tables tables_of string_at section_name symbol_name entries_in definition_in led_key key_in kind_in carried_of carried_in number_at coff_kind coff_tag
call-sections = refl

grouped-sections : sections_of Usual32 grouped ≡ (codes ".text", Code, 16, 6, 0x60000020, None) ∷ (codes ".text", Code, 16, 4, 0x60000020, Some (codes "t")) ∷ []
unfolding file_header_of section_header_at symbol_at section_aux_at weak_aux_at relocation_at section_table slot_at strings_of entries_of section_tables tables_of string_at section_name symbol_name entries_in definition_in led_key key_in kind_in carried_of carried_in number_at coff_kind coff_tag
grouped-sections = refl

msvc-sections : sections_of Usual64 msvc ≡ (codes ".drectve", Note, 1, 11, 0xA00, None) ∷ (codes ".debug$S", Debug, 1, 16, 0x42000040, None) ∷ (codes ".text$mn", Code, 16, 5, 0x60000020, None)
    ∷ (codes ".xdata", Exception, 4, 8, 0x40000040, None) ∷ (codes ".pdata", Exception, 4, 12, 0x40000040, None) ∷ []
unfolding file_header_of section_header_at symbol_at section_aux_at weak_aux_at relocation_at section_table slot_at strings_of entries_of section_tables tables_of string_at section_name symbol_name entries_in definition_in led_key key_in kind_in carried_of carried_in number_at coff_kind coff_tag
msvc-sections = refl

copied-sections : sections_of Usual64 copied ≡ (codes ".text$f", Code, 16, 2, 0x60000020, Some (codes "f")) ∷ (codes ".xdata$f", Exception, 4, 4, 0x40000040, Some (codes "f"))
    ∷ (codes ".rdata", ReadOnly, 1, 1, 0x40000040, None) ∷ (codes ".data", Data, 4, 4, 0xC0000040, None) ∷ []
unfolding file_header_of section_header_at symbol_at section_aux_at weak_aux_at relocation_at section_table slot_at strings_of entries_of section_tables tables_of string_at section_name symbol_name entries_in definition_in led_key key_in kind_in carried_of carried_in number_at coff_kind coff_tag
copied-sections = refl

overflowed-sections : sections_of Usual32 overflowed ≡ (codes ".data", Data, 16, 8, 0xC0000040, None) ∷ []
unfolding file_header_of section_header_at symbol_at section_aux_at weak_aux_at relocation_at section_table slot_at strings_of entries_of section_tables tables_of string_at section_name symbol_name entries_in definition_in led_key key_in kind_in carried_of carried_in number_at coff_kind coff_tag
overflowed-sections = refl

manifold-sections : sections_of Usual64 manifold ≡ (codes ".text", Code, 16, 24, 0x60000020, None) ∷ (codes ".rdata_of_it", ReadOnly, 4, 4, 0x40000040, None) ∷ (codes ".bss", Zero, 8, 8, 0xC0000080, None)
    ∷ (codes ".xdata$k", Exception, 4, 4, 0x40000040, Some (codes "the_key_of_it")) ∷ (codes ".text$k", Code, 1, 2, 0x60000020, Some (codes "the_key_of_it")) ∷ (codes "/x", Data, 8192, 1, 0xC0000040, None) ∷ []
unfolding file_header_of section_header_at symbol_at section_aux_at weak_aux_at relocation_at section_table slot_at strings_of entries_of section_tables tables_of string_at section_name symbol_name entries_in definition_in led_key key_in kind_in carried_of carried_in number_at coff_kind coff_tag
manifold-sections = refl

assorted-sections : sections_of Usual32 assorted ≡ (codes ".text_of_it", Code, 2, 8, 0x60000020, None) ∷ []
unfolding file_header_of section_header_at symbol_at section_aux_at weak_aux_at relocation_at section_table slot_at strings_of entries_of section_tables tables_of string_at section_name symbol_name entries_in definition_in led_key key_in kind_in carried_of carried_in number_at coff_kind coff_tag
assorted-sections = refl

-- ... symbols

call-symbols : symbols_of Usual32 call ≡ (codes "main", Global (Place 0 0), Function, 2) ∷ (codes "foo", Undefined, NoType, 3) ∷ []
unfolding file_header_of section_header_at symbol_at section_aux_at weak_aux_at relocation_at section_table slot_at strings_of entries_of section_tables tables_of string_at section_name symbol_name entries_in definition_in led_key key_in kind_in carried_of carried_in position_of value_of binding_of symbol_of symbols_in number_at coff_kind coff_tag
call-symbols = refl

grouped-symbols : symbols_of Usual32 grouped ≡ (codes "t", Global (Place 1 0), Function, 4) ∷ (codes "main", Global (Place 0 0), Function, 5) ∷ []
unfolding file_header_of section_header_at symbol_at section_aux_at weak_aux_at relocation_at section_table slot_at strings_of entries_of section_tables tables_of string_at section_name symbol_name entries_in definition_in led_key key_in kind_in carried_of carried_in position_of value_of binding_of symbol_of symbols_in number_at coff_kind coff_tag
grouped-symbols = refl

msvc-symbols : symbols_of Usual64 msvc ≡ (codes "@comp.id", Local (Absolute 0x01057556), NoType, 10) ∷ (codes "$unwind$f", Local (Place 3 0), NoType, 11)
    ∷ (codes "$pdata$f", Local (Place 4 0), NoType, 12) ∷ (codes "f", Global (Place 2 0), Function, 13) ∷ []
unfolding file_header_of section_header_at symbol_at section_aux_at weak_aux_at relocation_at section_table slot_at strings_of entries_of section_tables tables_of string_at section_name symbol_name entries_in definition_in led_key key_in kind_in carried_of carried_in position_of value_of binding_of symbol_of symbols_in number_at coff_kind coff_tag
msvc-symbols = refl

weakened-symbols : symbols_of Usual64 weakened ≡ (codes "f", Weak (fallback.Place 0 0), Function, 3) ∷ []
unfolding file_header_of section_header_at symbol_at section_aux_at weak_aux_at relocation_at section_table slot_at strings_of entries_of section_tables tables_of string_at section_name symbol_name entries_in definition_in led_key key_in kind_in carried_of carried_in position_of value_of binding_of symbol_of symbols_in number_at coff_kind coff_tag
weakened-symbols = refl

tails-symbols : symbols_of Usual32 tails ≡ (codes "my_function", Undefined, NoType, 0) ∷ (codes "_my_function", Undefined, NoType, 1) ∷ []
unfolding file_header_of section_header_at symbol_at section_aux_at weak_aux_at relocation_at section_table slot_at strings_of entries_of section_tables tables_of string_at section_name symbol_name entries_in definition_in led_key key_in kind_in carried_of carried_in position_of value_of binding_of symbol_of symbols_in number_at coff_kind coff_tag
tails-symbols = refl

copied-symbols : symbols_of Usual64 copied ≡ (codes "f", Global (Place 0 1), Function, 8) ∷ (codes "c", Global (Place 2 0), NoType, 9) ∷ []
unfolding file_header_of section_header_at symbol_at section_aux_at weak_aux_at relocation_at section_table slot_at strings_of entries_of section_tables tables_of string_at section_name symbol_name entries_in definition_in led_key key_in kind_in carried_of carried_in position_of value_of binding_of symbol_of symbols_in number_at coff_kind coff_tag
copied-symbols = refl

manifold-symbols : symbols_of Usual64 manifold ≡ (codes "the_key_of_it", Global (Place 4 1), Function, 10) ∷ (codes "here", Local (Place 0 5), NoType, 13) ∷ (codes "five", Local (Absolute 5), NoType, 14)
    ∷ (codes "w", Weak (fallback.Place 2 4), NoType, 17) ∷ (codes "z", Weak fallback.Zero, Function, 19) ∷ (codes "n", Weak (fallback.Name 23), NoType, 21) ∷ (codes "f", Global (Place 0 1), Function, 23)
    ∷ (codes "c", Common 12 16, NoType, 24) ∷ (codes "_key_of_it", Undefined, Function, 25) ∷ (codes "a", Global (Absolute 7), NoType, 26) ∷ (codes "is_lost_and_nine", Global (Place 5 1), NoType, 27) ∷ []
unfolding file_header_of section_header_at symbol_at section_aux_at weak_aux_at relocation_at section_table slot_at strings_of entries_of section_tables tables_of string_at section_name symbol_name entries_in definition_in led_key key_in kind_in carried_of carried_in position_of value_of binding_of symbol_of symbols_in number_at coff_kind coff_tag
manifold-symbols = refl

assorted-symbols : symbols_of Usual32 assorted ≡ (codes "@feat.00", Local (Absolute 1), NoType, 2) ∷ (codes "label", Local (Place 0 4), NoType, 5) ∷ (codes "eightlet", Global (Place 0 8), NoType, 9)
    ∷ (codes "weak", Weak (fallback.Name 9), Function, 12) ∷ []
unfolding file_header_of section_header_at symbol_at section_aux_at weak_aux_at relocation_at section_table slot_at strings_of entries_of section_tables tables_of string_at section_name symbol_name entries_in definition_in led_key key_in kind_in carried_of carried_in position_of value_of binding_of symbol_of symbols_in number_at coff_kind coff_tag
assorted-symbols = refl

-- ... fields

call-fields : map (field_of Usual32 call) ((0, 0) ∷ (0, 1) ∷ (1, 0) ∷ []) ≡ None ∷ Some (Four, Wrap, Address, less.Place, Symbolic 3, 2 ^ 32 - 5) ∷ None ∷ []
unfolding file_header_of section_header_at symbol_at section_aux_at weak_aux_at relocation_at section_table slot_at strings_of entries_of section_tables tables_of string_at section_name symbol_name entries_in definition_in led_key key_in kind_in carried_of carried_in position_of value_of binding_of symbol_of symbols_in aim_in field_by fields_in number_at coff_kind coff_tag residue_of extended
call-fields = refl

msvc-fields : map (field_of Usual64 msvc) ((4, 0) ∷ (4, 4) ∷ (4, 8) ∷ []) ≡ Some (Four, Unsigned, Address, less.ImageBase, Sectional 2, 0) ∷ Some (Four, Unsigned, Address, less.ImageBase, Sectional 2, 5)
    ∷ Some (Four, Unsigned, Address, less.ImageBase, Sectional 3, 0) ∷ []
unfolding file_header_of section_header_at symbol_at section_aux_at weak_aux_at relocation_at section_table slot_at strings_of entries_of section_tables tables_of string_at section_name symbol_name entries_in definition_in led_key key_in kind_in carried_of carried_in position_of value_of binding_of symbol_of symbols_in aim_in field_by fields_in number_at coff_kind coff_tag residue_of extended
msvc-fields = refl

nearer-fields : map (field_of Usual64 nearer) ((0, 1) ∷ []) ≡ Some (Four, Signed, Address, less.Place, Symbolic 2, 2 ^ 64 - 9) ∷ []
unfolding file_header_of section_header_at symbol_at section_aux_at weak_aux_at relocation_at section_table slot_at strings_of entries_of section_tables tables_of string_at section_name symbol_name entries_in definition_in led_key key_in kind_in carried_of carried_in position_of value_of binding_of symbol_of symbols_in aim_in field_by fields_in number_at coff_kind coff_tag residue_of extended
nearer-fields = refl

overflowed-fields : map (field_of Usual32 overflowed) ((0, 0) ∷ (0, 3) ∷ (0, 4) ∷ []) ≡ Some (Four, Wrap, Address, less.Zero, Symbolic 2, 0) ∷ None ∷ Some (Four, Wrap, Address, less.Home, Symbolic 3, 0) ∷ []
unfolding file_header_of section_header_at symbol_at section_aux_at weak_aux_at relocation_at section_table slot_at strings_of entries_of section_tables tables_of string_at section_name symbol_name entries_in definition_in led_key key_in kind_in carried_of carried_in position_of value_of binding_of symbol_of symbols_in aim_in field_by fields_in number_at coff_kind coff_tag residue_of extended
overflowed-fields = refl

manifold-fields : map (field_of Usual64 manifold) ((0, 0) ∷ (0, 8) ∷ (0, 12) ∷ (0, 14) ∷ (0, 20) ∷ (1, 0) ∷ [])
    ≡ Some (Eight, Wrap, Address, less.Zero, Sectional 1, 3) ∷ Some (Four, Signed, Address, less.Place, Symbolic 25, 2 ^ 64 - 8) ∷ Some (Two, Wrap, HomeNumber, less.Zero, Symbolic 10, 0)
    ∷ Some (Four, Unsigned, Address, less.Home, Sectional 3, 2) ∷ Some (Four, Unsigned, Address, less.ImageBase, Symbolic 24, 0) ∷ None ∷ []
unfolding file_header_of section_header_at symbol_at section_aux_at weak_aux_at relocation_at section_table slot_at strings_of entries_of section_tables tables_of string_at section_name symbol_name entries_in definition_in led_key key_in kind_in carried_of carried_in position_of value_of binding_of symbol_of symbols_in aim_in field_by fields_in number_at coff_kind coff_tag residue_of extended
manifold-fields = refl

assorted-fields : map (field_of Usual32 assorted) ((0, 0) ∷ (0, 4) ∷ []) ≡ Some (Four, Wrap, Address, less.Zero, Sectional 0, 0) ∷ Some (Four, Wrap, Address, less.ImageBase, Sectional 0, 0) ∷ []
unfolding file_header_of section_header_at symbol_at section_aux_at weak_aux_at relocation_at section_table slot_at strings_of entries_of section_tables tables_of string_at section_name symbol_name entries_in definition_in led_key key_in kind_in carried_of carried_in position_of value_of binding_of symbol_of symbols_in aim_in field_by fields_in number_at coff_kind coff_tag residue_of extended
assorted-fields = refl
