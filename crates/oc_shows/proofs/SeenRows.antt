-- What is seen of objects that were written, in the format's own order and numbers. elf-groups, coff-group, coff-name, mach-defined and omf-public are
-- objects of an independent model with other names and sizes; the others were worked out by hand. Contents are left out: they are only copied.
use Rattle.std.proofs.Common.{◌≡◌, ℕ, ◌+◌, List, [], ◌∷◌, map, Option, Some, None, false, refl}
use Rattle.std.specs.Prelude.{codes, pos}
use Rattle.oc_base.specs.{declared.format.Format.{Format}, declared.format.Format.TheVariants.{Elf32, Elf64, Coff32, Coff64, Mac32, Mac64, Omf}}
use Rattle.oc_linking.specs.{declared.terms.Kind.{Kind}, declared.terms.Kind.TheVariants.{Code, ReadOnly, Data, Zero, Fini}, declared.terms.Mark.{Mark}}
use Rattle.oc_linking.specs.{declared.terms.Visibility.{Visibility}, declared.terms.Visibility.TheVariants.{Default, Internal, Hidden, Protected}}
use Rattle.oc_linking.specs.{declared.terms.Value.TheVariants.{Place, Absolute}, declared.terms.Binding.{Binding}}
use Rattle.oc_linking.specs.{declared.terms.Binding.TheVariants.{Local, Global, Undefined, Common, Weak}, declared.terms.Base.TheVariants.{Address}}
use Rattle.oc_linking.specs.{declared.terms.Less.{Less}, declared.terms.Width.TheVariants.{Four}, declared.terms.Check.TheVariants.{Wrap}}
use Rattle.oc_linking.specs.{declared.terms.Hint.{Hint}, declared.terms.Hint.TheVariants.{Plain, Call}}
use Rattle.oc_linking.specs.declared.terms.Mark.TheVariants as mark
use Rattle.oc_linking.specs.declared.terms.Fallback.TheVariants as fallback
use Rattle.oc_linking.specs.declared.terms.Less.TheVariants as less
use Rattle.oc_algebra.specs.Residues.{residue_of, reduced_number}
use Rattle.oc_chains.specs.declared.field.Field.{Field}
use Rattle.oc_neutral.specs.{declared.section.Section.{Section}, declared.symbol.Symbol.{Symbol}, declared.reloc.Reloc.{Reloc}, declared.reloc.Target.{Target}}
use Rattle.oc_neutral.specs.{Objects.{Object}, Elf.Kinds.{elf_kind}, Coff.Kinds.{coff_kind}, Mach.Kinds.{mach_kind}}
use Rattle.oc_neutral.specs.Mach.SectionSymbols.{needs_section_symbol, needed_sections}
use Rattle.oc_neutral.specs.declared.reloc.Target.TheVariants as target
use Rattle.oc_shows.specs.Seen.{seen_symbols, seen}

-- a section with that name, kind, tag and number, in a group or in none
abbrev section : List ℕ → Kind → ℕ → ℕ → Option ℕ → Section
section name kind tag number group = record { name = name; kind = kind; align = 4; size = 100; bytes = []; tag = tag; number = number; group = group }

-- a symbol with that name, binding, mark, visibility, size and number
abbrev symbol : List ℕ → Binding → Mark → Visibility → ℕ → ℕ → Symbol
symbol name binding mark vis size number = record { name = name; binding = binding; mark = mark; vis = vis; size = size; pinned = false; number = number }

-- of which only name, binding and number are said
abbrev plain : List ℕ → Binding → ℕ → Symbol
plain name binding number = symbol name binding mark.NoType Default 0 number

-- a field of four bytes at an offset, with the address of a target, what is taken from it, the addend and the hint
abbrev field : ℕ → Target → Less → ℕ → Hint → Field Reloc
field at t l addend hint = record {
  at = at;
  width = 4;
  item = record { target = t; form = record { base = Address; less = l; width = Four; check = Wrap }; addend = pos addend; hint = hint };
}

-- an object with groups of these keys
abbrev object : Format → List (List ℕ) → List Section → List Symbol → List (List (Field Reloc)) → Object
object format keys sections symbols relocs = record { format = format; groups = map (λ key. record { key = key }) keys; sections = sections; symbols = symbols; relocs = relocs }

-- ... ELF: sections are numbered behind two groups; neither key is a nonlocal name, so two Local signatures stand before the Local;
-- a common is an object of its size
abbrev elf_sections : ℕ → List Section
elf_sections first = section (codes ".text") Code 14 first (Some 0) ∷ section (codes ".rodata") ReadOnly 10 (first + 1) (Some 0) ∷ section (codes ".data") Data 11 (first + 2) (Some 1) ∷ []

abbrev elf_fields : List (List (Field Reloc))
elf_fields = [] ∷ (field 0 (target.Symbol 1) less.Zero 7 Plain ∷ []) ∷ (field 4 (target.Section 0) less.Zero 9 Plain ∷ []) ∷ []

elf-groups : seen (object Elf32 (codes "k" ∷ codes "local" ∷ []) (elf_sections 1) (
    symbol (codes "local") (Local (Absolute 5)) mark.Object Default 0 1
    ∷ symbol (codes "common") (Common 1000 32) mark.NoType Default 0 2
    ∷ symbol (codes "f") (Global (Place 2 64)) mark.Function Default 0 3 ∷ []) elf_fields)
    ≡ object Elf32 (codes "k" ∷ codes "local" ∷ []) (elf_sections 3) (
    symbol (codes "local") (Local (Absolute 5)) mark.Object Default 0 6
    ∷ symbol (codes "common") (Common 1000 32) mark.Object Default 1000 7
    ∷ symbol (codes "f") (Global (Place 2 64)) mark.Function Default 0 8 ∷ []) elf_fields
unfolding seen_symbols elf_kind residue_of reduced_number
elf-groups = refl

-- a Name is the place of its Global; marks, visibilities, sizes and hints are kept
elf-name : seen (object Elf64 [] (section (codes ".text") Code 14 9 None ∷ []) (
    symbol (codes "w") (Weak (fallback.Name 1)) mark.Function Hidden 6 1
    ∷ symbol (codes "g") (Global (Place 0 8)) mark.Function Protected 5 2
    ∷ plain (codes "z") (Weak fallback.Zero) 3
    ∷ plain (codes "l") (Local (Place 0 4)) 4 ∷ []) ((field 0 (target.Symbol 1) less.Place 3 Call ∷ []) ∷ []))
    ≡ object Elf64 [] (section (codes ".text") Code 14 1 None ∷ []) (
    plain (codes "l") (Local (Place 0 4)) 2
    ∷ symbol (codes "w") (Weak (fallback.Place 0 8)) mark.Function Hidden 6 3
    ∷ symbol (codes "g") (Global (Place 0 8)) mark.Function Protected 5 4
    ∷ plain (codes "z") (Weak fallback.Zero) 5 ∷ []) ((field 0 (target.Symbol 2) less.Place 3 Call ∷ []) ∷ [])
unfolding seen_symbols elf_kind residue_of reduced_number
elf-name = refl

-- ... COFF: the key symbol stands behind the section's own; Locals; a default for the Weak, which has an auxiliary entry
coff-group : seen (object Coff32 (codes "key" ∷ []) (section (codes ".CRT$XTZ") Fini 0x40000040 7 (Some 0) ∷ []) (
    plain (codes "a") (Local (Absolute 209)) 1
    ∷ symbol (codes "w") (Weak fallback.Zero) mark.NoType Internal 0 2
    ∷ plain (codes "a") (Local (Place 0 0)) 3
    ∷ symbol (codes "b") (Global (Absolute 0)) mark.NoType Hidden 0 4
    ∷ symbol (codes "key") (Global (Place 0 0)) mark.Function Default 0 5 ∷ []) ((field 4 (target.Section 0) less.Home 6 Plain ∷ []) ∷ []))
    ≡ object Coff32 (codes "key" ∷ []) (section (codes ".CRT$XTZ") Fini 0x40000040 1 (Some 0) ∷ []) (
    symbol (codes "key") (Global (Place 0 0)) mark.Function Default 0 2
    ∷ plain (codes "a") (Local (Absolute 209)) 3
    ∷ plain (codes "a") (Local (Place 0 0)) 4
    ∷ plain (codes "w") (Weak fallback.Zero) 6
    ∷ plain (codes "b") (Global (Absolute 0)) 8 ∷ []) ((field 4 (target.Section 0) less.Home 6 Plain ∷ []) ∷ [])
unfolding seen_symbols coff_kind residue_of reduced_number
coff-group = refl

-- a Local of more than 32 bits is not written; a Name stays one, at its symbol's new position; of marks only Function is said
coff-name : seen (object Coff64 [] [] (
    plain (codes "l") (Local (Absolute 0x100000000)) 1
    ∷ symbol (codes "o") Undefined mark.Object Internal 4 2
    ∷ symbol (codes "f") Undefined mark.Function Hidden 0 3
    ∷ plain (codes "c") (Common 32 32) 4
    ∷ symbol (codes "w") (Weak (fallback.Name 2)) mark.Function Default 134 5 ∷ []) [])
    ≡ object Coff64 [] [] (
    plain (codes "o") Undefined 0
    ∷ symbol (codes "f") Undefined mark.Function Default 0 1
    ∷ plain (codes "c") (Common 32 32) 2
    ∷ symbol (codes "w") (Weak (fallback.Name 1)) mark.Function Default 0 3 ∷ []) []
unfolding seen_symbols
coff-name = refl

-- ... Mach-O: kinds are those of names and flags; Locals, what is defined, the rest; of what is defined it is said whether it is hidden
mach-defined : seen (object Mac64 [] (section (codes "__TEXT,__const") ReadOnly 0 5 None ∷ section (codes "__DATA,__const") ReadOnly 0 6 None ∷ []) (
    symbol (codes "u") Undefined mark.Object Internal 3 1
    ∷ symbol (codes "l") (Local (Place 0 0)) mark.Object Default 4 2
    ∷ plain (codes "g") (Global (Place 1 23)) 3
    ∷ symbol (codes "w") (Weak (fallback.Name 2)) mark.Function Hidden 0 4
    ∷ plain (codes "z") (Weak fallback.Zero) 5
    ∷ plain (codes "c") (Common 3 4) 6 ∷ []) ([] ∷ [] ∷ []))
    ≡ object Mac64 [] (section (codes "__TEXT,__const") ReadOnly 0 1 None ∷ section (codes "__DATA,__const") Data 0 2 None ∷ []) (
    plain (codes "l") (Local (Place 0 0)) 0
    ∷ plain (codes "g") (Global (Place 1 23)) 1
    ∷ symbol (codes "w") (Weak (fallback.Place 1 23)) mark.NoType Hidden 0 2
    ∷ plain (codes "u") Undefined 3
    ∷ plain (codes "c") (Common 3 4) 4
    ∷ plain (codes "z") (Weak fallback.Zero) 5 ∷ []) ([] ∷ [] ∷ [])
unfolding seen_symbols mach_kind needed_sections needs_section_symbol
mach-defined = refl

-- in 64 bits `l_section_2`, which is taken, stands before all symbols, and a call is said to be one
mach-needed : seen (object Mac64 [] (section (codes "__TEXT,__text") Code 0x80000400 1 None ∷ section (codes "__DATA,__data") Data 0 2 None ∷ []) (plain (codes "f") Undefined 9 ∷ [])
    ((field 0 (target.Symbol 0) less.Place 3 Call ∷ field 4 (target.Symbol 0) (less.Section 1) 8 Plain ∷ []) ∷ [] ∷ []))
    ≡ object Mac64 [] (section (codes "__TEXT,__text") Code 0x80000400 1 None ∷ section (codes "__DATA,__data") Data 0 2 None ∷ []) (plain (codes "f") Undefined 1 ∷ [])
    ((field 0 (target.Symbol 0) less.Place 3 Call ∷ field 4 (target.Symbol 0) (less.Section 1) 8 Plain ∷ []) ∷ [] ∷ [])
unfolding seen_symbols mach_kind needed_sections needs_section_symbol residue_of reduced_number
mach-needed = refl

-- in 32 bits a call is not said to be one; the Global of a difference is read as its section, elsewhere it stays
mach-difference : seen (object Mac32 [] (section (codes "__TEXT,__text") Code 0x80000400 1 None ∷ section (codes "__DATA,__data") Data 0 2 None ∷ []) (plain (codes "g") (Global (Place 1 16)) 9 ∷ [])
    ((field 0 (target.Symbol 0) less.Place 3 Call ∷ []) ∷ (field 4 (target.Symbol 0) (less.Section 0) 8 Plain ∷ []) ∷ []))
    ≡ object Mac32 [] (section (codes "__TEXT,__text") Code 0x80000400 1 None ∷ section (codes "__DATA,__data") Data 0 2 None ∷ []) (plain (codes "g") (Global (Place 1 16)) 0 ∷ [])
    ((field 0 (target.Symbol 0) less.Place 3 Plain ∷ []) ∷ (field 4 (target.Section 1) (less.Section 0) 24 Plain ∷ []) ∷ [])
unfolding seen_symbols mach_kind residue_of reduced_number
mach-difference = refl

-- ... OMF: externals, communals, publics, and no Local; a public as a target is read as its segment
omf-public : seen (object Omf [] (section (codes "BSS") Zero 0 1 None ∷ section (codes "TEXT") Code 0 2 None ∷ []) (
    symbol (codes "p") (Global (Place 1 64)) mark.Function Internal 19 1
    ∷ symbol (codes "q") (Global (Place 0 2)) mark.Object Hidden 0 2
    ∷ plain (codes "l") (Local (Place 1 0)) 3
    ∷ plain (codes "c") (Common 8 8) 4
    ∷ symbol (codes "u") Undefined mark.NoType Default 40 5 ∷ [])
    ([] ∷ (field 1 (target.Symbol 1) less.Zero 5 Plain ∷ field 5 (target.Section 0) less.Home 6 Plain ∷ field 9 (target.Symbol 4) less.Place 7 Plain ∷ []) ∷ []))
    ≡ object Omf [] (section (codes "BSS") Zero 0 1 None ∷ section (codes "TEXT") Code 0 2 None ∷ []) (
    plain (codes "u") Undefined 0
    ∷ plain (codes "c") (Common 8 8) 1
    ∷ plain (codes "p") (Global (Place 1 64)) 2
    ∷ plain (codes "q") (Global (Place 0 2)) 3 ∷ [])
    ([] ∷ (field 1 (target.Section 0) less.Zero 7 Plain ∷ field 5 (target.Section 0) less.Home 6 Plain ∷ field 9 (target.Symbol 0) less.Place 7 Plain ∷ []) ∷ [])
unfolding seen_symbols residue_of reduced_number
omf-public = refl
