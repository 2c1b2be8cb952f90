-- The object of a small file, and what small objects become in a target, computed; each expected value is worked by hand.
use Rattle.std.proofs.Common.{◌≡◌, ℕ, ◌+◌, refl, List, [], ◌∷◌, Option, Some, None, false}
use Rattle.std.specs.Prelude.{ℤ, pos, negsuc, nat_eq, ◌&&◌, ◌++◌, if◌then◌else◌, codes, replicate}
use Rattle.oc_base.specs.{declared.format.Format.{Format}, declared.format.Format.TheVariants.{Elf64, Coff64, Mac64}, declared.format.Word.TheVariants.{W64}}
use Rattle.oc_linking.specs.{declared.terms.Width.{Width}, declared.terms.Width.TheVariants.{Four, Eight}, declared.terms.Check.TheVariants.{Wrap, Signed}}
use Rattle.oc_linking.specs.{declared.terms.Hint.TheVariants.{Plain, Call}, declared.terms.Kind.{Kind}, declared.terms.Kind.TheVariants.{Code, Data, Zero}}
use Rattle.oc_linking.specs.{declared.terms.Mark.TheVariants.{NoType}, declared.terms.Visibility.TheVariants.{Default}, declared.terms.Binding.{Binding}}
use Rattle.oc_linking.specs.{declared.terms.Binding.TheVariants.{Local, Global, Common, Weak}, declared.terms.Less.{Less}, Numbers.{minus}, Keeping.{all}}
use Rattle.oc_linking.specs.Rules.{Symbolic, Sectional, Field, Fields}
use Rattle.oc_linking.specs.declared.terms.Value.TheVariants as value
use Rattle.oc_linking.specs.declared.terms.Fallback.TheVariants as fallback
use Rattle.oc_linking.specs.declared.terms.Base.TheVariants as base
use Rattle.oc_linking.specs.declared.terms.Less.TheVariants as less
use Rattle.oc_linking.specs.Parts as parts
use Rattle.oc_chains.specs.{Fields.{field}, Lists.{Lists}}
use Rattle.oc_algebra.specs.Residues.{residue_of}
use Rattle.oc_neutral.specs.{declared.section.Section.{Section}, declared.symbol.Symbol.{Symbol}, declared.reloc.Target.{Target}, declared.reloc.Reloc.{Reloc}}
use Rattle.oc_neutral.specs.{Objects.{Object}, Dialects.{Dialect, is_folded, looks_in, patches_in}, Alignments.{output_align, common_align}}
use Rattle.oc_neutral.specs.{Relocated.{is_relocated}, HomeNames.{output_tag, wanted_names, output_names}}
use Rattle.oc_neutral.specs.declared.reloc.Target.TheVariants as target
use Rattle.oc_shows.specs.Computed.{object_in}
use Rattle.oc_target.specs.Fitting.{fit_of}

-- ... a file

-- a section that a file carries, with these contents and that group
abbrev carried : List ℕ → Kind → ℕ → List ℕ → Option (List ℕ) → parts.Section
carried name kind number contents group = record { name = name; kind = kind; align = 8; size = 12; contents = contents; tag = 0; number = number; group = group }

-- section 1 and 3 are in one group, section 2 in another
abbrev sections : List parts.Section
sections =
    carried (codes ".text") Code 1 (replicate 12 0x90) None
    ∷ carried (codes ".data.f") Data 2 (replicate 12 0xFF) (Some (codes "f"))
    ∷ carried (codes ".text.g") Code 3 (replicate 12 0x90) (Some (codes "g"))
    ∷ carried (codes ".bss.f") Zero 4 (replicate 12 0) (Some (codes "f"))
    ∷ []

abbrev named : List ℕ → Binding → ℕ → parts.Symbol
named name binding number = record { name = name; binding = binding; mark = NoType; vis = Default; size = 0; pinned = false; number = number }

-- w is f, where nothing else defines it
abbrev symbols : List parts.Symbol
symbols = named (codes "l") (Local (value.Place 0 4)) 1 ∷ named (codes "f") (Global (value.Place 1 8)) 2 ∷ named (codes "w") (Weak (fallback.Name 2)) 4 ∷ []

-- a call of f, with -4 as always
abbrev call : Field
call = record {
  width = Four;
  check = Signed;
  base = base.Address;
  less = less.Place;
  residue = λ p v. minus W64 ((v 2).site.address + 0xFFFFFFFFFFFFFFFC) ((p.site 0).address + 4);
  target = Symbolic 2;
  hint = Call;
}

-- section 1 less itself, and 0x01020304
abbrev constant : Field
constant = record {
  width = Four;
  check = Wrap;
  base = base.Address;
  less = less.Section 1;
  residue = λ p v. minus W64 ((p.site 1).address + 0x01020304) (p.site 1).address;
  target = Sectional 1;
  hint = Plain;
}

-- w less the field's own section, and 10
abbrev difference : Field
difference = record {
  width = Four;
  check = Wrap;
  base = base.Address;
  less = less.Section 1;
  residue = λ p v. minus W64 ((v 4).site.address + 10) (p.site 1).address;
  target = Symbolic 4;
  hint = Plain;
}

abbrev fields : Fields
fields s at =
    if nat_eq s 0 && nat_eq at 4 then Some call
    else (if nat_eq s 1 && nat_eq at 0 then Some constant else (if nat_eq s 1 && nat_eq at 4 then Some difference else None))

-- every file is this one
abbrev dialect : Dialect
dialect = record {
  format = Elf64;
  rules = record {
    word = W64;
    fault = λ b keep. None;
    sections = λ b. sections;
    symbols = λ b keep. symbols;
    fields = λ b keep. fields;
    output_align = λ align. align;
    common_align = λ size align. align;
  };
}

-- ... and its object

-- a section of an object
abbrev section : List ℕ → Kind → ℕ → List ℕ → Option ℕ → Section
section name kind number bytes group = record { name = name; kind = kind; align = 8; size = 12; bytes = bytes; tag = 0; number = number; group = group }

abbrev symbol : List ℕ → Binding → ℕ → Symbol
symbol name binding number = record { name = name; binding = binding; mark = NoType; vis = Default; size = 0; pinned = false; number = number }

-- a relocation of the address of a target less what is taken
abbrev reloc : Target → Less → Width → ℤ → Reloc
reloc t l width addend = record { target = t; form = record { base = base.Address; less = l; width = width; check = Wrap }; addend = addend; hint = Plain }

-- f is symbol 1; the call keeps its addend. Less the own section is less the place, which is 4 further. Constants stand in the bytes
object-of_a_file : object_in dialect [] all ≡ record {
  format = Elf64;
  groups = record { key = codes "f" } ∷ record { key = codes "g" } ∷ [];
  sections =
      section (codes ".text") Code 1 (replicate 4 0x90 ++ replicate 4 0 ++ replicate 4 0x90) None
      ∷ section (codes ".data.f") Data 2 (4 ∷ 3 ∷ 2 ∷ 1 ∷ 0 ∷ 0 ∷ 0 ∷ 0 ∷ replicate 4 0xFF) (Some 0)
      ∷ section (codes ".text.g") Code 3 (replicate 12 0x90) (Some 1)
      ∷ section (codes ".bss.f") Zero 4 [] (Some 0)
      ∷ [];
  symbols = symbol (codes "l") (Local (value.Place 0 4)) 1 ∷ symbol (codes "f") (Global (value.Place 1 8)) 2 ∷ symbol (codes "w") (Weak (fallback.Name 1)) 4 ∷ [];
  relocs =
      (field 4 4 (record {
        target = target.Symbol 1;
        form = record { base = base.Address; less = less.Place; width = Four; check = Signed };
        addend = negsuc 3;
        hint = Call;
      })
      ∷ [])
      ∷ (field 4 4 (reloc (target.Symbol 2) less.Place Four (pos 14)) ∷ [])
      ∷ []
      ∷ []
      ∷ [];
}
unfolding is_folded looks_in patches_in
object-of_a_file = refl

-- ... an object in a target

-- an object with two sections, a common of 12 bytes and these relocations in the second section
abbrev holding : Format → List Section → Binding → Lists Reloc → Object
holding format xs common relocs = record { format = format; groups = []; sections = xs; symbols = symbol (codes "c") common 1 ∷ []; relocs = relocs }

-- at offset 0 the address of section 0, and at 4 the distance to the start of section 1 itself, and 24
abbrev elf : Object
elf = holding Elf64
    (section (codes ".text") Code 1 (replicate 12 0x90) None
    ∷ section (codes ".data") Data 2 (replicate 12 0) None
    ∷ [])
    (Common 12 1)
    ([]
    ∷ (field 0 4 (reloc (target.Section 0) less.Zero Four (pos 8)) ∷ field 4 8 (reloc (target.Section 1) less.Place Eight (pos 24)) ∷ [])
    ∷ [])

-- in mac64 the distance is the constant 20, 24 less the field's place, and stands in the bytes
fit-in_mac64 : fit_of Mac64 elf ≡ holding Mac64
    (record { name = codes "__TEXT,__text"; kind = Code; align = 8; size = 12; bytes = replicate 12 0x90; tag = 0x80000400; number = 1; group = None }
    ∷ record { name = codes "__DATA,__data"; kind = Data; align = 8; size = 12; bytes = 0 ∷ 0 ∷ 0 ∷ 0 ∷ 20 ∷ replicate 7 0; tag = 0; number = 2; group = None }
    ∷ [])
    (Common 12 1)
    ([] ∷ (field 0 4 (reloc (target.Section 0) less.Zero Four (pos 8)) ∷ []) ∷ [])
unfolding output_align common_align is_relocated output_tag wanted_names output_names residue_of
fit-in_mac64 = refl

-- in COFF it stays, and the common is aligned by its size
fit-in_coff64 : fit_of Coff64 elf ≡ holding Coff64
    (record { name = codes ".text"; kind = Code; align = 8; size = 12; bytes = replicate 12 0x90; tag = 0x60000020; number = 1; group = None }
    ∷ record { name = codes ".data"; kind = Data; align = 8; size = 12; bytes = replicate 12 0; tag = 0xC0000040; number = 2; group = None }
    ∷ [])
    (Common 12 16)
    ([]
    ∷ (field 0 4 (reloc (target.Section 0) less.Zero Four (pos 8)) ∷ field 4 8 (reloc (target.Section 1) less.Place Eight (pos 24)) ∷ [])
    ∷ [])
unfolding output_align common_align is_relocated output_tag wanted_names output_names residue_of
fit-in_coff64 = refl
