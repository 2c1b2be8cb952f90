-- Texts of objects where they are placed: the first two are worked cases of the command, the others by hand from its description.
use Rattle.std.proofs.Common.{◌≡◌, ℕ, true, false, List, [], ◌∷◌, ◌++◌, refl}
use Rattle.std.specs.{Prelude.{codes, ℤ, pos, negsuc, Option, Some, None}, Fmt.{digits}}
use Rattle.oc_base.specs.declared.format.Format.TheVariants.{Elf32, Elf64}
use Rattle.oc_linking.specs.{declared.terms.Base.TheVariants.{Address}, declared.terms.Binding.{Binding}}
use Rattle.oc_linking.specs.{declared.terms.Binding.TheVariants.{Global, Undefined, Common, Weak}, declared.terms.Check.{Check}}
use Rattle.oc_linking.specs.{declared.terms.Check.TheVariants.{Signed, Wrap}, declared.terms.Hint.TheVariants.{Plain}, declared.terms.Kind.{Kind}}
use Rattle.oc_linking.specs.{declared.terms.Kind.TheVariants.{Code, Data, Zero}, declared.terms.Less.{Less}, declared.terms.Mark.TheVariants.{NoType}}
use Rattle.oc_linking.specs.{declared.terms.Visibility.TheVariants.{Default}, declared.terms.Width.TheVariants.{Four}}
use Rattle.oc_linking.specs.declared.terms.Fallback.TheVariants as fallback
use Rattle.oc_linking.specs.declared.terms.Less.TheVariants as less
use Rattle.oc_linking.specs.declared.terms.Value.TheVariants as value
use Rattle.oc_algebra.specs.Residues.{residue_of}
use Rattle.oc_chains.specs.declared.field.Field.{Field}
use Rattle.oc_dump.specs.Lines.{hex}
use Rattle.oc_neutral.specs.{declared.reloc.Reloc.{Reloc}, declared.section.Section.{Section}, declared.symbol.Symbol.{Symbol}, Objects.{Object}}
use Rattle.oc_neutral.specs.Worth.{residue_at}
use Rattle.oc_neutral.specs.declared.reloc.Target.TheVariants as target
use Rattle.oc_place.specs.{declared.spot.Outside.{Outside}, declared.spot.Spot.{Spot}, Placings.{Placing, nothing_given, origin}}
use Rattle.oc_link.specs.{Linked.{link_text_of}, Texts.{bytes_text, head_text, in_order, overflow_text}}

-- a section of that kind, size and bytes, in that group
section : Kind → ℕ → List ℕ → Option ℕ → Section
section kind size bytes group = record { name = codes ".text"; kind = kind; align = 16; size = size; bytes = bytes; tag = 0; number = 1; group = group }

-- a symbol of that name, binding and number
symbol : List ℕ → Binding → ℕ → Symbol
symbol name b number = record { name = name; binding = b; mark = NoType; vis = Default; size = 0; pinned = false; number = number }

-- at an offset, four bytes for the address of the symbol at a position, with an addend, less what is taken
address : ℕ → ℕ → ℤ → Less → Check → Field Reloc
address at k addend taken check =
    record { at = at; width = 4; item = record { target = target.Symbol k; form = record { base = Address; less = taken; width = Four; check = check }; addend = addend; hint = Plain } }

-- a spot at an address, its home there too, with that number
spot : ℕ → ℕ → Spot
spot a number = record { address = a; home = a; number = number }

-- what the outside gives: a spot and no slot
outside : ℕ → ℕ → Outside
outside a number = record { spot = Some (spot a number); slot = 0 }

-- the call of `foo` from `main`
call : Object
call = record {
  format = Elf32;
  groups = [];
  sections = section Code 6 (0xe8 ∷ 0 ∷ 0 ∷ 0 ∷ 0 ∷ 0xc3 ∷ []) None ∷ [];
  symbols = symbol (codes "main") (Global (value.Place 0 0)) 1 ∷ symbol (codes "foo") Undefined 2 ∷ [];
  relocs = (address 1 1 (negsuc 3) less.Place Wrap ∷ []) ∷ [];
}

-- what is placed: `main` at 1000, `foo` at 2000
called : Placing
called = record { image = 0; got = 0; spots = spot 0x1000 1 ∷ []; dropped = []; given = nothing_given ∷ outside 0x2000 2 ∷ [] }

call_linked : link_text_of call called ≡ codes "section 1 00001000 6\ne8 fb 0f 00 00 c3\nexport 00001000 main\n"
unfolding link_text_of call called section symbol address spot outside head_text hex digits residue_at residue_of
call_linked = refl

-- the address of `x` in four bytes that are signed, at offset 3
wide : Object
wide = record {
  format = Elf64;
  groups = [];
  sections = section Code 8 (0 ∷ 0 ∷ 0 ∷ 0 ∷ 0 ∷ 0 ∷ 0 ∷ 0 ∷ []) None ∷ [];
  symbols = symbol (codes "x") Undefined 1 ∷ [];
  relocs = (address 3 0 (pos 0) less.Zero Signed ∷ []) ∷ [];
}

-- `x` at an address
at_address : ℕ → Placing
at_address a = record { image = 0; got = 0; spots = spot 0 1 ∷ []; dropped = []; given = outside a 2 ∷ [] }

wide_overflows : link_text_of wide (at_address 0x80000000) ≡ codes "overflow 1 3\n"
unfolding link_text_of wide at_address section symbol address spot outside overflow_text digits residue_at residue_of
wide_overflows = refl

-- the largest number that fits
wide_fits : link_text_of wide (at_address 0x7fffffff) ≡ codes "section 1 0000000000000000 8\n00 00 00 ff ff ff 7f 00\n"
unfolding link_text_of wide at_address section symbol address spot outside head_text hex digits residue_at residue_of
wide_fits = refl

-- seventeen bytes, four zeros, no zeros, and a section that is discarded; a common, a Global that is lost, a Weak without a value and a Weak that goes by the lost Global, in no order
mixed : Object
mixed = record {
  format = Elf32;
  groups = record { key = codes "g" } ∷ [];
  sections =
      section Data 17 (0 ∷ 1 ∷ 2 ∷ 3 ∷ 4 ∷ 5 ∷ 6 ∷ 7 ∷ 8 ∷ 9 ∷ 10 ∷ 11 ∷ 12 ∷ 13 ∷ 14 ∷ 15 ∷ 0xf0 ∷ []) None
      ∷ section Zero 4 [] None ∷ section Zero 0 [] None ∷ section Code 1 (0xc3 ∷ []) (Some 0) ∷ [];
  symbols =
      symbol (codes "b") (Common 8 4) 1 ∷ symbol (codes "a") (Global (value.Place 3 0)) 2
      ∷ symbol (codes "B") (Weak fallback.Zero) 3 ∷ symbol (codes "a b") (Global (value.Absolute 0xabc)) 4 ∷ symbol (codes "w") (Weak (fallback.Name 1)) 5 ∷ [];
  relocs = [] ∷ [] ∷ [] ∷ [] ∷ [];
}

-- what is placed: the group is discarded
mixed_placed : Placing
mixed_placed = record {
  image = 0;
  got = 0;
  spots = spot 0x10 1 ∷ spot 0x20 2 ∷ spot 0x30 3 ∷ origin ∷ [];
  dropped = true ∷ [];
  given = outside 0x40 4 ∷ outside 0x50 5 ∷ nothing_given ∷ nothing_given ∷ nothing_given ∷ [];
}

mixed_linked : link_text_of mixed mixed_placed
    ≡ codes "section 1 00000010 17\n00 01 02 03 04 05 06 07 08 09 0a 0b 0c 0d 0e 0f\nf0\nsection 2 00000020 4\nzeros\nsection 3 00000030 0\n"
    ++ codes "export 00000000 B\nexport 00000abc a\\x20b\ncommon 8 b\nexport 00000050 w\n"
unfolding link_text_of mixed mixed_placed section symbol spot outside head_text hex digits residue_at residue_of
mixed_linked = refl

-- names go by their bytes
names_ordered : in_order (codes "b" ∷ codes "ab" ∷ codes "B" ∷ codes "a" ∷ []) ≡ codes "B" ∷ codes "a" ∷ codes "ab" ∷ codes "b" ∷ []
names_ordered = refl

-- sixteen bytes fill a line
line_full : bytes_text (0 ∷ 0 ∷ 0 ∷ 0 ∷ 0 ∷ 0 ∷ 0 ∷ 0 ∷ 0 ∷ 0 ∷ 0 ∷ 0 ∷ 0 ∷ 0 ∷ 0 ∷ 0xff ∷ []) ≡ codes "00 00 00 00 00 00 00 00 00 00 00 00 00 00 00 ff\n"
unfolding hex digits
line_full = refl
