-- The object that is made of so many functions, to try tools on (our profile).
use Rattle.std.specs.{Prelude.{ℕ, ◌+◌, ◌*◌, ◌%◌, negsuc, min, false, List, [], ◌∷◌, ◌++◌, codes, map, flat_map, slice_index, None}, Fmt.{decimal}}
use Rattle.std.specs.List.{range_with_len}
use Rattle.oc_base.specs.{declared.format.Format.{Format}, declared.format.Format.TheVariants.{Elf32, Elf64}, declared.format.Word.{Word}}
use Rattle.oc_base.specs.declared.format.Word.TheVariants.{W32, W64}
use Rattle.oc_linking.specs.declared.terms.Base.TheVariants as base
use Rattle.oc_linking.specs.{declared.terms.Binding.{Binding}, declared.terms.Binding.TheVariants.{Global, Undefined}, declared.terms.Check.{Check}}
use Rattle.oc_linking.specs.{declared.terms.Check.TheVariants.{Wrap, Signed}, declared.terms.Hint.TheVariants.{Plain}, declared.terms.Kind.TheVariants.{Code}}
use Rattle.oc_linking.specs.{declared.terms.Mark.{Mark}, declared.terms.Mark.TheVariants.{NoType, Function}, declared.terms.Visibility.TheVariants.{Default}}
use Rattle.oc_linking.specs.declared.terms.Width.TheVariants.{Four}
use Rattle.oc_linking.specs.declared.terms.Less.TheVariants as less
use Rattle.oc_linking.specs.declared.terms.Value.TheVariants as value
use Rattle.oc_chains.specs.{declared.field.Field.{Field}, Fields.{field}}
use Rattle.oc_neutral.specs.{declared.elf.TheConstants.{SHT_PROGBITS, SHF_ALLOC, SHF_EXECINSTR}, declared.reloc.Reloc.{Reloc}}
use Rattle.oc_neutral.specs.{declared.section.Section.{Section}, declared.symbol.Symbol.{Symbol}, Elf.Kinds.{elf_tag}, Objects.{Object}}
use Rattle.oc_neutral.specs.declared.reloc.Target.TheVariants as target

-- ... the code

-- the bytes of a function: two calls, each E8 and a field, and six times 90. The bytes of the fields are zeros
abbrev pub function_bytes : List ℕ
function_bytes = 0xE8 ∷ 0 ∷ 0 ∷ 0 ∷ 0 ∷ 0xE8 ∷ 0 ∷ 0 ∷ 0 ∷ 0 ∷ 0x90 ∷ 0x90 ∷ 0x90 ∷ 0x90 ∷ 0x90 ∷ 0x90 ∷ []

-- byte k of the code, in which the functions follow one another
abbrev pub code_byte : ℕ → ℕ
code_byte k = slice_index function_bytes (k % 16)

-- the code of so many functions
unfoldable pub code_of : ℕ → List ℕ
code_of count = map code_byte (range_with_len 0 (16 * count))

-- the one section
abbrev pub text_section : ℕ → Section
text_section count = record {
  name = codes ".text";
  kind = Code;
  align = 16;
  size = 16 * count;
  bytes = code_of count;
  tag = elf_tag SHT_PROGBITS (SHF_ALLOC + SHF_EXECINSTR);
  number = 1;
  group = None;
}

-- ... the symbols

-- the symbol at a position. In the canonical file two others come before all of them: the null one, and that of the section
abbrev pub symbol : List ℕ → Binding → Mark → ℕ → Symbol
symbol name binding mark position = record {
  name = name;
  binding = binding;
  mark = mark;
  vis = Default;
  size = 0;
  pinned = false;
  number = position + 2;
}

-- the symbol of function i, which lies at 16i
abbrev pub function_symbol : ℕ → Symbol
function_symbol i = symbol (codes "f_" ++ decimal i) (Global (value.Place 0 (16 * i))) Function i

-- symbol k outside, after those of so many functions
abbrev pub outside_symbol : ℕ → ℕ → Symbol
outside_symbol count k = symbol (codes "x_" ++ decimal k) Undefined NoType (count + k)

-- all of them: ten are outside, or as many as there are functions
unfoldable pub symbols_of : ℕ → List Symbol
symbols_of count = map function_symbol (range_with_len 0 count) ++ map (outside_symbol count) (range_with_len 0 (min count 10))

-- ... the calls

-- the check of a distance in four bytes (i386 psABI, R_386_PC32; x86-64 psABI, R_X86_64_PC32)
abbrev pub distance_check : Word → Check
distance_check W32 = Wrap
distance_check W64 = Signed

-- the distance from a field of four bytes to the symbol at a position
abbrev pub call : Word → ℕ → Reloc
call w k = record {
  target = target.Symbol k;
  form = record { base = base.Address; less = less.Place; width = Four; check = distance_check w };
  addend = negsuc 3;
  hint = Plain;
}

-- the calls of function i, of so many: first of function (5i + 1) mod count, then of symbol i mod 10 outside
abbrev pub calls_by : Word → ℕ → ℕ → List (Field Reloc)
calls_by w count i = field (16 * i + 1) 4 (call w ((5 * i + 1) % count)) ∷ field (16 * i + 6) 4 (call w (count + i % 10)) ∷ []

-- the calls of all of them
unfoldable pub calls_of : Word → ℕ → List (Field Reloc)
calls_of w count = flat_map (calls_by w count) (range_with_len 0 count)

-- ... the object

-- ELF for a word
abbrev pub elf_format : Word → Format
elf_format W32 = Elf32
elf_format W64 = Elf64

-- the object of so many functions, with the names and tags of ELF
unfoldable pub made_object : ℕ → Word → Object
made_object count w = record {
  format = elf_format w;
  groups = [];
  sections = text_section count ∷ [];
  symbols = symbols_of count;
  relocs = calls_of w count ∷ [];
}
