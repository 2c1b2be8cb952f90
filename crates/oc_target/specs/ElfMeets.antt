-- What a writer of ELF uses of an object that is ready to be written (gABI, "Section Header" and "Symbol Table"; i386 and x86-64 psABI; our profile).
use Rattle.std.specs.Prelude.{◌≡◌, ℕ, ◌^◌, ◌<◌, ◌≤◌, true, false, length, slice_get, Some, None}
use Rattle.oc_base.specs.{declared.format.Format.{Format}, Formats.{word_for}, declared.format.Word.TheVariants.{W32}}
use Rattle.oc_linking.specs.{declared.terms.Kind.TheVariants.{Exception}, declared.terms.Base.TheVariants.{Address}, declared.terms.Binding.TheVariants.{Weak}}
use Rattle.oc_linking.specs.declared.terms.Fallback.TheVariants as fallback
use Rattle.oc_neutral.specs.{Family.{IsElf}, declared.group.Group.{Group}, declared.section.Section.{Section}, declared.symbol.Symbol.{Symbol}}
use Rattle.oc_neutral.specs.{declared.reloc.Reloc.{Reloc}, declared.elf.TheConstants.{SHF_ALLOC, ALIGN_BITS}}
use Rattle.oc_neutral.specs.{Elf.Kinds.{is_carried_type, elf_kind, elf_tag_type, elf_tag_flags, is_nobits_tag}, Families.{container_of, is_many, section_range}}
use Rattle.oc_neutral.specs.{KindRules.{has, has_nul}, Objects.{Object, reloc_at}, RelocTables.{row_of}, Rows.{taken_of, shift_of}}
use Rattle.oc_neutral.specs.{Elf.Family.{header_count, elf_symbol_count}, Relocated.{is_relocated}}
use Rattle.oc_neutral.specs.declared.reloc.Target.TheVariants as target
use Rattle.oc_target.specs.{Fitted.{IsFitted}, Meets.{AreBounded, IsUncut, IsSteadyAt, IsPower, IsReadAs, MeetsReloc, HoldsAddend}}
use Rattle.oc_shows.specs.Readable.{AreZeros}

-- a section
pub record ElfSection (n : Object) (s : Section) : Type 0 where
  pub uncut : IsUncut n s
  pub align : IsPower ALIGN_BITS s.align
  -- its tag has a type of 32 bits that is carried, and is allocated where that is NOBITS
  pub small : elf_tag_type s.tag < 2 ^ 32
  pub carried : is_carried_type (elf_tag_type s.tag) ≡ true
  pub allocated : is_nobits_tag s.tag ≡ true → has (elf_tag_flags s.tag) SHF_ALLOC ≡ true
  pub kind : IsReadAs Exception s.kind (elf_kind s.name (elf_tag_type s.tag) (elf_tag_flags s.tag))
  -- what has no bytes in the file holds zeros, and what has bytes there has all
  pub zeros : is_nobits_tag s.tag ≡ true → AreZeros s.bytes
  pub stored : is_nobits_tag s.tag ≡ false → length s.bytes ≡ s.size

-- a symbol
pub record ElfSymbol (n : Object) (s : Symbol) : Type 0 where
  pub name : has_nul s.name ≡ false
  -- a fallback Name is written as the place of its Global
  pub steady : (k : ℕ) → s.binding ≡ Weak (fallback.Name k) → IsSteadyAt n k

-- a relocation
pub record ElfReloc (format : Format) (n : Object) (s at : ℕ) (r : Reloc) : Type 0 where
  pub meets : MeetsReloc format n s at r
  -- it lies in a section that has bytes in the file
  pub stored : is_nobits_tag meets.section.tag ≡ false
  -- the type is that of one entry, is found by its number of eight bits, and has an effect
  pub found : row_of format meets.row.number ≡ Some meets.row
  pub number : (0 < meets.row.number) × (meets.row.number < 2 ^ 8)
  pub single : meets.row.second ≡ None
  pub behind : meets.row.behind ≡ 0
  pub taken : meets.row.taken ≡ taken_of r.form.less
  pub hint : meets.row.hint ≡ r.hint
  -- of a section only the address is asked
  pub based : (k : ℕ) → r.target ≡ target.Section k → r.form.base ≡ Address
  -- in elf32 the field holds the addend
  pub holds : word_for format ≡ W32 → HoldsAddend format r (shift_of meets.row)

-- the object
pub record MeetsElf (format : Format) (n : Object) : Type 0 where
  pub bounds : AreBounded n
  pub least : (section_range format).least ≤ header_count (is_many format) (is_relocated format n) n
  pub headers : header_count (is_many format) (is_relocated format n) n ≤ (section_range format).most
  pub table : word_for format ≡ W32 → elf_symbol_count n < 2 ^ 24
  pub keys : (g : ℕ) (x : Group) → slice_get n.groups g ≡ Some x → has_nul x.key ≡ false
  pub sections : (k : ℕ) (s : Section) → slice_get n.sections k ≡ Some s → ElfSection n s
  pub symbols : (k : ℕ) (s : Symbol) → slice_get n.symbols k ≡ Some s → ElfSymbol n s
  pub relocs : (s at : ℕ) (r : Reloc) → reloc_at n s at ≡ Some r → ElfReloc format n s at r

-- every object that is ready for ELF meets this
abbrev pub FittedMeetsElf : Type 0
FittedMeetsElf = (format : Format) (n : Object) → container_of format ≡ IsElf → IsFitted format n → MeetsElf format n
