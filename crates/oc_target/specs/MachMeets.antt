-- What a writer of Mach-O uses of an object that is ready to be written (Mach-O reference, "section", "nlist" and "Relocation Data Structures"; our profile).
use Rattle.std.specs.Prelude.{◌≡◌, ℕ, ◌^◌, ◌<◌, ◌≤◌, nat_eq, true, false, [], length, slice_get, ℤ, Some, None}
use Rattle.oc_base.specs.{Formats.{word_for}, declared.format.Word.TheVariants.{W32, W64}, declared.format.Format.{Format}}
use Rattle.oc_base.specs.declared.format.Format.TheVariants.{Mac32, Mac64}
use Rattle.oc_linking.specs.{declared.terms.Kind.TheVariants.{ReadOnly}, declared.terms.Binding.TheVariants.{Common, Weak}}
use Rattle.oc_linking.specs.declared.terms.Less.TheVariants as less
use Rattle.oc_linking.specs.declared.terms.Fallback.TheVariants as fallback
use Rattle.oc_neutral.specs.{KindRules.{has_nul}, Family.{IsMach}, declared.section.Section.{Section}, declared.symbol.Symbol.{Symbol}}
use Rattle.oc_neutral.specs.{declared.reloc.Reloc.{Reloc}, Families.{container_of}}
use Rattle.oc_neutral.specs.Mach.Kinds.{mach_name, segment_of, section_of, is_read_type, mach_kind, mach_tag, is_zerofill_tag}
use Rattle.oc_neutral.specs.{Mach.Relocs.{MachRow, length_of, mach_entries, entry_among}, Mach.Family.{mach_symbol_count}, Objects.{Object, reloc_at}}
use Rattle.oc_neutral.specs.{Rows.{taken_of}, Mach.SectionSymbols.{names_section, needed_sections}, Shifts.{written_shift}}
use Rattle.oc_neutral.specs.TargetRelocations.{fixed_end, is_symbol}
use Rattle.oc_target.specs.{Fitted.{IsFitted}, Meets.{AreBounded, IsSteadyAt, IsPower, IsReadAs, MeetsReloc, HoldsAddend}}
use Rattle.oc_shows.specs.Readable.{AreZeros}

-- a section
pub record MachSection (s : Section) : Type 0 where
  pub uncut : has_nul s.name ≡ false
  pub alone : s.group ≡ None
  pub align : IsPower 15 s.align
  -- its name is a segment and a section of up to 16 bytes each, with a comma between them
  pub name : s.name ≡ mach_name (segment_of s.name) (section_of s.name)
  pub segment : length (segment_of s.name) ≤ 16
  pub section : length (section_of s.name) ≤ 16
  -- its tag leaves nothing out of 32 bits of flags, and has a type that is read
  pub small : s.tag < 2 ^ 32
  pub tag : mach_tag s.tag ≡ s.tag
  pub type : is_read_type s.tag ≡ true
  pub kind : IsReadAs ReadOnly s.kind (mach_kind (segment_of s.name) (section_of s.name) s.tag)
  -- what has no bytes in the file holds zeros, and what has bytes there has all
  pub zeros : is_zerofill_tag s.tag ≡ true → AreZeros s.bytes
  pub stored : is_zerofill_tag s.tag ≡ false → length s.bytes ≡ s.size

-- a symbol
pub record MachSymbol (n : Object) (s : Symbol) : Type 0 where
  pub name : has_nul s.name ≡ false
  pub common : (size align : ℕ) → s.binding ≡ Common size align → (0 < size) × IsPower 15 align
  -- a fallback Name is written as the place of its Global
  pub steady : (k : ℕ) → s.binding ≡ Weak (fallback.Name k) → IsSteadyAt n k

-- a difference of mac32 from section k at an offset: both ends lie in sections that have bytes, no symbol of section k is its target, and its field lies in
-- the first 2^24
pub record IsWrittenDifference (n : Object) (at : ℕ) (r : Reloc) (k : ℕ) : Type 0 where
  pub near : at < 2 ^ 24
  pub end : ℕ
  pub fixed : fixed_end n r.target ≡ Some end
  pub apart : is_symbol r.target ≡ true → nat_eq end k ≡ false
  pub ends : (x : Section) → slice_get n.sections end ≡ Some x → 0 < x.size
  pub starts : (x : Section) → slice_get n.sections k ≡ Some x → 0 < x.size

-- a relocation
pub record MachReloc (format : Format) (n : Object) (s at : ℕ) (r : Reloc) : Type 0 where
  pub meets : MeetsReloc format n s at r
  -- it lies in a section that has bytes in the file
  pub stored : is_zerofill_tag meets.section.tag ≡ false
  -- the entry is found by its type, r_pcrel and r_length
  pub entry : MachRow
  pub row : entry.row ≡ meets.row
  pub found : entry_among (mach_entries (word_for format)) meets.row.number entry.pcrel (length_of meets.row.width) ≡ Some entry
  pub number : meets.row.number < 2 ^ 4
  -- in mac32 what is taken is what the row gives, and every addend is held
  pub taken : format ≡ Mac32 → meets.row.taken ≡ taken_of r.form.less
  pub holds : (shift : ℤ) → format ≡ Mac32 → HoldsAddend format r shift
  pub difference : (k : ℕ) → format ≡ Mac32 → r.form.less ≡ less.Section k → IsWrittenDifference n at r k
  -- in mac64 each section that it names has a symbol, and the field holds the addend
  pub needed : (k : ℕ) → format ≡ Mac64 → names_section k s r ≡ true → (i : ℕ) × (slice_get (needed_sections n) i ≡ Some k)
  pub held : format ≡ Mac64 → HoldsAddend format r (written_shift at r.form.less meets.row)
  pub hint : format ≡ Mac64 → meets.row.hint ≡ r.hint

-- the object
pub record MeetsMach (format : Format) (n : Object) : Type 0 where
  pub bounds : AreBounded n
  pub few : length n.sections ≤ 255
  -- in mac64 with the symbols of the sections that are named
  pub table_32 : format ≡ Mac32 → mach_symbol_count W32 n < 2 ^ 24
  pub table_64 : format ≡ Mac64 → mach_symbol_count W64 n < 2 ^ 24
  pub groups : n.groups ≡ []
  pub sections : (k : ℕ) (s : Section) → slice_get n.sections k ≡ Some s → MachSection s
  pub symbols : (k : ℕ) (s : Symbol) → slice_get n.symbols k ≡ Some s → MachSymbol n s
  pub relocs : (s at : ℕ) (r : Reloc) → reloc_at n s at ≡ Some r → MachReloc format n s at r

-- every object that is ready for Mach-O meets this
abbrev pub FittedMeetsMach : Type 0
FittedMeetsMach = (format : Format) (n : Object) → container_of format ≡ IsMach → IsFitted format n → MeetsMach format n
