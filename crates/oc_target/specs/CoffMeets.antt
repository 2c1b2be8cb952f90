-- What a writer of COFF uses of an object that is ready to be written (PE/COFF, "Section Table", "COFF Relocations" and "COFF Symbol Table"; our profile).
use Rattle.std.specs.Prelude.{◌≡◌, ℕ, ◌+◌, ◌^◌, ◌<◌, ◌≤◌, true, false, List, length, slice_get, sum_by, Some, None}
use Rattle.oc_base.specs.{Strings.{is_given}, declared.format.Format.{Format}}
use Rattle.oc_linking.specs.{declared.terms.Kind.{Kind}, declared.terms.Kind.TheVariants.{Zero, Exception}, declared.terms.Hint.TheVariants.{Plain}}
use Rattle.oc_linking.specs.{declared.terms.Fallback.{Fallback}, declared.terms.Value.TheVariants.{Absolute}}
use Rattle.oc_linking.specs.declared.terms.Binding.TheVariants.{Global, Common, Weak}
use Rattle.oc_neutral.specs.{Family.{IsCoff}, Powers.{natural_align}, declared.section.Section.{Section}, declared.symbol.Symbol.{Symbol}}
use Rattle.oc_neutral.specs.{declared.reloc.Reloc.{Reloc}, Coff.Kinds.{coff_kind, coff_tag}}
use Rattle.oc_neutral.specs.Coff.Strings.{is_long, is_tabled, has_default, default_name, coff_strings, string_offset}
use Rattle.oc_neutral.specs.declared.coff.TheConstants.{IMAGE_SCN_CNT_UNINITIALIZED_DATA, ALIGN_BITS, MOST_NAME_OFFSET}
use Rattle.oc_neutral.specs.{Families.{family_of, container_of, section_range}, HomeNames.{output_names}, KindRules.{has, has_nul}, Objects.{Object, reloc_at}}
use Rattle.oc_neutral.specs.{RelocTables.{row_of}, Rows.{taken_of, shift_of}, WrittenSymbols.{is_written}}
use Rattle.oc_target.specs.{Fitted.{IsFitted}, Meets.{AreBounded, IsUncut, HasKeySymbol, IsPower, IsReadAs, MeetsReloc, HoldsAddend}}

-- the names that are given to the string table of an output, and where one lies
abbrev pub strings_of : Format → Object → List (List ℕ)
strings_of format n = coff_strings (family_of format).writes_local (output_names format n) n

abbrev pub offset_of : Format → Object → List ℕ → ℕ
offset_of format n = string_offset (family_of format).writes_local (output_names format n) n

-- a section
pub record CoffSection (format : Format) (n : Object) (s : Section) : Type 0 where
  pub uncut : IsUncut n s
  -- a name that has no room in the header lies in the string table, at an offset of at most seven digits
  pub given : is_tabled s.name ≡ true → is_given (strings_of format n) s.name ≡ true
  pub near : is_tabled s.name ≡ true → offset_of format n s.name ≤ MOST_NAME_OFFSET
  -- a group has its key symbol
  pub led : (g : ℕ) → s.group ≡ Some g → HasKeySymbol n g
  pub align : IsPower ALIGN_BITS s.align
  -- its tag leaves nothing out of 32 bits of flags
  pub small : s.tag < 2 ^ 32
  pub tag : coff_tag s.tag ≡ s.tag
  -- reading carries it, with this kind
  pub read : Kind
  pub carried : coff_kind s.name s.tag ≡ Some read
  pub kind : IsReadAs Exception s.kind read
  pub zero : s.kind ≡ Zero → has s.tag IMAGE_SCN_CNT_UNINITIALIZED_DATA ≡ true

-- a size and an alignment of a common
pub record IsNaturalCommon (size align : ℕ) : Type 0 where
  pub some : 0 < size
  pub small : size < 2 ^ 32
  pub natural : align ≡ natural_align size

-- a symbol
pub record CoffSymbol (format : Format) (n : Object) (s : Symbol) : Type 0 where
  pub name : has_nul s.name ≡ false
  -- a long name lies in the string table, and so does that of the symbol for a fallback
  pub given : is_written format s ≡ true → is_long s.name ≡ true → is_given (strings_of format n) s.name ≡ true
  pub default : (f : Fallback) → s.binding ≡ Weak f → has_default f ≡ true → is_given (strings_of format n) (default_name s.name) ≡ true
  pub absolute : (x : ℕ) → s.binding ≡ Global (Absolute x) → x < 2 ^ 32
  pub common : (size align : ℕ) → s.binding ≡ Common size align → IsNaturalCommon size align

-- a relocation
pub record CoffReloc (format : Format) (n : Object) (s at : ℕ) (r : Reloc) : Type 0 where
  pub meets : MeetsReloc format n s at r
  -- the type is one entry's, is found by its number of sixteen bits, and has an effect
  pub found : row_of format meets.row.number ≡ Some meets.row
  pub number : (0 < meets.row.number) × (meets.row.number < 2 ^ 16)
  pub single : meets.row.second ≡ None
  pub taken : meets.row.taken ≡ taken_of r.form.less
  pub hint : meets.row.hint ≡ Plain
  pub holds : HoldsAddend format r (shift_of meets.row)

-- the object
pub record MeetsCoff (format : Format) (n : Object) : Type 0 where
  pub bounds : AreBounded n
  pub few : length n.sections ≤ (section_range format).most
  -- the names that are given to the string table, each with its NUL
  pub strings : sum_by (λ (name : List ℕ). length name + 1) (strings_of format n) ≤ 2 ^ 31
  pub groups : (g : ℕ) → g < length n.groups → HasKeySymbol n g
  pub sections : (k : ℕ) (s : Section) → slice_get n.sections k ≡ Some s → CoffSection format n s
  pub symbols : (k : ℕ) (s : Symbol) → slice_get n.symbols k ≡ Some s → CoffSymbol format n s
  pub relocs : (s at : ℕ) (r : Reloc) → reloc_at n s at ≡ Some r → CoffReloc format n s at r

-- every object that is ready for COFF meets this
abbrev pub FittedMeetsCoff : Type 0
FittedMeetsCoff = (format : Format) (n : Object) → container_of format ≡ IsCoff → IsFitted format n → MeetsCoff format n
