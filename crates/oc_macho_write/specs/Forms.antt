-- How relocations are written, and what their numbers are made of (Mach-O reference, "Relocation Data Structures").
use Rattle.std.specs.{Prelude.{◌≡◌, ℕ, ◌^◌, ◌<◌, true, length, slice_get, slice_index_or, is_some, IfSome, Some, Ok}, List.{AllByRecursion}}
use Rattle.std.specs.Option.{option_and_then}
use Rattle.oc_base.specs.{declared.format.Word.{Word}, declared.format.Word.TheVariants.{W32}}
use Rattle.oc_linking.specs.declared.terms.Less.{Less}
use Rattle.oc_linking.specs.declared.terms.Less.TheVariants as less
use Rattle.oc_neutral.specs.{declared.reloc.Reloc.{Reloc}, declared.reloc.Target.{Target}, declared.symbol.Symbol.{Symbol}, KeySymbols.{global_place}}
use Rattle.oc_neutral.specs.{Normal.{Place}, Objects.{Object}, Spelling.{written_row, numbers_in}}
use Rattle.oc_neutral.specs.declared.reloc.Target.TheVariants as target
use Rattle.oc_target.specs.declared.forms.Spelling.TheVariants as spelling
use Rattle.oc_target.specs.{Lookup.{answer_of}, Meets.{HoldsAddend}}
use Rattle.oc_macho.specs.MachHeader.{mach_format}
use Rattle.oc_macho_file.specs.Bodies as bodies
use Rattle.oc_macho_write.specs.{declared.forms.FieldContext.{FieldContext}, declared.forms.SpelledReloc.{SpelledReloc}, Values.{AreAddresses}}

-- numbers are made of this object
pub record IsFieldContext (w : Word) (n : Object) (x : FieldContext) : Type 0 where
  pub word : x.word ≡ w
  pub addresses : AreAddresses n x.addresses.now
  pub symbols : x.symbols.now ≡ n.symbols

-- this is the relocation at its place, and its row gives how it is written
pub record IsWritten (w : Word) (x : SpelledReloc) (is : bodies.WrittenReloc) : Type 0 where
  pub section : x.section ≡ is.section
  pub at : x.at ≡ is.at
  pub reloc : x.reloc ≡ is.reloc
  pub row : written_row (mach_format w) is.reloc.form is.reloc.hint ≡ Some is.row
  pub spelled : answer_of (Some (numbers_in is.row.number is.row.second)) ≡ Ok x.spelling

-- this is what a function gives of the relocation as it is written, in each object that numbers are made of
abbrev pub IsValueFor : {A : Type 0} → (Word → Object → bodies.WrittenReloc → A) → Word → FieldContext → SpelledReloc → A → Type 0
IsValueFor value w x y this = (n : Object) (is : bodies.WrittenReloc) → IsFieldContext w n x → IsWritten w y is → this ≡ value w n is

-- the format has the form of this relocation at an offset of the section at a position
pub record HasForm (w : Word) (section at : ℕ) (r : Reloc) : Type 0 where
  pub written : bodies.WrittenReloc
  pub there : bodies.written_reloc_at w section at r ≡ Some written

-- numbers can be made of it: addresses have 32 bits, and each Global that has a place lies in a section
pub record IsReady (x : FieldContext) : Type 0 where
  pub small : (k : ℕ) → k < length x.addresses.now → slice_index_or x.addresses.now k 0 < 2 ^ 32
  pub few : length x.addresses.now < 2 ^ 8
  pub placed : AllByRecursion (λ (s : Symbol). IfSome (global_place s.binding) (λ (p : Place). p.0 < length x.addresses.now)) x.symbols.now

-- the target exists
abbrev pub IsThere : FieldContext → Target → Type 0
IsThere x (target.Section k) = k < length x.addresses.now
IsThere x (target.Symbol k) = k < length x.symbols.now

-- the section that is taken exists
abbrev pub IsLessThere : FieldContext → Less → Type 0
IsLessThere x less.Zero = Unit {0}
IsLessThere x less.Place = Unit {0}
IsLessThere x less.GotBase = Unit {0}
IsLessThere x less.ImageBase = Unit {0}
IsLessThere x less.Home = Unit {0}
IsLessThere x (less.Section k) = k < length x.addresses.now

-- the section at a position exists, and so does what a relocation of it refers to
pub record IsFor (x : FieldContext) (section : ℕ) (r : Reloc) : Type 0 where
  pub own : section < length x.addresses.now
  pub target : IsThere x r.target
  pub less : IsLessThere x r.form.less

-- the target has a place: a section, or a Global that lies in one
abbrev pub HasPlace : FieldContext → Target → Type 0
HasPlace x (target.Section k) = Unit {0}
HasPlace x (target.Symbol k) = is_some (option_and_then (λ s. global_place s.binding) (slice_get x.symbols.now k)) ≡ true

-- a relocation at an offset of the section at a position can be written; in i386, which writes a pair with addresses, its ends have places
pub record CanWrite (x : FieldContext) (section at : ℕ) (r : Reloc) : Type 0 where
  pub there : IsFor x section r
  pub form : HasForm x.word section at r
  pub ends : x.word ≡ W32 → is_some form.written.row.second ≡ true → HasPlace x r.target

-- what the relocation where it lies refers to exists, and in i386 the ends of a pair have places
pub record IsStanding (x : FieldContext) (y : SpelledReloc) : Type 0 where
  pub there : IsFor x y.section y.reloc
  pub ends : x.word ≡ W32 → (first second : ℕ) → y.spelling ≡ spelling.Pair first second → HasPlace x y.reloc.target

-- the field of a relocation holds its addend
abbrev pub FieldHolds : Word → Object → bodies.WrittenReloc → Type 0
FieldHolds w n is = HoldsAddend (mach_format w) is.reloc (bodies.field_shift w n is)

-- the field of this relocation holds its addend, in an object that numbers are made of
pub record IsHeld (x : FieldContext) (y : SpelledReloc) : Type 0 where
  pub object : Object
  pub context : IsFieldContext x.word object x
  pub is : bodies.WrittenReloc
  pub written : IsWritten x.word y is
  pub holds : FieldHolds x.word object is
