-- Where headers point to (our profile).
use Rattle.std.specs.Prelude.{◌≡◌, ℕ, ◌<◌, Bool, if◌then◌else◌, List, length, slice_index_or, Some}
use Rattle.oc_base.specs.declared.format.Word.{Word}
use Rattle.oc_neutral.specs.Objects.{Object}
use Rattle.oc_plans.specs.Slots.{IsSetWhere}
use Rattle.oc_macho_file.specs.Layout as layout
use Rattle.oc_macho_file.specs.Layout.{part_where, is_raw, is_relocs, is_symbol_table, is_string_table}
use Rattle.oc_macho_write.specs.{declared.parts.Part.{Part}, declared.places.Places.{Places}, Parts.{part_in}}
use Rattle.oc_macho_write.specs.declared.parts.Part.TheVariants as part

-- as many places as the object has sections
pub record HasRoom (n : Object) (x : Places) : Type 0 where
  pub raws : length x.raws.items ≡ length n.sections
  pub relocs : length x.relocs.items ≡ length n.sections

-- nothing has a place yet
pub record IsBlank (x : Places) : Type 0 where
  pub raws : (k : ℕ) → k < length x.raws.items → slice_index_or x.raws.items k 0 ≡ 0
  pub relocs : (k : ℕ) → k < length x.relocs.items → slice_index_or x.relocs.items k 0 ≡ 0
  pub symbols : x.symbols ≡ 0
  pub strings : x.strings ≡ 0

-- there is a place for a part
abbrev pub CanGive : Places → Part → Type 0
CanGive x part.FileHead = Unit {0}
CanGive x part.SegmentHead = Unit {0}
CanGive x part.SectionHeads = Unit {0}
CanGive x part.SymtabHead = Unit {0}
CanGive x part.DysymtabHead = Unit {0}
CanGive x (part.Raw k) = k < length x.raws.items
CanGive x (part.Relocs k) = k < length x.relocs.items
CanGive x part.SymbolTable = Unit {0}
CanGive x part.StringTable = Unit {0}

-- the places have this one where the test holds of the part, and elsewhere what they had
abbrev pub IsGiven : (ℕ → layout.Part → Bool) → Part → ℕ → List ℕ → List ℕ → Type 0
IsGiven test this place old new =
    (n : Object) (is : layout.Part) → part_in n this ≡ Some is → IsSetWhere (λ k. test k is) place 0 old new

-- the place is this one if the test holds of the part, and else what it was
abbrev pub IsGivenIf : (layout.Part → Bool) → Part → ℕ → ℕ → ℕ → Type 0
IsGivenIf test this place old new =
    (n : Object) (is : layout.Part) → part_in n this ≡ Some is → new ≡ (if test is then place else old)

-- these are the places of the parts of the object's file
pub record ArePlaces (w : Word) (n : Object) (x : Places) : Type 0 where
  pub room : HasRoom n x
  pub raws : (k : ℕ) → k < length n.sections → slice_index_or x.raws.items k 0 ≡ part_where w n (is_raw k)
  pub relocs : (k : ℕ) → k < length n.sections → slice_index_or x.relocs.items k 0 ≡ part_where w n (is_relocs k)
  pub symbols : x.symbols ≡ part_where w n is_symbol_table
  pub strings : x.strings ≡ part_where w n is_string_table
