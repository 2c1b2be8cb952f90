-- The relocation entries and the bytes of all sections of an output (Mach-O reference, "Relocation Data Structures"; our profile).
use Rattle.std.specs.{Prelude.{◌≡◌, ℕ, List, length, map}, List.{enumerate_from}, Option.{option_map_or}}
use Rattle.oc_base.specs.declared.format.Word.{Word}
use Rattle.oc_neutral.specs.{declared.section.Section.{Section}, declared.reloc.Reloc.{Reloc}, Objects.{Object}}
use Rattle.oc_plans.specs.Numbered.{Numbering}
use Rattle.oc_macho.specs.declared.relocation_info.RelocationInfo.{RelocationInfo}
use Rattle.oc_macho_file.specs.{Bodies.{field_number, raw_of, written_reloc_at}, Layout.{relocs_of}}
use Rattle.oc_macho_write.specs.{declared.forms.FieldContext.{FieldContext}, declared.numbers.Numbers.{Numbers}}
use Rattle.oc_macho_write.specs.Forms.{CanWrite, FieldHolds, IsReady, IsFieldContext}

-- the relocation entries of each section
abbrev pub all_entries : Word → Object → List (List RelocationInfo)
all_entries w n = map (λ (x : ℕ × Section). relocs_of w n x.0) (enumerate_from 0 n.sections)

-- there is a place for the number of each section and symbol
pub record HasNumbers (x : FieldContext) (numbers : Numbers) : Type 0 where
  pub owns : length numbers.owns.items ≡ length x.addresses.now
  pub outers : length numbers.outers.items ≡ length x.symbols.now

-- the bytes of each section
abbrev pub all_raws : Word → Object → List (List ℕ)
all_raws w n = map (λ (x : ℕ × Section). raw_of w n x.0 x.1) (enumerate_from 0 n.sections)

-- the number in the field of a relocation at an offset of the section at a position
abbrev pub number_at : Word → Object → Numbering
number_at w n s at r = option_map_or (field_number w n) (written_reloc_at w s at r) 0

-- these are the numbers in the fields of the object that numbers are made of
pub record IsNumbering (x : FieldContext) (number_of : Numbering) : Type 0 where
  pub object : Object
  pub context : IsFieldContext x.word object x
  pub same : number_of ≡ number_at x.word object

-- the number of a relocation at an offset of the section at a position can be made: it can be written, and its field holds the addend
pub record CanTell (x : FieldContext) (section at : ℕ) (r : Reloc) : Type 0 where
  pub ready : IsReady x
  pub can : CanWrite x section at r
  pub object : Object
  pub context : IsFieldContext x.word object x
  pub holds : FieldHolds x.word object can.form.written
