-- The bytes of all sections of an output, with the numbers in their fields (TIS OMF 1.1, "FIXUPP: Fixup Record").
use Rattle.std.specs.Prelude.{◌≡◌, List}
use Rattle.oc_neutral.specs.{declared.section.Section.{Section}, declared.symbol.Symbol.{Symbol}, Objects.{Object}, declared.reloc.Reloc.{Reloc}}
use Rattle.oc_neutral.specs.Rows.{shift_of}
use Rattle.oc_plans.specs.Numbered.{Numbering, all_with_numbers}
use Rattle.oc_base.specs.declared.format.Format.TheVariants.{Omf}
use Rattle.oc_target.specs.Meets.{HoldsAddend}
use Rattle.oc_omf_file.specs.Fixups.{field_number, written_reloc}
use Rattle.oc_omf_write.specs.Written.{HasRow}

-- the number in the field of a relocation of an object, wherever it lies
abbrev pub addend_in : Object → Numbering
addend_in n s at r = field_number n r

-- these are the numbers in the fields of an object with these symbols
pub record IsNumbering (symbols : List Symbol) (number_of : Numbering) : Type 0 where
  pub object : Object
  pub symbols_of : object.symbols ≡ symbols
  pub same : number_of ≡ addend_in object

-- a relocation of an object with these symbols can be written: OMF has a row for it, and by this row its field holds the addend that is written
pub record CanWrite (symbols : List Symbol) (r : Reloc) : Type 0 where
  pub object : Object
  pub symbols_of : object.symbols ≡ symbols
  pub has : HasRow r.form r.hint
  pub holds : HoldsAddend Omf (written_reloc object r) (shift_of has.row)

-- the sections of an object with the numbers of its relocations
abbrev pub sections_in : Object → List Section
sections_in n = all_with_numbers (addend_in n) n.relocs n.sections
