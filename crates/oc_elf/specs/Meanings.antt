-- What the types of relocations mean, by the tables of all formats (i386 and x86-64 psABI, "Relocation Types").
use Rattle.std.specs.{Prelude.{ℕ, Option}, Option.{option_map}}
use Rattle.oc_neutral.specs.{Rows.{Row, less_of}, RelocTables.{row_of}}
use Rattle.oc_elf.specs.{declared.class.ElfClass.{ElfClass}, declared.meaning.Meaning.{Meaning}, Classes.{format_of}}

-- the meaning of a row; no row of ELF takes a section
abbrev pub meant_by : Row → Meaning
meant_by row = record { form = record { base = row.base; less = less_of row.taken 0; width = row.width; check = row.check }; hint = row.hint }

-- the meaning of a type in a class
abbrev pub meaning_of : ElfClass → ℕ → Option Meaning
meaning_of class type = option_map meant_by (row_of (format_of class) type)
