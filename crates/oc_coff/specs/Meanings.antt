-- What the types of relocations mean, by the tables of all formats (PE/COFF, "Type Indicators").
use Rattle.std.specs.{Prelude.{ℕ, Option}, Option.{option_map}}
use Rattle.oc_base.specs.declared.format.Word.{Word}
use Rattle.oc_neutral.specs.{Rows.{Row, less_of}, RelocTables.{row_of}}
use Rattle.oc_coff.specs.{Forms.{coff_format}, declared.meaning.Meaning.{Meaning}}

-- the meaning of a row; no row of COFF takes a section
abbrev pub meant_by : Row → Meaning
meant_by row = record { form = record { base = row.base; less = less_of row.taken 0; width = row.width; check = row.check }; behind = row.behind }

-- the meaning of a type for a word
abbrev pub meaning_of : Word → ℕ → Option Meaning
meaning_of w type = option_map meant_by (row_of (coff_format w) type)
