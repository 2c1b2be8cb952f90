-- What the types of relocation entries mean, by the tables of all formats (Mach-O reference, "Relocation Data Structures").
use Rattle.std.specs.{Prelude.{ℕ, Bool, false, if◌then◌else◌, Option, Some, None}, Option.{option_map, option_and_then}}
use Rattle.oc_base.specs.declared.format.Word.{Word}
use Rattle.oc_algebra.specs.declared.form.Form.{Form}
use Rattle.oc_linking.specs.declared.terms.Hint.{Hint}
use Rattle.oc_neutral.specs.{Rows.{less_of}, Mach.Relocs.{MachRow, mach_entries, entry_among}}
use Rattle.oc_macho.specs.{declared.meaning.Meaning.{Meaning}, declared.relocation_info.RelocationInfo.{RelocationInfo}, Entries.{row_for}}

-- a form with a hint, whose value is taken from so many bytes after the field's place, and never by how far a section is moved
abbrev pub meaning_with : Form → Hint → ℕ → Meaning
meaning_with form hint behind = record { form = form; hint = hint; behind = behind; by_move = false }

-- the meaning of a row; of one that takes a section, the first section stands for the one that the entries name
abbrev pub meant_by : MachRow → Meaning
meant_by m = record {
  form = record { base = m.row.base; less = less_of m.row.taken 0; width = m.row.width; check = m.row.check };
  hint = m.row.hint;
  behind = m.row.behind;
  by_move = m.by_move;
}

-- the meaning of the type, r_pcrel and r_length of an entry, where their row passes a test
abbrev pub meaning_by : (MachRow → Bool) → Word → RelocationInfo → Option Meaning
meaning_by test w e = option_map meant_by (option_and_then (λ m. if test m then Some m else None) (entry_among (mach_entries w) e.r_type e.r_pcrel e.r_length))

-- the meaning of an entry
abbrev pub meaning_of : Word → RelocationInfo → Option Meaning
meaning_of w e = option_map meant_by (row_for w e)
