-- The relocation of a fixup for each of its fields, and those that are given for a module (our profile).
use Rattle.std.specs.Prelude.{ℕ, ◌-◌, Bool, true, nat_eq, find, if◌then◌else◌, List, slice_get, Option, Some, None}
use Rattle.std.specs.Option.{option_and_then, option_map, option_map_or}
use Rattle.oc_base.specs.declared.format.Word.TheVariants.{W32}
use Rattle.oc_linking.specs.{declared.terms.Keep.{Keep}, Keeping.{keeps}}
use Rattle.oc_linking.specs.Parts as parts
use Rattle.oc_linking.specs.Targets as file
use Rattle.oc_shows.specs.{Built.{RelocMap}, Computed.{position_of}, RowValues.{row_reloc}}
use Rattle.oc_neutral.specs.{declared.reloc.Reloc.{Reloc}, declared.reloc.Target.{Target}, Rows.{Row}}
use Rattle.oc_neutral.specs.declared.reloc.Target.TheVariants as target
use Rattle.oc_omf.specs.{declared.structures.Method.{Method}, Entries.{Entry}, Fields.{added_at, fixups_in, relocates, row_of}, Fixups.{Fixed}}
use Rattle.oc_omf.specs.{Sections.{sections_in}, Tables.{tables_of}, Targets.{Meaning, external_at, meaning_of, target_of}}

-- what a relocation is against by the method of its fixup's target: a section, or the symbol of an external
abbrev pub against : Meaning → Method → Option Target
against m x =
    if nat_eq x.number 0 then Some (target.Section (x.index - 1))
    else if nat_eq x.number 2 then option_map (λ (s : parts.Symbol). target.Symbol (position_of m.symbols s.number)) (external_at m x.index)
    else None

-- the relocation of a fixup for its field at an offset of the section at position s, by that method, where it has a row
abbrev pub reloc_to : Meaning → ℕ → ℕ → Fixed → Method → Option Reloc
reloc_to m s at x method =
    option_and_then (λ (u : file.Target). option_and_then (λ (row : Row). option_map (row_reloc W32 row s (added_at m s at x row)) (against m method)) (row_of m x u)) (target_of m method)

-- where a target is in force
unfoldable pub reloc_by : Meaning → ℕ → ℕ → Fixed → Option Reloc
reloc_by m s at x = option_and_then (reloc_to m s at x) x.target

-- the section at a position is kept; one that is not there counts as kept
abbrev pub is_kept_at : List Entry → Keep → ℕ → Bool
is_kept_at es keep s = option_map_or (λ (x : parts.Section). keeps keep x.kind) (slice_get (sections_in (tables_of es)) s) true

-- what is given for the field at an offset of the section at position s, where that is kept: the relocation of the first fixup there
unfoldable pub given_at : List Entry → Keep → RelocMap
given_at es keep s at = if is_kept_at es keep s then option_and_then (reloc_by (meaning_of es) s at) (find (relocates s at) (fixups_in es)) else None
