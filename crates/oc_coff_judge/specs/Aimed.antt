-- What the symbols of relocation entries stand for, as far as judging asks (PE/COFF, "COFF Relocations"; our profile).
use Rattle.std.specs.{Prelude.{ℕ, if◌then◌else◌, List, length, map, Option, Some, None}, List.{range_with_len}, Option.{option_and_then}}
use Rattle.oc_linking.specs.{declared.terms.Value.{Value}, declared.terms.Binding.{Binding}}
use Rattle.oc_linking.specs.declared.terms.Value.TheVariants as value
use Rattle.oc_neutral.specs.TargetRelocations.{is_homeless, is_local_number}
use Rattle.oc_coff.specs.{Tables.{Tables}, Entries.{Entry, entries_in, entry_numbered, name_of}, Sections.{sections_in}, Symbols.{binding_of, is_own, value_of}}
use Rattle.oc_coff.specs.Targets as targets
use Rattle.oc_coff_judge.specs.{declared.aims.AimKind.{AimKind}, declared.aims.AimKind.TheVariants.{Nothing, Home, Homeless}}

-- a target, where a field can have it
abbrev pub face_of : Option targets.Aim → AimKind
face_of None = Nothing
face_of (Some a) = if a.homeless then Homeless else Home

-- a carried symbol, by its binding
abbrev pub aim_bound : Binding → AimKind
aim_bound b = if is_local_number b then Nothing else (if is_homeless b then Homeless else Home)

-- a symbol that stands for its place, by its value
abbrev pub aim_placed : Option Value → AimKind
aim_placed None = Nothing
aim_placed (Some (value.Place k offset)) = Home
aim_placed (Some (value.Absolute n)) = Nothing

-- a symbol, by the binding that it has where it is carried; none where no entry can name it
abbrev pub aim_with : Tables → Entry → Option Binding → Option AimKind
aim_with t e None = if is_own (entries_in t) e then Some (aim_placed (value_of (sections_in t) e.symbol)) else None
aim_with t e (Some b) = Some (aim_bound b)

abbrev pub aim_for : Tables → Entry → Option AimKind
aim_for t e = aim_with t e (binding_of (sections_in t) (entries_in t) (name_of t.strings e) e)

-- symbol number j, where there is one
abbrev pub aim_numbered : Tables → ℕ → Option AimKind
aim_numbered t j = option_and_then (aim_for t) (entry_numbered (entries_in t) j)

-- each entry of the symbol table
abbrev pub aims_in : Tables → List (Option AimKind)
aims_in t = map (aim_numbered t) (range_with_len 0 (length t.entries))
