-- What the symbol of a relocation entry stands for (PE/COFF, "COFF Relocations"; our profile).
use Rattle.std.specs.{Prelude.{ℕ, Bool, false, if◌then◌else◌, List, Option, Some, None}, Option.{option_map, option_and_then}}
use Rattle.oc_base.specs.declared.format.Word.{Word}
use Rattle.oc_linking.specs.{declared.terms.Value.{Value}, Parts.{Section, Symbol}, Targets.{Target, symbol_target}}
use Rattle.oc_linking.specs.declared.terms.Value.TheVariants as value
use Rattle.oc_shows.specs.RowFields.{place_target}
use Rattle.oc_neutral.specs.TargetRelocations.{is_homeless}
use Rattle.oc_coff.specs.{Tables.{Tables}, Sections.{sections_in}, Entries.{Entry, entries_in, entry_numbered}, Symbols.{is_own, value_of, symbol_of}}

-- a target, and whether it lies in no section wherever it is placed
pub record Aim : Type 0 where
  pub target : Target
  pub homeless : Bool

-- a value as a target: a place, read off the placement
abbrev pub aim_at : Word → Value → Option Aim
aim_at w (value.Place k offset) = Some (record { target = place_target w k offset; homeless = false })
aim_at w (value.Absolute n) = None

-- a carried symbol as a target: its value is read off the valuation, by its number
abbrev pub aim_by : Symbol → Option Aim
aim_by s = option_map (λ (u : Target). record { target = u; homeless = is_homeless s.binding }) (symbol_target s)

-- a symbol that is not carried: where it is a STATIC one that stands for its place, that place
abbrev pub aim_own : Word → List Section → List Entry → Entry → Option (Option Aim)
aim_own w sections entries e = if is_own entries e then Some (option_and_then (aim_at w) (value_of sections e.symbol)) else None

-- a symbol, which is carried or not
abbrev pub aim_for : Word → List Section → List Entry → Entry → Option Symbol → Option (Option Aim)
aim_for w sections entries e None = aim_own w sections entries e
aim_for w sections entries e (Some s) = Some (aim_by s)

-- symbol number j; there is none, or there is one that no field can have
unfoldable pub aim_in : Word → Tables → ℕ → Option (Option Aim)
aim_in w t j =
    option_and_then (λ e. aim_for w (sections_in t) (entries_in t) e (symbol_of t.strings (sections_in t) (entries_in t) e)) (entry_numbered (entries_in t) j)

-- the target, where a field can have it
abbrev pub target_in : Word → Tables → ℕ → Option Target
target_in w t j = option_map (λ (a : Aim). a.target) (option_and_then (λ aim. aim) (aim_in w t j))
