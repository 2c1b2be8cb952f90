-- What the relocation entries of kept sections must meet (PE/COFF, "COFF Relocations"; our profile).
use Rattle.std.specs.Prelude.{ℕ, ◌+◌, Bool, true, false, not, ◌&&◌, ◌||◌, nat_lt, if◌then◌else◌, List, [], ◌∷◌, ◌++◌, length, flat_map, filter, is_none, Option}
use Rattle.std.specs.{List.{list_any}, Option.{option_map_or}}
use Rattle.oc_base.specs.{declared.format.Word.{Word}, declared.code.Code.{Code}}
use Rattle.oc_base.specs.{declared.code.Code.TheVariants.{RelocKind, BadOffset, BadTarget, TargetKind, Overlap}, declared.fault.Fault.{Fault}}
use Rattle.oc_base.specs.declared.fault.Phase.TheVariants as phase
use Rattle.oc_linking.specs.{declared.terms.Keep.{Keep}, Keeping.{keeps}, Fits.{bytes_of}, FirstFault.{Condition, Stage}}
use Rattle.oc_linking.specs.declared.terms.Base.TheVariants.{HomeNumber}
use Rattle.oc_neutral.specs.{Rows.{Row, TakesHome, same_base, same_taken}, RelocTables.{row_of}, TargetSections.{each_of}}
use Rattle.oc_coff.specs.{declared.relocation.Relocation.{Relocation}, declared.relocation.TheConstants.{RELOCATION_SIZE}, Tables.{Tables}}
use Rattle.oc_coff.specs.{Sections.{Carried, carried_in}, Targets.{Aim, aim_in}, Forms.{coff_format}, Fields.{says_nothing}}

-- a relocation entry of a section with its place, and those before it in the section's table
pub record Judged : Type 0 where
  pub of : Carried
  pub at : ℕ
  pub earlier : List Relocation
  pub entry : Relocation

-- the entries of a section from a place on, after these
abbrev pub judged_from : Carried → ℕ → List Relocation → List Relocation → List Judged
judged_from c at earlier [] = []
judged_from c at earlier (r ∷ relocs) = record { of = c; at = at; earlier = earlier; entry = r } ∷ judged_from c (at + RELOCATION_SIZE) (earlier ++ r ∷ []) relocs

-- the entries of the kept sections, in their order
unfoldable pub judged_in : Tables → Keep → List Judged
judged_in t keep = flat_map (λ (c : Carried). judged_from c c.relocs_at [] c.relocs) (filter (λ (c : Carried). keeps keep c.section.kind) (carried_in t))

-- a fault of an entry
abbrev pub relocation_fault : Judged → Code → Fault
relocation_fault x code = record { phase = phase.Relocation; index = x.of.section.number; code = code; place = x.at }

-- the row has to do with the home of its target
abbrev pub needs_home : Row → Bool
needs_home row = same_base row.base HomeNumber || same_taken row.taken TakesHome

-- a field of that width at an offset meets that of another entry
abbrev pub meets_field : Word → ℕ → ℕ → Relocation → Bool
meets_field w at width r =
    option_map_or (λ (row : Row). nat_lt at (r.VirtualAddress + bytes_of row.width) && nat_lt r.VirtualAddress (at + width)) (row_of (coff_format w) r.Type) false

-- no field of that row can have the target
abbrev pub is_wrong_aim : Row → Option (Option Aim) → Bool
is_wrong_aim row aim = option_map_or (λ (a : Option Aim). option_map_or (λ (t : Aim). needs_home row && t.homeless) a true) aim false

-- the conditions on an entry of that row, by what its symbol is
abbrev pub row_conditions : Word → Judged → Relocation → Option (Option Aim) → Row → List Condition
row_conditions w x r aim row =
    (not x.of.stored || nat_lt x.of.section.size (r.VirtualAddress + bytes_of row.width), relocation_fault x BadOffset)
    ∷ (is_none aim, relocation_fault x BadTarget)
    ∷ (is_wrong_aim row aim, relocation_fault x TargetKind)
    ∷ (list_any (meets_field w r.VirtualAddress (bytes_of row.width)) x.earlier, relocation_fault x Overlap)
    ∷ []

-- the conditions on an entry
unfoldable pub relocation_conditions : Word → Tables → Judged → List Condition
relocation_conditions w t x =
    if says_nothing x.entry then []
    else (is_none (row_of (coff_format w) x.entry.Type), relocation_fault x RelocKind)
    ∷ option_map_or (row_conditions w x x.entry (aim_in w t x.entry.SymbolTableIndex)) (row_of (coff_format w) x.entry.Type) []

-- the entries in their order
abbrev pub relocation_stage : Word → Tables → Keep → Stage
relocation_stage w t keep = record { count = length (judged_in t keep); conditions = each_of (relocation_conditions w t) (judged_in t keep) }
