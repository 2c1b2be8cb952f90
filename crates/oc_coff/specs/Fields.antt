-- Relocated fields (PE/COFF, "COFF Relocations" and "Type Indicators"; our profile). The number that is added is in the field.
use Rattle.std.specs.{Prelude.{ℕ, Bool, not, ◌&&◌, nat_eq, List, find, slice_get, Option}, Option.{option_map, option_and_then}}
use Rattle.oc_linking.specs.{Rules.{Field}, Targets.{Target}}
use Rattle.oc_neutral.specs.{Rows.{Row}, RelocTables.{row_of}}
use Rattle.oc_shows.specs.RowFields.{field_in_place}
use Rattle.oc_base.specs.declared.format.Word.{Word}
use Rattle.oc_coff.specs.{declared.relocation.Relocation.{Relocation}, declared.constants.TheConstants.{IMAGE_REL_I386_ABSOLUTE}, Forms.{coff_format}}
use Rattle.oc_coff.specs.{Tables.{Tables}, Sections.{Carried, carried_in}, Targets.{target_in}}

-- an entry has no effect
abbrev pub says_nothing : Relocation → Bool
says_nothing r = nat_eq r.Type IMAGE_REL_I386_ABSOLUTE

-- the field of a relocation entry of section s with these contents, where its type has a row and its symbol is a target
unfoldable pub field_by : Word → (ℕ → Option Target) → ℕ → List ℕ → Relocation → Option Field
field_by w targets s contents r =
    option_and_then (λ (row : Row). option_map (field_in_place w row contents s r.VirtualAddress) (targets r.SymbolTableIndex)) (row_of (coff_format w) r.Type)

-- the entry is at that offset, and has an effect
abbrev pub relocates : ℕ → Relocation → Bool
relocates at r = nat_eq r.VirtualAddress at && not (says_nothing r)

-- the field at an offset of a section: that of the first entry there that has an effect
abbrev pub field_in : Word → (ℕ → Option Target) → ℕ → ℕ → Carried → Option Field
field_in w targets s at c = option_and_then (field_by w targets s c.section.contents) (find (relocates at) c.relocs)

-- the fields of a file, by the position of a carried section and the offset in it
unfoldable pub fields_in : Word → Tables → ℕ → ℕ → Option Field
fields_in w t s at = option_and_then (field_in w (target_in w t) s at) (slice_get (carried_in t) s)
