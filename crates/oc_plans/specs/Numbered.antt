-- Sections with the numbers of their relocations in their fields.
use Rattle.std.specs.{Prelude.{ℕ, List, map, Option}, List.{AllByRecursion, enumerate_from}, Option.{option_map}}
use Rattle.oc_linking.specs.{declared.terms.Patch.{Patch}, Images.{overlay}}
use Rattle.oc_chains.specs.{declared.field.Field.{Field}, Lists.{Lists, list_of}}
use Rattle.oc_neutral.specs.{declared.section.Section.{Section}, declared.reloc.Reloc.{Reloc}, Constants.{with_contents}, Objects.{reloc_among}}

-- the number in the field of a relocation, by the position of its section, its offset, and itself
abbrev pub Numbering : Type 0
Numbering = ℕ → ℕ → Reloc → ℕ

-- this is so of each of these relocations at its offset
abbrev pub AreAll : (ℕ → Reloc → Type 0) → List (Field Reloc) → Type 0
AreAll P fields = AllByRecursion (λ (f : Field Reloc). P f.at f.item) fields

-- the field of a relocation with the number that it has there
abbrev pub patch_by : (Reloc → ℕ) → Reloc → Patch
patch_by number_of r = record { width = r.form.width; check = r.form.check; residue = number_of r }

-- the fields of relocations with their numbers, by their offsets
abbrev pub patches_by : (ℕ → Reloc → ℕ) → List (Field Reloc) → ℕ → Option Patch
patches_by number_of fields at = option_map (patch_by (number_of at)) (reloc_among fields at)

-- a section with the numbers of these relocations in their fields
abbrev pub with_numbers : (ℕ → Reloc → ℕ) → List (Field Reloc) → Section → Section
with_numbers number_of fields s = with_contents (overlay (patches_by number_of fields) 0 s.bytes) s

-- the section at a position with the numbers of its relocations
abbrev pub section_with_numbers : Numbering → Lists Reloc → ℕ × Section → Section
section_with_numbers number_of lists x = with_numbers (number_of x.0) (list_of lists x.0) x.1

-- all sections with the numbers of their relocations
abbrev pub all_with_numbers : Numbering → Lists Reloc → List Section → List Section
all_with_numbers number_of lists sections = map (section_with_numbers number_of lists) (enumerate_from 0 sections)
