-- The bytes and the relocation entries of an output's sections (Mach-O reference, "Relocation Data Structures"; our profile).
use Rattle.std.specs.Prelude.{ℕ, ◌+◌, if◌then◌else◌, ℤ, pos, ◌+ℤ◌, List, [], ◌∷◌, flat_map, Option, Some, None, Result, Ok, Err}
use Rattle.std.specs.Option.{option_map, option_map_or}
use Rattle.oc_base.specs.{declared.format.Word.{Word}, declared.format.Word.TheVariants.{W32, W64}}
use Rattle.oc_linking.specs.{declared.terms.Patch.{Patch}, Images.{overlay}}
use Rattle.oc_algebra.specs.{declared.fields.AddendTooWide.{AddendTooWide}, Fields.{to_field_of}}
use Rattle.oc_chains.specs.{declared.field.Field.{Field}, Lists.{list_of}}
use Rattle.oc_neutral.specs.{declared.section.Section.{Section}, declared.reloc.Reloc.{Reloc}, declared.reloc.Target.{Target}, Mach.Relocs.{length_of}}
use Rattle.oc_neutral.specs.{Normal.{Place}, Objects.{Object, reloc_at}, Rows.{Row, TakesPlace, same_taken}}
use Rattle.oc_neutral.specs.{Shifts.{EntryTarget, Symbolic, Sectional, entry_target_shift, sectdiff_shift, written_shift}, Spelling.{written_row}}
use Rattle.oc_neutral.specs.TargetRelocations.{section_taken}
use Rattle.oc_neutral.specs.declared.reloc.Target.TheVariants as target
use Rattle.oc_shows.specs.Seen.{place_at}
use Rattle.oc_shelf.specs.Writing.Parts.{Laid}
use Rattle.oc_macho.specs.{declared.relocation_info.Reference.{Reference}, declared.relocation_info.RelocationInfo.{RelocationInfo}, MachHeader.{mach_format}}
use Rattle.oc_macho.specs.declared.relocation_info.Reference.TheVariants as reference
use Rattle.oc_macho_file.specs.{Addresses.{address_of}, Lines.{Line, own_number, symbol_number}}

-- a relocation with its place, at an offset of the section at a position, and the row by which it is written
pub record WrittenReloc : Type 0 where
  pub section : ℕ
  pub at : ℕ
  pub reloc : Reloc
  pub row : Row

-- the section that a pair takes: the field's own, where it is the field's place that is taken
abbrev pub taken_section : WrittenReloc → ℕ
taken_section x = option_map_or (λ k. k) (section_taken x.reloc.form.less) x.section

-- the place of an end of a difference
abbrev pub end_place : Object → Target → Option Place
end_place n (target.Section k) = Some (k, 0)
end_place n (target.Symbol k) = place_at n k

-- its address, and that of its section
abbrev pub end_address : Object → Target → ℕ
end_address n t = option_map_or (λ (place : Place). address_of n place.0 + place.1) (end_place n t) 0

abbrev pub end_section_address : Object → Target → ℕ
end_section_address n t = option_map_or (λ (place : Place). address_of n place.0) (end_place n t) 0

-- ... the number in the field

-- what an entry of i386 that stands alone refers to
abbrev pub entry_target_of : Object → Target → EntryTarget
entry_target_of n (target.Section k) = Sectional (address_of n k)
entry_target_of n (target.Symbol k) = Symbolic

-- what the addend has beyond the number in the field: in i386, of an entry that stands alone, the address that the object gives to the field,
-- where its place is taken; of a pair, the address of the section that is taken, less that of the target
abbrev pub alone_shift : Object → WrittenReloc → ℤ
alone_shift n x = (if same_taken x.row.taken TakesPlace then pos (address_of n x.section + x.at) else pos 0) +ℤ entry_target_shift (entry_target_of n x.reloc.target)

abbrev pub pair_shift : Object → WrittenReloc → ℤ
pair_shift n x = sectdiff_shift (end_address n x.reloc.target) (address_of n (taken_section x))

-- in x86-64, which names each section by a symbol, no address of the object counts
abbrev pub field_shift : Word → Object → WrittenReloc → ℤ
field_shift W32 n x = option_map_or (λ second. pair_shift n x) x.row.second (alone_shift n x)
field_shift W64 n x = written_shift x.at x.reloc.form.less x.row

-- the number of an answer, 0 where there is none
abbrev pub number_or : Result ℕ AddendTooWide → ℕ
number_or (Ok n) = n
number_or (Err e) = 0

-- the number in the field
unfoldable pub field_number : Word → Object → WrittenReloc → ℕ
field_number w n x = number_or (to_field_of w x.reloc.form.width (field_shift w n x) x.reloc.addend)

-- the relocation with the row that is written for it
abbrev pub written_reloc_at : Word → ℕ → ℕ → Reloc → Option WrittenReloc
written_reloc_at w s at r = option_map (λ row. record { section = s; at = at; reloc = r; row = row }) (written_row (mach_format w) r.form r.hint)

-- the field with its number
abbrev pub field_patch : Word → Object → ℕ → ℕ → Reloc → Patch
field_patch w n s at r = record { width = r.form.width; check = r.form.check; residue = option_map_or (field_number w n) (written_reloc_at w s at r) 0 }

-- the fields of the section at a position
abbrev pub field_patches : Word → Object → ℕ → ℕ → Option Patch
field_patches w n s at = option_map (field_patch w n s at) (reloc_at n s at)

-- its bytes, with the numbers in the fields
unfoldable pub raw_of : Word → Object → ℕ → Section → List ℕ
raw_of w n s x = overlay (field_patches w n s) 0 x.bytes

-- ... the entries

-- what an entry refers to for a target: a section by its number, or in x86-64 by its symbol
abbrev pub reference_to : Word → List (Laid Line) → Target → Reference
reference_to W32 lines (target.Section k) = reference.Section (k + 1)
reference_to W64 lines (target.Section k) = reference.Symbol (own_number lines k)
reference_to w lines (target.Symbol k) = reference.Symbol (symbol_number lines k)

-- an entry that is not scattered; it is self-relative where the field's place is taken
abbrev pub plain_entry : WrittenReloc → ℕ → Reference → RelocationInfo
plain_entry x type refers = record {
  r_address = x.at;
  r_pcrel = if same_taken x.row.taken TakesPlace then 1 else 0;
  r_length = length_of x.row.width;
  r_type = type;
  refers = refers;
}

-- a scattered one, of four bytes
abbrev pub scattered_entry : ℕ → ℕ → ℕ → RelocationInfo
scattered_entry at type address = record { r_address = at; r_pcrel = 0; r_length = 2; r_type = type; refers = reference.Address address }

-- a pair: in i386 LOCAL_SECTDIFF with the address of the target's section, and PAIR, whose own address is 0, with that of the section that is
-- taken; in x86-64 SUBTRACTOR of the section that is taken, and UNSIGNED of the target
abbrev pub pair_entries : Word → Object → List (Laid Line) → WrittenReloc → ℕ → List RelocationInfo
pair_entries W32 n lines x second =
    scattered_entry x.at x.row.number (end_section_address n x.reloc.target) ∷ scattered_entry 0 second (address_of n (taken_section x)) ∷ []
pair_entries W64 n lines x second =
    plain_entry x x.row.number (reference.Symbol (own_number lines (taken_section x))) ∷ plain_entry x second (reference_to W64 lines x.reloc.target) ∷ []

-- the entries of a relocation
unfoldable pub standing_entries : Word → Object → List (Laid Line) → WrittenReloc → List RelocationInfo
standing_entries w n lines x =
    elim x.row.second [ None ↦ plain_entry x x.row.number (reference_to w lines x.reloc.target) ∷ [] | Some second ↦ pair_entries w n lines x second ]

-- the entries of a relocation at an offset of the section at a position
abbrev pub entries_at : Word → Object → List (Laid Line) → ℕ → Field Reloc → List RelocationInfo
entries_at w n lines s x = option_map_or (standing_entries w n lines) (written_reloc_at w s x.at x.item) []

-- those of the section, by the offsets of their fields
unfoldable pub entries_of : Word → Object → List (Laid Line) → ℕ → List RelocationInfo
entries_of w n lines s = flat_map (entries_at w n lines s) (list_of n.relocs s)
