-- Relocated fields (Mach-O reference, "Relocation Data Structures"; our profile).
--
-- Where an entry refers to a section, the field has an address of the file in it, and moves as the section does: added to the address at which the section
-- is placed is how far the one in the field is beyond the one that the file gives to the section. So it is with what is taken: where that is how far the
-- field's own section is moved, or where another section is, the address of the file is added again.
use Rattle.std.specs.Prelude.{ℕ, ◌+◌, Bool, ◌||◌, nat_eq, if◌then◌else◌, ℤ, pos, ◌+ℤ◌, ◌-ℤ◌, length, slice_get, Option, Some, None}
use Rattle.std.specs.Option.{option_map, option_map_or, option_and_then, unwrap_or, is_some}
use Rattle.oc_base.specs.declared.format.Word.{Word}
use Rattle.oc_linking.specs.{Numbers.{minus, first_upto}, Placing.{Placement}, Values.{Valuation, place_site}, Rules.{Field}}
use Rattle.oc_algebra.specs.Residues.{residue_of}
use Rattle.oc_neutral.specs.{Normal.{Place}, Rows.{TakesZero, TakesPlace, TakesGotBase, TakesImageBase, TakesHome, TakesSection, less_of}}
use Rattle.oc_neutral.specs.Mach.Relocs.{MachRow}
use Rattle.oc_shows.specs.RowFields.{number_in}
use Rattle.oc_neutral.specs.Worth as worth
use Rattle.oc_macho.specs.{declared.entries.Item.{Item}, Tables.{SectionTable, Tables}, Sections.{contents_of, address_of}}
use Rattle.oc_macho.specs.{Entries.{row_for, item_at, target_entry, taken_entry}, Aims.{Aim, target_in}}

-- what is known of a field: its type, its target, and, of a pair, what is taken
pub record FieldParts : Type 0 where
  pub row : MachRow
  pub target : Aim
  pub taken : Option Aim

-- the field of entries, where its type is known, and they refer to what a field can refer to
unfoldable pub field_parts_by : Tables → Item → Option FieldParts
field_parts_by t i =
    option_and_then
    (λ m. option_map (λ target. record { row = m; target = target; taken = option_and_then (target_in t) (taken_entry t.word i) }) (target_in t (target_entry t.word i)))
    (row_for t.word i.first)

-- the address of the file that the field counts in
abbrev pub counted_of : Aim → ℕ
counted_of a = unwrap_or a.counted 0

-- a self-relative field takes how far its own section is moved, and not its place
abbrev pub takes_move : FieldParts → Bool
takes_move x = x.row.by_move || is_some x.target.counted

-- what the file itself gives to what is taken, of a field at an offset of section s: to the place from which it counts, or to the section
abbrev pub given_back : Tables → ℕ → ℕ → FieldParts → ℕ
given_back t s at x = elim x.row.row.taken [
  | TakesZero ↦ 0
  | TakesPlace ↦ if takes_move x then address_of t (s + 1) + at + x.row.row.behind else 0
  | TakesGotBase ↦ 0
  | TakesImageBase ↦ 0
  | TakesHome ↦ 0
  | TakesSection ↦ option_map_or counted_of x.taken 0
]

-- the number that is added to the address of the target, from the number in the field
unfoldable pub added_by : Tables → ℕ → ℕ → ℤ → FieldParts → ℤ
added_by t s at F x = F -ℤ pos (counted_of x.target) +ℤ pos (given_back t s at x)

-- the section at the position of what is taken
abbrev pub taken_section : FieldParts → ℕ
taken_section x = option_map_or (λ (a : Aim). option_map_or (λ (place : Place). place.0) a.place 0) x.taken 0

-- the address of what is taken: that of a symbol is read off the valuation, unless its section is discarded and another file defines it. No section of
-- Mach-O is in a group, so none is ever discarded
abbrev pub taken_address : Word → Placement → Valuation → Aim → ℕ
taken_address w p v a =
    option_map_or (λ (place : Place). if p.discarded place.0 then (place_site w p place.0 place.1).address else (a.target.worth p v).site.address) a.place
    (a.target.worth p v).site.address

-- what is taken of a field at an offset of section s: of a pair, what the pair gives
abbrev pub taken_at : Word → ℕ → ℕ → FieldParts → Placement → Valuation → ℕ
taken_at w s at x p v = option_map_or (taken_address w p v) x.taken (worth.less_of p s at (x.target.target.worth p v) (less_of x.row.row.taken (taken_section x)))

-- the field at an offset of section s, which adds this number
abbrev pub field_with : Tables → ℕ → ℕ → ℤ → FieldParts → Field
field_with t s at a x = record {
  width = x.row.row.width;
  check = x.row.row.check;
  base = x.row.row.base;
  less = less_of x.row.row.taken (taken_section x);
  residue = λ p v. minus t.word (worth.base_of p (x.target.target.worth p v) x.row.row.base + residue_of t.word a) (taken_at t.word s at x p v + x.row.row.behind);
  target = x.target.target.named;
  hint = x.row.row.hint;
}

-- the number in a field at an offset of a section
abbrev pub number_of : SectionTable → ℕ → FieldParts → ℤ
number_of c at x = number_in x.row.row (contents_of c) at

-- the field at an offset of section s
unfoldable pub field_of : Tables → ℕ → ℕ → SectionTable → FieldParts → Field
field_of t s at c x = field_with t s at (added_by t s at (number_of c at x) x) x

-- the entries of the first field of a section that begins at an offset
unfoldable pub item_for : Tables → SectionTable → ℕ → Option Item
item_for t c at =
    first_upto (λ k. option_and_then (λ (i : Item). if nat_eq i.first.r_address at then Some i else None) (item_at t.word c.relocs k)) (length c.relocs)

-- the field of a section at an offset
abbrev pub field_parts_in : Tables → SectionTable → ℕ → Option FieldParts
field_parts_in t c at = option_and_then (field_parts_by t) (item_for t c at)

-- the fields of a file, by the position of a section and the offset in it
unfoldable pub fields_in : Tables → ℕ → ℕ → Option Field
fields_in t s at = option_and_then (λ c. option_map (field_of t s at c) (field_parts_in t c at)) (slice_get t.sections s)
