-- The relocation that is given to the Builder for each field, and those that are given for a file (our profile).
use Rattle.std.specs.Prelude.{◌≡◌, ℕ, ◌+◌, ◌-◌, ◌&&◌, ◌||◌, nat_eq, nat_lt, if◌then◌else◌, ℤ, pos, ◌+ℤ◌, ◌-ℤ◌, List, slice_get, Option, Some, None}
use Rattle.std.specs.Option.{option_map, option_map_or, option_and_then, is_some, unwrap_or}
use Rattle.oc_base.specs.{declared.format.Word.{Word}, Numbers.{number_at}}
use Rattle.oc_linking.specs.{Fits.{bytes_of}, declared.terms.Keep.{Keep}, declared.terms.Less.{Less}}
use Rattle.oc_linking.specs.declared.terms.Less.TheVariants as less
use Rattle.oc_algebra.specs.{Fields.{extended}, Residues.{reduced_number}}
use Rattle.oc_shows.specs.{Built.{RelocMap}, RowValues.{row_reloc}}
use Rattle.oc_neutral.specs.{Normal.{Place}, declared.reloc.Reloc.{Reloc}, declared.reloc.Target.{Target}}
use Rattle.oc_neutral.specs.declared.reloc.Target.TheVariants as target
use Rattle.oc_shelf.specs.{declared.reading.order.PlacedEntry.{PlacedEntry}, Reading.Order.{is_among}}
use Rattle.oc_macho.specs.{declared.entries.Item.{Item}, declared.meaning.Meaning.{Meaning}, declared.nlist.Nlist.{Nlist}}
use Rattle.oc_macho.specs.{declared.relocation_info.Reference.{Reference}, Tables.{SectionTable, Tables}}
use Rattle.oc_macho.specs.{Sections.{address_of, contents_of, holder_of, is_kept}, Symbols.{offset_of}, Entries.{item_at, taken_reference, target_entry}}
use Rattle.oc_macho.specs.{Aims.{aim_in}, RelocationFaults.{beyond}, Fields.{FieldParts, added_by, field_parts_by, item_for, number_of, taken_section}}
use Rattle.oc_macho.specs.declared.relocation_info.Reference.TheVariants as reference
use Rattle.oc_macho.specs.Aims as aims
use Rattle.oc_macho_read.specs.{declared.aims.Aim.{Aim}, Built.{symbol_position}}

-- ... targets

-- the section of a symbol that is not carried, as a target, or else the symbol by its position
abbrev pub target_by : ℕ → Option ℕ → Target
target_by section None = target.Section section
target_by section (Some position) = target.Symbol position

abbrev pub symbol_target : Tables → Keep → ℕ → Option Nlist → Target
symbol_target t keep j s = target_by (option_map_or (λ (s : Nlist). s.n_sect - 1) s 0) (symbol_position t keep j)

-- what a relocation is against, where an entry refers so
abbrev pub target_for : Tables → Keep → Reference → Target
target_for t keep (reference.Symbol j) = symbol_target t keep j (slice_get t.symbols j)
target_for t keep (reference.Section k) = target.Section (k - 1)
target_for t keep (reference.Address v) = target.Section (unwrap_or (holder_of t v) 0 - 1)

-- ... relocations

-- how far what is taken is beyond the start of its section
abbrev pub taken_offset : FieldParts → ℕ
taken_offset x = option_map_or beyond x.taken 0

-- the relocation of a field at an offset of section s with that number in it
abbrev pub reloc_as : Tables → Keep → ℕ → ℕ → ℤ → Item → FieldParts → Reloc
reloc_as t keep s at F i x =
    row_reloc t.word x.row.row (taken_section x) (added_by t s at F x -ℤ pos (taken_offset x)) (target_for t keep (target_entry t.word i).refers)

-- of the entries of a field, where their types are known, and they refer to what a field can refer to
unfoldable pub reloc_by : Tables → Keep → ℕ → SectionTable → Item → Option Reloc
reloc_by t keep s c i = option_map (λ (x : FieldParts). reloc_as t keep s i.first.r_address (number_of c i.first.r_address x) i x) (field_parts_by t i)

-- of the first field of a section that begins at an offset
abbrev pub reloc_in : Tables → Keep → ℕ → ℕ → SectionTable → Option Reloc
reloc_in t keep s at c = option_and_then (reloc_by t keep s c) (item_for t c at)

-- what is given for the field at an offset of section s, where that is kept
unfoldable pub given_at : Tables → Keep → RelocMap
given_at t keep s at = option_and_then (λ (c : SectionTable). if is_kept keep c then reloc_in t keep s at c else None) (slice_get t.sections s)

-- ... entry by entry

-- the field that begins with entry k of a section, by its offset and that number
abbrev pub placed : Tables → SectionTable → ℕ → Option PlacedEntry
placed t c k = option_map (λ (i : Item). record { place = i.first.r_address; index = k }) (item_at t.word c.relocs k)

-- what is given for the sections before section p
abbrev pub given_before : Tables → Keep → ℕ → RelocMap
given_before t keep p s at = if nat_lt s p then given_at t keep s at else None

-- and for some fields of section p
abbrev pub given_with : Tables → Keep → ℕ → List PlacedEntry → RelocMap
given_with t keep p entries s at = if nat_lt s p || nat_eq s p && is_among entries at then given_at t keep s at else None

-- ... by meanings

-- what an entry refers to, as building asks for it
abbrev pub section_aim : Tables → ℕ → Aim
section_aim t k = record { target = target.Section (k - 1); counted = Some (address_of t k); section = k - 1; beyond = 0 }

abbrev pub symbol_aim : Tables → Keep → ℕ → Nlist → Aim
symbol_aim t keep j s = record { target = target_by (s.n_sect - 1) (symbol_position t keep j); counted = None; section = s.n_sect - 1; beyond = offset_of t s }

-- a reference is to something to which a field can refer
pub record IsAimed (t : Tables) (r : Reference) : Type 0 where
  pub aim : aims.Aim
  pub is : aim_in t r ≡ Some (Some aim)

-- it is to something that has a place which no other definition can change
pub record IsTakeable (t : Tables) (r : Reference) : Type 0 where
  pub aim : aims.Aim
  pub is : aim_in t r ≡ Some (Some aim)
  pub place : Place
  pub placed : aim.place ≡ Some place

-- nothing, as building asks for it
abbrev pub no_aim : Aim
no_aim = record { target = target.Section 0; counted = None; section = 0; beyond = 0 }

abbrev pub aim_for : Tables → Keep → Reference → Aim
aim_for t keep (reference.Symbol j) = option_map_or (symbol_aim t keep j) (slice_get t.symbols j) no_aim
aim_for t keep (reference.Section k) = section_aim t k
aim_for t keep (reference.Address v) = section_aim t (unwrap_or (holder_of t v) 0)

-- the same of what a pair takes
abbrev pub taken_aim : Tables → Keep → Item → Option Aim
taken_aim t keep i = option_map (aim_for t keep) (taken_reference t.word i)

-- the address of the file that the field counts in
abbrev pub counted_by : Aim → ℕ
counted_by a = unwrap_or a.counted 0

-- what the file itself gives to what is taken, of a field at an offset of a section that has that address in the file
abbrev pub given_meant : ℕ → ℕ → Meaning → Aim → Option Aim → ℕ
given_meant address at m a taken = elim m.form.less [
  | less.Zero ↦ 0
  | less.Place ↦ if m.by_move || is_some a.counted then address + at + m.behind else 0
  | less.GotBase ↦ 0
  | less.ImageBase ↦ 0
  | less.Home ↦ 0
  | less.Section k ↦ option_map_or counted_by taken 0
]

-- what is taken: of a pair, the section that its entries say
abbrev pub less_meant : Less → Option Aim → Less
less_meant less.Zero taken = less.Zero
less_meant less.Place taken = less.Place
less_meant less.GotBase taken = less.GotBase
less_meant less.ImageBase taken = less.ImageBase
less_meant less.Home taken = less.Home
less_meant (less.Section k) taken = less.Section (option_map_or (λ (a : Aim). a.section) taken 0)

-- the addend, of a field with that number in it
abbrev pub addend_meant : Word → ℕ → ℕ → ℤ → Meaning → Aim → Option Aim → ℤ
addend_meant w address at F m a taken =
    reduced_number w
    (F -ℤ pos (counted_by a) +ℤ pos (given_meant address at m a taken) -ℤ pos (option_map_or (λ (a : Aim). a.beyond) taken 0 + m.behind))

-- the relocation
abbrev pub reloc_meant : Word → ℕ → ℕ → ℤ → Meaning → Aim → Option Aim → Reloc
reloc_meant w address at F m a taken = record {
  target = a.target;
  form = record { base = m.form.base; less = less_meant m.form.less taken; width = m.form.width; check = m.form.check };
  addend = addend_meant w address at F m a taken;
  hint = m.hint;
}

-- of the entries of a field of section s
abbrev pub reloc_of_item : Tables → Keep → ℕ → SectionTable → Item → Meaning → Reloc
reloc_of_item t keep s c i m =
    reloc_meant t.word c.header.addr i.first.r_address (extended m.form.width (number_at (contents_of c) i.first.r_address (bytes_of m.form.width))) m
    (aim_for t keep (target_entry t.word i).refers) (taken_aim t keep i)

-- the entries of a field refer to what they can refer to
pub record AreAimed (t : Tables) (i : Item) : Type 0 where
  pub target : IsAimed t (target_entry t.word i).refers
  pub taken : (r : Reference) → taken_reference t.word i ≡ Some r → IsTakeable t r
