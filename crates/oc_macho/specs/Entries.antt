-- Relocation entries, alone and in pairs (Mach-O reference, "Relocation Data Structures"; our profile).
use Rattle.std.specs.Prelude.{ℕ, zero, suc, ◌+◌, Bool, true, false, not, ◌&&◌, nat_eq, if◌then◌else◌, List, length, slice_get, filter, Option, Some, None}
use Rattle.std.specs.{Option.{option_map, option_map_or, option_and_then, is_some}, List.{list_any}}
use Rattle.oc_base.specs.{declared.format.Word.{Word}, declared.format.Word.TheVariants.{W32, W64}}
use Rattle.oc_linking.specs.declared.terms.Keep.{Keep}
use Rattle.oc_neutral.specs.{declared.mach.TheConstants.{X86_64_RELOC_UNSIGNED, GENERIC_RELOC_PAIR}, Rows.{TakesSection, same_taken}}
use Rattle.oc_neutral.specs.Mach.Relocs.{MachRow, mach_entries, entry_among}
use Rattle.oc_shelf.specs.Reading.Firsts.{any_upto}
use Rattle.oc_macho.specs.{declared.entries.Item.{Item}, declared.relocation_info.RelocationInfo.{RelocationInfo}}
use Rattle.oc_macho.specs.{declared.relocation_info.Reference.{Reference}, declared.relocation_info.Reference.TheVariants.{Symbol, Section, Address}}
use Rattle.oc_macho.specs.{Tables.{SectionTable, Tables}, Sections.{is_kept}}

-- entries of a type may refer to their targets so
abbrev pub can_refer : MachRow → Reference → Bool
can_refer m (Symbol j) = m.by_symbol
can_refer m (Section k) = m.by_section
can_refer m (Address v) = m.by_address

-- the type of an entry, where there is one by which it may refer as it does
unfoldable pub row_for : Word → RelocationInfo → Option MachRow
row_for w e = option_and_then (λ m. if can_refer m e.refers then Some m else None) (entry_among (mach_entries w) e.r_type e.r_pcrel e.r_length)

-- the type of an entry is that of the first of a pair
abbrev pub is_first : Word → RelocationInfo → Bool
is_first w e = option_map_or (λ (m : MachRow). same_taken m.row.taken TakesSection) (row_for w e) false

-- the entry is scattered
abbrev pub is_scattered : Reference → Bool
is_scattered (Symbol j) = false
is_scattered (Section k) = false
is_scattered (Address v) = true

-- the type of an entry is that of the second of a pair: a PAIR, or an UNSIGNED
abbrev pub is_second : Word → RelocationInfo → Bool
is_second W32 e = is_scattered e.refers && nat_eq e.r_type GENERIC_RELOC_PAIR
is_second W64 e = not (is_scattered e.refers) && nat_eq e.r_type X86_64_RELOC_UNSIGNED

-- and it has all else that a second has: a PAIR has four bytes, and is not self-relative; an UNSIGNED is one that could stand alone
abbrev pub is_known_second : Word → RelocationInfo → Bool
is_known_second W32 e = nat_eq e.r_length 2 && nat_eq e.r_pcrel 0
is_known_second W64 e = is_some (row_for W64 e)

-- entry k exists, and is the first of a pair
abbrev pub is_first_at : Word → List RelocationInfo → ℕ → Bool
is_first_at w entries k = option_map_or (is_first w) (slice_get entries k) false

-- a field begins with entry k: it is not the second of a pair that begins with the entry before
abbrev pub begins : Word → List RelocationInfo → ℕ → Bool
begins w entries zero = true
begins w entries (suc k) = not (begins w entries k && is_first_at w entries k)

-- the entries of the field that begins with entry k, which is this one
abbrev pub item_with : Word → List RelocationInfo → ℕ → RelocationInfo → Item
item_with w entries k e = record { first = e; second = if is_first w e then slice_get entries (k + 1) else None }

-- those that begin with entry k
unfoldable pub item_at : Word → List RelocationInfo → ℕ → Option Item
item_at w entries k = if begins w entries k then option_map (item_with w entries k) (slice_get entries k) else None

-- the entry that refers to the target: of a SUBTRACTOR and its UNSIGNED the second, of a SECTDIFF and its PAIR the first
abbrev pub target_entry : Word → Item → RelocationInfo
target_entry W32 i = i.first
target_entry W64 i = option_map_or (λ e. e) i.second i.first

-- the entry that refers to what is taken, of a pair
abbrev pub taken_entry : Word → Item → Option RelocationInfo
taken_entry W32 i = i.second
taken_entry W64 i = option_map (λ e. i.first) i.second

-- what that one refers to
abbrev pub taken_reference : Word → Item → Option Reference
taken_reference w i = option_map (λ (e : RelocationInfo). e.refers) (taken_entry w i)

-- an entry refers to symbol number j
abbrev pub refers_to : ℕ → RelocationInfo → Bool
refers_to j e = names j e.refers
  where
    names : ℕ → Reference → Bool
    names j (Symbol k) = nat_eq k j
    names j (Section k) = false
    names j (Address v) = false

-- an item takes the address of symbol number j
abbrev pub takes_symbol : Word → ℕ → Item → Bool
takes_symbol w j i = option_map_or (refers_to j) (taken_entry w i) false

-- some item of a section does
abbrev pub is_taken_in : Word → ℕ → SectionTable → Bool
is_taken_in w j x = any_upto (λ k. option_map_or (takes_symbol w j) (item_at w x.relocs k) false) (length x.relocs)

-- symbol number j is pinned: some item of a kept section takes its address
unfoldable pub is_pinned : Tables → Keep → ℕ → Bool
is_pinned t keep j = list_any (is_taken_in t.word j) (filter (is_kept keep) t.sections)
