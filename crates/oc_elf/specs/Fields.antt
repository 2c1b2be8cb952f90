-- Relocated fields (gABI, "Relocation"; i386 and x86-64 psABI, "Relocation Types"; our profile).
use Rattle.std.specs.Prelude.{ℕ, ℤ, Bool, not, ◌&&◌, ◌||◌, nat_eq, nat_lt, if◌then◌else◌, List, slice_get, Option, Some, None}
use Rattle.std.specs.Option.{option_map, option_map_or, option_and_then}
use Rattle.oc_linking.specs.{declared.terms.Width.TheVariants.{Eight}, Fits.{bytes_of}, Numbers.{first_upto}, Rules.{Field}, Targets.{Target, symbol_target}}
use Rattle.oc_linking.specs.Parts as parts
use Rattle.oc_algebra.specs.Fields.{extended}
use Rattle.oc_neutral.specs.{Rows.{Row}, RelocTables.{row_of}}
use Rattle.oc_shows.specs.RowFields.{number_in, place_target, row_field}
use Rattle.oc_base.specs.{declared.format.Word.{Word}, declared.format.Word.TheVariants.{W32, W64}}
use Rattle.oc_elf.specs.{declared.constants.TheConstants.{R_NONE}, declared.rel.Rel.{Rel}, Classes.{word_of, format_of}, Frames.{FileFrame}}
use Rattle.oc_elf.specs.{Tables.{symbol_count, entry_of, reloc_count, reloc_of}, Entries.{is_section_symbol}, CarriedSections.{sections_of}}
use Rattle.oc_elf.specs.CarriedSymbols.{symbol_of, home_of}

-- an entry that has no effect
abbrev pub is_idle : Rel → Bool
is_idle r = nat_eq r.r_type R_NONE

-- the row of its type
abbrev pub row_for : FileFrame → Rel → Option Row
row_for f r = row_of (format_of f.class) r.r_type

-- how many bytes its field has
abbrev pub width_of : FileFrame → Rel → ℕ
width_of f r = option_map_or (λ (row : Row). bytes_of row.width) (row_for f r) 0

-- the number that is added: it is in the field, or in the entry
abbrev pub addend_in : Word → Row → List ℕ → Rel → ℤ
addend_in W32 row contents r = number_in row contents r.r_offset
addend_in W64 row contents r = extended Eight r.r_addend

-- what symbol j stands for: a section's own symbol for a place in its section, a carried one for itself; entry 0 for nothing
unfoldable pub target_of : FileFrame → ℕ → Option Target
target_of f j =
    if nat_eq j 0 || not (nat_lt j (symbol_count f)) then None
    else (
    if is_section_symbol (entry_of f j) then option_map (λ k. place_target (word_of f.class) k (entry_of f j).st_value) (home_of f (entry_of f j))
    else option_and_then symbol_target (symbol_of f j)
    )

-- the field of an entry with that row, for the section at position s with these contents; no row of ELF takes a section
abbrev pub field_with : FileFrame → ℕ → List ℕ → Rel → Row → Target → Field
field_with f s contents r row target = row_field (word_of f.class) row 0 (addend_in (word_of f.class) row contents r) s r.r_offset target

-- where its type has a row, and its symbol can be a target
unfoldable pub field_by : FileFrame → ℕ → List ℕ → Rel → Option Field
field_by f s contents r = option_and_then (λ row. option_map (field_with f s contents r row) (target_of f r.r_sym)) (row_for f r)

-- entry k of the relocation table of section i, where its field begins at an offset
abbrev pub entry_at : FileFrame → ℕ → ℕ → ℕ → Option Rel
entry_at f i at k = if nat_eq (reloc_of f i k).r_offset at && not (is_idle (reloc_of f i k)) then Some (reloc_of f i k) else None

-- the first entry whose field begins there
unfoldable pub rel_at : FileFrame → ℕ → ℕ → Option Rel
rel_at f i at = first_upto (entry_at f i at) (reloc_count f i)

-- the field at an offset of the section at position s
unfoldable pub field_at : FileFrame → ℕ → ℕ → Option Field
field_at f s at = option_and_then (λ (x : parts.Section). option_and_then (field_by f s x.contents) (rel_at f x.number at)) (slice_get (sections_of f) s)
