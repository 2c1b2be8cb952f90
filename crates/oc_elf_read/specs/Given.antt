-- The relocation that is given to the Builder for each entry, and those that are given for a file (our profile).
use Rattle.std.specs.Prelude.{ℕ, ◌&&◌, ◌||◌, Bool, nat_eq, nat_lt, true, List, slice_get, Option, Some, None, if◌then◌else◌, ℤ, pos}
use Rattle.std.specs.Option.{option_map, option_map_or, option_and_then}
use Rattle.oc_base.specs.{declared.format.Word.{Word}, declared.format.Word.TheVariants.{W32, W64}, Numbers.{number_at}}
use Rattle.oc_linking.specs.{declared.terms.Width.{Width}, declared.terms.Width.TheVariants.{Eight}, Fits.{bytes_of}, declared.terms.Keep.{Keep}}
use Rattle.oc_linking.specs.Keeping.{keeps}
use Rattle.oc_algebra.specs.{Fields.{from_field_of}, Residues.{reduced_number}}
use Rattle.oc_linking.specs.Parts as parts
use Rattle.oc_shows.specs.{Built.{RelocMap}, RowValues.{row_reloc}}
use Rattle.oc_neutral.specs.{declared.reloc.Reloc.{Reloc}, Normal.{moved_addend}, Rows.{Row}}
use Rattle.oc_neutral.specs.declared.reloc.Target.TheVariants as target
use Rattle.oc_shelf.specs.{declared.reading.order.PlacedEntry.{PlacedEntry}, Reading.Order.{is_among}}
use Rattle.oc_elf.specs.{declared.meaning.Meaning.{Meaning}, declared.rel.Rel.{Rel}, CarriedSymbols.{home_of, symbol_position}, Classes.{word_of}}
use Rattle.oc_elf.specs.{Entries.{is_section_symbol}, CarriedSections.{sections_of}, Fields.{addend_in, is_idle, rel_at, row_for}, Frames.{FileFrame}}
use Rattle.oc_elf.specs.Tables.{entry_of, reloc_of}

-- the relocation of an entry with that row: against the section for its own symbol, with the offset added, else against the symbol
abbrev pub reloc_with : FileFrame → List ℕ → Rel → Row → Option Reloc
reloc_with f contents r row =
    if is_section_symbol (entry_of f r.r_sym)
    then option_map (λ k. row_reloc (word_of f.class) row 0 (moved_addend row.base (addend_in (word_of f.class) row contents r) (entry_of f r.r_sym).st_value) (target.Section k)) (home_of f (entry_of f r.r_sym))
    else option_map (λ k. row_reloc (word_of f.class) row 0 (addend_in (word_of f.class) row contents r) (target.Symbol k)) (symbol_position f r.r_sym)

-- where its type has a row
unfoldable pub reloc_by : FileFrame → List ℕ → Rel → Option Reloc
reloc_by f contents r = option_and_then (reloc_with f contents r) (row_for f r)

-- the number that is added, reduced, for a field of that width
abbrev pub addend_by : Word → Width → List ℕ → Rel → ℤ
addend_by W32 width contents r = from_field_of W32 width (pos 0) (number_at contents r.r_offset (bytes_of width))
addend_by W64 width contents r = from_field_of W64 Eight (pos 0) r.r_addend

-- the relocation of an entry with that meaning
abbrev pub reloc_meant : FileFrame → List ℕ → Rel → Meaning → Option Reloc
reloc_meant f contents r m =
    if is_section_symbol (entry_of f r.r_sym)
    then option_map (λ k. record { target = target.Section k; form = m.form; addend = reduced_number (word_of f.class) (moved_addend m.form.base (addend_by (word_of f.class) m.form.width contents r) (entry_of f r.r_sym).st_value); hint = m.hint }) (home_of f (entry_of f r.r_sym))
    else option_map (λ k. record { target = target.Symbol k; form = m.form; addend = addend_by (word_of f.class) m.form.width contents r; hint = m.hint }) (symbol_position f r.r_sym)

-- entry k of the table of section i with the offset of its field, where it has an effect
abbrev pub placed : FileFrame → ℕ → ℕ → Option PlacedEntry
placed f i k = if is_idle (reloc_of f i k) then None else Some (record { place = (reloc_of f i k).r_offset; index = k })

-- what is given for the field at an offset of the section at position s, where that is kept
unfoldable pub given_at : FileFrame → Keep → RelocMap
given_at f keep s at =
    option_and_then (λ (x : parts.Section). if keeps keep x.kind then option_and_then (reloc_by f x.contents) (rel_at f x.number at) else None) (slice_get (sections_of f) s)

-- the section at a position has a number below i; so has one that is not there
abbrev pub is_before : FileFrame → ℕ → ℕ → Bool
is_before f i s = option_map_or (λ (x : parts.Section). nat_lt x.number i) (slice_get (sections_of f) s) true

-- what is given for the sections with numbers below i
abbrev pub given_before : FileFrame → Keep → ℕ → RelocMap
given_before f keep i s at = if is_before f i s then given_at f keep s at else None

-- and for some entries of the table of section i, which is at position p
abbrev pub given_with : FileFrame → Keep → ℕ → ℕ → List PlacedEntry → RelocMap
given_with f keep i p entries s at = if is_before f i s || nat_eq s p && is_among entries at then given_at f keep s at else None
