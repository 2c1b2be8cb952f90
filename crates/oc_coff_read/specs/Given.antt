-- The relocation that is given to the Builder for each entry, and those that are given for a file (our profile).
use Rattle.oc_coff.specs.{Files.{CoffFile, tables_in}, declared.relocation.Relocation.{Relocation}, Tables.{Tables}}
use Rattle.oc_coff.specs.{Entries.{Entry, entries_in, entry_numbered}, Sections.{Carried, carried_in, sections_in}}
use Rattle.oc_coff.specs.{Symbols.{is_own, symbol_of, symbols_in, value_of}, Forms.{coff_format}, Fields.{relocates, says_nothing}, Targets.{Aim, aim_in}}
use Rattle.oc_coff.specs.declared.meaning.Meaning.{Meaning}
use Rattle.std.specs.Prelude.{◌≡◌, ℕ, ◌&&◌, ◌||◌, nat_eq, nat_lt, if◌then◌else◌, ℤ, pos, neg_ℤ, List, find, slice_get, slice_index_or, Option, Some, None}
use Rattle.std.specs.Option.{option_map, option_and_then}
use Rattle.oc_base.specs.{declared.format.Word.{Word}, Numbers.{number_at}}
use Rattle.oc_linking.specs.{declared.terms.Hint.TheVariants.{Plain}, declared.terms.Keep.{Keep}, declared.terms.Value.{Value}, Fits.{bytes_of}}
use Rattle.oc_linking.specs.{Keeping.{keeps}, Targets.{Target, symbol_target}}
use Rattle.oc_linking.specs.declared.terms.Value.TheVariants as value
use Rattle.oc_linking.specs.Parts as parts
use Rattle.oc_algebra.specs.{Fields.{from_field_of}, Residues.{reduced_number}}
use Rattle.oc_shows.specs.{Built.{RelocMap}, Computed.{position_of}, RowFields.{number_in}, RowValues.{row_reloc}}
use Rattle.oc_neutral.specs.{declared.reloc.Reloc.{Reloc}, declared.reloc.Target.{Target as RelocTarget}, Normal.{moved_addend}, RelocTables.{row_of}}
use Rattle.oc_neutral.specs.Rows.{Row}
use Rattle.oc_neutral.specs.declared.reloc.Target.TheVariants as target
use Rattle.oc_shelf.specs.{declared.reading.order.PlacedEntry.{PlacedEntry}, Reading.Order.{is_among}}
use Rattle.oc_coff_judge.specs.{declared.relocs.RelocTable.{RelocTable}, Numbered.{entry_by}, Relocs.{reloc_of}, Tagged.{symbol_position}}

-- the relocation of a row against a value: a place is a section's, with the offset added; a is the number in the field, and s the position of its section
abbrev pub reloc_at : Word → Row → ℕ → ℤ → Value → Option Reloc
reloc_at w row s a (value.Place k offset) = Some (row_reloc w row s (moved_addend row.base a offset) (target.Section k))
reloc_at w row s a (value.Absolute n) = None

-- against a carried symbol, where that can be a target
abbrev pub reloc_to : Word → Tables → Row → ℕ → ℤ → parts.Symbol → Option Reloc
reloc_to w t row s a x = option_map (λ (u : Target). row_reloc w row s a (target.Symbol (position_of (symbols_in t) x.number))) (symbol_target x)

-- against a symbol, which is carried or stands for its place
abbrev pub reloc_for : Word → Tables → Row → ℕ → ℤ → Entry → Option parts.Symbol → Option Reloc
reloc_for w t row s a e None = if is_own (entries_in t) e then option_and_then (reloc_at w row s a) (value_of (sections_in t) e.symbol) else None
reloc_for w t row s a e (Some x) = reloc_to w t row s a x

-- the relocation of an entry of that row, in the section at position s with these contents
abbrev pub reloc_with : Word → Tables → ℕ → List ℕ → Relocation → Row → Option Reloc
reloc_with w t s contents r row =
    option_and_then (λ (e : Entry). reloc_for w t row s (number_in row contents r.VirtualAddress) e (symbol_of t.strings (sections_in t) (entries_in t) e))
    (entry_numbered (entries_in t) r.SymbolTableIndex)

-- where its type has a row
unfoldable pub reloc_by : Word → Tables → ℕ → List ℕ → Relocation → Option Reloc
reloc_by w t s contents r = option_and_then (reloc_with w t s contents r) (row_of (coff_format w) r.Type)

-- that of the first entry at an offset that has an effect
abbrev pub reloc_in : Word → Tables → ℕ → ℕ → Carried → Option Reloc
reloc_in w t s at c = option_and_then (reloc_by w t s c.section.contents) (find (relocates at) c.relocs)

-- what is given for the field at an offset of the section at position s, where that is kept
unfoldable pub given_at : Word → Tables → Keep → RelocMap
given_at w t keep s at = option_and_then (λ (c : Carried). if keeps keep c.section.kind then reloc_in w t s at c else None) (slice_get (carried_in t) s)

-- ... by meanings

-- an entry's symbol exists, and a field can have it
pub record IsAimed (w : Word) (t : Tables) (j : ℕ) : Type 0 where
  pub aim : Aim
  pub is : aim_in w t j ≡ Some (Some aim)

-- the number that is added, reduced: it is in the field, and the value is counted from a place after that
abbrev pub addend_by : Word → Meaning → List ℕ → ℕ → ℤ
addend_by w m contents at = from_field_of w m.form.width (neg_ℤ (pos m.behind)) (number_at contents at (bytes_of m.form.width))

-- a relocation of a meaning
abbrev pub reloc_as : Meaning → RelocTarget → ℤ → Reloc
reloc_as m t a = record { target = t; form = m.form; addend = a; hint = Plain }

-- against a value
abbrev pub place_meant : Word → Meaning → ℤ → Value → Option Reloc
place_meant w m a (value.Place k offset) = Some (reloc_as m (target.Section k) (reduced_number w (moved_addend m.form.base a offset)))
place_meant w m a (value.Absolute n) = None

-- against a symbol that has a position among the carried ones, or has that value
abbrev pub symbol_meant : Word → Meaning → ℤ → Option Value → Option ℕ → Option Reloc
symbol_meant w m a v None = option_and_then (place_meant w m a) v
symbol_meant w m a v (Some k) = Some (reloc_as m (target.Symbol k) a)

-- of an entry, in a section with these contents
abbrev pub reloc_meant : Word → CoffFile → List ℕ → Relocation → Meaning → Option Reloc
reloc_meant w file contents r m =
    symbol_meant w m (addend_by w m contents r.VirtualAddress) (value_of (sections_in (tables_in file)) (entry_by file r.SymbolTableIndex).symbol) (symbol_position (tables_in file) r.SymbolTableIndex)

-- ... entry by entry

-- an entry with its number and the offset of its field, where it has an effect
abbrev pub placed_as : Relocation → ℕ → Option PlacedEntry
placed_as r k = if says_nothing r then None else Some (record { place = r.VirtualAddress; index = k })

-- entry k of a table; past the last, one that has no effect
abbrev pub entry_in : List Relocation → ℕ → Relocation
entry_in relocs k = slice_index_or relocs k (record { VirtualAddress = 0; SymbolTableIndex = 0; «Type» = 0 })

abbrev pub placed : List Relocation → ℕ → Option PlacedEntry
placed relocs k = placed_as (entry_in relocs k) k

-- the same, where the table lies in the file
abbrev pub placed_at : CoffFile → RelocTable → ℕ → Option PlacedEntry
placed_at file table k = placed_as (reloc_of file table k) k

-- what is given for the sections at the positions below p
abbrev pub given_before : Word → Tables → Keep → ℕ → RelocMap
given_before w t keep p s at = if nat_lt s p then given_at w t keep s at else None

-- and for some entries of the table of the section at position p
abbrev pub given_with : Word → Tables → Keep → ℕ → List PlacedEntry → RelocMap
given_with w t keep p entries s at = if nat_lt s p || nat_eq s p && is_among entries at then given_at w t keep s at else None
