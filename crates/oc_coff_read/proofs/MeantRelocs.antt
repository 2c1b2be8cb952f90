-- What the meaning of a type makes of an entry is what its row makes of it.
use Rattle.oc_coff.specs.{Files.{CoffFile, tables_in}, declared.relocation.Relocation.{Relocation}, Tables.{Tables}}
use Rattle.oc_coff.specs.{Entries.{Entry, entries_in, entry_numbered}, Forms.{coff_format}, Sections.{sections_in}}
use Rattle.oc_coff.specs.{Symbols.{is_own, symbol_of, symbols_in, value_of}, Targets.{Aim, aim_at, aim_by, aim_for, aim_in}, declared.meaning.Meaning.{Meaning}}
use Rattle.oc_coff.specs.{Head.{IsHeaded}, Meanings.{meaning_of, meant_by}}
use Rattle.std.proofs.Common.{◌≡◌, ℕ, ◌<◌, length, Bool, true, false, cond, List, Option, None, Some, refl, sym, ◌∙◌, ap, subst, arith}
use Rattle.std.specs.{Prelude.{ℤ, ◌+ℤ◌, nat_eq}, Option.{option_and_then, option_map}}
use Rattle.std.proofs.lemmas.{Bool.{eqb-true, true≢false}, Option.{none-some, same_Some}}
use Rattle.oc_base.specs.declared.format.Word.{Word}
use Rattle.oc_linking.specs.{declared.terms.Hint.{Hint}, declared.terms.Hint.TheVariants.{Plain}, declared.terms.Less.{Less}, declared.terms.Value.{Value}}
use Rattle.oc_linking.specs.Targets.{symbol_target}
use Rattle.oc_linking.specs.declared.terms.Value.TheVariants as value
use Rattle.oc_linking.specs.Parts as parts
use Rattle.oc_linking.specs.Targets as file
use Rattle.oc_algebra.specs.{Fields.{from_field_of}, Residues.{reduced_number}}
use Rattle.oc_neutral.specs.{declared.reloc.Reloc.{Reloc}, declared.reloc.Target.{Target}, Normal.{moved_addend}, RelocTables.{row_of}}
use Rattle.oc_neutral.specs.{Rows.{Row, less_of, same_hint, shift_of}, TargetRelocations.{is_homeless}}
use Rattle.oc_neutral.specs.declared.reloc.Target.TheVariants as target
use Rattle.oc_shows.specs.{Computed.{position_of}, RowFields.{number_in}, RowValues.{row_reloc}}
use Rattle.oc_neutral.proofs.{MovedAddends.{moved_reduced}, Positions.{each_at}}
use Rattle.oc_coff_read.specs.Given.{IsAimed, addend_by, place_meant, reloc_as, reloc_at, reloc_by, reloc_for, reloc_meant, reloc_to, reloc_with, symbol_meant}
use Rattle.oc_coff_judge.specs.{Numbered.{entry_by}, Tagged.{carried_position}}
use Rattle.oc_coff_judge.proofs.EntryLemmas.{IsEntry, entries_sound, find_from}
use Rattle.oc_coff_read.proofs.RowLemmas.{IsMeant, IsRow, is_row, meant_none, meant_some, takes_same}

-- the number that is added, as the row has it
addend_is : (w : Word) (row : Row) (contents : List ℕ) (at : ℕ) → addend_by w (meant_by row) contents at ≡ reduced_number w (number_in row contents at +ℤ shift_of row)
unfolding from_field_of
addend_is w row contents at = refl

plain_hint : (h : Hint) → same_hint h Plain ≡ true → h ≡ Plain
plain_hint h e = grind arith

-- a relocation of a row, with its addend in other words
made_is : (w : Word) (row : Row) (s : ℕ) (a : ℤ) (t : Target) → IsRow row → reloc_as (meant_by row) t (reduced_number w (a +ℤ shift_of row)) ≡ row_reloc w row s a t
made_is w row s a t is =
    ap (λ (l : Less). record { target = t; form = record { base = row.base; less = l; width = row.width; check = row.check }; addend = reduced_number w (a +ℤ shift_of row); hint = Plain }) (takes_same row s is)
    ∙ ap (λ (h : Hint). record { target = t; form = record { base = row.base; less = less_of row.taken s; width = row.width; check = row.check }; addend = reduced_number w (a +ℤ shift_of row); hint = h }) (sym (plain_hint row.hint is.plain))

module _ (w : Word) (b : CoffFile) (head : IsHeaded b) where
  abbrev t : Tables
  t = tables_in b

  -- what a symbol stands for that a field can have
  by_symbol : (row : Row) (s : ℕ) (a : ℤ) (x : parts.Symbol) (aim : Aim) → IsRow row → aim_by x ≡ Some aim
      → Some (reloc_as (meant_by row) (target.Symbol (position_of (symbols_in t) x.number)) (reduced_number w (a +ℤ shift_of row))) ≡ reloc_to w t row s a x
  by_symbol row s a x aim is e = by (symbol_target x) e
    where
      p : ℕ
      p = position_of (symbols_in t) x.number

      by : (u : Option file.Target) → option_map (λ (u : file.Target). record { target = u; homeless = is_homeless x.binding }) u ≡ Some aim
          → Some (reloc_as (meant_by row) (target.Symbol p) (reduced_number w (a +ℤ shift_of row))) ≡ option_map (λ (u : file.Target). row_reloc w row s a (target.Symbol p)) u
      by None h = absurd (none-some aim h)
      by (Some u) h = ap (λ (r : Reloc). Some r) (made_is w row s a (target.Symbol p) is)

  by_value : (row : Row) (s : ℕ) (a : ℤ) (v : Option Value) (aim : Aim) → IsRow row → option_and_then (aim_at w) v ≡ Some aim
      → option_and_then (place_meant w (meant_by row) (reduced_number w (a +ℤ shift_of row))) v ≡ option_and_then (reloc_at w row s a) v
  by_value row s a None aim is e = refl
  by_value row s a (Some (value.Absolute m)) aim is e = refl
  by_value row s a (Some (value.Place k offset)) aim is e =
      ap (λ (n : ℤ). Some (reloc_as (meant_by row) (target.Section k) n)) (moved_reduced w row.base a (shift_of row) offset) ∙ ap (λ (r : Reloc). Some r) (made_is w row s (moved_addend row.base a offset) (target.Section k) is)

  by_entry : (row : Row) (s : ℕ) (a : ℤ) (e : Entry) (o : Option parts.Symbol) (aim : Aim) → IsRow row → aim_for w (sections_in t) (entries_in t) e o ≡ Some (Some aim)
      → symbol_meant w (meant_by row) (reduced_number w (a +ℤ shift_of row)) (value_of (sections_in t) e.symbol) (option_map (λ (x : parts.Symbol). position_of (symbols_in t) x.number) o) ≡ reloc_for w t row s a e o
  by_entry row s a e (Some x) aim is h = by_symbol row s a x aim is (same_Some (aim_by x) (Some aim) h)
  by_entry row s a e None aim is h = by (is_own (entries_in t) e) h
    where
      by : (c : Bool) → cond c (Some (option_and_then (aim_at w) (value_of (sections_in t) e.symbol))) None ≡ Some (Some aim)
          → option_and_then (place_meant w (meant_by row) (reduced_number w (a +ℤ shift_of row))) (value_of (sections_in t) e.symbol) ≡ cond c (option_and_then (reloc_at w row s a) (value_of (sections_in t) e.symbol)) None
      by true h = by_value row s a (value_of (sections_in t) e.symbol) aim is (same_Some (option_and_then (aim_at w) (value_of (sections_in t) e.symbol)) (Some aim) h)
      by false h = absurd (none-some (Some aim) h)

  meant_with : (s : ℕ) (contents : List ℕ) (r : Relocation) (row : Row) → IsRow row → IsAimed w t r.SymbolTableIndex → reloc_meant w b contents r (meant_by row) ≡ reloc_with w t s contents r row
  unfolding aim_in
  meant_with s contents r row is aimed = by (entry_numbered (entries_in t) r.SymbolTableIndex) refl aimed.is
    where
      a : ℤ
      a = number_in row contents r.VirtualAddress

      carried : Entry → Option parts.Symbol
      carried e = symbol_of t.strings (sections_in t) (entries_in t) e

      by : (o : Option Entry) → entry_numbered (entries_in t) r.SymbolTableIndex ≡ o → option_and_then (λ e. aim_for w (sections_in t) (entries_in t) e (carried e)) o ≡ Some (Some aimed.aim)
          → symbol_meant w (meant_by row) (addend_by w (meant_by row) contents r.VirtualAddress) (value_of (sections_in t) (entry_by b r.SymbolTableIndex).symbol) (option_and_then (carried_position t) o)
          ≡ option_and_then (λ (e : Entry). reloc_for w t row s a e (carried e)) o
      by None g h = absurd (none-some (Some aimed.aim) h)
      by (Some x) g h =
          let m = find_from (λ (y : Entry). nat_eq y.number r.SymbolTableIndex) (entries_in t) x g in
          let entry : IsEntry b x = each_at (IsEntry b) (entries_in t) m.place x (entries_sound b head) m.there in
          let same : entry_by b r.SymbolTableIndex ≡ x = ap (entry_by b) (sym (eqb-true x.number r.SymbolTableIndex m.passes)) ∙ sym entry.is in
          ap (λ (n : ℤ). symbol_meant w (meant_by row) n (value_of (sections_in t) (entry_by b r.SymbolTableIndex).symbol) (carried_position t x)) (addend_is w row contents r.VirtualAddress)
          ∙ ap (λ (e : Entry). symbol_meant w (meant_by row) (reduced_number w (a +ℤ shift_of row)) (value_of (sections_in t) e.symbol) (carried_position t x)) same
          ∙ by_entry row s a x (carried x) aimed.aim is h

  -- in the words of what makes it
  pub made_some : (contents : List ℕ) (r : Relocation) (m : Meaning) → meaning_of w r.Type ≡ Some m → IsAimed w t r.SymbolTableIndex → (s : ℕ) → reloc_meant w b contents r m ≡ reloc_by w t s contents r
  unfolding reloc_by
  made_some contents r m e aimed s = by (meant_some w r.Type m e)
    where
      by : IsMeant w r.Type m → reloc_meant w b contents r m ≡ option_and_then (reloc_with w t s contents r) (row_of (coff_format w) r.Type)
      by n =
          ap (reloc_meant w b contents r) (sym n.is) ∙ meant_with s contents r n.row (is_row w r.Type n.row n.listed) aimed
          ∙ sym (ap (option_and_then (reloc_with w t s contents r)) n.listed)

  pub made_none : (contents : List ℕ) (r : Relocation) → meaning_of w r.Type ≡ None → (s : ℕ) → None ≡ reloc_by w t s contents r
  unfolding reloc_by
  made_none contents r e s = sym (ap (option_and_then (reloc_with w t s contents r)) (meant_none w r.Type e))

-- the symbol of an aimed entry is in the table
pub aimed_low : (w : Word) (b : CoffFile) → IsHeaded b → (j : ℕ) → IsAimed w (tables_in b) j → j < length (tables_in b).entries
unfolding aim_in
aimed_low w b head j aimed = by (entry_numbered (entries_in (tables_in b)) j) refl aimed.is
  where
    by : (o : Option Entry) → entry_numbered (entries_in (tables_in b)) j ≡ o
        → option_and_then (λ e. aim_for w (sections_in (tables_in b)) (entries_in (tables_in b)) e (symbol_of (tables_in b).strings (sections_in (tables_in b)) (entries_in (tables_in b)) e)) o ≡ Some (Some aimed.aim)
        → j < length (tables_in b).entries
    by None g h = absurd (none-some (Some aimed.aim) h)
    by (Some x) g h =
        let m = find_from (λ (y : Entry). nat_eq y.number j) (entries_in (tables_in b)) x g in
        let entry : IsEntry b x = each_at (IsEntry b) (entries_in (tables_in b)) m.place x (entries_sound b head) m.there in
        subst (λ (n : ℕ). n < length (tables_in b).entries) (eqb-true x.number j m.passes) entry.low
