-- The row of a form, and the number in a field that is written by it.
use Rattle.std.proofs.Common.{◌≡◌, ℕ, Bool, true, false, cond, Option, Some, None, refl, sym, ◌∙◌, ap}
use Rattle.std.specs.{Prelude.{slice_get, find}, Option.{option_map_or}}
use Rattle.std.proofs.lemmas.Option.{none-some}
use Rattle.oc_base.specs.{declared.format.Format.TheVariants.{Omf}, declared.format.Word.TheVariants.{W32}}
use Rattle.oc_linking.specs.{declared.terms.Hint.{Hint}, declared.terms.Hint.TheVariants.{Plain}, Numbers.{or_else}}
use Rattle.oc_algebra.specs.{declared.form.Form.{Form}, Fields.{to_field_of}}
use Rattle.oc_neutral.specs.{declared.reloc.Reloc.{Reloc}, Objects.{Object}, Rows.{Row, Taken, TakesPlace, TakesSection, same_taken, taken_of, shift_of}}
use Rattle.oc_neutral.specs.{RelocTables.{rows_of}, Spelling.{is_written, row_taking, written_row}}
use Rattle.oc_linking.proofs.Testing.{found_there}
use Rattle.oc_target.proofs.MeetsRows.{of_table}
use Rattle.oc_omf_file.specs.Fixups.{written_reloc, row_by, number_or, number_by, field_number}
use Rattle.oc_omf_write.specs.Written.{HasRow, number_in, shift_by, number_with}

-- a row of the format
abbrev IsRow : Row → Type 0
IsRow row = (k : ℕ) × (slice_get (rows_of Omf) k ≡ Some row)

from_find : (form : Form) (hint : Hint) (t : Taken) (row : Row) → find (is_written form hint t) (rows_of Omf) ≡ Some row → IsRow row
from_find form hint t row e = let f = found_there (is_written form hint t) (rows_of Omf) row e in (f.0, f.1)

from_taking : (form : Form) (hint : Hint) (t : Taken) (row : Row) → row_taking Omf form hint t ≡ Some row → IsRow row
from_taking form hint t row e = by (find (is_written form hint t) (rows_of Omf)) refl e
  where
    by : (o : Option Row) → find (is_written form hint t) (rows_of Omf) ≡ o → or_else o (find (is_written form Plain t) (rows_of Omf)) ≡ Some row → IsRow row
    by None h e = from_find form Plain t row e
    by (Some r) h e = from_find form hint t row (h ∙ e)

-- what is written is a row of the format
of_format : (form : Form) (hint : Hint) (row : Row) → written_row Omf form hint ≡ Some row → IsRow row
unfolding written_row
of_format form hint row e = by (row_taking Omf form hint (taken_of form.less)) refl e
  where
    by_section : (b : Bool) → cond b (row_taking Omf form hint TakesSection) None ≡ Some row → IsRow row
    by_section false h = absurd (none-some row h)
    by_section true h = from_taking form hint TakesSection row h

    by : (o : Option Row) → row_taking Omf form hint (taken_of form.less) ≡ o
        → or_else o (cond (same_taken (taken_of form.less) TakesPlace) (row_taking Omf form hint TakesSection) None) ≡ Some row → IsRow row
    by None h e = by_section (same_taken (taken_of form.less) TakesPlace) e
    by (Some r) h e = from_taking form hint (taken_of form.less) row (h ∙ e)

-- its number tells its shift
row_shift : (row : Row) → IsRow row → shift_of row ≡ shift_by row.number
row_shift row is = of_table shift_of (λ (x : Row). shift_by x.number) (rows_of Omf) is.0 row refl is.1

module _ (r : Reloc) (has : HasRow r.form r.hint) where
  -- the shift of the row by its number
  pub shift_is : shift_of has.row ≡ shift_by (number_in (row_by r))
  shift_is = row_shift has.row (of_format r.form r.hint has.row has.written) ∙ ap (λ o. shift_by (number_in o)) (sym has.written)

  -- the number in the field by that of the row
  pub number_is : (n : Object) → field_number n r ≡ number_with (written_reloc n r) (number_in (row_by r))
  unfolding field_number
  number_is n =
      ap (λ o. option_map_or (number_by (written_reloc n r)) o 0) has.written
      ∙ ap (λ z. number_or (to_field_of W32 (written_reloc n r).form.width z (written_reloc n r).addend)) shift_is
