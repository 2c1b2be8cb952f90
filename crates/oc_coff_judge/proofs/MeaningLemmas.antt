-- What a type means says how wide a field is, and whether its value has to do with a home.
use Rattle.std.proofs.Common.{◌≡◌, Option, None, Some, refl, sym, ap}
use Rattle.std.specs.Option.{option_map, option_map_or}
use Rattle.std.proofs.lemmas.Option.{none-some, same_Some}
use Rattle.oc_base.specs.declared.format.Word.{Word}
use Rattle.oc_linking.specs.Fits.{bytes_of}
use Rattle.oc_neutral.specs.Rows.{Row}
use Rattle.oc_coff.specs.{declared.relocation.Relocation.{Relocation}, declared.meaning.Meaning.{Meaning}, Meanings.{meaning_of, meant_by}}
use Rattle.oc_coff_judge.specs.Relocs.{row_for, width_of}

pub meant_width : (w : Word) (r : Relocation) (m : Meaning) → meaning_of w r.Type ≡ Some m → width_of w r ≡ bytes_of m.form.width
meant_width w r m e = by (row_for w r) e
  where
    by : (o : Option Row) → option_map meant_by o ≡ Some m → option_map_or (λ (row : Row). bytes_of row.width) o 0 ≡ bytes_of m.form.width
    by None h = absurd (none-some m h)
    by (Some row) h = ap (λ (x : Meaning). bytes_of x.form.width) (same_Some (meant_by row) m h)

pub meant_none : (w : Word) (r : Relocation) → meaning_of w r.Type ≡ None → width_of w r ≡ 0
meant_none w r e = by (row_for w r) e
  where
    by : (o : Option Row) → option_map meant_by o ≡ None → option_map_or (λ (row : Row). bytes_of row.width) o 0 ≡ 0
    by None h = refl
    by (Some row) h = absurd (none-some (meant_by row) (sym h))
