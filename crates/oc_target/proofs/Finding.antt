-- A table of the types that are written serves as the table of all types.
use Rattle.std.proofs.Common.{◌≡◌, refl, sym, ◌∙◌, ap, Bool, true, false, cond, List, [], ◌∷◌, map, Some}
use Rattle.std.specs.Prelude.{filter, find}
use Rattle.oc_base.specs.declared.format.Format.{Format}
use Rattle.oc_linking.specs.declared.terms.Hint.{Hint}
use Rattle.oc_algebra.specs.declared.form.Form.{Form}
use Rattle.oc_neutral.specs.Rows as rows
use Rattle.oc_neutral.specs.{RelocTables.{rows_of}, Spelling.{is_written}}
use Rattle.oc_target.specs.{declared.rows.Row.{Row}, Tables.{meant, written_rows}}

-- a type that is read only is not found
pub find_canonical : (form : Form) (hint : Hint) (taken : rows.Taken) (xs : List rows.Row)
    → find (is_written form hint taken) (filter (λ (r : rows.Row). r.canonical) xs) ≡ find (is_written form hint taken) xs
find_canonical form hint taken [] = refl
find_canonical form hint taken (x ∷ xs) = by x.canonical refl (find_canonical form hint taken xs)
  where
    p : rows.Row → Bool
    p = is_written form hint taken

    fails : x.canonical ≡ false → p x ≡ false
    fails e = simp e

    by : (b : Bool) → x.canonical ≡ b → find p (filter (λ (r : rows.Row). r.canonical) xs) ≡ find p xs → find p (cond b (x ∷ filter (λ (r : rows.Row). r.canonical) xs) (filter (λ (r : rows.Row). r.canonical) xs)) ≡ cond (p x) (Some x) (find p xs)
    by true e rest = ap (λ o. cond (p x) (Some x) o) rest
    by false e rest = rest ∙ ap (λ b. cond b (Some x) (find p xs)) (sym (fails e))

-- what a format writes
pub find_written : (target : Format) (form : Form) (hint : Hint) (taken : rows.Taken) (xs : List Row) → map meant xs ≡ written_rows target
    → find (is_written form hint taken) (map meant xs) ≡ find (is_written form hint taken) (rows_of target)
find_written target form hint taken xs e = ap (find (is_written form hint taken)) e ∙ find_canonical form hint taken (rows_of target)
