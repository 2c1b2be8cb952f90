-- The fixups among subrecords, with one subrecord more.
use Rattle.std.proofs.Common.{◌≡◌, ℕ, List, [], ◌∷◌, ◌++◌, Result, Ok, Err, refl, sym, ◌∙◌, ap, append-nil, append_assoc}
use Rattle.oc_omf.specs.{declared.cut.Cut.{Cut}, declared.structures.Subrecord.{Subrecord}, Tables.{Tables}}
use Rattle.oc_omf.specs.Fixups.{Fixed, PlacedSubrecord, fixed_from, fixed_in, with_fixed}
use Rattle.oc_omf.specs.declared.structures.Subrecord.TheVariants as subrecord

-- what comes behind a subrecord, in two parts
with_more : (earlier : List PlacedSubrecord) (index at : ℕ) (part : Result Subrecord Cut) (before : Tables) (rest more : List Fixed)
    → with_fixed earlier (record { index = index; at = at; part = part; before = before }) (rest ++ more) ≡ with_fixed earlier (record { index = index; at = at; part = part; before = before }) rest ++ more
with_more earlier index at (Ok (subrecord.Fixup f)) before rest more = refl
with_more earlier index at (Ok (subrecord.Thread t)) before rest more = refl
with_more earlier index at (Err c) before rest more = refl

fixed_append : (xs earlier : List PlacedSubrecord) (x : PlacedSubrecord) → fixed_from earlier (xs ++ x ∷ []) ≡ fixed_from earlier xs ++ with_fixed (earlier ++ xs) x []
fixed_append [] earlier x = ap (λ e. with_fixed e x []) (sym (append-nil earlier))
fixed_append (y ∷ xs) earlier x =
    ap (with_fixed earlier y) (fixed_append xs (earlier ++ y ∷ []) x)
    ∙ ap (λ e. with_fixed earlier y (fixed_from (earlier ++ y ∷ []) xs ++ with_fixed e x [])) (append_assoc earlier (y ∷ []) xs)
    ∙ with_more earlier y.index y.at y.part y.before (fixed_from (earlier ++ y ∷ []) xs) (with_fixed (earlier ++ (y ∷ xs)) x [])

-- one subrecord more
pub fixed_more : (parts : List PlacedSubrecord) (x : PlacedSubrecord) → fixed_in (parts ++ x ∷ []) ≡ fixed_in parts ++ with_fixed parts x []
unfolding fixed_in
fixed_more parts x = fixed_append parts [] x
