-- The relocation of a row has the row's value.
use Rattle.std.proofs.Common.{◌≡◌, ℕ, ◌+◌, ◌%◌, ◌∙◌, ap, arith}
use Rattle.std.specs.Prelude.{neg_ℤ, pos}
use borrow.Author.Differences.{ints}
use Rattle.oc_base.specs.{declared.format.Word.{Word}, declared.format.Word.TheVariants.{W32, W64}}
use Rattle.oc_linking.specs.{Numbers.{modulus, minus}, Values.{Valued}}
use Rattle.oc_algebra.specs.Residues.{residue_of}
use Rattle.oc_algebra.proofs.Laws.{residue_shifted}
use Rattle.oc_neutral.specs.Rows as rows
use Rattle.oc_neutral.specs.{Rows.{shift_of}, Worth.{target_worth, base_of, less_of, residue_at}}
use Rattle.oc_shows.specs.RowValues.{RowsHaveValues}

-- a shift back is more to take
shifted : (w : Word) (b f l n : ℕ) → minus w (b + (f + residue_of w (neg_ℤ (pos n))) % modulus w) l ≡ minus w (b + f) (l + n)
unfolding residue_of
shifted W32 b f l n = omega (arith, ints)
shifted W64 b f l n = omega (arith, ints)

pub rows_have_values : RowsHaveValues
unfolding residue_at
rows_have_values w row k a t symbols p v s at =
    let x : Valued = target_worth symbols p v t in
    let l : ℕ = less_of p s at x (rows.less_of row.taken k) in
    ap (λ n. minus w (base_of p x row.base + n) l) (residue_shifted w a (shift_of row))
    ∙ shifted w (base_of p x row.base) (residue_of w a) l row.behind
