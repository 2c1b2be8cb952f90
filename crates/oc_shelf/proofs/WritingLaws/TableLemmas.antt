-- Tables of entries of one size, cut behind any entry.
use Rattle.std.proofs.Common.{◌≡◌, ℕ, zero, suc, ◌+◌, ◌*◌, ◌/◌, ◌<◌, ◌≤◌, List, [], ◌∷◌, ◌++◌, length, take, drop, refl, sym, ◌∙◌, ap, arith, append_assoc, append-nil, length-append}
use Rattle.oc_shelf.specs.Writing.Parts.{table_of, row_of, HaveSize}

-- how long the first k entries are
pub rows_long : (w : ℕ) (rows : List (List ℕ)) (k : ℕ) → HaveSize w rows → k ≤ length rows → length (table_of (take k rows)) ≡ w * k
rows_long w rows zero have le = omega arith
rows_long w [] (suc k) have le = absurd (omega (arith, le))
rows_long w (row ∷ rows) (suc k) have le =
    let next : w * suc k ≡ w + w * k = grind arith in
    length-append row (table_of (take k rows)) ∙ omega (arith, next, have.0, rows_long w rows k have.1 (omega (arith, le)))

pub table_long : (w : ℕ) (rows : List (List ℕ)) → HaveSize w rows → length (table_of rows) ≡ w * length rows
table_long w [] have = omega arith
table_long w (row ∷ rows) have =
    let next : w * suc (length rows) ≡ w + w * length rows = grind arith in
    length-append row (table_of rows) ∙ omega (arith, next, have.0, table_long w rows have.1)

-- an entry more
pub rows_more : (rows : List (List ℕ)) (k : ℕ) → k < length rows → table_of (take (k + 1) rows) ≡ table_of (take k rows) ++ row_of rows k
rows_more rows k low = let e : k + 1 ≡ suc k = omega arith in ap (λ i. table_of (take i rows)) e ∙ by rows k low
  where
    by : (rows : List (List ℕ)) (k : ℕ) → k < length rows → table_of (take (suc k) rows) ≡ table_of (take k rows) ++ row_of rows k
    by [] k low = absurd (omega (arith, low))
    by (row ∷ rows) zero low = append-nil row
    by (row ∷ rows) (suc k) low = ap (λ zs. row ++ zs) (by rows k (omega (arith, low))) ∙ sym (append_assoc row (table_of (take k rows)) (row_of rows k))

-- the first k entries, and those behind
pub rows_cut : (rows : List (List ℕ)) (k : ℕ) → table_of rows ≡ table_of (take k rows) ++ table_of (drop k rows)
rows_cut rows zero = refl
rows_cut [] (suc k) = refl
rows_cut (row ∷ rows) (suc k) = ap (λ zs. row ++ zs) (rows_cut rows k) ∙ sym (append_assoc row (table_of (take k rows)) (table_of (drop k rows)))

pub times_rises : (w i j : ℕ) → i ≤ j → w * i ≤ w * j
times_rises w i j le = grind arith

pub times_quotient : (w n : ℕ) → 1 ≤ w → w * (n / w) ≤ n
times_quotient w n some = grind arith
