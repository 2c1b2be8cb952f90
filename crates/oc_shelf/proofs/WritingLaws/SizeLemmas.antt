-- The sizes of string tables, and sums of sizes.
use Rattle.std.proofs.Common.{◌≡◌, ℕ, suc, ◌+◌, ◌*◌, ◌≤◌, Bool, true, false, cond, List, [], ◌∷◌, ◌++◌, length, refl, arith, length-append, zero, ap, Some}
use Rattle.std.specs.{Prelude.{flat_map, not, ◌&&◌, slice_get}, List.{sum_by, filter, fold, enumerate_from}}
use Rattle.std.proofs.lemmas.List.Sums.{sum_by-cons, sum_by-append}
use Rattle.oc_base.specs.Strings.{is_maximal, is_given, with_top, tops_of, table_text}
use Rattle.oc_base.specs.Strings as strings
use Rattle.oc_shelf.specs.Reading.Sums.{sum_upto}

-- the texts of a string table are not longer than the names, each with its NUL
abbrev pub ended_size : List ℕ → ℕ
ended_size name = length name + 1

text_size : (tops : List (List ℕ)) → length (strings.text_of tops) ≡ sum_by ended_size tops
unfolding strings.text_of
text_size [] = refl
text_size (top ∷ tops) =
    let all : length ((top ++ 0 ∷ []) ++ flat_map (λ (t : List ℕ). t ++ 0 ∷ []) tops) ≡ length (top ++ 0 ∷ []) + length (flat_map (λ (t : List ℕ). t ++ 0 ∷ []) tops) = length-append (top ++ 0 ∷ []) (flat_map (λ (t : List ℕ). t ++ 0 ∷ []) tops) in
    let own : length (top ++ 0 ∷ []) ≡ length top + 1 = length-append top (0 ∷ []) in
    let more = text_size tops in
    let sum = sum_by-cons ended_size top tops in
    omega (arith, all, own, more, sum)

tops_size : (names acc rest : List (List ℕ)) → sum_by ended_size (fold (with_top names) acc rest) ≤ sum_by ended_size acc + sum_by ended_size rest
tops_size names acc [] = omega arith
tops_size names acc (name ∷ rest) =
    let later = tops_size names (with_top names acc name) rest in
    let sum = sum_by-cons ended_size name rest in
    let step = by (is_maximal names name && not (is_given acc name)) in
    omega (arith, later, sum, step)
  where
    by : (b : Bool) → sum_by ended_size (cond b (acc ++ name ∷ []) acc) ≤ sum_by ended_size acc + (length name + 1)
    by true = let a = sum_by-append ended_size acc (name ∷ []) in let b = sum_by-cons ended_size name [] in omega (arith, a, b)
    by false = omega arith

pub table_size : (names : List (List ℕ)) → length (table_text names) ≤ sum_by ended_size names
unfolding table_text tops_of
table_size names = let a = text_size (fold (with_top names) [] names) in let b = tops_size names [] names in omega (arith, a, b)

-- ... sums

pub sum_filter : {X : Type 0} (size : X → ℕ) (test : X → Bool) (xs : List X) → sum_by size (filter test xs) ≤ sum_by size xs
sum_filter size test [] = omega arith
sum_filter {X} size test (x ∷ xs) = by (test x) (sum_filter size test xs) (sum_by-cons size x xs) (sum_by-cons size x (filter test xs))
  where
    by : (b : Bool) → sum_by size (filter test xs) ≤ sum_by size xs → sum_by size (x ∷ xs) ≡ size x + sum_by size xs → sum_by size (x ∷ filter test xs) ≡ size x + sum_by size (filter test xs)
        → sum_by size (cond b (x ∷ filter test xs) (filter test xs)) ≤ sum_by size (x ∷ xs)
    by true rest a b = omega (arith, rest, a, b)
    by false rest a b = omega (arith, rest, a)

pub sum_more : {X : Type 0} (size : X → ℕ) (m : ℕ) (xs : List X) → sum_by (λ x. size x + m) xs ≡ sum_by size xs + m * length xs
sum_more size m [] = omega arith
sum_more size m (x ∷ xs) = let a = sum_by-cons (λ x. size x + m) x xs in let b = sum_by-cons size x xs in let c = sum_more size m xs in let d : m * suc (length xs) ≡ m + m * length xs = grind arith in omega (arith, a, b, c, d)

pub sum_same : {X : Type 0} (m : ℕ) (xs : List X) → sum_by (λ (x : X). m) xs ≡ m * length xs
sum_same m [] = omega arith
sum_same {X} m (x ∷ xs) = let a = sum_by-cons (λ (x : X). m) x xs in let c = sum_same m xs in let d : m * suc (length xs) ≡ m + m * length xs = grind arith in omega (arith, a, c, d)

pub sum_enumerated : {X : Type 0} (size : X → ℕ) (i : ℕ) (xs : List X) → sum_by (λ (x : ℕ × X). size x.1) (enumerate_from i xs) ≡ sum_by size xs
sum_enumerated size i [] = refl
sum_enumerated {X} size i (x ∷ xs) = let a = sum_by-cons (λ (x : ℕ × X). size x.1) (i, x) (enumerate_from (i + 1) xs) in let b = sum_by-cons size x xs in let c = sum_enumerated size (i + 1) xs in omega (arith, a, b, c)

-- ... running sums

pub sum_list : {X : Type 0} (worth : ℕ → ℕ) (size : X → ℕ) (lo : ℕ) (xs : List X) → ((k : ℕ) (x : X) → slice_get xs k ≡ Some x → worth (lo + k) ≤ size x)
    → sum_upto worth (lo + length xs) ≤ sum_upto worth lo + sum_by size xs
sum_list worth size lo [] each = let e : sum_upto worth (lo + 0) ≡ sum_upto worth lo = (let z : lo + 0 ≡ lo = omega arith in ap (sum_upto worth) z) in omega (arith, e)
sum_list worth size lo (x ∷ xs) each =
    let e : sum_upto worth (lo + suc (length xs)) ≡ sum_upto worth (suc lo + length xs) = (let z : lo + suc (length xs) ≡ suc lo + length xs = omega arith in ap (sum_upto worth) z) in
    let rest = sum_list worth size (suc lo) xs (λ k y h. let next : worth (suc lo + k) ≡ worth (lo + suc k) = (let z : suc lo + k ≡ lo + suc k = omega arith in ap worth z) in let l = each (suc k) y h in omega (arith, next, l)) in
    let own : worth lo ≡ worth (lo + 0) = (let z : lo ≡ lo + 0 = omega arith in ap worth z) in
    let low = each 0 x refl in
    let sum = sum_by-cons size x xs in
    omega (arith, e, rest, own, low, sum)

pub sum_rises : (worth : ℕ → ℕ) (i m : ℕ) → sum_upto worth i ≤ sum_upto worth (i + m)
sum_rises worth i zero = let e : sum_upto worth (i + 0) ≡ sum_upto worth i = (let z : i + 0 ≡ i = omega arith in ap (sum_upto worth) z) in omega (arith, e)
sum_rises worth i (suc m) =
    let e : sum_upto worth (i + suc m) ≡ sum_upto worth (suc (i + m)) = (let z : i + suc m ≡ suc (i + m) = omega arith in ap (sum_upto worth) z) in
    let rest = sum_rises worth i m in
    omega (arith, e, rest)
