-- A window of a file made of parts is made of the windows of its parts and of the zeros between them: the file need not be held.
use Rattle.std.proofs.Common.{◌≡◌, ℕ, zero, suc, ◌+◌, ◌-◌, ◌≤◌, inl, inr, List, [], ◌∷◌, ◌++◌, length, take, drop, replicate, min, refl, sym, ◌∙◌, ap, subst, arith, append-nil, append_assoc, length-append, length-take, length-drop}
use Rattle.std.proofs.lemmas.{Bool.{cases_lt}, List.{take_at, take_all, drop-drop, drop_at, drop_all}}
use borrow.Rule.Slice.PartMut.{mid_of, put_mid}
use Rattle.oc_shelf.specs.Writing.Parts.{Laid}
use Rattle.oc_outside.specs.Windows.{IsFilled}

-- the bytes of a file from one place to another, as far as it has them
abbrev pub window : ℕ → ℕ → List ℕ → List ℕ
window from to file = take (to - from) (drop from file)

pub take_none : {X : Type 0} (n : ℕ) → take {A = X} n [] ≡ []
take_none zero = refl
take_none (suc n) = refl

pub drop_none : {X : Type 0} (n : ℕ) → drop {A = X} n [] ≡ []
drop_none zero = refl
drop_none (suc n) = refl

pub take_append : {X : Type 0} (n : ℕ) (xs ys : List X) → take n (xs ++ ys) ≡ take n xs ++ take (n - length xs) ys
take_append n [] ys = let e : n - 0 ≡ n = omega arith in rw (e, take_none n) refl
take_append zero (x ∷ xs) ys = let e : 0 - length (x ∷ xs) ≡ 0 = omega arith in rw e refl
take_append (suc n) (x ∷ xs) ys = let e : suc n - length (x ∷ xs) ≡ n - length xs = omega arith in rw e (ap (λ zs. x ∷ zs) (take_append n xs ys))

pub drop_append : {X : Type 0} (n : ℕ) (xs ys : List X) → drop n (xs ++ ys) ≡ drop n xs ++ drop (n - length xs) ys
drop_append n [] ys = let e : n - 0 ≡ n = omega arith in rw (e, drop_none n) refl
drop_append zero (x ∷ xs) ys = let e : 0 - length (x ∷ xs) ≡ 0 = omega arith in rw e refl
drop_append (suc n) (x ∷ xs) ys = let e : suc n - length (x ∷ xs) ≡ n - length xs = omega arith in rw e (drop_append n xs ys)

-- the windows of parts from a place on, with those of the zeros before each
abbrev pub windows : {X : Type 0} → (X → ℕ) → (X → List ℕ) → ℕ → ℕ → ℕ → List (Laid X) → List ℕ
windows size bytes from to at [] = []
windows size bytes from to at (x ∷ xs) =
    window (from - at) (to - at) (replicate (x.at - at) 0) ++ (window (from - x.at) (to - x.at) (bytes x.part) ++ windows size bytes from to (x.at + size x.part) xs)

-- ... buffers that are filled part by part

pub filled_long : (file old new : List ℕ) (from n : ℕ) → IsFilled file from old new n → length new ≡ length old
filled_long file old new from n is =
    let count = is.count in
    ap length is.bytes ∙ length-append (take n (drop from file)) (drop n old)
    ∙ omega (arith, length-take n (drop from file), length-drop from file, length-drop n old, count)

-- nothing of a file that ends where the window begins, or before
pub filled_nothing : (file old : List ℕ) (from : ℕ) → length file ≤ from → IsFilled file from old old 0
filled_nothing file old from le = record { count = omega (arith, le); bytes = refl }

-- a buffer that is full takes nothing of what is behind
pub filled_full : (xs ys old new : List ℕ) (from n : ℕ) → IsFilled xs from old new n → length old ≤ n → IsFilled (xs ++ ys) from old new n
filled_full xs ys old new from n is full =
    let count = is.count in
    let wide : length (drop from xs) ≡ length xs - from = length-drop from xs in
    let none : n - length (drop from xs) ≡ 0 = omega (arith, count, wide) in
    record {
      count = omega (arith, count, full, length-append xs ys);
      bytes =
          is.bytes
          ∙ ap (λ zs. zs ++ drop n old)
          (sym (ap (take n) (drop_append from xs ys) ∙ take_append n (drop from xs) (drop (from - length xs) ys)
          ∙ ap (λ k. take n (drop from xs) ++ take k (drop (from - length xs) ys)) none ∙ append-nil (take n (drop from xs))));
    }

-- a piece more: what is left of the buffer was filled with it
pub filled_more : (xs ys old mid sub new : List ℕ) (from n m : ℕ) → IsFilled xs from old mid n → IsFilled ys (from + n - length xs) (drop n mid) sub m → new ≡ take n mid ++ sub
    → IsFilled (xs ++ ys) from old new (n + m)
filled_more xs ys old mid sub new from n m first second is =
    let a = first.count in
    let b = second.count in
    let wide : length (drop from xs) ≡ length xs - from = length-drop from xs in
    let own : length (take n (drop from xs)) ≡ n = length-take n (drop from xs) ∙ omega (arith, wide, a) in
    let front : take n mid ≡ take n (drop from xs) = ap (take n) first.bytes ∙ take_at (take n (drop from xs)) (drop n old) n own in
    let back : drop n mid ≡ drop n old = ap (drop n) first.bytes ∙ drop_at (take n (drop from xs)) (drop n old) n own in
    let room : length (drop n mid) ≡ length old - n = ap length back ∙ length-drop n old in
    let whole : take (n + m) (drop from (xs ++ ys)) ≡ take n (drop from xs) ++ take m (drop (from + n - length xs) ys)
    = ap (take (n + m)) (drop_append from xs ys) ∙ take_append (n + m) (drop from xs) (drop (from - length xs) ys)
    ∙ by a (b ∙ ap (λ k. min k (length ys - (from + n - length xs))) room) in
    record {
      count = omega (arith, a, b, room, length-append xs ys);
      bytes =
          is ∙ ap (λ zs. zs ++ sub) front ∙ ap (λ zs. take n (drop from xs) ++ zs) second.bytes
          ∙ ap (λ zs. take n (drop from xs) ++ (take m (drop (from + n - length xs) ys) ++ zs)) (ap (drop m) back ∙ drop-drop m n old)
          ∙ sym (append_assoc (take n (drop from xs)) (take m (drop (from + n - length xs) ys)) (drop (n + m) old))
          ∙ ap (λ zs. zs ++ drop (n + m) old) (sym whole);
    }
  where
    by : n ≡ min (length old) (length xs - from) → m ≡ min (length old - n) (length ys - (from + n - length xs))
        → take (n + m) (drop from xs) ++ take (n + m - length (drop from xs)) (drop (from - length xs) ys) ≡ take n (drop from xs) ++ take m (drop (from + n - length xs) ys)
    by a b = elim (cases_lt n (length xs - from)) [
      | inl less ↦
          let none : m ≡ 0 = omega (arith, a, b, less) in
          let gone : n + m - length (drop from xs) ≡ 0 = omega (arith, none, less, length-drop from xs) in
          let same : n + m ≡ n = omega (arith, none) in
          ap (λ k. take (n + m) (drop from xs) ++ take k (drop (from - length xs) ys)) gone
          ∙ ap (λ k. take k (drop from xs) ++ []) same
          ∙ ap (λ k. take n (drop from xs) ++ take k (drop (from + n - length xs) ys)) (sym none)
      | inr le ↦
          let wide : length (drop from xs) ≡ length xs - from = length-drop from xs in
          let all : n ≡ length xs - from = omega (arith, a, le) in
          let left : n + m - length (drop from xs) ≡ m = omega (arith, all, wide) in
          let start : from - length xs ≡ from + n - length xs = omega (arith, all) in
          ap (λ zs. zs ++ take (n + m - length (drop from xs)) (drop (from - length xs) ys)) (take_all (n + m) (drop from xs) (omega (arith, all, wide)) ∙ sym (take_all n (drop from xs) (omega (arith, all, wide))))
          ∙ ap (λ k. take n (drop from xs) ++ take k (drop (from - length xs) ys)) left
          ∙ ap (λ k. take n (drop from xs) ++ take m (drop k ys)) start
    ]

-- the same where the rest of the buffer was passed on
pub filled_rest : (xs ys old mid sub : List ℕ) (from at n m : ℕ) → IsFilled xs from old mid n → at ≡ from + n - length xs → n ≤ length mid
    → IsFilled ys at (mid_of n (length mid - n) mid) sub m → IsFilled (xs ++ ys) from old (put_mid n (length mid - n) mid sub) (n + m)
filled_rest xs ys old mid sub from at n m first e le second =
    let rest : mid_of n (length mid - n) mid ≡ drop n mid = take_all (length mid - n) (drop n mid) (omega (arith, length-drop n mid)) in
    let here : IsFilled ys (from + n - length xs) (drop n mid) sub m = subst (λ p. IsFilled ys p (drop n mid) sub m) e (subst (λ zs. IsFilled ys at zs sub m) rest second) in
    filled_more xs ys old mid sub (put_mid n (length mid - n) mid sub) from n m first here
    (ap (λ zs. take n mid ++ (sub ++ zs)) (drop_all (length mid - n) (drop n mid) (omega (arith, length-drop n mid))) ∙ ap (λ zs. take n mid ++ zs) (append-nil sub))
