-- The parts of a file stand at their places.
use Rattle.std.proofs.Common.{◌≡◌, ℕ, zero, suc, ◌+◌, ◌-◌, ◌<◌, ◌≤◌, Bool, true, false, List, [], ◌∷◌, ◌++◌, length, map, Option, Some, None, refl, sym, ◌∙◌, ap, subst, inl, inr, arith, append_assoc, length-append}
use Rattle.std.specs.{Prelude.{slice_get, replicate, flat_map, filter_map}, List.{cons_option}}
use Rattle.std.proofs.lemmas.{List.{length-replicate}, Bool.{true≢false, cases_lt}, Option.{none-some, same_Some}}
use Rattle.oc_shelf.specs.Writing.Parts.{Stands, Laid, laid, laid_end, behind, joined, aligned, place_where}
use Rattle.oc_shelf.proofs.WritingLaws.StandingLemmas.{stands_first, stands_second}

module _ {X : Type 0} (begin : ℕ → X → ℕ) (size : X → ℕ) (rises : (at : ℕ) (x : X) → at ≤ begin at x) where
  -- none begins before the start
  pub laid_from : (at : ℕ) (xs : List X) (k : ℕ) (l : Laid X) → slice_get (laid begin size at xs) k ≡ Some l → at ≤ l.at
  laid_from at [] k l here = absurd (none-some l here)
  laid_from at (x ∷ xs) zero l here =
      let same : begin at x ≡ l.at = ap (λ (y : Laid X). y.at) (same_Some _ l here) in
      omega (arith, same, rises at x)
  laid_from at (x ∷ xs) (suc k) l here = omega (arith, laid_from (begin at x + size x) xs k l here, rises at x)

  -- the things are the list's
  pub laid_part : (at : ℕ) (xs : List X) (k : ℕ) (l : Laid X) → slice_get (laid begin size at xs) k ≡ Some l → slice_get xs k ≡ Some l.part
  laid_part at [] k l here = absurd (none-some l here)
  laid_part at (x ∷ xs) zero l here = ap (λ (y : Laid X). Some y.part) (same_Some _ l here)
  laid_part at (x ∷ xs) (suc k) l here = laid_part (begin at x + size x) xs k l here

  -- each of the list is laid
  pub laid_there : (at : ℕ) (xs : List X) (k : ℕ) (x : X) → slice_get xs k ≡ Some x → (l : Laid X) × (slice_get (laid begin size at xs) k ≡ Some l) × (l.part ≡ x)
  laid_there at [] k x here = absurd (none-some x here)
  laid_there at (y ∷ xs) zero x here = (record { at = begin at y; part = y }, refl, same_Some y x here)
  laid_there at (y ∷ xs) (suc k) x here = laid_there (begin at y + size y) xs k x here

  -- a later one begins behind
  pub laid_after : (at : ℕ) (xs : List X) (i j : ℕ) (l m : Laid X) → i < j → slice_get (laid begin size at xs) i ≡ Some l → slice_get (laid begin size at xs) j ≡ Some m
      → l.at + size l.part ≤ m.at
  laid_after at [] i j l m before here there = absurd (none-some l here)
  laid_after at (x ∷ xs) i zero l m before here there = absurd (omega (arith, before))
  laid_after at (x ∷ xs) zero (suc j) l m before here there =
      let low = laid_from (begin at x + size x) xs j m there in
      subst (λ (y : Laid X). y.at + size y.part ≤ m.at) (same_Some _ l here) low
  laid_after at (x ∷ xs) (suc i) (suc j) l m before here there = laid_after (begin at x + size x) xs i j l m (omega (arith, before)) here there

  module _ (bytes : X → List ℕ) where
    pub stands_laid : (at : ℕ) (xs : List X) → ((k : ℕ) (x : X) → slice_get xs k ≡ Some x → length (bytes x) ≡ size x)
        → (k : ℕ) (l : Laid X) → slice_get (laid begin size at xs) k ≡ Some l → Stands (joined bytes at (laid begin size at xs)) (l.at - at) (bytes l.part)
    stands_laid at [] sized k l here = absurd (none-some l here)
    stands_laid at (x ∷ xs) sized zero l here =
        let gap : List ℕ = replicate (begin at x - at) 0 in
        let rest : List ℕ = joined bytes (begin at x + length (bytes x)) (laid begin size (begin at x + size x) xs) in
        let long : begin at x - at ≡ length gap + 0 = omega (arith, length-replicate {A = ℕ} (begin at x - at) 0) in
        subst (λ (y : Laid X). Stands (gap ++ (bytes x ++ rest)) (y.at - at) (bytes y.part)) (same_Some _ l here)
        (stands_second gap (bytes x ++ rest) (bytes x) 0 (begin at x - at) (stands_first (bytes x) rest) long)
    stands_laid at (x ∷ xs) sized (suc k) l here =
        let gap : List ℕ = replicate (begin at x - at) 0 in
        let next : ℕ = begin at x + size x in
        let own : length (bytes x) ≡ size x = sized 0 x refl in
        let rest : List ℕ = joined bytes (begin at x + length (bytes x)) (laid begin size next xs) in
        let e : next ≡ begin at x + length (bytes x) = omega (arith, own) in
        let inner : Stands rest (l.at - next) (bytes l.part)
        = subst (λ (p : ℕ). Stands (joined bytes p (laid begin size next xs)) (l.at - next) (bytes l.part)) e (stands_laid next xs (λ j y h. sized (suc j) y h) k l here) in
        let low : next ≤ l.at = laid_from next xs k l here in
        let more : at ≤ begin at x = rises at x in
        let long : length gap ≡ begin at x - at = length-replicate {A = ℕ} (begin at x - at) 0 in
        stands_second gap (bytes x ++ rest) (bytes l.part) (length (bytes x) + (l.at - next)) (l.at - at)
        (stands_second (bytes x) rest (bytes l.part) (l.at - next) (length (bytes x) + (l.at - next)) inner refl) (omega (arith, low, more, long, own))

    -- the length of the whole
    pub length-joined : (at : ℕ) (xs : List X) → ((k : ℕ) (x : X) → slice_get xs k ≡ Some x → length (bytes x) ≡ size x)
        → at + length (joined bytes at (laid begin size at xs)) ≡ laid_end begin size at xs
    length-joined at [] sized = omega arith
    length-joined at (x ∷ xs) sized =
        let gap : List ℕ = replicate (begin at x - at) 0 in
        let next : ℕ = begin at x + size x in
        let own : length (bytes x) ≡ size x = sized 0 x refl in
        let rest : List ℕ = joined bytes (begin at x + length (bytes x)) (laid begin size next xs) in
        let e : next ≡ begin at x + length (bytes x) = omega (arith, own) in
        let whole : length (gap ++ (bytes x ++ rest)) ≡ length gap + (length (bytes x) + length rest)
        = length-append gap (bytes x ++ rest) ∙ ap (λ n. length gap + n) (length-append (bytes x) rest) in
        let long : length gap ≡ begin at x - at = length-replicate {A = ℕ} (begin at x - at) 0 in
        let later : next + length rest ≡ laid_end begin size next xs
        = ap (λ p. next + length (joined bytes p (laid begin size next xs))) (sym e) ∙ length-joined next xs (λ j y h. sized (suc j) y h) in
        let more : at ≤ begin at x = rises at x in
        omega (arith, whole, long, later, more, own)

-- what is found among laid things by a test that only this passes
pub record IsFound {X : Type 0} (things : List (Laid X)) (test : X → Bool) (x : X) : Type 0 where
  pub index : ℕ
  pub one : Laid X
  pub here : slice_get things index ≡ Some one
  pub place : place_where test things ≡ one.at
  pub part : one.part ≡ x

module _ {X : Type 0} (begin : ℕ → X → ℕ) (size : X → ℕ) (test : X → Bool) where
  pub place_found : (at : ℕ) (xs : List X) (k : ℕ) (x : X) → slice_get xs k ≡ Some x → test x ≡ true
      → ((j : ℕ) (y : X) → slice_get xs j ≡ Some y → test y ≡ true → y ≡ x) → IsFound (laid begin size at xs) test x
  place_found at [] k x here passes one = absurd (none-some x here)
  place_found at (y ∷ xs) k x here passes one =
      elim (test y) as (λ b. test y ≡ b → IsFound (laid begin size at (y ∷ xs)) test x) [
        | true ↦ λ e. record { index = 0; one = record { at = begin at y; part = y }; here = refl; place = rw e refl; part = one 0 y refl e }
        | false ↦ λ e. later (λ i h. place_found (begin at y + size y) xs i x h passes (λ j z h' p. one (suc j) z h' p)) k here e
      ] refl
    where
      later : ((i : ℕ) → slice_get xs i ≡ Some x → IsFound (laid begin size (begin at y + size y) xs) test x) → (k : ℕ) → slice_get (y ∷ xs) k ≡ Some x → test y ≡ false → IsFound (laid begin size at (y ∷ xs)) test x
      later rest zero here e = absurd (true≢false (sym passes ∙ ap test (sym (same_Some y x here)) ∙ e))
      later found (suc k) here e =
          let rest = found k here in
          record { index = suc rest.index; one = rest.one; here = rest.here; place = rw e rest.place; part = rest.part }

-- what is found behind the first thing begins where that ends, or later
pub place_past : {X : Type 0} (begin : ℕ → X → ℕ) (size : X → ℕ) (test : X → Bool) (at : ℕ) (y : X) (xs : List X) (k : ℕ) (x : X)
    → ((p : ℕ) (z : X) → p ≤ begin p z) → test y ≡ false → slice_get xs k ≡ Some x → test x ≡ true
    → ((j : ℕ) (z : X) → slice_get xs j ≡ Some z → test z ≡ true → z ≡ x) → begin at y + size y ≤ place_where test (laid begin size at (y ∷ xs))
place_past begin size test at y xs k x rises fails here passes one =
    let f = place_found begin size test (begin at y + size y) xs k x here passes one in
    let low = laid_from begin size rises (begin at y + size y) xs f.index f.one f.here in
    rw fails (omega (arith, low, f.place))

-- things of some size that begin at one place are one
pub laid_same : {X : Type 0} (begin : ℕ → X → ℕ) (size : X → ℕ) (at : ℕ) (xs : List X) (i j : ℕ) (l m : Laid X) → ((p : ℕ) (z : X) → p ≤ begin p z) → ((z : X) → 1 ≤ size z)
    → slice_get (laid begin size at xs) i ≡ Some l → slice_get (laid begin size at xs) j ≡ Some m → l.at ≡ m.at → (i ≡ j) × (l ≡ m)
laid_same begin size at xs i j l m rises some here there same =
    elim (cases_lt i j) [
      | inl before ↦ let low = laid_after begin size rises at xs i j l m before here there in let one = some l.part in absurd (omega (arith, low, same, one))
      | inr le ↦ elim (cases_lt j i) [
        | inl after ↦ let low = laid_after begin size rises at xs j i m l after there here in let one = some m.part in absurd (omega (arith, low, same, one))
        | inr ge ↦
            let e : i ≡ j = omega (arith, le, ge) in
            (e, same_Some l m (sym here ∙ ap (slice_get (laid begin size at xs)) e ∙ there))
      ]
    ]

-- what a filter leaves of laid things ascends by the places
module _ {X Y : Type 0} (size : X → ℕ) (some : (x : X) → 1 ≤ size x) (f : Laid X → Option Y) (key : Y → ℕ) (keyed : (l : Laid X) (y : Y) → f l ≡ Some y → key y ≡ l.at) where
  pub laid_keys_from : (at : ℕ) (xs : List X) (k : ℕ) (y : Y) → slice_get (filter_map f (laid behind size at xs)) k ≡ Some y → at ≤ key y
  laid_keys_from at [] k y here = absurd (none-some y here)
  laid_keys_from at (x ∷ xs) k y here = by (f (record { at = at; part = x })) refl (λ j h. laid_keys_from (at + size x) xs j y h) k here
    where
      by : (o : Option Y) → f (record { at = at; part = x }) ≡ o → ((j : ℕ) → slice_get (filter_map f (laid behind size (at + size x) xs)) j ≡ Some y → at + size x ≤ key y)
          → (k : ℕ) → slice_get (cons_option o (filter_map f (laid behind size (at + size x) xs))) k ≡ Some y → at ≤ key y
      by None e rest k h = omega (arith, rest k h)
      by (Some z) e rest zero h = let own : key y ≡ at = ap key (sym (same_Some z y h)) ∙ keyed (record { at = at; part = x }) z e in omega (arith, own)
      by (Some z) e rest (suc k) h = omega (arith, rest k h)

  pub laid_keys_ascend : (at : ℕ) (xs : List X) (a b : ℕ) (y z : Y) → a < b → slice_get (filter_map f (laid behind size at xs)) a ≡ Some y
      → slice_get (filter_map f (laid behind size at xs)) b ≡ Some z → key y < key z
  laid_keys_ascend at [] a b y z l here there = absurd (none-some y here)
  laid_keys_ascend at (x ∷ xs) a b y z l here there =
      by (f (record { at = at; part = x })) refl (λ c d m h t. laid_keys_ascend (at + size x) xs c d y z m h t) (λ d t. laid_keys_from (at + size x) xs d z t) a b l here there
    where
      by : (o : Option Y) → f (record { at = at; part = x }) ≡ o
          → ((c d : ℕ) → c < d → slice_get (filter_map f (laid behind size (at + size x) xs)) c ≡ Some y → slice_get (filter_map f (laid behind size (at + size x) xs)) d ≡ Some z → key y < key z)
          → ((d : ℕ) → slice_get (filter_map f (laid behind size (at + size x) xs)) d ≡ Some z → at + size x ≤ key z)
          → (a b : ℕ) → a < b → slice_get (cons_option o (filter_map f (laid behind size (at + size x) xs))) a ≡ Some y
          → slice_get (cons_option o (filter_map f (laid behind size (at + size x) xs))) b ≡ Some z → key y < key z
      by None e rest low a b l h t = rest a b l h t
      by (Some u) e rest low a zero l h t = absurd (omega (arith, l))
      by (Some u) e rest low zero (suc b) l h t =
          let own : key y ≡ at = ap key (sym (same_Some u y h)) ∙ keyed (record { at = at; part = x }) u e in
          let one = some x in
          omega (arith, own, one, low b t)
      by (Some u) e rest low (suc a) (suc b) l h t = rest a b (omega (arith, l)) h t

-- the part that a test finds stands where it is found
pub stands_where : {X : Type 0} (begin : ℕ → X → ℕ) (size : X → ℕ) (bytes : X → List ℕ) (test : X → Bool) (xs : List X) (k : ℕ) (x : X)
    → ((at : ℕ) (y : X) → at ≤ begin at y) → ((j : ℕ) (y : X) → slice_get xs j ≡ Some y → length (bytes y) ≡ size y)
    → slice_get xs k ≡ Some x → test x ≡ true → ((j : ℕ) (y : X) → slice_get xs j ≡ Some y → test y ≡ true → y ≡ x)
    → Stands (joined bytes 0 (laid begin size 0 xs)) (place_where test (laid begin size 0 xs)) (bytes x)
stands_where {X} begin size bytes test xs k x rises sized here passes one =
    let f = place_found begin size test 0 xs k x here passes one in
    let s = stands_laid begin size rises bytes 0 xs sized f.index f.one f.here in
    let e : f.one.at - 0 ≡ place_where test (laid begin size 0 xs) = omega (arith, f.place) in
    subst (λ y. Stands (joined bytes 0 (laid begin size 0 xs)) (place_where test (laid begin size 0 xs)) (bytes y)) f.part
    (subst (λ p. Stands (joined bytes 0 (laid begin size 0 xs)) p (bytes f.one.part)) e s)

-- they end behind where they begin
pub laid_end_from : {X : Type 0} (size : X → ℕ) (at : ℕ) (xs : List X) → at ≤ laid_end behind size at xs
laid_end_from size at [] = omega arith
laid_end_from size at (x ∷ xs) = omega (arith, laid_end_from size (at + size x) xs)

-- each ends by the end
pub laid_within : {X : Type 0} (size : X → ℕ) (at : ℕ) (xs : List X) (k : ℕ) (l : Laid X) → slice_get (laid behind size at xs) k ≡ Some l → l.at + size l.part ≤ laid_end behind size at xs
laid_within size at [] k l here = absurd (none-some l here)
laid_within {X} size at (x ∷ xs) zero l here =
    let low : at + size x ≤ laid_end behind size (at + size x) xs = laid_end_from size (at + size x) xs in
    subst (λ (y : Laid X). y.at + size y.part ≤ laid_end behind size (at + size x) xs) (same_Some _ l here) low
laid_within size at (x ∷ xs) (suc k) l here = laid_within size (at + size x) xs k l here

-- things behind one another in two lists
pub laid_append : {X : Type 0} (begin : ℕ → X → ℕ) (size : X → ℕ) (at : ℕ) (xs ys : List X)
    → laid begin size at (xs ++ ys) ≡ laid begin size at xs ++ laid begin size (laid_end begin size at xs) ys
laid_append begin size at [] ys = refl
laid_append begin size at (x ∷ xs) ys = ap (λ zs. record { at = begin at x; part = x } ∷ zs) (laid_append begin size (begin at x + size x) xs ys)

-- where the first passes no test, the place is in the second
pub place_behind : {X : Type 0} (begin : ℕ → X → ℕ) (size : X → ℕ) (test : X → Bool) (at : ℕ) (xs ys : List X) → ((j : ℕ) (y : X) → slice_get xs j ≡ Some y → test y ≡ false)
    → place_where test (laid begin size at (xs ++ ys)) ≡ place_where test (laid begin size (laid_end begin size at xs) ys)
place_behind begin size test at [] ys none = refl
place_behind begin size test at (x ∷ xs) ys none = rw (none 0 x refl) (place_behind begin size test (begin at x + size x) xs ys (λ j y h. none (suc j) y h))

-- the bytes of two lists of parts that follow one another
pub joined_append : {X : Type 0} (bytes : X → List ℕ) (size : X → ℕ) (at : ℕ) (xs ys : List X) → ((k : ℕ) (x : X) → slice_get xs k ≡ Some x → length (bytes x) ≡ size x)
    → joined bytes at (laid behind size at (xs ++ ys)) ≡ joined bytes at (laid behind size at xs) ++ joined bytes (laid_end behind size at xs) (laid behind size (laid_end behind size at xs) ys)
joined_append bytes size at [] ys sized = refl
joined_append bytes size at (x ∷ xs) ys sized =
    let same : at + length (bytes x) ≡ at + size x = omega (arith, sized 0 x refl) in
    let none : at - at ≡ 0 = omega arith in
    let front : List ℕ = replicate (at - at) 0 in
    let first : List ℕ = joined bytes (at + size x) (laid behind size (at + size x) xs) in
    let second : List ℕ = joined bytes (laid_end behind size (at + size x) xs) (laid behind size (laid_end behind size (at + size x) xs) ys) in
    ap (λ p. front ++ (bytes x ++ joined bytes p (laid behind size (at + size x) (xs ++ ys)))) same
    ∙ ap (λ zs. front ++ (bytes x ++ zs)) (joined_append bytes size (at + size x) xs ys (λ k y h. sized (suc k) y h))
    ∙ ap (λ zs. front ++ zs) (sym (append_assoc (bytes x) first second))
    ∙ sym (append_assoc front (bytes x ++ first) second)
    ∙ ap (λ p. (front ++ (bytes x ++ joined bytes p (laid behind size (at + size x) xs))) ++ second) (sym same)

-- things that are laid behind one another, each of as many rows as its size
pub length-laid_rows : {X Y : Type 0} (size : X → ℕ) (row : X → List Y) (at : ℕ) (xs : List X) → ((k : ℕ) (x : X) → slice_get xs k ≡ Some x → length (row x) ≡ size x)
    → at + length (flat_map (λ (l : Laid X). row l.part) (laid behind size at xs)) ≡ laid_end behind size at xs
length-laid_rows size row at [] sized = omega arith
length-laid_rows {X} size row at (x ∷ xs) sized =
    let rest : List _ = flat_map (λ (l : Laid X). row l.part) (laid behind size (at + size x) xs) in
    let whole : length (row x ++ rest) ≡ length (row x) + length rest = length-append (row x) rest in
    omega (arith, whole, sized 0 x refl, length-laid_rows size row (at + size x) xs (λ k y h. sized (suc k) y h))

-- a place that is aligned is not before
pub aligned_rises : (align at : ℕ) → at ≤ aligned align at
aligned_rises align at = omega arith

-- one part more is laid behind the others
pub places_more : {X : Type 0} (begin : ℕ → X → ℕ) (size : X → ℕ) (at : ℕ) (xs : List X) (x : X)
    → map (λ (l : Laid X). l.at) (laid begin size at (xs ++ x ∷ [])) ≡ map (λ (l : Laid X). l.at) (laid begin size at xs) ++ begin (laid_end begin size at xs) x ∷ []
places_more begin size at [] x = refl
places_more begin size at (y ∷ xs) x = ap (λ ps. begin at y ∷ ps) (places_more begin size (begin at y + size y) xs x)

pub end_more : {X : Type 0} (begin : ℕ → X → ℕ) (size : X → ℕ) (at : ℕ) (xs : List X) (x : X)
    → laid_end begin size at (xs ++ x ∷ []) ≡ begin (laid_end begin size at xs) x + size x
end_more begin size at [] x = refl
end_more begin size at (y ∷ xs) x = end_more begin size (begin at y + size y) xs x
