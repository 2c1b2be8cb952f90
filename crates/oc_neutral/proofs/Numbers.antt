-- Lists under numbers of their own: what calls on the lists make of those of the sections.
use Rattle.std.proofs.Common.{◌≡◌, ◌≢◌, ℕ, zero, suc, ◌+◌, ◌<◌, ◌≤◌, Bool, true, false, cond, List, [], ◌∷◌, length, get_or, map, set, sum_by, take, Option, Some, None, Result, Ok, Err, IfSome, OnErr, OnOk, inl, inr, ◌⊎◌, refl, sym, ◌∙◌, ap, subst, arith}
use Rattle.std.specs.List.{AllByRecursion, AllZip, range_with_len}
use Rattle.std.proofs.lemmas.{Bool.{cases_eq}, List.{get_or_default, get_or-map, get_or-set_other, get_or-set_same, length-map, length-set}}
use Rattle.std.proofs.lemmas.{List.Elements.{AllZip-get_or, length_all_zip}, List.FromFn.{get_or-range_with_len, length-range_with_len}}
use Rattle.std.proofs.lemmas.List.Sums.{sum_by-cons, sum_by-set, sum_by-take-le, sum_by_more}
use Rattle.oc_linking.specs.Keeping.{kept_of}
use Rattle.oc_chains.specs.{declared.field.Field.{Field}, Changed.{AllAreOf, AreAnswered, AreOf, IsAnswered}, Lists.{Chained, Lists, held_in, list_of}}
use Rattle.oc_neutral.specs.Numbered.{AreNumbers, AreRising, emptied, lists_by, number_at, numbered, numbers_by}

-- ... numbers

range_rises : (a count : ℕ) → AreRising a (a + count) (range_with_len a count)
range_rises a zero = omega arith
range_rises a (suc count) = (omega arith, let e : a + 1 + count ≡ a + suc count = omega arith in subst (λ h. AreRising (a + 1) h (range_with_len (a + 1) count)) e (range_rises (a + 1) count))

rising_at : (low high : ℕ) (ns : List ℕ) (s : ℕ) → AreRising low high ns → s < length ns → (low ≤ get_or ns s 0) × (get_or ns s 0 < high)
rising_at low high [] s rises lt = absurd (omega (arith, lt))
rising_at low high (n ∷ []) zero rises lt = (rises.0, (let h = rises.1 in omega (arith, h)))
rising_at low high (n ∷ m ∷ ns) zero rises lt = (rises.0, (let h = (rising_at (n + 1) high (m ∷ ns) 0 rises.1 (omega arith)) in let l = h.0 in let u = h.1 in omega (arith, l, u)))
rising_at low high (n ∷ ns) (suc s) rises lt =
    let h = rising_at (n + 1) high ns s rises.1 (omega (arith, lt)) in
    let l = h.0 in let r = rises.0 in (omega (arith, l, r), h.1)

pub number_is : (of : Option (List ℕ)) (count s : ℕ) → s < length (numbers_by of count) → number_at of s ≡ get_or (numbers_by of count) s 0
number_is None count s lt = let long = length-range_with_len 0 count in sym (get_or-range_with_len 0 count s 0 (omega (arith, lt, long)) ∙ omega arith)
number_is (Some ns) count s lt = refl

pub kept_rise : (low high : ℕ) (stay : List Bool) (ns : List ℕ) → AreRising low high ns → AreRising low high (kept_of stay ns)
kept_rise low high stay [] rises = rises
kept_rise low high [] (n ∷ ns) rises = rises
kept_rise low high (true ∷ stay) (n ∷ ns) rises = (rises.0, kept_rise (n + 1) high stay ns rises.1)
kept_rise low high (false ∷ stay) (n ∷ ns) rises = kept_rise low high stay ns (lower low (n + 1) high ns (let l = rises.0 in omega (arith, l)) rises.1)
  where
    lower : (a b high : ℕ) (ns : List ℕ) → a ≤ b → AreRising b high ns → AreRising a high ns
    lower a b high [] le rises = omega (arith, le, rises)
    lower a b high (n ∷ ns) le rises = ((let l = rises.0 in omega (arith, le, l)), rises.1)

-- so many numbers as there are below the other bound, at most
pub rising_count : (low high : ℕ) (ns : List ℕ) → AreRising low high ns → low + length ns ≤ high
rising_count low high [] rises = omega (arith, rises)
rising_count low high (n ∷ ns) rises = let l = rises.0 in omega (arith, l, rising_count (n + 1) high ns rises.1)

-- a number is there, or none is it
has_number : (k : ℕ) (ns : List ℕ) → ((s : ℕ) × (s < length ns) × (get_or ns s 0 ≡ k)) ⊎ AllByRecursion (λ n. n ≢ k) ns
has_number k [] = inr tt
has_number k (n ∷ ns) = elim (cases_eq n k) [
  | inl same ↦ inl (0, omega arith, same)
  | inr other ↦ elim (has_number k ns) [
    | inl there ↦ inl (suc there.0, (let lt = there.1 in omega (arith, lt)), there.2)
    | inr none ↦ inr (other, none)
  ]
]

module _ {T : Type 0} where
  -- ... the lists of numbers

  pub by_count : (ns : List ℕ) (ls : Lists T) → length (lists_by ns ls) ≡ length ns
  by_count ns ls = length-map ns (list_of ls)

  pub by_at : (ns : List ℕ) (ls : Lists T) (s : ℕ) → s < length ns → list_of (lists_by ns ls) s ≡ list_of ls (get_or ns s 0)
  by_at ns ls s lt = get_or-map (list_of ls) ns s 0 [] lt

  -- where all have their positions, all are there
  shifted : (ls : Lists T) (a : ℕ) (more : Lists T) → ((k : ℕ) → list_of more (a + k) ≡ list_of ls k) → map (list_of more) (range_with_len a (length ls)) ≡ ls
  shifted [] a more same = refl
  shifted (xs ∷ ls) a more same =
      let e : a ≡ a + 0 = omega arith in
      ap (λ ys. ys ∷ map (list_of more) (range_with_len (a + 1) (length ls))) (ap (list_of more) e ∙ same 0)
      ∙ ap (λ yss. xs ∷ yss) (shifted ls (a + 1) more (λ k. let f : a + 1 + k ≡ a + suc k = omega arith in ap (list_of more) f ∙ same (suc k)))

  pub all_numbered : (ls : Lists T) → numbered None ls ≡ ls
  all_numbered ls = shifted ls 0 ls (λ k. let e : 0 + k ≡ k = omega arith in ap (list_of ls) e)

  pub all_numbers : (ls : Lists T) → AreNumbers (numbers_by None (length ls)) ls
  all_numbers ls = record { rising = (let e : 0 + length ls ≡ length ls = omega arith in subst (λ h. AreRising 0 h (range_with_len 0 (length ls))) e (range_rises 0 (length ls))); held = ap held_in (all_numbered ls) }

  above_same : (n high : ℕ) (ns : List ℕ) (ls : Lists T) (xs : List (Field T)) (low : ℕ) → n < low → AreRising low high ns → lists_by ns (set ls n xs) ≡ lists_by ns ls
  above_same n high [] ls xs low lt rises = refl
  above_same n high (m ∷ ns) ls xs low lt rises =
      let ne : m ≢ n = λ e. let l = rises.0 in absurd (omega (arith, e, l, lt)) in
      ap (λ ys. ys ∷ lists_by ns (set ls n xs)) (get_or-set_other ls n m xs [] ne)
      ∙ ap (λ yss. list_of ls m ∷ yss) (above_same n high ns ls xs (m + 1) (let l = rises.0 in omega (arith, l, lt)) rises.1)

  set_rising : (low high : ℕ) (ns : List ℕ) (ls : Lists T) (s : ℕ) (xs : List (Field T)) → AreRising low high ns → high ≤ length ls → s < length ns
      → lists_by ns (set ls (get_or ns s 0) xs) ≡ set (lists_by ns ls) s xs
  set_rising low high [] ls s xs rises le lt = absurd (omega (arith, lt))
  set_rising low high (n ∷ ns) ls zero xs rises le lt =
      let below = (rising_at low high (n ∷ ns) 0 rises lt).1 in
      ap (λ ys. ys ∷ lists_by ns (set ls n xs)) (get_or-set_same ls n xs [] (omega (arith, below, le)))
      ∙ ap (λ yss. xs ∷ yss) (above_same n high ns ls xs (n + 1) (omega arith) rises.1)
  set_rising low high (n ∷ ns) ls (suc s) xs rises le lt =
      let above = (rising_at (n + 1) high ns s rises.1 (omega (arith, lt))).0 in
      let ne : n ≢ get_or ns s 0 = λ e. absurd (omega (arith, e, above)) in
      ap (λ ys. ys ∷ lists_by ns (set ls (get_or ns s 0) xs)) (get_or-set_other ls (get_or ns s 0) n xs [] ne)
      ∙ ap (λ yss. list_of ls n ∷ yss) (set_rising (n + 1) high ns ls s xs rises.1 le (omega (arith, lt)))

  module _ (ns : List ℕ) (ls : Lists T) (are : AreNumbers ns ls) where
    pub by_there : (s : ℕ) → s < length ns → get_or ns s 0 < length ls
    by_there s lt = (rising_at 0 (length ls) ns s are.rising lt).1

    module _ (s : ℕ) (lt : s < length ns) (xs : List (Field T)) where
      pub by_set : lists_by ns (set ls (get_or ns s 0) xs) ≡ set (lists_by ns ls) s xs
      by_set = set_rising 0 (length ls) ns ls s xs are.rising (omega arith) lt

      pub set_numbers : AreNumbers ns (set ls (get_or ns s 0) xs)
      set_numbers = record {
        rising = subst (λ h. AreRising 0 h ns) (sym (length-set ls (get_or ns s 0) xs)) are.rising;
        held =
            let a = sum_by-set length (lists_by ns ls) s xs [] (let c = by_count ns ls in omega (arith, c, lt)) in
            let b = sum_by-set length ls (get_or ns s 0) xs [] (by_there s lt) in
            let same = ap length (by_at ns ls s lt) in
            let h = are.held in
            ap held_in by_set ∙ omega (arith, a, b, same, h);
      }

  -- ... others are empty

  take_up : (f : List (Field T) → ℕ) (ls : Lists T) (a b : ℕ) → a ≤ b → sum_by f (take a ls) ≤ sum_by f (take b ls)
  take_up f [] zero b le = omega arith
  take_up f [] (suc a) zero le = absurd (omega (arith, le))
  take_up f [] (suc a) (suc b) le = omega arith
  take_up f (xs ∷ ls) zero b le = omega arith
  take_up f (xs ∷ ls) (suc a) zero le = absurd (omega (arith, le))
  take_up f (xs ∷ ls) (suc a) (suc b) le = omega (arith, sum_by-cons f xs (take a ls), sum_by-cons f xs (take b ls), take_up f ls a b (omega (arith, le)))

  held_part : (low high : ℕ) (ns : List ℕ) (ls : Lists T) → AreRising low high ns → high ≤ length ls → held_in (lists_by ns ls) + held_in (take low ls) ≤ held_in ls
  held_part low high [] ls rises le = let t = sum_by-take-le length ls low in omega (arith, t)
  held_part low high (n ∷ ns) ls rises le =
      let below = (rising_at low high (n ∷ ns) 0 rises (omega arith)).1 in
      let rest = held_part (n + 1) high ns ls rises.1 le in
      let more = sum_by_more length ls n [] (omega (arith, below, le)) in
      let up = take_up length ls low n rises.0 in
      let c = sum_by-cons length (list_of ls n) (lists_by ns ls) in
      omega (arith, rest, more, up, c)

  other_same : (k : ℕ) (ns : List ℕ) (ls : Lists T) (xs : List (Field T)) → AllByRecursion (λ n. n ≢ k) ns → lists_by ns (set ls k xs) ≡ lists_by ns ls
  other_same k [] ls xs none = refl
  other_same k (n ∷ ns) ls xs none =
      ap (λ ys. ys ∷ lists_by ns (set ls k xs)) (get_or-set_other ls k n xs [] none.0) ∙ ap (λ yss. list_of ls n ∷ yss) (other_same k ns ls xs none.1)

  no_field : (xs : List (Field T)) → length xs ≡ 0 → xs ≡ []
  no_field [] e = refl
  no_field (x ∷ xs) e = absurd (omega (arith, e))

  other_empty : (ns : List ℕ) (ls : Lists T) → AreNumbers ns ls → (k : ℕ) → k < length ls → AllByRecursion (λ n. n ≢ k) ns → list_of ls k ≡ []
  other_empty ns ls are k lt none =
      let without = sum_by-set length ls k [] [] lt in
      let part = held_part 0 (length ls) ns (set ls k []) are.rising (let l = length-set ls k [] in omega (arith, l)) in
      let same = ap held_in (other_same k ns ls [] none) in
      let h = are.held in
      no_field (list_of ls k) (omega (arith, without, part, same, h))

  -- what holds of the items of the sections' lists holds of all that are held
  of_at : (C : T → Type 0) (ls : Lists T) (k : ℕ) → AllAreOf C ls → k < length ls → AreOf C (list_of ls k)
  of_at C [] k all lt = absurd (omega (arith, lt))
  of_at C (xs ∷ ls) zero all lt = all.0
  of_at C (xs ∷ ls) (suc k) all lt = of_at C ls k all.1 (omega (arith, lt))

  of_each : (C : T → Type 0) (ls : Lists T) → ((k : ℕ) → k < length ls → AreOf C (list_of ls k)) → AllAreOf C ls
  of_each C [] each = tt
  of_each C (xs ∷ ls) each = (each 0 (omega arith), of_each C ls (λ k lt. each (suc k) (omega (arith, lt))))

  pub all_held : (C : T → Type 0) (ns : List ℕ) (ls : Lists T) → AreNumbers ns ls → AllAreOf C (lists_by ns ls) → AllAreOf C ls
  all_held C ns ls are all = of_each C ls (λ k lt. elim (has_number k ns) [
    | inl there ↦
        subst (λ xs. AreOf C xs) (by_at ns ls there.0 there.1 ∙ ap (list_of ls) there.2)
        (of_at C (lists_by ns ls) there.0 all (let c = by_count ns ls in let l = there.1 in omega (arith, c, l)))
    | inr none ↦ subst (λ xs. AreOf C xs) (sym (other_empty ns ls are k lt none)) tt
  ])

  -- ... items that are changed

  answered_held : (R : T → T → Type 0) (xs ys : Lists T) → AreAnswered R xs ys → held_in xs ≡ held_in ys
  answered_held R [] [] all = refl
  answered_held R [] (y ∷ ys) all = absurd all
  answered_held R (x ∷ xs) [] all = absurd all
  answered_held R (x ∷ xs) (y ∷ ys) all =
      let l = length_zip R x y all.0 in
      omega (arith, sum_by-cons length x xs, sum_by-cons length y ys, l, answered_held R xs ys all.1)
    where
      length_zip : (R : T → T → Type 0) (xs ys : List (Field T)) → AllZip (IsAnswered R) xs ys → length xs ≡ length ys
      length_zip R xs ys all = length_all_zip (IsAnswered R) xs ys all

  pub answered_count : (R : T → T → Type 0) (xs ys : Lists T) → AreAnswered R xs ys → length xs ≡ length ys
  answered_count R xs ys all = length_all_zip (AllZip (IsAnswered R)) xs ys all

  pub by_answered : (R : T → T → Type 0) (low high : ℕ) (ns : List ℕ) (xs ys : Lists T) → AreRising low high ns → high ≤ length xs → AreAnswered R xs ys → AreAnswered R (lists_by ns xs) (lists_by ns ys)
  by_answered R low high [] xs ys rises le all = tt
  by_answered R low high (n ∷ ns) xs ys rises le all =
      let below = (rising_at low high (n ∷ ns) 0 rises (omega arith)).1 in
      (AllZip-get_or (AllZip (IsAnswered R)) xs ys n [] [] all (omega (arith, below, le)), by_answered R (n + 1) high ns xs ys rises.1 le all)

  pub answered_numbers : (R : T → T → Type 0) (ns : List ℕ) (xs ys : Lists T) → AreAnswered R xs ys → AreNumbers ns xs → AreNumbers ns ys
  answered_numbers R ns xs ys all are = record {
    rising = subst (λ h. AreRising 0 h ns) (length_all_zip (AllZip (IsAnswered R)) xs ys all) are.rising;
    held =
        sym (answered_held R (lists_by ns xs) (lists_by ns ys) (by_answered R 0 (length xs) ns xs ys are.rising (omega arith) all))
        ∙ are.held ∙ answered_held R xs ys all;
  }

  -- ... lists that are emptied

  emptied_next : (stay : List Bool) (ls : Lists T) (k : ℕ) → k < length stay
      → emptied (take (suc k) stay) ls ≡ cond (get_or stay k true) (emptied (take k stay) ls) (set (emptied (take k stay) ls) k [])
  emptied_next [] ls k lt = absurd (omega (arith, lt))
  emptied_next (true ∷ stay) [] zero lt = refl
  emptied_next (false ∷ stay) [] zero lt = refl
  emptied_next (true ∷ stay) (xs ∷ ls) zero lt = refl
  emptied_next (false ∷ stay) (xs ∷ ls) zero lt = refl
  emptied_next (b ∷ stay) [] (suc k) lt = either (get_or stay k true) []
    where
      either : (c : Bool) (none : Lists T) → none ≡ cond c none none
      either c none = grind arith
  emptied_next (true ∷ stay) (xs ∷ ls) (suc k) lt = ap (λ yss. xs ∷ yss) (emptied_next stay ls k (omega (arith, lt))) ∙ into (get_or stay k true) xs (emptied (take k stay) ls) (set (emptied (take k stay) ls) k [])
    where
      into : (c : Bool) (xs : List (Field T)) (a b : Lists T) → xs ∷ cond c a b ≡ cond c (xs ∷ a) (xs ∷ b)
      into c xs a b = grind arith
  emptied_next (false ∷ stay) (xs ∷ ls) (suc k) lt = ap (λ yss. [] ∷ yss) (emptied_next stay ls k (omega (arith, lt))) ∙ into (get_or stay k true) (emptied (take k stay) ls) (set (emptied (take k stay) ls) k [])
    where
      into : (c : Bool) (a b : Lists T) → [] ∷ cond c a b ≡ cond c ([] ∷ a) ([] ∷ b)
      into c a b = grind arith

  pub emptied_more : (stay : List Bool) (ls : Lists T) (k : ℕ) → k < length stay
      → emptied (take (k + 1) stay) ls ≡ cond (get_or stay k true) (emptied (take k stay) ls) (set (emptied (take k stay) ls) k [])
  emptied_more stay ls k lt = let e : k + 1 ≡ suc k = omega arith in ap (λ j. emptied (take j stay) ls) e ∙ emptied_next stay ls k lt

  -- those that stay are the same, and hold all
  kept_emptied : (stay : List Bool) (ls : Lists T) → kept_of stay (emptied stay ls) ≡ kept_of stay ls
  kept_emptied [] ls = refl
  kept_emptied (b ∷ stay) [] = refl
  kept_emptied (true ∷ stay) (xs ∷ ls) = ap (λ yss. xs ∷ yss) (kept_emptied stay ls)
  kept_emptied (false ∷ stay) (xs ∷ ls) = kept_emptied stay ls

  emptied_held : (stay : List Bool) (ls : Lists T) → held_in (kept_of stay ls) ≡ held_in (emptied stay ls)
  emptied_held [] [] = refl
  emptied_held [] (xs ∷ ls) = refl
  emptied_held (b ∷ stay) [] = refl
  emptied_held (true ∷ stay) (xs ∷ ls) = omega (arith, sum_by-cons length xs (kept_of stay ls), sum_by-cons length xs (emptied stay ls), emptied_held stay ls)
  emptied_held (false ∷ stay) (xs ∷ ls) = let none : List (Field T) = [] in omega (arith, sum_by-cons length none (emptied stay ls), emptied_held stay ls)

  kept_by : (stay : List Bool) (ns : List ℕ) (ls : Lists T) → lists_by (kept_of stay ns) ls ≡ kept_of stay (lists_by ns ls)
  kept_by stay [] ls = refl
  kept_by [] (n ∷ ns) ls = refl
  kept_by (true ∷ stay) (n ∷ ns) ls = ap (λ yss. list_of ls n ∷ yss) (kept_by stay ns ls)
  kept_by (false ∷ stay) (n ∷ ns) ls = kept_by stay ns ls

  -- what is left
  module _ (stay : List Bool) (ns : List ℕ) (old new : Lists T) (are : AreNumbers ns new) (emptied_is : lists_by ns new ≡ emptied stay (lists_by ns old)) where
    pub left_lists : lists_by (kept_of stay ns) new ≡ kept_of stay (lists_by ns old)
    left_lists = kept_by stay ns new ∙ ap (kept_of stay) emptied_is ∙ kept_emptied stay (lists_by ns old)

    pub left_numbers : AreNumbers (kept_of stay ns) new
    left_numbers = record {
      rising = kept_rise 0 (length new) stay ns are.rising;
      held = ap held_in left_lists ∙ emptied_held stay (lists_by ns old) ∙ ap held_in (sym emptied_is) ∙ are.held;
    }

-- ... a section's list

module _ {T : Type 0} (of : Option (List ℕ)) (ls : Lists T) (are : AreNumbers (numbers_by of (length ls)) ls) (s : ℕ) (lt : s < length (numbered of ls)) where
  abbrev ns : List ℕ
  ns = numbers_by of (length ls)

  low : s < length ns
  low = let c = by_count ns ls in omega (arith, c, lt)

  number : number_at of s ≡ get_or ns s 0
  number = number_is of (length ls) s low

  pub at_there : number_at of s < length ls
  at_there = let t = by_there ns ls are s low in omega (arith, number, t)

  pub at_list : list_of ls (number_at of s) ≡ list_of (numbered of ls) s
  at_list = ap (list_of ls) number ∙ sym (by_at ns ls s low)

  module _ (xs : List (Field T)) where
    same_count : length (set ls (number_at of s) xs) ≡ length ls
    same_count = length-set ls (number_at of s) xs

    pub at_set : numbered of (set ls (number_at of s) xs) ≡ set (numbered of ls) s xs
    at_set =
        ap (λ c. lists_by (numbers_by of c) (set ls (number_at of s) xs)) same_count
        ∙ ap (λ k. lists_by ns (set ls k xs)) number ∙ by_set ns ls are s low xs

    pub at_numbers : AreNumbers (numbers_by of (length (set ls (number_at of s) xs))) (set ls (number_at of s) xs)
    at_numbers =
        subst (λ c. AreNumbers (numbers_by of c) (set ls (number_at of s) xs)) (sym same_count)
        (subst (λ k. AreNumbers ns (set ls k xs)) (sym number) (set_numbers ns ls are s low xs))

    -- the same of a call that may be refused
    pub tried_numbers : {A E : Type 0} (r : Result A E) (new : Lists T) → OnOk r (new ≡ set ls (number_at of s) xs) → OnErr r (new ≡ ls) → AreNumbers (numbers_by of (length new)) new
    tried_numbers (Ok x) new ok err = subst (λ (z : Lists T). AreNumbers (numbers_by of (length z)) z) (sym ok) at_numbers
    tried_numbers (Err e) new ok err = subst (λ (z : Lists T). AreNumbers (numbers_by of (length z)) z) (sym err) are

    pub tried_set : {A E : Type 0} (r : Result A E) (new : Lists T) → OnOk r (new ≡ set ls (number_at of s) xs) → OnOk r (numbered of new ≡ set (numbered of ls) s xs)
    tried_set (Ok x) new ok = ap (numbered of) ok ∙ at_set
    tried_set (Err e) new ok = ok

-- what a refused call leaves
pub refused_lists : {T : Type 0} {A E : Type 0} (r : Result A E) (new old : Chained T) → OnErr r (new ≡ old) → OnErr r (new.lists ≡ old.lists)
refused_lists (Ok x) new old err = err
refused_lists {T} (Err e) new old err = ap (λ (c : Chained T). c.lists) err

pub counted_numbers : (of : Option (List ℕ)) (count : ℕ) → IfSome of (λ numbers. count ≡ length numbers) → length (numbers_by of count) ≡ count
counted_numbers None count same = length-range_with_len 0 count
counted_numbers (Some numbers) count same = sym same

-- so many numbers as sections
pub numbers_same : (of : Option (List ℕ)) (count : ℕ) → numbers_by of (length (numbers_by of count)) ≡ numbers_by of count
numbers_same None count = ap (λ k. range_with_len 0 k) (length-range_with_len 0 count)
numbers_same (Some numbers) count = refl

-- ... lists that are emptied, one after another

-- those of the first sections that do not stay are empty
abbrev pub IsEmptying : {T : Type 0} → Option (List ℕ) → List Bool → Chained T → Chained T → ℕ → Type 0
IsEmptying of stay old new k =
    AreNumbers (numbers_by of (length new.lists)) new.lists
    × (length new.lists ≡ length old.lists)
    × (numbered of new.lists ≡ emptied (take k stay) (numbered of old.lists))
    × (new.spare + held_in new.lists ≡ old.spare + held_in old.lists)

module _ {T : Type 0} (of : Option (List ℕ)) (stay : List Bool) (old : Chained T) (all : length stay ≡ length (numbered of old.lists)) (new : Chained T) (k : ℕ) (lt : k < length stay) (so_far : IsEmptying of stay old new k) where
  pub next_low : k < length (numbered of new.lists)
  next_low =
      let a = by_count (numbers_by of (length new.lists)) new.lists in
      let b = by_count (numbers_by of (length old.lists)) old.lists in
      let c = ap (λ n. length (numbers_by of n)) so_far.1 in
      omega (arith, a, b, c, all, lt)

  pub next_there : number_at of k < length new.lists
  next_there = at_there of new.lists so_far.0 k next_low

  pub next_stays : (d : Bool) → get_or stay k d ≡ true → IsEmptying of stay old new (k + 1)
  next_stays d stays = (
    so_far.0,
    so_far.1,
    so_far.2 ∙ sym (emptied_more stay (numbered of old.lists) k lt
        ∙ ap (λ c. cond c (emptied (take k stay) (numbered of old.lists)) (set (emptied (take k stay) (numbered of old.lists)) k [])) (get_or_default stay k true d lt ∙ stays)),
    so_far.3,
  )

  pub next_goes : (d : Bool) → get_or stay k d ≡ false → (next : Chained T) → next.lists ≡ set new.lists (number_at of k) [] → next.spare ≡ new.spare + length (list_of new.lists (number_at of k))
      → IsEmptying of stay old next (k + 1)
  next_goes d goes next lists spare = (
    subst (λ (z : Lists T). AreNumbers (numbers_by of (length z)) z) (sym lists) (at_numbers of new.lists so_far.0 k next_low []),
    ap length lists ∙ length-set new.lists (number_at of k) [] ∙ so_far.1,
    ap (numbered of) lists ∙ at_set of new.lists so_far.0 k next_low [] ∙ ap (λ z. set z k []) so_far.2
        ∙ sym (emptied_more stay (numbered of old.lists) k lt
        ∙ ap (λ c. cond c (emptied (take k stay) (numbered of old.lists)) (set (emptied (take k stay) (numbered of old.lists)) k [])) (get_or_default stay k true d lt ∙ goes)),
    (let a = sum_by-set length new.lists (number_at of k) [] [] next_there in
        let b = ap held_in lists in
        let c = so_far.3 in
        omega (arith, a, b, c, spare)),
  )

-- what is left of all
module _ {T : Type 0} (of : Option (List ℕ)) (stay : List Bool) (old new : Chained T) (are : AreNumbers (numbers_by of (length old.lists)) old.lists) (all : length stay ≡ length (numbered of old.lists))
    (numbers : AreNumbers (numbers_by of (length new.lists)) new.lists) (count : length new.lists ≡ length old.lists) (lists : numbered of new.lists ≡ emptied stay (numbered of old.lists))
    (spare : new.spare + held_in new.lists ≡ old.spare + held_in old.lists) (left : List ℕ) (is : left ≡ kept_of stay (numbers_by of (length stay))) where
  left_is : left ≡ kept_of stay (numbers_by of (length old.lists))
  left_is = is ∙ ap (λ c. kept_of stay (numbers_by of c)) (all ∙ by_count (numbers_by of (length old.lists)) old.lists) ∙ ap (kept_of stay) (numbers_same of (length old.lists))

  old_numbers : AreNumbers (numbers_by of (length old.lists)) new.lists
  old_numbers = subst (λ c. AreNumbers (numbers_by of c) new.lists) count numbers

  old_lists : lists_by (numbers_by of (length old.lists)) new.lists ≡ emptied stay (numbered of old.lists)
  old_lists = ap (λ c. lists_by (numbers_by of c) new.lists) (sym count) ∙ lists

  pub all_left_numbers : AreNumbers left new.lists
  all_left_numbers = subst (λ ns. AreNumbers ns new.lists) (sym left_is) (left_numbers stay (numbers_by of (length old.lists)) old.lists new.lists old_numbers old_lists)

  pub all_left_lists : lists_by left new.lists ≡ kept_of stay (numbered of old.lists)
  all_left_lists = ap (λ ns. lists_by ns new.lists) left_is ∙ left_lists stay (numbers_by of (length old.lists)) old.lists new.lists old_numbers old_lists

  pub all_left_spare : new.spare + held_in (lists_by left new.lists) ≡ old.spare + held_in (numbered of old.lists)
  all_left_spare = let a = all_left_numbers.held in let b = are.held in omega (arith, spare, a, b)
