-- Entries in ascending order, and their numbers.
use Rattle.std.proofs.Common.{◌≡◌, ℕ, zero, suc, ◌+◌, ◌-◌, ◌^◌, ◌<◌, ◌≤◌, Bool, true, false, bytes_eq, nat_eq, List, [], ◌∷◌, ◌++◌, length, reverse, get_or, Option, Some, None, Ordering, refl, sym, ◌∙◌, ap, subst, arith, ⊎_elim}
use Rattle.std.proofs.lemmas.List.{get_or-map, length-map, get_or_default, get_or_append_left, length_push, map_push, get_or_push}
use Rattle.std.proofs.lemmas.List.Sorted.{All-permutation, Contains-permutation}
use Rattle.std.proofs.lemmas.Map.Keys.{IsDistinct-from_apart, IsDistinct-IsPermutation, apart_from_distinct}
use Rattle.std.proofs.lemmas.Option.{slice_get-get_or, slice_get_within, get_or_from_slice_get}
use Rattle.std.proofs.lemmas.{Bool.{both_ways, cases_eq, cases_lt, cases_order, eqb-false, false_from_ne_true}, Bool.Decides.{nat_tests}}
use Rattle.std.proofs.lemmas.{Cmp.{nat_eq_equiv, nat_list_cmp_total, tied_itself}, Slice.Eq.{bytes_eq-Decides}}
use Rattle.std.specs.{declared.cmp.Ordering.TheVariants.{Less, Equal, Greater}, Cmp.Lexicographic.{slice_cmp}, List.{All, IsDistinct, slice_get}}
use Rattle.std.specs.{List.Sorted.{IsSortedBy, IsPermutation}, Ordering.{is_lt, nat_cmp, ordering_then}}
use denote.Ref.{Bor}
use Rattle.oc_base.specs.Strings.{ends}
use Rattle.oc_strings.specs.{declared.order.Entry.{Entry}, Tables.{texts}, Inside.{IsSearchable, pick}, Keys.{back_number, entry_order, full_order, IsKeyed}}
use Rattle.oc_strings.specs.Order.{is_before, is_repeat, Ascends, StrictlyAscends, AreApart, AreSooner, IsNextTail, name_at, names_of, number_at, IsNumbered, IsOrder}
use Rattle.oc_strings.proofs.{SliceLemmas.{text_at}, EndLemmas.{ends_self, ends_whole}, OrderLemmas.{same_or_before, tail_back, tail_between}}
use Rattle.oc_strings.proofs.KeyLemmas.{entry_order_is}

pub name_of_entry : (entries : List Entry) (k : ℕ) (d : List ℕ) (e : Entry) → k < length entries → get_or (names_of entries) k d ≡ (get_or entries k e).name.now
name_of_entry entries k d e l = get_or-map (λ (x : Entry). x.name.now) entries k e d l

pub count_of_names : (entries : List Entry) → length (names_of entries) ≡ length entries
count_of_names entries = length-map entries (λ (x : Entry). x.name.now)

-- what the sort says, of the names
pub ascending : (entries : List Entry) → All IsKeyed entries → IsSortedBy (λ a b. is_lt (full_order a b)) entries → Ascends (names_of entries)
ascending entries keyed sorted k d l =
    let e : Entry = record { name = record { ref_ptr = (0, 0); now = d }; number = 0; back = 0 } in
    let in' : k + 1 < length entries = omega (arith, count_of_names entries) in
    let in'' : k < length entries = omega arith in
    let later : Entry = get_or entries (k + 1) e in
    let here : Entry = get_or entries k e in
    rw (name_of_entry entries (k + 1) d e in', name_of_entry entries k d e in'')
    (ap is_lt (sym (entry_order_is later here (keyed (k + 1) e in') (keyed k e in''))) ∙ first (entry_order later here) (nat_cmp here.number later.number) (sorted k e (omega arith) in'))
  where
    first : (o p : Ordering) → is_lt (ordering_then o p) ≡ false → is_lt o ≡ false
    first Less p e = e
    first Equal p e = refl
    first Greater p e = refl

-- the entry of a name with a number
abbrev pub made_of : Bor (List ℕ) → ℕ → Entry
made_of name number = record { name = name; number = number; back = back_number name.now }

-- entries that were made of names are keyed in any order
pub keyed_moved : (names : List (Bor (List ℕ))) (before after : List Entry) → IsPermutation before after
    → ((k : ℕ) (d : Entry) (e : Bor (List ℕ)) → k < length before → (get_or before k d ≡ made_of (get_or names k e) k) × ((j : ℕ) → get_or (get_or names k e).now j 0 < 2 ^ 8)) → All IsKeyed after
keyed_moved names before after moves each =
    let e : Bor (List ℕ) = record { ref_ptr = (0, 0); now = [] } in
    All-permutation IsKeyed before after moves
    (λ k d l. let is = each k d e l in subst IsKeyed (sym is.0) (record { back = refl; bytes = is.1 }))

-- entries that were numbered in order stay the names' entries in any order
pub numbered : (names : List (Bor (List ℕ))) (before after : List Entry) → IsPermutation before after → length before ≡ length names
    → ((k : ℕ) (d : Entry) (e : Bor (List ℕ)) → k < length names → get_or before k d ≡ made_of (get_or names k e) k) → IsNumbered (texts names) after
numbered names before after moves count each =
    let e : Bor (List ℕ) = record { ref_ptr = (0, 0); now = [] } in
    let test : Entry → Type 0 = λ x. slice_get (texts names) x.number ≡ Some x.name.now in
    record {
      named = All-permutation test before after moves
          (λ k d l.
          let in' : k < length names = omega arith in
          let there : k < length (texts names) = omega (arith, length-map names (λ (n : Bor (List ℕ)). n.now)) in
          subst test (sym (each k d e in')) (slice_get-get_or (texts names) k [] there ∙ ap Some (text_at names k e [] in')));
      whole = λ i within.
          let l : i < length names = omega (arith, length-map names (λ (n : Bor (List ℕ)). n.now)) in
          let entry : Entry = made_of (get_or names i e) i in
          let found = Contains-permutation before after entry moves (i, omega arith, each i entry e l) in
          (found.0, found.1, λ d. ap (λ (x : Entry). x.number) (get_or_default after found.0 d entry found.1 ∙ found.2));
    }

-- the number of an entry
pub number_is : (entries : List Entry) (k : ℕ) (d : Entry) → k < length entries → number_at entries k ≡ (get_or entries k d).number
number_is entries k d l = get_or-map (λ (e : Entry). e.number) entries k d 0 l

abbrev pub none : Entry
none = record { name = record { ref_ptr = (0, 0); now = [] }; number = 0; back = 0 }

abbrev same_number : Entry → Entry → Bool
same_number a b = nat_eq a.number b.number

differ : (a b : ℕ) → (a ≡ b → ⊥) → nat_eq a b ≡ false
differ a b ne = false_from_ne_true (nat_eq a b) (λ e. ne (same a b e))
  where
    same : (a b : ℕ) → nat_eq a b ≡ true → a ≡ b
    same a b e = grind (arith, nat_tests)

-- entries that were numbered in order stay apart in any order
pub apart_moved : (names : List (Bor (List ℕ))) (before after : List Entry) → IsPermutation before after
    → ((k : ℕ) (d : Entry) (e : Bor (List ℕ)) → k < length before → get_or before k d ≡ made_of (get_or names k e) k) → AreApart after
apart_moved names before after moves each i k l lk same =
    let e : Bor (List ℕ) = record { ref_ptr = (0, 0); now = [] } in
    let number : (j : ℕ) (d : Entry) → j < length before → (get_or before j d).number ≡ j = λ j d lj. ap (λ (x : Entry). x.number) (each j d e lj) in
    let first : IsDistinct same_number before
    = IsDistinct-from_apart same_number before (λ a b d la lb.
    let na = number a d (omega arith) in
    let nb = number b d lb in
    differ (get_or before a d).number (get_or before b d).number (λ e. omega (arith, na, nb)))
    in
    let moved : IsDistinct same_number after = IsDistinct-IsPermutation same_number (λ x y. nat_eq_equiv.symm x.number y.number) before after moves first in
    eqb-false (get_or after i none).number (get_or after k none).number (apart_from_distinct same_number after i k none moved l lk)
    (sym (number_is after i none (omega arith)) ∙ same ∙ number_is after k none lk)

-- what the sort says, of the numbers
pub sooner_first : (entries : List Entry) → All IsKeyed entries → AreApart entries → IsSortedBy (λ a b. is_lt (full_order a b)) entries → AreSooner entries
sooner_first entries keyed apart sorted k l same =
    let in' : k < length entries = omega arith in
    let here : Entry = get_or entries k none in
    let later : Entry = get_or entries (k + 1) none in
    let names : later.name.now ≡ here.name.now
    = sym (name_of_entry entries (k + 1) [] none l) ∙ sym same ∙ name_of_entry entries k [] none in'
    in
    let tie : entry_order later here ≡ Equal
    = entry_order_is later here (keyed (k + 1) none l) (keyed k none in') ∙ ap (λ n. slice_cmp nat_cmp (reverse n) (reverse here.name.now)) names ∙ tied_itself nat_list_cmp_total (reverse here.name.now)
    in
    let low : is_lt (nat_cmp here.number later.number) ≡ false = ap (λ o. is_lt (ordering_then o (nat_cmp here.number later.number))) (sym tie) ∙ sorted k none (omega arith) l in
    let at = number_is entries k none in' in
    let at' = number_is entries (k + 1) none l in
    by at at' (not_below here.number later.number low)
  where
    not_below : (a b : ℕ) → is_lt (nat_cmp a b) ≡ false → b ≤ a
    not_below a b e = grind (arith, nat_tests)

    by : number_at entries k ≡ (get_or entries k none).number → number_at entries (k + 1) ≡ (get_or entries (k + 1) none).number
        → (get_or entries (k + 1) none).number ≤ (get_or entries k none).number → number_at entries (k + 1) < number_at entries k
    by at at' le =
        ⊎_elim (λ lt. lt) (λ ge. absurd (apart k (k + 1) (omega arith) l (omega (arith, at, at', le)))) (cases_lt (number_at entries (k + 1)) (number_at entries k))

-- what an order says of one of its names
module _ (names : List (List ℕ)) (entries : List Entry) (tails : List (Option ℕ)) (o : IsOrder names entries tails) where
  pub named_at : (k : ℕ) → k < length entries → name_at names (number_at entries k) ≡ name_at (names_of entries) k
  named_at k l =
      ap (name_at names) (number_is entries k none l)
      ∙ get_or_from_slice_get names (get_or entries k none).number (get_or entries k none).name.now [] (o.numbered.named k none l)
      ∙ sym (name_of_entry entries k [] none l)

  pub number_within : (k : ℕ) → k < length entries → number_at entries k < length names
  number_within k l =
      let h = slice_get_within names (get_or entries k none).number (get_or entries k none).name.now (o.numbered.named k none l) in
      omega (arith, number_is entries k none l)

  pub one_rank : (i k : ℕ) → i < length (names_of entries) → k < length (names_of entries) → number_at entries i ≡ number_at entries k → i ≡ k
  one_rank i k li lk e =
      let count = count_of_names entries in
      ⊎_elim (λ same. same) (λ other. absurd (⊎_elim (λ low. o.apart i k low (omega (arith, lk, count)) e) (λ high. o.apart k i high (omega (arith, li, count)) (sym e)) other)) (cases_order i k)

  -- the rank of a name
  pub rank_of : (i : ℕ) → i < length names → (k : ℕ) × (k < length entries) × (number_at entries k ≡ i)
  rank_of i l = let r = o.numbered.whole i l in (r.0, r.1, number_is entries r.0 none r.1 ∙ r.2 none)

-- one more name, behind the last
pub ascends_push : (names : List (List ℕ)) (n : List ℕ) → StrictlyAscends names → ((k : ℕ) (d : List ℕ) → k + 1 ≡ length names → is_before (get_or names k d) n ≡ true)
    → StrictlyAscends (names ++ n ∷ [])
ascends_push names n up last k d l =
    ⊎_elim
    (λ inside.
    let k' : k < length names = omega arith in
    rw (get_or_append_left names (n ∷ []) d k k', get_or_append_left names (n ∷ []) d (k + 1) inside) (up k d inside))
    (λ outside.
    let at : length names ≡ k + 1 = omega (arith, length_push names n) in
    let k' : k < length names = omega arith in
    rw (get_or_append_left names (n ∷ []) d k k', get_or_push names n d (k + 1) at) (last k d (sym at)))
    (cases_lt (k + 1) (length names))

-- what has been done with the first i entries: the names that were met, once each and in order, have these numbers
pub record IsSearched (names : List (List ℕ)) (entries : List Entry) (i : ℕ) (numbers : List ℕ) : Type 0 where
  pub ascends : StrictlyAscends (pick names numbers)
  pub within : (k : ℕ) → k < length numbers → get_or numbers k 0 < length names
  pub last : (j : ℕ) → j + 1 ≡ i → (0 < length numbers) × (name_at names (get_or numbers (length numbers - 1) 0) ≡ name_at (names_of entries) j)
  pub met : (j : ℕ) → j < i → (k : ℕ) × (k < length numbers) × (name_at names (get_or numbers k 0) ≡ name_at (names_of entries) j)
  pub none_yet : i ≡ 0 → length numbers ≡ 0

pub searched_none : (names : List (List ℕ)) (entries : List Entry) → IsSearched names entries 0 []
searched_none names entries = record {
  ascends = λ k d l. absurd (omega arith);
  within = λ k l. absurd (omega arith);
  last = λ j e. absurd (omega arith);
  met = λ j l. absurd (omega arith);
  none_yet = λ e. refl;
}

-- the name with rank k is that of the one before exactly where its tail is as long
pub repeat_told : (names : List (List ℕ)) → Ascends names → (k j : ℕ) → k < length names → IsNextTail names k (Some j)
    → nat_eq (length (name_at names j)) (length (name_at names k)) ≡ is_repeat names k
repeat_told names up zero j w tail = absurd (omega (arith, tail.0))
repeat_told names up (suc m) j w tail = by (nat_eq (length (name_at names j)) (length (name_at names (suc m)))) refl
  where
    long : nat_eq (length (name_at names j)) (length (name_at names (suc m))) ≡ true → length (name_at names j) ≡ length (name_at names (suc m))
    long e = grind (arith, nat_tests)

    short : nat_eq (length (name_at names j)) (length (name_at names (suc m))) ≡ false → length (name_at names j) ≡ length (name_at names (suc m)) → ⊥
    short e = eqb-false (length (name_at names j)) (length (name_at names (suc m))) e

    by : (b : Bool) → nat_eq (length (name_at names j)) (length (name_at names (suc m))) ≡ b → b ≡ bytes_eq (name_at names m) (name_at names (suc m))
    by true e =
        let here : name_at names j ≡ name_at names (suc m) = ends_whole (name_at names j) (name_at names (suc m)) tail.1 (omega (arith, long e)) in
        let between : ends (name_at names j) (name_at names m) ≡ true = tail_between names up j m (suc m) (omega (arith, tail.0)) (omega arith) w tail.1 in
        let same : name_at names (suc m) ≡ name_at names m = tail_back names up m (suc m) (omega arith) w (subst (λ n. ends n (name_at names m) ≡ true) here between) in
        sym ((bytes_eq-Decides (name_at names m) (name_at names (suc m))).1 (sym same))
    by false e =
        sym (false_from_ne_true (bytes_eq (name_at names m) (name_at names (suc m))) (λ t.
        let same : name_at names m ≡ name_at names (suc m) = (bytes_eq-Decides (name_at names m) (name_at names (suc m))).0 t in
        let ends_it : ends (name_at names m) (name_at names (suc m)) ≡ true = subst (λ n. ends (name_at names m) n ≡ true) same (ends_self (name_at names m)) in
        ⊎_elim
        (λ low. both_ways (ends (name_at names m) (name_at names (suc m))) (tail.2 m low (omega arith)) ends_it)
        (λ high.
        let at : j ≡ m = omega (arith, tail.0, high) in
        short e (ap (λ i. length (name_at names i)) at ∙ ap length same))
        (cases_lt j m)))

pub repeat_none : (names : List (List ℕ)) (k : ℕ) → IsNextTail names k None → false ≡ is_repeat names k
repeat_none names zero tail = refl
repeat_none names (suc m) tail =
    sym (false_from_ne_true (bytes_eq (name_at names m) (name_at names (suc m))) (λ t.
    let same : name_at names m ≡ name_at names (suc m) = (bytes_eq-Decides (name_at names m) (name_at names (suc m))).0 t in
    both_ways (ends (name_at names m) (name_at names (suc m))) (tail m (omega arith)) (subst (λ n. ends (name_at names m) n ≡ true) same (ends_self (name_at names m)))))

module _ (names : List (List ℕ)) (entries : List Entry) (tails : List (Option ℕ)) (o : IsOrder names entries tails) (i : ℕ) (l : i < length entries)
    (numbers : List ℕ) (so : IsSearched names entries i numbers) where
  -- the name with rank i was met
  pub searched_old : is_repeat (names_of entries) i ≡ true → IsSearched names entries (i + 1) numbers
  searched_old old = by i so old
    where
      by : (n : ℕ) → IsSearched names entries n numbers → is_repeat (names_of entries) n ≡ true → IsSearched names entries (n + 1) numbers
      by zero s e = absurd (both_ways false refl e)
      by (suc m) s e =
          let same : name_at (names_of entries) m ≡ name_at (names_of entries) (suc m) = (bytes_eq-Decides (name_at (names_of entries) m) (name_at (names_of entries) (suc m))).0 e in
          let before = s.last m (omega arith) in
          record {
            ascends = s.ascends;
            within = s.within;
            last = λ j at. let here : j ≡ suc m = omega arith in (before.0, before.1 ∙ same ∙ ap (name_at (names_of entries)) (sym here));
            met = λ j below.
                ⊎_elim
                (λ here. (length numbers - 1, omega (arith, before.0), before.1 ∙ same ∙ ap (name_at (names_of entries)) (sym here)))
                (λ other. s.met j (omega (arith, other)))
                (cases_eq j (suc m));
            none_yet = λ at. absurd (omega arith);
          }

  -- it is a new one
  pub searched_new : is_repeat (names_of entries) i ≡ false → IsSearched names entries (i + 1) (numbers ++ number_at entries i ∷ [])
  searched_new fresh = record {
    ascends = subst StrictlyAscends (sym (map_push (name_at names) numbers n)) (ascends_push (pick names numbers) (name_at names n) so.ascends before);
    within = λ k lk.
        ⊎_elim
        (λ low. let h = so.within k low in omega (arith, h, get_or_append_left numbers (n ∷ []) 0 k low))
        (λ high.
        let at : length numbers ≡ k = omega (arith, length_push numbers n) in
        omega (arith, get_or_push numbers n 0 k at, number_within names entries tails o i l))
        (cases_lt k (length numbers));
    last = λ j at. let here : j ≡ i = omega arith in (omega (arith, length_push numbers n), at_last ∙ ap (name_at (names_of entries)) (sym here));
    met = λ j below.
        ⊎_elim
        (λ here. (length more - 1, omega (arith, length_push numbers n), at_last ∙ ap (name_at (names_of entries)) (sym here)))
        (λ other.
        let m = so.met j (omega (arith, other)) in
        (m.0, omega (arith, m.1, length_push numbers n), ap (name_at names) (get_or_append_left numbers (n ∷ []) 0 m.0 m.1) ∙ m.2))
        (cases_eq j i);
    none_yet = λ at. absurd (omega arith);
  }
    where
      n : ℕ
      n = number_at entries i

      more : List ℕ
      more = numbers ++ n ∷ []

      at_last : name_at names (get_or more (length more - 1) 0) ≡ name_at (names_of entries) i
      at_last =
          let at : length numbers ≡ length more - 1 = omega (arith, length_push numbers n) in
          ap (name_at names) (get_or_push numbers n 0 (length more - 1) at) ∙ named_at names entries tails o i l

      -- the last name that was met comes before it
      step : (m : ℕ) → m + 1 ≡ i → is_before (name_at (names_of entries) m) (name_at (names_of entries) i) ≡ true
      step m at =
          let here : suc m ≡ i = omega (arith, at) in
          same_or_before (name_at (names_of entries) m) (name_at (names_of entries) i)
          (subst (λ (j : ℕ). is_before (name_at (names_of entries) j) (name_at (names_of entries) m) ≡ false) at (o.ascends m [] (omega (arith, l, count_of_names entries))))
          (λ same. both_ways (is_repeat (names_of entries) i) fresh
          (subst (λ (j : ℕ). is_repeat (names_of entries) j ≡ true) here ((bytes_eq-Decides (name_at (names_of entries) m) (name_at (names_of entries) (suc m))).1
          (same ∙ ap (name_at (names_of entries)) (sym here)))))

      before : (k : ℕ) (d : List ℕ) → k + 1 ≡ length (pick names numbers) → is_before (get_or (pick names numbers) k d) (name_at names n) ≡ true
      before k d at =
          let count : length (pick names numbers) ≡ length numbers = length-map numbers (name_at names) in
          ⊎_elim
          (λ above.
          let m : ℕ = i - 1 in
          let s = so.last m (omega (arith, above)) in
          let here : get_or (pick names numbers) k d ≡ name_at (names_of entries) m
          = get_or-map (name_at names) numbers k 0 d (omega arith) ∙ ap (λ j. name_at names (get_or numbers j 0)) (omega arith) ∙ s.1
          in
          ap (λ x. is_before x (name_at names n)) here ∙ ap (is_before (name_at (names_of entries) m)) (named_at names entries tails o i l) ∙ step m (omega (arith, above)))
          (λ first. let z = so.none_yet (omega (arith, first)) in absurd (omega arith))
          (cases_lt 0 i)

-- after all entries the numbers serve for the search
pub searched_all : (names : List (List ℕ)) (entries : List Entry) (tails : List (Option ℕ)) → IsOrder names entries tails → (i : ℕ) → length entries ≤ i → (numbers : List ℕ)
    → IsSearched names entries i numbers → IsSearchable names numbers
searched_all names entries tails o i all numbers so = record {
  ascends = so.ascends;
  numbers = so.within;
  whole = λ j l.
      let r = rank_of names entries tails o j l in
      let m = so.met r.0 (omega (arith, r.1)) in
      (m.0, m.1, m.2 ∙ sym (named_at names entries tails o r.0 r.1) ∙ ap (name_at names) r.2);
}
