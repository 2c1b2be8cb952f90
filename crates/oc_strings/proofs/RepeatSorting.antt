-- Entries in order: those with the same name stand together.
use Rattle.std.proofs.Common.{◌≡◌, ℕ, zero, suc, ◌+◌, ◌-◌, ◌<◌, ◌≤◌, Bool, true, false, cond, ◌&&◌, nat_eq, nat_le, nat_lt, bytes_eq, List, [], ◌++◌, length, get_or, Option, Some, None, inl, inr, ◌⊎◌, refl, sym, ◌∙◌, ap, arith, subst}
use Rattle.std.specs.{declared.cmp.Ordering.{Ordering}, declared.cmp.Ordering.TheVariants.{Less, Equal, Greater}, Cmp.{IsTotalOrder, tied_then}}
use Rattle.std.specs.{Cmp.Lexicographic.{slice_cmp}, List.{All, Contains, IsDistinct}, List.Sorted.{IsPermutation, IsSorted}}
use Rattle.std.specs.Option.{option_copied, option_flatten, option_map, option_to_list, unwrap_or}
use Rattle.std.specs.Ordering.{is_eq, is_lt, nat_cmp, ordering_reverse, ordering_then}
use Rattle.std.proofs.lemmas.{Bool.{and_parts, both_ways, cases_eq, cases_lt}, Bool.Decides.{nat_tests}}
use Rattle.std.proofs.lemmas.Cmp.{nat_cmp_total, nat_eq_equiv, nat_list_cmp_total, on_equiv, on_total, then_total, tied_back}
use Rattle.std.proofs.lemmas.{List.{append-nil, get_or_default}, List.Elements.{All-nil, All-push, All-weaker, Contains-append_left, Contains-push}}
use Rattle.std.proofs.lemmas.{List.Folds.{list_any_none}, List.Sorted.{All-permutation, Contains-permutation, ranks_by, sorted_far}}
use Rattle.std.proofs.lemmas.{Map.Keys.{IsDistinct-IsPermutation, IsDistinct-push, apart_from_distinct, ge_from_not_lt}, Map.Text.{is_eq-slice_cmp}}
use Rattle.std.proofs.lemmas.{Option.{none-some, same_Some, slice_get-get_or, slice_get-map}, Slice.Eq.{bytes_eq-Decides}}
use denote.Ref.{Bor}
use Rattle.oc_strings.specs.{declared.repeats.SortKey.{SortKey}, declared.repeats.Repeat.{Repeat}}
use Rattle.oc_strings.specs.Repeats.{NameList, are_tied, bytes_at, entries_of, first_repeat, number_of, name_at, names_of, order, sooner}
use Rattle.oc_strings.proofs.RepeatLemmas.{IsRepeat, named_within, no_repeat, repeat_first}

-- an entry has the number of the name at its position
pub record IsEntry (names : NameList) (e : SortKey) : Type 0 where
  pub name : List ℕ
  pub here : name_at names e.at ≡ Some name
  pub number : e.number ≡ number_of name

abbrev entry : ℕ → List ℕ → SortKey
entry k name = record { number = number_of name; at = k }

-- entries at one position
abbrev same_at : SortKey → SortKey → Bool
same_at x y = nat_eq x.at y.at

abbrev none : SortKey
none = record { number = 0; at = 0 }

-- the positions of neighbours that tie
abbrev IsPair : NameList → List SortKey → Repeat → Type 0
IsPair names es r = (k : ℕ) × (k + 1 < length es)
    × ((d : SortKey) → (are_tied names (get_or es k d) (get_or es (k + 1) d) ≡ true) × (r ≡ record { earlier = (get_or es k d).at; later = (get_or es (k + 1) d).at }))

-- what was found among the pairs of neighbours up to entry n is the one that ends least
pub record IsLeast (names : NameList) (es : List SortKey) (n : ℕ) (found : Option Repeat) : Type 0 where
  pub met : (k : ℕ) (d : SortKey) → k + 1 < n → are_tied names (get_or es k d) (get_or es (k + 1) d) ≡ true → (r : Repeat) × (found ≡ Some r) × (r.later ≤ (get_or es (k + 1) d).at)
  pub from : (r : Repeat) → found ≡ Some r → IsPair names es r

module _ (names : NameList) where
  abbrev with_last : ℕ → Option (List ℕ) → List SortKey
  with_last n o = entries_of names n ++ option_to_list (option_map (entry n) o)

  -- each is one, of a position below n
  each_entry : (n : ℕ) → All (λ e. IsEntry names e × (e.at < n)) (entries_of names n)
  each_entry zero = All-nil (λ e. IsEntry names e × (e.at < 0))
  each_entry (suc n) =
      by (All-weaker (λ e. IsEntry names e × (e.at < n)) (λ e. IsEntry names e × (e.at < suc n)) (λ e is. (is.0, omega (arith, is.1))) (entries_of names n) (each_entry n))
      (name_at names n) refl
    where
      by : All (λ e. IsEntry names e × (e.at < suc n)) (entries_of names n) → (o : Option (List ℕ)) → name_at names n ≡ o → All (λ e. IsEntry names e × (e.at < suc n)) (with_last n o)
      by before None here = subst (λ es. All (λ e. IsEntry names e × (e.at < suc n)) es) (sym (append-nil (entries_of names n))) before
      by before (Some name) here = All-push (λ e. IsEntry names e × (e.at < suc n)) (entries_of names n) (entry n name) before (record { name = name; here = here; number = refl }, omega arith)

  -- no two are at one position
  entries_apart : (n : ℕ) → IsDistinct same_at (entries_of names n)
  unfolding IsDistinct
  entries_apart zero = record {}
  entries_apart (suc n) = by (entries_apart n) (name_at names n)
    where
      other : (name : List ℕ) (e : SortKey) → e.at < n → same_at (entry n name) e ≡ false
      other name e low = grind (arith, nat_tests)

      by : IsDistinct same_at (entries_of names n) → (o : Option (List ℕ)) → IsDistinct same_at (with_last n o)
      by before None = subst (λ es. IsDistinct same_at es) (sym (append-nil (entries_of names n))) before
      by before (Some name) =
          IsDistinct-push (on_equiv (λ (e : SortKey). e.at) nat_eq_equiv) (entries_of names n) (entry n name) before
          (list_any_none (same_at (entry n name)) (entries_of names n)
          (All-weaker (λ e. IsEntry names e × (e.at < n)) (λ e. same_at (entry n name) e ≡ false) (λ e is. other name e is.1) (entries_of names n) (each_entry n)))

  -- there is one for each name
  entry_of : (n k : ℕ) (name : List ℕ) → k < n → name_at names k ≡ Some name → Contains (entries_of names n) (entry k name)
  entry_of zero k name low here = absurd (omega (arith, low))
  entry_of (suc n) k name low here = elim (cases_eq k n) [
    | inl same ↦ subst (λ j. Contains (entries_of names (suc n)) (entry j name)) (sym same) (last (subst (λ j. name_at names j ≡ Some name) same here))
    | inr other ↦ Contains-append_left (entries_of names n) (option_to_list (option_map (entry n) (name_at names n))) (entry k name) (entry_of n k name (omega (arith, low, other)) here)
  ]
    where
      last : name_at names n ≡ Some name → Contains (entries_of names (suc n)) (entry n name)
      last is = subst (λ o. Contains (with_last n o) (entry n name)) (sym is) (Contains-push (entries_of names n) (entry n name))

  pub order_total : IsTotalOrder (order names)
  order_total =
      then_total (on_total (λ (e : SortKey). e.number) nat_cmp_total)
      (then_total (on_total (λ (e : SortKey). bytes_at names e.at) nat_list_cmp_total) (on_total (λ (e : SortKey). e.at) nat_cmp_total))

  -- the order but for the positions
  abbrev front : SortKey → SortKey → Ordering
  front x y = ordering_then (nat_cmp x.number y.number) (slice_cmp nat_cmp (bytes_at names x.at) (bytes_at names y.at))

  front_total : IsTotalOrder front
  front_total = then_total (on_total (λ (e : SortKey). e.number) nat_cmp_total) (on_total (λ (e : SortKey). bytes_at names e.at) nat_list_cmp_total)

  order_front : (x y : SortKey) → order names x y ≡ ordering_then (front x y) (nat_cmp x.at y.at)
  order_front x y = joined (nat_cmp x.number y.number) (slice_cmp nat_cmp (bytes_at names x.at) (bytes_at names y.at)) (nat_cmp x.at y.at)
    where
      joined : (a b c : Ordering) → ordering_then a (ordering_then b c) ≡ ordering_then (ordering_then a b) c
      joined Less b c = refl
      joined Equal b c = refl
      joined Greater b c = refl

  -- entries tie exactly where only their positions tell them apart
  tied_is : (x y : SortKey) → are_tied names x y ≡ is_eq (front x y)
  tied_is x y =
      ap (λ t. t && bytes_eq (bytes_at names x.at) (bytes_at names y.at)) (sym (same_numbers x.number y.number))
      ∙ ap (λ t. is_eq (nat_cmp x.number y.number) && t) (sym (is_eq-slice_cmp (bytes_at names x.at) (bytes_at names y.at)))
      ∙ tied_then (nat_cmp x.number y.number) (slice_cmp nat_cmp (bytes_at names x.at) (bytes_at names y.at))
    where
      same_numbers : (k x : ℕ) → is_eq (nat_cmp k x) ≡ nat_eq k x
      same_numbers k x = by (nat_lt k x) refl
        where
          below : nat_lt k x ≡ true → nat_eq k x ≡ false
          below e = grind (arith, nat_tests, e)

          equal : (t : Bool) → is_eq (cond t Equal Greater) ≡ t
          equal true = refl
          equal false = refl

          by : (t : Bool) → nat_lt k x ≡ t → is_eq (cond t Less (cond (nat_eq k x) Equal Greater)) ≡ nat_eq k x
          by true e = sym (below e)
          by false e = equal (nat_eq k x)

  front_tied : (x y : SortKey) → are_tied names x y ≡ true → front x y ≡ Equal
  front_tied x y tied = equal (front x y) (sym (tied_is x y) ∙ tied)
    where
      equal : (o : Ordering) → is_eq o ≡ true → o ≡ Equal
      equal Less e = cc
      equal Equal e = refl
      equal Greater e = cc

  -- what is not below is not below by number and name
  front_kept : (x y : SortKey) → is_lt (order names x y) ≡ false → is_lt (front x y) ≡ false
  front_kept x y e = by (front x y) (nat_cmp x.at y.at) (ap is_lt (sym (order_front x y)) ∙ e)
    where
      by : (o p : Ordering) → is_lt (ordering_then o p) ≡ false → is_lt o ≡ false
      by Less p e = e
      by Equal p e = refl
      by Greater p e = refl

  -- what stands between two that tie ties with them
  between : (x y z : SortKey) → front x z ≡ Equal → is_lt (front y x) ≡ false → is_lt (front z y) ≡ false → front y z ≡ Equal
  between x y z tied from to =
      let alike : front x y ≡ front z y = front_total.congr x z y tied in
      tied_back front_total z y (sym alike ∙ level (front x y) (ap is_lt (sym (front_total.antisymm y x)) ∙ from) (ap is_lt alike ∙ to))
    where
      level : (o : Ordering) → is_lt (ordering_reverse o) ≡ false → is_lt o ≡ false → o ≡ Equal
      level Less e f = cc
      level Equal e f = refl
      level Greater e f = cc

  bytes_are : (e : SortKey) (name : List ℕ) → name_at names e.at ≡ Some name → bytes_at names e.at ≡ name
  bytes_are e name here = ap (λ o. unwrap_or o []) here

  module _ (es : List SortKey) (moved : IsPermutation (entries_of names (length names)) es) (sorted : IsSorted (order names) es) where
    entry_at : (k : ℕ) (d : SortKey) → k < length es → IsEntry names (get_or es k d)
    entry_at k d low =
        All-permutation (IsEntry names) (entries_of names (length names)) es moved
        (All-weaker (λ e. IsEntry names e × (e.at < length names)) (IsEntry names) (λ e is. is.0) (entries_of names (length names)) (each_entry (length names))) k d low

    apart : IsDistinct same_at es
    apart = IsDistinct-IsPermutation same_at (on_equiv (λ (e : SortKey). e.at) nat_eq_equiv).symm (entries_of names (length names)) es moved (entries_apart (length names))

    -- neighbours that tie are a repeat
    pub pair_is : (k : ℕ) (d : SortKey) → k + 1 < length es → are_tied names (get_or es k d) (get_or es (k + 1) d) ≡ true
        → IsRepeat names (record { earlier = (get_or es k d).at; later = (get_or es (k + 1) d).at })
    pair_is k d low tied =
        let x : SortKey = get_or es k d in
        let y : SortKey = get_or es (k + 1) d in
        let here = entry_at k d (omega (arith, low)) in
        let there = entry_at (k + 1) d low in
        let name : there.name ≡ here.name
        = sym (bytes_are y there.name there.here)
        ∙ sym ((bytes_eq-Decides (bytes_at names x.at) (bytes_at names y.at)).0 (and_parts (nat_eq x.number y.number) (bytes_eq (bytes_at names x.at) (bytes_at names y.at)) tied).1)
        ∙ bytes_are x here.name here.here in
        let level : front y x ≡ Equal = tied_back front_total x y (front_tied x y tied) in
        let up : is_lt (nat_cmp y.at x.at) ≡ false = ap (λ o. is_lt (ordering_then o (nat_cmp y.at x.at))) (sym level) ∙ ap is_lt (sym (order_front y x)) ∙ sorted k d (omega arith) low in
        let le : x.at ≤ y.at = ge_from_not_lt y.at x.at up in
        let differ : nat_eq x.at y.at ≡ false = apart_from_distinct same_at es k (k + 1) d apart (omega arith) low in
        record { before = rises x.at y.at le differ; name = here.name; first = here.here; again = there.here ∙ ap Some name }
      where
        rises : (a b : ℕ) → a ≤ b → nat_eq a b ≡ false → a < b
        rises a b le differ = grind (arith, nat_tests)

    -- each repeat ends where a pair of neighbours that tie does
    pub pair_of : (r : Repeat) → IsRepeat names r
        → (k : ℕ) × (k + 1 < length es) × ((d : SortKey) → (are_tied names (get_or es k d) (get_or es (k + 1) d) ≡ true) × ((get_or es (k + 1) d).at ≡ r.later))
    pair_of r is =
        let up = rises there.0 there.1 there.2 in
        let same : there.0 - 1 + 1 ≡ there.0 = omega (arith, up) in
        by (there.0 - 1) (omega (arith, same, there.1)) (subst (λ q. get_or es q z ≡ z) (sym same) there.2) (omega (arith, up))
      where
        x : SortKey
        x = entry r.earlier is.name

        z : SortKey
        z = entry r.later is.name

        within : r.later < length names
        within = named_within names r.later is.name is.again

        here : Contains es x
        here = Contains-permutation (entries_of names (length names)) es x moved (entry_of (length names) r.earlier is.name (omega (arith, within, is.before)) is.first)

        there : Contains es z
        there = Contains-permutation (entries_of names (length names)) es z moved (entry_of (length names) r.later is.name within is.again)

        tied : are_tied names x z ≡ true
        tied = both (nat_eq z.number z.number) (bytes_eq (bytes_at names x.at) (bytes_at names z.at)) itself
            ((bytes_eq-Decides (bytes_at names x.at) (bytes_at names z.at)).1 (bytes_are x is.name is.first ∙ sym (bytes_are z is.name is.again)))
          where
            itself : nat_eq z.number z.number ≡ true
            itself = nat_eq_equiv.refl z.number

            both : (s t : Bool) → s ≡ true → t ≡ true → (s && t) ≡ true
            both true t e f = f
            both false t e f = e

        below : is_lt (order names x z) ≡ true
        below = ap is_lt (order_front x z) ∙ ap (λ o. is_lt (ordering_then o (nat_cmp r.earlier r.later))) (front_tied x z tied) ∙ less r.earlier r.later is.before
          where
            less : (a b : ℕ) → a < b → is_lt (nat_cmp a b) ≡ true
            less a b low = by (is_lt (nat_cmp a b)) refl
              where
                by : (t : Bool) → is_lt (nat_cmp a b) ≡ t → t ≡ true
                by true e = refl
                by false e = absurd (omega (arith, low, ge_from_not_lt a b e))

        -- it does not stand behind
        rises : (q : ℕ) → q < length es → get_or es q z ≡ z → here.0 < q
        rises q low at_z = elim (cases_lt here.0 q) [
          | inl up ↦ up
          | inr down ↦
              let not_less : is_lt (order names (get_or es here.0 x) (get_or es q x)) ≡ false
              = sorted_far (λ a b. is_lt (order names a b)) (ranks_by order_total (λ e. e)) es sorted q here.0 x down here.1 in
              absurd (both_ways (is_lt (order names x z)) (sym (ap (λ e. is_lt (order names e z)) here.2 ∙ refl) ∙ ap (λ e. is_lt (order names (get_or es here.0 x) e)) (sym at_z ∙ get_or_default es q z x low) ∙ not_less) below)
        ]

        by : (k : ℕ) → k + 1 < length es → get_or es (k + 1) z ≡ z → here.0 ≤ k
            → (k : ℕ) × (k + 1 < length es) × ((d : SortKey) → (are_tied names (get_or es k d) (get_or es (k + 1) d) ≡ true) × ((get_or es (k + 1) d).at ≡ r.later))
        by k low at_z up = (
          k,
          low,
          λ d.
              let last : get_or es (k + 1) d ≡ z = get_or_default es (k + 1) d z low ∙ at_z in
              let y : SortKey = get_or es k d in
              let first : get_or es here.0 d ≡ x = get_or_default es here.0 d x here.1 ∙ here.2 in
              let from : is_lt (order names y x) ≡ false
              = ap (λ e. is_lt (order names y e)) (sym first) ∙ sorted_far (λ a b. is_lt (order names a b)) (ranks_by order_total (λ e. e)) es sorted here.0 k d up (omega (arith, low)) in
              let to : is_lt (order names z y) ≡ false = ap (λ e. is_lt (order names e y)) (sym last) ∙ sorted k d (omega arith) low in
              let level : front y z ≡ Equal = between x y z (front_tied x z tied) (front_kept y x from) (front_kept z y to) in
              (ap (are_tied names y) last ∙ tied_is y z ∙ ap is_eq level, ap (λ (e : SortKey). e.at) last),
        )

    -- the least of the pairs that tie is the first repeat
    pub found_first : (n : ℕ) (found : Option Repeat) → length es ≤ n → IsLeast names es n found → found ≡ first_repeat names
    found_first n None end is = sym (no_repeat names (λ s told.
        let p = pair_of s told in
        let m = is.met p.0 none (omega (arith, p.1, end)) (p.2 none).0 in
        none-some m.0 m.1))
    found_first n (Some r) end is =
        let f = is.from r refl in
        let t = f.2 none in
        let told : IsRepeat names r = subst (IsRepeat names) (sym t.1) (pair_is f.0 none f.1 t.0) in
        sym (repeat_first names r told (λ s other.
        let p = pair_of s other in
        let m = is.met p.0 none (omega (arith, p.1, end)) (p.2 none).0 in
        let same : r ≡ m.0 = same_Some r m.0 m.1 in
        omega (arith, m.2, ap (λ (s : Repeat). s.later) same, (p.2 none).1)))

-- one entry more is looked at
module _ (names : NameList) (es : List SortKey) (i : ℕ) (found : Option Repeat) (x y : SortKey) (is : IsLeast names es i found) (some : 1 ≤ i) (low : i < length es)
    (at_x : (d : SortKey) → x ≡ get_or es (i - 1) d) (at_y : (d : SortKey) → y ≡ get_or es i d) where
  abbrev pair : Repeat
  pair = record { earlier = x.at; later = y.at }

  -- it does not tie with the one before
  pub least_kept : are_tied names x y ≡ false → IsLeast names es (i + 1) found
  least_kept apart = record {
    met = λ j d l tied. elim (cases_eq (j + 1) i) [
      | inl same ↦ absurd (both_ways (are_tied names x y) apart (here j d same tied))
      | inr other ↦ is.met j d (omega (arith, l, other)) tied
    ];
    from = is.from;
  }
    where
      here : (j : ℕ) (d : SortKey) → j + 1 ≡ i → are_tied names (get_or es j d) (get_or es (j + 1) d) ≡ true → are_tied names x y ≡ true
      here j d same tied =
          let first : x ≡ get_or es j d = at_x d ∙ ap (λ k. get_or es k d) (omega (arith, same)) in
          let last : y ≡ get_or es (j + 1) d = at_y d ∙ ap (λ k. get_or es k d) (sym same) in
          ap (are_tied names x) last ∙ ap (λ e. are_tied names e (get_or es (j + 1) d)) first ∙ tied

  module _ (tied : are_tied names x y ≡ true) where
    -- one of what was found and the pair, which ends no later than either
    least_with : (new : Repeat) → new.later ≤ y.at → ((r : Repeat) → found ≡ Some r → new.later ≤ r.later) → (new ≡ pair) ⊎ (found ≡ Some new) → IsLeast names es (i + 1) (Some new)
    least_with new le least one = record {
      met = λ j d l other. elim (cases_eq (j + 1) i) [
        | inl same ↦ (new, refl, omega (arith, le, ap (λ (e : SortKey). e.at) (at_y d ∙ ap (λ k. get_or es k d) (sym same))))
        | inr differ ↦ let m = is.met j d (omega (arith, l, differ)) other in (new, refl, omega (arith, m.2, least m.0 m.1))
      ];
      from = λ r e. subst (IsPair names es) (same_Some new r e) (stands one);
    }
      where
        stands : (new ≡ pair) ⊎ (found ≡ Some new) → IsPair names es new
        stands (inr e) = is.from new e
        stands (inl e) =
            let next : i - 1 + 1 ≡ i = omega (arith, some) in (
              i - 1,
              omega (arith, next, low),
              λ d.
                  let last : y ≡ get_or es (i - 1 + 1) d = at_y d ∙ ap (λ k. get_or es k d) (sym next) in (
                    ap (are_tied names (get_or es (i - 1) d)) (sym last) ∙ ap (λ e. are_tied names e y) (sym (at_x d)) ∙ tied,
                    e ∙ ap (λ (e : SortKey). record { earlier = e.at; later = y.at }) (at_x d) ∙ ap (λ (e : SortKey). record { earlier = (get_or es (i - 1) d).at; later = e.at }) last,
                  ),
            )

    -- it ties
    pub least_more : IsLeast names es (i + 1) (Some (sooner found pair))
    least_more = by found refl
      where
        below : (a b : ℕ) → nat_le a b ≡ true → a ≤ b
        below a b e = grind (arith, nat_tests)

        above : (a b : ℕ) → nat_le a b ≡ false → b < a
        above a b e = grind (arith, nat_tests)

        chosen : (r : Repeat) → found ≡ Some r → (t : Bool) → nat_le r.later y.at ≡ t → IsLeast names es (i + 1) (Some (cond t r pair))
        chosen r e true le = least_with r (below r.later y.at le) (λ s f. omega (arith, ap (λ (r : Repeat). r.later) (same_Some r s (sym e ∙ f)))) (inr e)
        chosen r e false gt =
            least_with pair (omega arith) (λ s f. omega (arith, above r.later y.at gt, ap (λ (r : Repeat). r.later) (same_Some r s (sym e ∙ f)))) (inl refl)

        by : (o : Option Repeat) → found ≡ o → IsLeast names es (i + 1) (Some (sooner o pair))
        by None e = least_with pair (omega arith) (λ s f. absurd (none-some s (sym e ∙ f))) (inl refl)
        by (Some r) e = chosen r e (nat_le r.later y.at) refl

-- one position more is looked at
pub entries_more : (names : NameList) (n : ℕ) (es : List SortKey) (o : Option (List ℕ)) → name_at names n ≡ o → es ≡ entries_of names n → es ++ option_to_list (option_map (entry n) o) ≡ entries_of names (n + 1)
entries_more names n es o here are =
    let next : suc n ≡ n + 1 = omega arith in
    ap (λ xs. xs ++ option_to_list (option_map (entry n) o)) are ∙ ap (with_last names n) (sym here) ∙ ap (entries_of names) next

-- the name that a slice at a position holds
pub named_by : (slices : List (Option (Bor (List ℕ)))) (k : ℕ) → k < length slices → name_at (names_of slices) k ≡ option_copied (get_or slices k None)
named_by slices k low = ap option_flatten (slice_get-map option_copied slices k ∙ ap (option_map option_copied) (slice_get-get_or slices k None low))

pub unnamed_by : (slices : List (Option (Bor (List ℕ)))) (k : ℕ) → k < length slices → ((x : Bor (List ℕ)) → get_or slices k None ≡ Some x → ⊥) → name_at (names_of slices) k ≡ None
unnamed_by slices k low differ = named_by slices k low ∙ by (get_or slices k None) refl
  where
    by : (o : Option (Bor (List ℕ))) → get_or slices k None ≡ o → option_copied o ≡ None
    by None e = refl
    by (Some x) e = absurd (differ x e)
