-- One given name after the other: which are tops, and where the texts stand.
use Rattle.std.proofs.Common.{◌≡◌, ℕ, zero, suc, ◌+◌, ◌-◌, ◌<◌, ◌≤◌, Bool, true, false, not, ◌&&◌, List, [], ◌∷◌, ◌++◌, length, take, get_or, replicate, map, IsSome, Option, Some, None, refl, sym, ◌∙◌, ap, subst, arith, ⊎_elim, length-append}
use Rattle.std.proofs.lemmas.List.{length-map, get_or-map, get_or_default, get_or-take, length-take-le, length-replicate, get_or-replicate, take_all, same_lists}
use Rattle.std.proofs.lemmas.{List.Sums.{fold_more}, List.Concat.{flat_map-append}}
use Rattle.std.proofs.lemmas.Bool.{both_ways, cases_lt, cases_Bool, and_parts, and_from, and_left, and_right, ltb-true, lt-ltb, cond-true, cond-false, false_from_ne_true}
use Rattle.std.specs.{List.{All, fold, list_any}, Option.{is_some, option_or, option_map}, Prelude.{nat_lt, if◌then◌else◌}}
use Rattle.oc_base.specs.Strings.{ends, is_maximal, is_given, with_top, tops_of, text_of, place_from, table_place}
use Rattle.oc_strings.specs.{declared.order.Entry.{Entry}, declared.spots.Spot.{Spot}, Tables.{capped, offset_of}}
use Rattle.oc_strings.specs.Order.{names_of, name_at, number_at, AreClosed, AreSpots, AreTailsPlaced, IsOrder, IsLaidOut, ends_next, place_in}
use Rattle.oc_strings.proofs.{EndLemmas.{ends_self, ends_whole}, EntryLemmas.{count_of_names, named_at, number_within, rank_of}}
use Rattle.oc_strings.proofs.GivenLemmas.{given_at, place_of_given, not_maximal, longer_for, tops_given, tops_have}
use Rattle.oc_strings.proofs.{PlaceLaws.{has_place, place_from-append, given_place, placed_too}, OrderLemmas.{tail_back, tail_between}}

module _ (names : List (List ℕ)) (entries : List Entry) (tails : List (Option ℕ)) (o : IsOrder names entries tails) where
  abbrev order : List (List ℕ)
  order = names_of entries

  in_order : (k : ℕ) → k < length entries → k < length order
  in_order k l = omega (arith, count_of_names entries)

  -- of the same names the one with a later rank was given before the other
  sooner_far : (d r : ℕ) → r + d + 1 < length entries → name_at order r ≡ name_at order (r + d + 1) → number_at entries (r + d + 1) < number_at entries r
  sooner_far zero r l same =
      let at : r + 0 + 1 ≡ r + 1 = omega arith in
      subst (λ j. number_at entries j < number_at entries r) (sym at) (o.sooner r (omega (arith, l)) (same ∙ ap (name_at order) at))
  sooner_far (suc d) r l same =
      let k : ℕ = r + suc d + 1 in
      let low : r + 1 ≤ k = omega arith in
      let ends_it : ends (name_at order r) (name_at order (r + 1)) ≡ true
      = tail_between order o.ascends r (r + 1) k (omega arith) low (in_order k l) (subst (λ n. ends (name_at order r) n ≡ true) same (ends_self (name_at order r)))
      in
      let next : name_at order k ≡ name_at order (r + 1) = tail_back order o.ascends (r + 1) k low (in_order k l) (subst (λ n. ends n (name_at order (r + 1)) ≡ true) same ends_it) in
      let at : r + 1 + d + 1 ≡ k = omega arith in
      let first = o.sooner r (omega (arith, l)) (same ∙ next) in
      let rest = sooner_far d (r + 1) (omega (arith, l)) (sym next ∙ ap (name_at order) (sym at)) in
      omega (arith, first, rest, ap (number_at entries) at)

  module _ (k : ℕ) (l : k < length entries) where
    abbrev number : ℕ
    number = number_at entries k

    abbrev name : List ℕ
    name = name_at order k

    -- what a name that does not end the next one ends is the same name, and comes no later
    same_only : ends_next order k ≡ false → (r : ℕ) → r < length entries → ends name (name_at order r) ≡ true → (r ≤ k) × (name ≡ name_at order r)
    same_only top r lr e =
        ⊎_elim
        (λ above. absurd (both_ways (ends_next order k) top
        (and_from (nat_lt (k + 1) (length order)) (ends name (name_at order (k + 1))) (lt-ltb (k + 1) (length order) (omega (arith, in_order r lr)))
        (tail_between order o.ascends k (k + 1) r (omega arith) (omega arith) (in_order r lr) e))))
        (λ low. (low, tail_back order o.ascends r k low (in_order k l) e))
        (cases_lt k r)

    top_is : ends_next order k ≡ false → is_maximal names name ≡ true
    top_is top =
        ⊎_elim (λ is. is)
        (λ other.
        let f = longer_for names name other in
        let both = and_parts (nat_lt (length name) (length f.name)) (ends name f.name) f.passes in
        let p = place_of_given names f.name f.given in
        let r = rank_of names entries tails o p.at p.within in
        let is : f.name ≡ name_at order r.0 = sym p.is ∙ ap (name_at names) (sym r.2) ∙ named_at names entries tails o r.0 r.1 in
        let same = same_only top r.0 r.1 (subst (λ n. ends name n ≡ true) is both.1) in
        absurd (omega (arith, ltb-true (length name) (length f.name) both.0, ap length (same.1 ∙ sym is))))
        (cases_Bool (is_maximal names name))

    top_new : ends_next order k ≡ false → is_given (take number names) name ≡ false
    top_new top =
        false_from_ne_true (is_given (take number names) name) (λ g.
        let p = place_of_given (take number names) name g in
        let w = number_within names entries tails o k l in
        let low : p.at < number = omega (arith, p.within, length-take-le number names (omega (arith, w))) in
        let r = rank_of names entries tails o p.at (omega (arith, w)) in
        let is : name ≡ name_at order r.0
        = sym p.is ∙ get_or-take number names p.at [] low ∙ ap (name_at names) (sym r.2) ∙ named_at names entries tails o r.0 r.1
        in
        let at = same_only top r.0 r.1 (subst (λ n. ends name n ≡ true) is (ends_self name)) in
        ⊎_elim
        (λ before.
        let d : ℕ = k - r.0 - 1 in
        let here : r.0 + d + 1 ≡ k = omega (arith, before) in
        let h = sooner_far d r.0 (omega (arith, l)) (sym is ∙ ap (name_at order) (sym here)) in
        omega (arith, h, ap (number_at entries) here, r.2, low))
        (λ same. let here : r.0 ≡ k = omega (arith, at.0, same) in omega (arith, ap (number_at entries) here, r.2, low))
        (cases_lt r.0 k))

    -- a name that ends the next one is no new top
    no_top : (tops : List (List ℕ)) → tops ≡ fold (with_top names) [] (take number names) → ends_next order k ≡ true → (is_maximal names name && not (is_given tops name)) ≡ false
    no_top tops are next =
        let parts = and_parts (nat_lt (k + 1) (length order)) (ends name (name_at order (k + 1))) next in
        let within : k + 1 < length entries = omega (arith, ltb-true (k + 1) (length order) parts.0, count_of_names entries) in
        let there : name_at names (number_at entries (k + 1)) ≡ name_at order (k + 1) = named_at names entries tails o (k + 1) within in
        let in' : number_at entries (k + 1) < length names = number_within names entries tails o (k + 1) within in
        ⊎_elim
        (λ longer.
        and_left (is_maximal names name) (not (is_given tops name))
        (not_maximal names name (name_at order (k + 1)) (subst (λ n. is_given names n ≡ true) there (given_at names (number_at entries (k + 1)) [] in')) parts.1 longer))
        (λ short.
        let same : name ≡ name_at order (k + 1) = ends_whole name (name_at order (k + 1)) parts.1 short in
        let before : number_at entries (k + 1) < number = o.sooner k within same in
        let w = number_within names entries tails o k l in
        let given : is_given (take number names) name ≡ true
        = subst (λ n. is_given (take number names) n ≡ true) (get_or-take number names (number_at entries (k + 1)) [] before ∙ there ∙ sym same)
        (given_at (take number names) (number_at entries (k + 1)) [] (omega (arith, before, length-take-le number names (omega (arith, w)))))
        in
        ⊎_elim
        (λ top.
        and_right (is_maximal names name) (not (is_given tops name))
        (ap not (subst (λ ts. is_given ts name ≡ true) (sym are) (tops_have names [] (take number names) name top given))))
        (λ not_top. and_left (is_maximal names name) (not (is_given tops name)) not_top)
        (cases_Bool (is_maximal names name)))
        (cases_lt (length name) (length (name_at order (k + 1))))

    -- the test of the program is that of the definition
    test_is : (tops : List (List ℕ)) → tops ≡ fold (with_top names) [] (take number names) → (is_maximal names name && not (is_given tops name)) ≡ not (ends_next order k)
    test_is tops are =
        ⊎_elim
        (λ next. no_top tops are next ∙ sym (ap not next))
        (λ top.
        let fresh : is_given tops name ≡ false
        = false_from_ne_true (is_given tops name) (λ g.
        ⊎_elim
        (λ none. both_ways false refl none)
        (λ given. both_ways (is_given (take number names) name) (top_new top) given)
        (tops_given names [] (take number names) name (subst (λ ts. is_given ts name ≡ true) are g)))
        in
        ap (λ b. b && not (is_given tops name)) (top_is top) ∙ ap not fresh ∙ sym (ap not top))
        (cases_Bool (ends_next order k))

-- the spot of a name says whether it is a new top
pub spot_test : (names : List (List ℕ)) (spots : List Spot) (known : AreSpots names spots) (i : ℕ) → i < length names → (tops : List (List ℕ)) → tops ≡ fold (with_top names) [] (take i names)
    → (d : Spot) → (get_or spots i d).is_top ≡ (is_maximal names (name_at names i) && not (is_given tops (name_at names i)))
spot_test names spots known i l tops are d =
    let r = rank_of names known.entries known.tails known.order i l in
    let is : name_at (names_of known.entries) r.0 ≡ name_at names i = sym (named_at names known.entries known.tails known.order r.0 r.1) ∙ ap (name_at names) r.2 in
    ap (λ n. (get_or spots n d).is_top) (sym r.2) ∙ ap (λ (s : Spot). s.is_top) (known.are r.0 d r.1)
    ∙ sym (test_is names known.entries known.tails known.order r.0 r.1 tops (are ∙ ap (λ n. fold (with_top names) [] (take n names)) (sym r.2)))
    ∙ ap (λ n. is_maximal names n && not (is_given tops n)) is

-- the last text behind the others
pub last_text : (tops : List (List ℕ)) (n : List ℕ) → length (text_of (tops ++ n ∷ [])) ≡ length (text_of tops) + (length n + 1)
unfolding text_of
last_text tops n =
    ap length (flat_map-append (λ (top : List ℕ). top ++ 0 ∷ []) tops (n ∷ []))
    ∙ omega (arith, length-append (text_of tops) (text_of (n ∷ [])), length-append (n ++ 0 ∷ []) [], length-append n (0 ∷ []))

-- where a name stands in it, from the capped number that the text begins at
last_place : (a at : ℕ) (n name : List ℕ) → at ≡ capped a → place_in at n name ≡ option_map capped (place_from a (n ∷ []) name)
last_place a at n name e = by (ends name n)
  where
    by : (b : Bool) → (if b then Some (capped (at + (length n - length name))) else None) ≡ option_map capped (if b then Some (a + (length n - length name)) else None)
    by true = ap Some (omega arith)
    by false = refl

either : (p q : Option ℕ) → option_or (option_map capped p) (option_map capped q) ≡ option_map capped (option_or p q)
either None q = refl
either (Some x) q = refl

-- before the first name
pub laid_none : (head : ℕ) (names : List (List ℕ)) (n : ℕ) → n ≡ length names → IsLaidOut head names 0 [] (replicate n None)
laid_none head names n same = record {
  tops_are = refl;
  whole = length-replicate n None ∙ same;
  placed = λ k l. get_or-replicate n k None None (omega arith);
}

-- what ends a name with an offset has one
pub laid_closed : (head i : ℕ) (names tops : List (List ℕ)) (offsets : List (Option ℕ)) → IsLaidOut head names i tops offsets → AreClosed names offsets
laid_closed head n names tops offsets laid i k li lk e some =
    here i li ∙ placed_too tops (name_at names i) (name_at names k) e (sym (here k lk) ∙ some)
  where
    capped_some : (p : Option ℕ) → is_some (option_map capped p) ≡ is_some p
    capped_some None = refl
    capped_some (Some x) = refl

    here : (j : ℕ) → j < length names → is_some (get_or offsets j None) ≡ list_any (ends (name_at names j)) tops
    here j lj = ap is_some (laid.placed j lj) ∙ capped_some (place_from head tops (name_at names j)) ∙ has_place head tops (name_at names j)

module _ (head i : ℕ) (names : List (List ℕ)) (l : i < length names) (tops : List (List ℕ)) (offsets : List (Option ℕ)) (laid : IsLaidOut head names i tops offsets) where
  abbrev here : List ℕ
  here = name_at names i

  more : fold (with_top names) [] (take (i + 1) names) ≡ with_top names tops here
  more = fold_more (with_top names) [] names i [] l ∙ ap (λ ts. with_top names ts here) (sym laid.tops_are)

  -- the name is no new top
  pub laid_same : (is_maximal names here && not (is_given tops here)) ≡ false → IsLaidOut head names (i + 1) tops offsets
  laid_same e = record {
    tops_are = sym (more ∙ cond-false (is_maximal names here && not (is_given tops here)) (tops ++ here ∷ []) tops e);
    whole = laid.whole;
    placed = laid.placed;
  }

  -- the name is a new top
  pub laid_more : (is_maximal names here && not (is_given tops here)) ≡ true → (at : ℕ) → at ≡ capped (head + length (text_of tops))
      → (new : List (Option ℕ)) → length new ≡ length offsets → AreTailsPlaced names at i offsets new → IsLaidOut head names (i + 1) (tops ++ here ∷ []) new
  laid_more e at is new same placed = record {
    tops_are = sym (more ∙ cond-true (is_maximal names here && not (is_given tops here)) (tops ++ here ∷ []) tops e);
    whole = same ∙ laid.whole;
    placed = λ k in'.
        placed k in'
        ∙ ap (λ p. option_or p (place_in at here (name_at names k))) (laid.placed k in')
        ∙ ap (option_or (option_map capped (place_from head tops (name_at names k)))) (last_place (head + length (text_of tops)) at here (name_at names k) is)
        ∙ either (place_from head tops (name_at names k)) (place_from (head + length (text_of tops)) (here ∷ []) (name_at names k))
        ∙ ap (option_map capped) (sym (place_from-append head tops (here ∷ []) (name_at names k)));
  }

module _ (head n : ℕ) (names : List (List ℕ)) (all : length names ≤ n) (tops : List (List ℕ)) (offsets : List (Option ℕ)) (laid : IsLaidOut head names n tops offsets) where
  -- all names have been used
  pub tops_all : tops ≡ tops_of names
  unfolding tops_of
  tops_all = laid.tops_are ∙ ap (fold (with_top names) []) (take_all n names all)

  -- each offset is that of its name
  pub offsets_all : offsets ≡ map (offset_of head names) names
  unfolding table_place
  offsets_all =
      same_lists offsets (map (offset_of head names) names) (laid.whole ∙ sym (length-map names (offset_of head names)))
      (λ k d l.
      let in' : k < length names = omega (arith, laid.whole) in
      get_or_default offsets k d None l ∙ is k in' ∙ sym (get_or-map (offset_of head names) names k [] d in'))
    where
      is : (k : ℕ) → k < length names → get_or offsets k None ≡ offset_of head names (name_at names k)
      is k l =
          laid.placed k l ∙ ap (λ ts. option_map capped (place_from head ts (name_at names k))) tops_all
          ∙ ap (option_map capped) (sym (cond-true (is_given names (name_at names k)) (place_from head (tops_of names) (name_at names k)) None (given_at names k [] l)))

  -- and each name has one
  pub placed_all : All (λ offset. IsSome offset) offsets
  placed_all k d l =
      let in' : k < length names = omega (arith, laid.whole) in
      let there : is_some (place_from head tops (name_at names k)) ≡ true
      = ap (λ ts. is_some (place_from head ts (name_at names k))) tops_all ∙ given_place head names (name_at names k) (given_at names k [] in')
      in
      subst (λ (p : Option ℕ). IsSome p) (sym (get_or_default offsets k d None l ∙ laid.placed k in')) (some (place_from head tops (name_at names k)) there)
    where
      some : (p : Option ℕ) → is_some p ≡ true → IsSome (option_map capped p)
      some None e = absurd (both_ways false refl e)
      some (Some x) e = refl
