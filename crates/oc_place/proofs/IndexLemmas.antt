-- A name is found among the names in order exactly where a symbol has it.
use Rattle.std.proofs.Common.{◌≡◌, ℕ, ◌+◌, ◌<◌, Bool, true, false, cond, List, [], ◌∷◌, ◌++◌, length, get_or, take, Option, Some, None, Err, inl, inr, refl, sym, ◌∙◌, ap, subst, arith}
use Rattle.std.specs.{Prelude.{bytes_eq, ◌||◌, slice_get}, List.{list_any}, List.Sorted.{IsBinarySearchResult, IsPermutation, IsSorted}}
use Rattle.std.specs.{Option.{option_flatten, option_map, option_map_or}, declared.cmp.Ordering.{Ordering}}
use Rattle.std.specs.{declared.cmp.Ordering.TheVariants.{Less, Equal, Greater}, Ordering.{nat_cmp, is_eq}, Cmp.Lexicographic.{slice_cmp}}
use Rattle.std.proofs.lemmas.{Bool.{cases_eq, cases_lt, true≢false}, Cmp.{nat_list_cmp_total, nat_list_eq_equiv}}
use Rattle.std.proofs.lemmas.{List.{append-nil, length-map, map-append, take_all, take_more}, List.Elements.{All-push}}
use Rattle.std.proofs.lemmas.List.Folds.{list_any-append, list_any_none}
use Rattle.std.proofs.lemmas.{List.Sorted.{All-permutation, IsPermutation-map, list_any-IsPermutation, searchable_from_sorted}, Map.Text.{is_eq-slice_cmp}}
use Rattle.std.proofs.lemmas.{Option.{get_or_from_slice_get, none-some, same_Some, slice_get-map, slice_get_within}, Slice.Eq.{bytes_eq-Decides}}
use Rattle.oc_linking.specs.Parts.{is_local}
use Rattle.oc_linking.specs.Parts as parts
use Rattle.oc_linking.proofs.{FirstFaultLaws.{first_upto_none}, Upto.{first_upto_from}}
use Rattle.oc_neutral.specs.{declared.symbol.Symbol.{Symbol}, Objects.{Object}, Faces.{shown_symbol, shown_symbols}, Invariants.{AreDistinct}}
use Rattle.oc_strings.specs.Repeats.{NameList, name_at, nonlocal_name, place_of}
use Rattle.oc_strings.proofs.RepeatLemmas.{named_within}
use Rattle.oc_place.specs.{declared.index.NamedSymbol.{NamedSymbol}, Indexes.{AddsName, AreListed, IsIndex, IsNamed, compared, is_of, present, texts}}
use Rattle.oc_place.specs.Written.{names_of, symbol_named}
use Rattle.oc_shows.proofs.Reordered.{shown_local}

-- ... names by position

module _ (n : Object) where
  -- the names of the symbols that are not Local
  abbrev pub names : NameList
  names = names_of (shown_symbols n)

  -- there is a place for each symbol
  pub length-names : length names ≡ length n.symbols
  length-names = length-map (shown_symbols n) (λ (y : parts.Symbol). nonlocal_name y.binding y.name) ∙ length-map n.symbols (shown_symbol n.symbols)

  -- the name of the symbol at a position
  pub place_here : (k : ℕ) (s : Symbol) → slice_get n.symbols k ≡ Some s → slice_get names k ≡ Some (nonlocal_name s.binding s.name)
  place_here k s here =
      slice_get-map (λ (y : parts.Symbol). nonlocal_name y.binding y.name) (shown_symbols n) k
      ∙ ap (option_map (λ (y : parts.Symbol). nonlocal_name y.binding y.name)) (slice_get-map (shown_symbol n.symbols) n.symbols k ∙ ap (option_map (shown_symbol n.symbols)) here)
      ∙ ap (λ b. Some (cond b None (Some s.name))) (shown_local n.symbols s.binding)

  pub name_here : (k : ℕ) (s : Symbol) → slice_get n.symbols k ≡ Some s → name_at names k ≡ nonlocal_name s.binding s.name
  name_here k s here = ap option_flatten (place_here k s here)

  -- that it is there
  pub record Has (k : ℕ) (name : List ℕ) : Type 0 where
    pub symbol : Symbol
    pub here : slice_get n.symbols k ≡ Some symbol
    pub nonlocal : is_local symbol.binding ≡ false
    pub same : symbol.name ≡ name

  pub name_from : (k : ℕ) (name : List ℕ) → name_at names k ≡ Some name → Has k name
  name_from k name named = by (slice_get n.symbols k) refl
    where
      nonlocal : (s : Symbol) (b : Bool) → is_local s.binding ≡ b → cond b None (Some s.name) ≡ Some name → (is_local s.binding ≡ false) × (s.name ≡ name)
      nonlocal s true e h = absurd (none-some name h)
      nonlocal s false e h = (e, same_Some s.name name h)

      none : slice_get n.symbols k ≡ None → name_at names k ≡ None
      none e = ap option_flatten
          (slice_get-map (λ (y : parts.Symbol). nonlocal_name y.binding y.name) (shown_symbols n) k
          ∙ ap (option_map (λ (y : parts.Symbol). nonlocal_name y.binding y.name)) (slice_get-map (shown_symbol n.symbols) n.symbols k ∙ ap (option_map (shown_symbol n.symbols)) e))

      by : (o : Option Symbol) → slice_get n.symbols k ≡ o → Has k name
      by None e = absurd (none-some name (sym (none e) ∙ named))
      by (Some s) e = let m = nonlocal s (is_local s.binding) refl (sym (name_here k s e) ∙ named) in record { symbol = s; here = e; nonlocal = m.0; same = m.1 }

  -- no two symbols have one name
  pub one_name : AreDistinct n.symbols → (j k : ℕ) (name : List ℕ) → name_at names j ≡ Some name → name_at names k ≡ Some name → j ≡ k
  one_name distinct j k name a b = elim (cases_eq j k) [
    | inl same ↦ same
    | inr other ↦
        let x = name_from j name a in
        let y = name_from k name b in
        absurd (elim (cases_lt j k) as (λ c. ⊥) [
          | inl less ↦ distinct j k x.symbol y.symbol less x.here y.here x.nonlocal y.nonlocal (x.same ∙ sym y.same)
          | inr more ↦ distinct k j y.symbol x.symbol (omega (arith, more, other)) y.here x.here y.nonlocal x.nonlocal (y.same ∙ sym x.same)
        ])
  ]

-- ... where a name stands first

module _ (all : NameList) (n : ℕ) (name : List ℕ) where
  -- that it stands at a position
  abbrev place : ℕ → Option ℕ
  place k = cond (option_map_or (bytes_eq name) (name_at all k) false) (Some k) None

  hit : (k : ℕ) → name_at all k ≡ Some name → place k ≡ Some k
  hit k here = ap (λ o. cond (option_map_or (bytes_eq name) o false) (Some k) None) here ∙ ap (λ t. cond t (Some k) None) ((bytes_eq-Decides name name).1 refl)

  stands : (k j : ℕ) → place k ≡ Some j → (k ≡ j) × (name_at all k ≡ Some name)
  stands k j e = by (name_at all k) refl e
    where
      named : (other : List ℕ) (t : Bool) → bytes_eq name other ≡ t → name_at all k ≡ Some other → cond t (Some k) None ≡ Some j → (k ≡ j) × (name_at all k ≡ Some name)
      named other false d here e = absurd (none-some j e)
      named other true d here e = (same_Some k j e, here ∙ ap Some (sym ((bytes_eq-Decides name other).0 d)))

      by : (o : Option (List ℕ)) → name_at all k ≡ o → cond (option_map_or (bytes_eq name) o false) (Some k) None ≡ Some j → (k ≡ j) × (name_at all k ≡ Some name)
      by None here e = absurd (none-some j e)
      by (Some other) here e = named other (bytes_eq name other) refl here e

  -- the only place is the first
  pub place_only : (k : ℕ) → k < n → name_at all k ≡ Some name → ((j : ℕ) → name_at all j ≡ Some name → j ≡ k) → place_of all n name ≡ Some k
  place_only k low here one = by (place_of all n name) refl
    where
      by : (o : Option ℕ) → place_of all n name ≡ o → place_of all n name ≡ Some k
      by None e = absurd (none-some k (sym (first_upto_none place n e k low) ∙ hit k here))
      by (Some j) e =
          let m = first_upto_from place n j e in
          let is = stands m.0 j m.2 in
          e ∙ ap Some (sym is.0 ∙ one m.0 is.1)

  -- there is none
  pub place_none : ((k : ℕ) → name_at all k ≡ Some name → ⊥) → place_of all n name ≡ None
  place_none none = by (place_of all n name) refl
    where
      by : (o : Option ℕ) → place_of all n name ≡ o → place_of all n name ≡ None
      by None e = e
      by (Some j) e = let m = first_upto_from place n j e in absurd (none m.0 (stands m.0 j m.2).1)

-- ... listing

-- the names that are there among more
present-append : (xs ys : NameList) → present (xs ++ ys) ≡ present xs ++ present ys
present-append [] ys = refl
present-append (None ∷ xs) ys = present-append xs ys
present-append (Some x ∷ xs) ys = ap (λ zs. x ∷ zs) (present-append xs ys)

present_more : (all : NameList) (k : ℕ) (o : Option (List ℕ)) → slice_get all k ≡ Some o → present (take (k + 1) all) ≡ present (take k all) ++ present (o ∷ [])
present_more all k o here = ap present (take_more all k o (slice_get_within all k o here) ∙ ap (λ y. take k all ++ y ∷ []) (get_or_from_slice_get all k o o here)) ∙ present-append (take k all) (o ∷ [])

-- the next symbol
pub one_listed : (all : NameList) (k : ℕ) (local : Bool) (name : List ℕ) (old new : List NamedSymbol) → slice_get all k ≡ Some (cond local None (Some name))
    → AddsName local name k old new → AreListed all k old → AreListed all (k + 1) new
one_listed all k true name old new there same listed = subst (AreListed all (k + 1)) (sym same) (record {
  listed = listed.listed ∙ sym (present_more all k None there ∙ append-nil (present (take k all)));
  each = listed.each;
  all = λ j other low at. elim (cases_eq j k) [
    | inl e ↦ absurd (none-some other (sym (ap option_flatten there) ∙ subst (λ i. name_at all i ≡ Some other) e at))
    | inr ne ↦ listed.all j other (omega (arith, low, ne)) at
  ];
})
one_listed all k false name old new there adds listed = subst (AreListed all (k + 1)) (sym adds.1) (record {
  listed = map-append (λ (x : NamedSymbol). x.name.now) old (adds.0 ∷ []) ∙ ap (λ xs. xs ++ adds.0.name.now ∷ []) listed.listed ∙ ap (λ m. present (take k all) ++ m ∷ []) adds.2
      ∙ sym (present_more all k (Some name) there);
  each = All-push (IsNamed all) old adds.0 listed.each (ap (name_at all) adds.3 ∙ ap option_flatten there ∙ ap Some (sym adds.2));
  all = λ j other low at. list_any-append (is_of other) old (adds.0 ∷ []) ∙ elim (cases_eq j k) [
    | inl e ↦
        let same : name ≡ other = same_Some name other (sym (ap option_flatten there) ∙ subst (λ i. name_at all i ≡ Some other) e at) in
        let own : bytes_eq other adds.0.name.now ≡ true = (bytes_eq-Decides other adds.0.name.now).1 (sym same ∙ sym adds.2) in
        right (list_any (is_of other) old) (bytes_eq other adds.0.name.now) own
    | inr ne ↦ left (list_any (is_of other) old) (bytes_eq other adds.0.name.now) (listed.all j other (omega (arith, low, ne)) at)
  ];
})
  where
    right : (a b : Bool) → b ≡ true → (a || (b || false)) ≡ true
    right true b e = refl
    right false b e = ap (λ c. c || false) e

    left : (a b : Bool) → a ≡ true → (a || (b || false)) ≡ true
    left a b e = ap (λ c. c || (b || false)) e

-- listed and put in order
pub in_order : (all : NameList) (old new : List NamedSymbol) → AreListed all (length all) old → IsPermutation old new → IsSorted compared new → ((k : ℕ) (name : List ℕ) → name_at all k ≡ Some name → k < length all)
    → IsIndex all new
in_order all old new listed moved sorted within = record {
  moved = subst (λ xs. IsPermutation xs (texts new)) (listed.listed ∙ ap present (take_all (length all) all (omega arith))) (IsPermutation-map (λ (x : NamedSymbol). x.name.now) old new moved);
  sorted = sorted;
  each = All-permutation (IsNamed all) old new moved listed.each;
  all = λ k name here. sym (list_any-IsPermutation (is_of name) old new moved) ∙ listed.all k name (within k name here) here;
}

-- ... searching

-- names that compare as equal are one
same_name : (name : List ℕ) (x : NamedSymbol) (o : Ordering) → slice_cmp nat_cmp x.name.now name ≡ o → is_of name x ≡ is_eq o
same_name name x o e = nat_list_eq_equiv.symm name x.name.now ∙ sym (is_eq-slice_cmp x.name.now name) ∙ ap is_eq e

module _ (n : Object) (fine : AreDistinct n.symbols) (entries : List NamedSymbol) (index : IsIndex (names n) entries) (name : List ℕ) where
  low : (k : ℕ) → name_at (names n) k ≡ Some name → k < length (shown_symbols n)
  low k here = let l = named_within (names n) k name here in let e = length-map (shown_symbols n) (λ (y : parts.Symbol). nonlocal_name y.binding y.name) in omega (arith, l, e)

  -- the entry that is found is of the symbol with the name
  pub found_at : (i : ℕ) (d : NamedSymbol) → i < length entries → slice_cmp nat_cmp (get_or entries i d).name.now name ≡ Equal
      → (symbol_named (shown_symbols n) name ≡ Some (get_or entries i d).at) × ((get_or entries i d).at < length n.symbols)
  found_at i d inside compares =
      let x : NamedSymbol = get_or entries i d in
      let named : IsNamed (names n) x = index.each i d inside in
      let same : name ≡ x.name.now = (bytes_eq-Decides name x.name.now).0 (same_name name x Equal compares) in
      let here : name_at (names n) x.at ≡ Some name = named ∙ ap Some (sym same) in
      let l = low x.at here in
      let e = length-map n.symbols (shown_symbol n.symbols) in (
        place_only (names n) (length (shown_symbols n)) name x.at l here (λ j there. one_name n fine j x.at name there here),
        omega (arith, l, e),
      )

  -- none is
  pub found_none : (i : ℕ) → IsBinarySearchResult (λ (x : NamedSymbol). slice_cmp nat_cmp x.name.now name) entries (Err i) → symbol_named (shown_symbols n) name ≡ None
  found_none i found =
      let parted = found (searchable_from_sorted nat_list_cmp_total (λ (x : NamedSymbol). x.name.now) entries name index.sorted) in
      let none : list_any (is_of name) entries ≡ false = list_any_none (is_of name) entries (λ k d l. elim (cases_lt k i) [
        | inl before ↦ same_name name (get_or entries k d) Less (parted.0 k d (omega arith) before)
        | inr after ↦ same_name name (get_or entries k d) Greater (parted.1 k d after l)
      ]) in
      place_none (names n) (length (shown_symbols n)) name (λ k here. true≢false (sym (index.all k name here) ∙ none))
