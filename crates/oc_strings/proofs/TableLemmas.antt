-- A table's parts are those of the given names, and what a place in it says.
use Rattle.std.proofs.Common.{◌≡◌, ℕ, ◌+◌, ◌-◌, ◌^◌, ◌<◌, ◌≤◌, ◌↔◌, Bool, true, false, List, [], ◌∷◌, ◌++◌, length, take, drop, get_or, map, Option, Some, None, IsSome, refl, sym, ◌∙◌, ap, subst, arith, length-append, append_assoc}
use Rattle.std.proofs.lemmas.{List.{length-map, get_or-map, drop_at, take_at, get_or_at, get_or_default, same_lists}, List.Sums.{sum_by-cons}}
use Rattle.std.proofs.lemmas.{Option.{same_Some, slice_get-get_or, none-some}, Bool.{both_ways, cond-true}}
use Rattle.std.specs.{List.{Contains, slice_range, sum_by}, Option.{is_some, option_map, IfSome}, Prelude.{if◌then◌else◌}}
use Rattle.oc_base.specs.Strings.{is_given, tops_of, text_of, place_from, table_text, table_place}
use Rattle.oc_strings.specs.{declared.table.NameSpan.{NameSpan}, Tables.{StandsAt, capped, offset_of}, Order.{name_at}}
use Rattle.oc_strings.specs.{Inside.{name_in, names_in, IsSearchable, IsTable}, Parts.{ArePlaces}}
use Rattle.oc_strings.proofs.{GivenLemmas.{given_at, place_of_given}, PlaceLaws.{stands, given_place, tops_short}}

-- a name with a place is given, and the place is that in the texts
record Placed (head : ℕ) (names : List (List ℕ)) (name : List ℕ) (p : ℕ) : Type 0 where
  given : is_given names name ≡ true
  place : place_from head (tops_of names) name ≡ Some p

placed_as : (head : ℕ) (names : List (List ℕ)) (name : List ℕ) (p : ℕ) → table_place head names name ≡ Some p → Placed head names name p
unfolding table_place
placed_as head names name p e = by (is_given names name) refl e
  where
    by : (b : Bool) → is_given names name ≡ b → (if b then place_from head (tops_of names) name else None) ≡ Some p → Placed head names name p
    by true g e = record { given = g; place = e }
    by false g e = absurd (none-some p e)

-- how far a name reaches in the bytes, and that it stands there
pub record StandsIn (head : ℕ) (names : List (List ℕ)) (name : List ℕ) (p : ℕ) : Type 0 where
  pub above : head ≤ p
  pub reach : p - head + length name + 1 ≤ length (table_text names)
  pub there : StandsAt name (table_text names) (p - head)

pub stands_in : (head : ℕ) (names : List (List ℕ)) (name : List ℕ) (p : ℕ) → table_place head names name ≡ Some p → StandsIn head names name p
unfolding table_text
stands_in head names name p e =
    let s = stands head (tops_of names) name p (placed_as head names name p e).place in
    let t = s.there in
    record {
      above = s.above;
      reach = omega (arith, t.place, ap length t.is, length-append t.front (name ++ 0 ∷ t.back), length-append name (0 ∷ t.back));
      there = record {
        there =
            ap (λ n. take n (drop (p - head) (text_of (tops_of names)))) (omega arith)
            ∙ ap (λ b. take (length name) (drop (p - head) b)) t.is
            ∙ ap (take (length name)) (drop_at t.front (name ++ 0 ∷ t.back) (p - head) t.place)
            ∙ take_at name (0 ∷ t.back) (length name) refl;
        ended =
            let at : length (t.front ++ name) ≡ p - head + length name = length-append t.front name ∙ omega (arith, t.place) in
            let is : text_of (tops_of names) ≡ (t.front ++ name) ++ 0 ∷ t.back = t.is ∙ sym (append_assoc t.front name (0 ∷ t.back)) in
            slice_get-get_or (text_of (tops_of names)) (p - head + length name) 0
            (omega (arith, ap length is, length-append (t.front ++ name) (0 ∷ t.back)))
            ∙ ap Some (ap (λ b. get_or b (p - head + length name) 0) is ∙ get_or_at (t.front ++ name) 0 t.back 0 (p - head + length name) at);
      };
    }

-- a name has a place exactly where it is given
given_has : (head : ℕ) (names : List (List ℕ)) (name : List ℕ) → is_given names name ≡ true → IsSome (table_place head names name)
unfolding table_place
given_has head names name g =
    ap is_some (cond-true (is_given names name) (place_from head (tops_of names) name) None g) ∙ given_place head names name g

pub given_iff : (head : ℕ) (names : List (List ℕ)) (name : List ℕ) → IsSome (table_place head names name) ↔ Contains names name
given_iff head names name = (
  λ some. by (table_place head names name) refl some,
  λ c. given_has head names name (subst (λ (n : List ℕ). is_given names n ≡ true) c.2 (given_at names c.0 name c.1)),
)
  where
    by : (o : Option ℕ) → table_place head names name ≡ o → is_some o ≡ true → Contains names name
    by None e some = absurd (both_ways false refl some)
    by (Some p) e some =
        let here = place_of_given names name (placed_as head names name p e).given in
        (here.at, here.within, get_or_default names here.at name [] here.within ∙ here.is)

pub place_stands : (head : ℕ) (names : List (List ℕ)) (name : List ℕ) (o : Option ℕ) → o ≡ table_place head names name
    → IfSome o (λ at. (head ≤ at) × StandsAt name (table_text names) (at - head))
place_stands head names name None e = tt
place_stands head names name (Some p) e = let s = stands_in head names name p (sym e) in (s.above, s.there)

-- there are fewer names than bytes
pub names_fit : (head : ℕ) (names : List (List ℕ)) → head + sum_by (λ name. length name + 1) names < 2 ^ 32 → length names < 2 ^ 32
names_fit head names fits = omega (arith, fits, count names)
  where
    count : (xs : List (List ℕ)) → length xs ≤ sum_by (λ name. length name + 1) xs
    count [] = omega arith
    count (x ∷ xs) = omega (arith, count xs, sum_by-cons (λ (name : List ℕ). length name + 1) x xs)

module _ (head : ℕ) (names : List (List ℕ)) (offsets : List ℕ) (fits : head + sum_by (λ name. length name + 1) names < 2 ^ 32)
    (same : map Some offsets ≡ map (offset_of head names) names) where
  pub offsets_count : length offsets ≡ length names
  offsets_count = sym (length-map offsets (λ (x : ℕ). Some x)) ∙ ap length same ∙ length-map names (offset_of head names)

  short : length (table_text names) ≤ sum_by (λ name. length name + 1) names
  unfolding table_text tops_of text_of
  short = omega (arith, tops_short names [] names)

  -- the offsets are the places themselves
  pub exact : (k : ℕ) → k < length names → table_place head names (name_at names k) ≡ Some (get_or offsets k 0)
  exact k l =
      by (table_place head names (name_at names k)) refl (given_has head names (name_at names k) (given_at names k [] l))
    where
      by : (o : Option ℕ) → table_place head names (name_at names k) ≡ o → is_some o ≡ true → o ≡ Some (get_or offsets k 0)
      by None e some = absurd (both_ways false refl some)
      by (Some p) e some =
          let in' : k < length offsets = omega (arith, offsets_count) in
          let is : Some (get_or offsets k 0) ≡ option_map capped (table_place head names (name_at names k))
          = sym (get_or-map (λ (x : ℕ). Some x) offsets k 0 None in') ∙ ap (λ os. get_or os k None) same ∙ get_or-map (offset_of head names) names k [] None l
          in
          let cut : get_or offsets k 0 ≡ capped p = same_Some _ _ (is ∙ ap (option_map capped) e) in
          let s = stands_in head names (name_at names k) p e in
          ap Some (omega (arith, s.above, s.reach, short))

  pub offsets_fit : (k : ℕ) → k < length names → get_or offsets k 0 < 2 ^ 32
  offsets_fit k l = let s = stands_in head names (name_at names k) (get_or offsets k 0) (exact k l) in omega (arith, s.above, s.reach, short)

  pub lengths_fit : (k : ℕ) → k < length names → length (name_at names k) < 2 ^ 32
  lengths_fit k l = let s = stands_in head names (name_at names k) (get_or offsets k 0) (exact k l) in omega (arith, s.above, s.reach, short)

  module _ (places : List NameSpan) (p : ArePlaces names offsets places) where
    place_reads : (k : ℕ) (d : NameSpan) → k < length places → name_in head (table_text names) (get_or places k d) ≡ name_at names k
    place_reads k d l =
        let in' : k < length names = omega (arith, p.whole) in
        let s = stands_in head names (name_at names k) (get_or offsets k 0) (exact k in') in
        ap (λ a. slice_range (table_text names) (a - head) (a - head + (get_or places k d).len)) (p.at k d l)
        ∙ ap (λ n. slice_range (table_text names) (get_or offsets k 0 - head) (get_or offsets k 0 - head + n)) (p.len k d l)
        ∙ s.there.there

    -- the names at the places are the given ones
    pub names_are : names_in head (table_text names) places ≡ names
    names_are =
        same_lists (names_in head (table_text names) places) names (length-map places (name_in head (table_text names)) ∙ p.whole)
        (λ k d l.
        let none : NameSpan = record { at = 0; len = 0 } in
        let l' : k < length places = omega (arith, length-map places (name_in head (table_text names))) in
        let in' : k < length names = omega (arith, p.whole) in
        get_or-map (name_in head (table_text names)) places k none d l' ∙ place_reads k none l' ∙ get_or_default names k [] d in')

    -- the parts make a table
    pub is_table : (bytes : List ℕ) (order : List ℕ) → bytes ≡ table_text names → IsSearchable names order → IsTable head bytes places order
    is_table bytes order same_bytes s =
        let are : names_in head bytes places ≡ names = ap (λ b. names_in head b places) same_bytes ∙ names_are in
        record {
          bytes_are = same_bytes ∙ ap table_text (sym are);
          placed = λ k d l.
              let in' : k < length names = omega (arith, p.whole) in
              subst (λ (ns : List (List ℕ)). table_place head ns (name_at ns k) ≡ Some (get_or places k d).at) (sym are) (exact k in' ∙ ap Some (sym (p.at k d l)));
          within = λ k d l.
              let in' : k < length names = omega (arith, p.whole) in
              let s' = stands_in head names (name_at names k) (get_or offsets k 0) (exact k in') in
              (omega (arith, p.at k d l, s'.above), omega (arith, p.at k d l, p.len k d l, s'.reach, ap length same_bytes));
          searchable = subst (λ (ns : List (List ℕ)). IsSearchable ns order) (sym are) s;
        }
