-- The symbols that are seen of an object with their positions are those of its lines, moved: so what passes a test stands in the same order.
use Rattle.std.proofs.Common.{◌≡◌, ℕ, zero, suc, ◌+◌, Bool, true, false, eqb, List, [], ◌∷◌, ◌++◌, map, get_or, Option, Some, None, refl, sym, ◌∙◌, ap, arith}
use Rattle.std.specs.{Prelude.{slice_get, filter, filter_map, flat_map, nat_eq, replicate}, List.{enumerate_from, cons_option, list_any}}
use Rattle.std.specs.Option.{option_map, option_map_or, option_and_then}
use Rattle.std.proofs.lemmas.{Bool.{true≢false, eq-eqb, eqb-true, ne_eqb}, Option.{none-some, same_Some, get_or_from_slice_get}}
use Rattle.std.proofs.lemmas.List.Elements.{filter_map-append}
use Rattle.oc_linking.specs.Parts.{is_local}
use Rattle.oc_neutral.specs.{declared.symbol.Symbol.{Symbol}, Objects.{Object}}
use Rattle.oc_shows.specs.{Manners.{Manner}, Seen.{shown_from, new_position, seen_symbol, seen_symbols}, SymbolLines.{Line, silent, lines_where}}
use Rattle.oc_shows.proofs.SeenLines.{IsShown}
use Rattle.oc_shelf.proofs.WritingLaws.MemberLemmas.{position_first, filter_map-map, of_filter_map, map-map, map-alike, of_filter, of_enumerated}
use Rattle.oc_canonical.proofs.MapLemmas.{filter-mapped, is_filled, filled_map, any_filled, filter_numbered, flat_map-mapped}
use Rattle.oc_names.proofs.Unedited.{filter_map_stays}

-- a symbol with its position
abbrev pub with_position : Object → ℕ → Option (ℕ × Symbol)
with_position n k = option_map (λ (s : Symbol). (k, s)) (slice_get n.symbols k)

-- the symbols that are shown, with their positions
abbrev pub shown_ones : Object → List (ℕ × ℕ) → List (ℕ × Symbol)
shown_ones n shown = filter_map (λ (x : ℕ × ℕ). with_position n x.0) shown

-- those that lines show
abbrev pub gathered : Object → List Line → List (ℕ × Symbol)
gathered n lines = filter_map (λ (l : Line). option_and_then (with_position n) l.shows) lines

pub ones_gathered : (n : Object) (number : ℕ) (lines : List Line) → shown_ones n (shown_from number lines) ≡ gathered n lines
ones_gathered n number [] = refl
ones_gathered n number (l ∷ lines) = by l.shows (ones_gathered n (number + l.entries) lines)
  where
    by : (o : Option ℕ) → shown_ones n (shown_from (number + l.entries) lines) ≡ gathered n lines
        → shown_ones n (option_map_or (λ k. (k, number) ∷ shown_from (number + l.entries) lines) o (shown_from (number + l.entries) lines)) ≡ cons_option (option_and_then (with_position n) o) (gathered n lines)
    by None e = e
    by (Some k) e = ap (cons_option (with_position n k)) e

pub gathered_append : (n : Object) (xs ys : List Line) → gathered n (xs ++ ys) ≡ gathered n xs ++ gathered n ys
gathered_append n xs ys = filter_map-append (λ (l : Line). option_and_then (with_position n) l.shows) xs ys

-- lines for which nothing is shown
pub gathered_replicate : (n : Object) (count entries : ℕ) → gathered n (replicate count (silent entries)) ≡ []
gathered_replicate n zero entries = refl
gathered_replicate n (suc count) entries = gathered_replicate n count entries

pub gathered_silent : {X : Type 0} (n : Object) (entries : X → ℕ) (xs : List X) → gathered n (map (λ x. silent (entries x)) xs) ≡ []
gathered_silent n entries [] = refl
gathered_silent n entries (x ∷ xs) = gathered_silent n entries xs

-- the lines of those that pass a test
pub gathered_where : (n : Object) (test : Symbol → Bool) (entries : Symbol → ℕ) → gathered n (lines_where test entries n.symbols) ≡ filter (λ (x : ℕ × Symbol). test x.1) (enumerate_from 0 n.symbols)
gathered_where n test entries =
    let passed : List (ℕ × Symbol) = filter (λ (x : ℕ × Symbol). test x.1) (enumerate_from 0 n.symbols) in
    filter_map-map (λ (l : Line). option_and_then (with_position n) l.shows) (λ (x : ℕ × Symbol). record { entries = entries x.1; shows = Some x.0 }) passed
    ∙ filter_map_stays (λ (x : ℕ × Symbol). with_position n x.0) passed (λ k x here.
    let t = of_filter (λ (y : ℕ × Symbol). test y.1) (enumerate_from 0 n.symbols) k x here in
    let z = of_enumerated 0 n.symbols t.0 x t.1 in
    let e : x.0 ≡ t.0 = omega (arith, z.0) in
    ap (option_map (λ (s : Symbol). (x.0, s))) (ap (slice_get n.symbols) e ∙ z.1))

module _ (m : Manner) (n : Object) (shown : List (ℕ × ℕ)) (is : IsShown n shown) where
  -- the number with which the symbol at a position is shown
  abbrev pub number_in : ℕ → ℕ
  number_in k = (get_or shown (new_position shown k) (0, 0)).1

  -- a symbol with its position, as it is seen
  abbrev pub moved : ℕ × Symbol → ℕ × Symbol
  moved x = (new_position shown x.0, seen_symbol m n shown (number_in x.0) x.1)

  position_at : (i : ℕ) (x : ℕ × ℕ) → slice_get shown i ≡ Some x → new_position shown x.0 ≡ i
  position_at i x here =
      position_first (λ (y : ℕ × ℕ). nat_eq y.0 x.0) shown i x here (eq-eqb x.0 x.0 refl) (λ j y before there. ne_eqb y.0 x.0 (is.once j i y x before there here))

  number_at : (i : ℕ) (x : ℕ × ℕ) → slice_get shown i ≡ Some x → number_in x.0 ≡ x.1
  number_at i x here = ap (λ (y : ℕ × ℕ). y.1) (ap (λ k. get_or shown k (0, 0)) (position_at i x here) ∙ get_or_from_slice_get shown i x (0, 0) here)

  -- the symbol of what is shown
  abbrev seen_one : ℕ × ℕ → Option Symbol
  seen_one x = option_map (seen_symbol m n shown x.1) (slice_get n.symbols x.0)

  moved_from : (i : ℕ) (xs : List (ℕ × ℕ)) → ((j : ℕ) (x : ℕ × ℕ) → slice_get xs j ≡ Some x → slice_get shown (i + j) ≡ Some x)
      → enumerate_from i (filter_map seen_one xs) ≡ map moved (shown_ones n xs)
  moved_from i [] from = refl
  moved_from i (x ∷ xs) from =
      let zero_more : i + 0 ≡ i = omega arith in
      let here : slice_get shown i ≡ Some x = sym (ap (slice_get shown) zero_more) ∙ from 0 x refl in
      let s = is.valid i x here in
      by (slice_get n.symbols x.0) s.0 s.1 here (moved_from (i + 1) xs (λ j y h. let e : i + 1 + j ≡ i + suc j = omega arith in ap (slice_get shown) e ∙ from (suc j) y h))
    where
      by : (o : Option Symbol) (s : Symbol) → o ≡ Some s → slice_get shown i ≡ Some x → enumerate_from (i + 1) (filter_map seen_one xs) ≡ map moved (shown_ones n xs)
          → enumerate_from i (cons_option (option_map (seen_symbol m n shown x.1) o) (filter_map seen_one xs)) ≡ map moved (cons_option (option_map (λ (t : Symbol). (x.0, t)) o) (shown_ones n xs))
      by None s h here rest = absurd (none-some s h)
      by (Some t) s h here rest =
          ap (λ (k : ℕ). (k, seen_symbol m n shown x.1 t) ∷ enumerate_from (i + 1) (filter_map seen_one xs)) (sym (position_at i x here))
          ∙ ap (λ (k : ℕ). (new_position shown x.0, seen_symbol m n shown k t) ∷ enumerate_from (i + 1) (filter_map seen_one xs)) (sym (number_at i x here))
          ∙ ap (λ ys. moved (x.0, t) ∷ ys) rest

  pub symbols_moved : enumerate_from 0 (seen_symbols m n shown) ≡ map moved (shown_ones n shown)
  unfolding seen_symbols
  symbols_moved = moved_from 0 shown (λ j x h. let e : 0 + j ≡ j = omega arith in ap (slice_get shown) e ∙ h)

  -- a symbol that is shown is one of the object's
  pub one_there : (k : ℕ) (x : ℕ × Symbol) → slice_get (shown_ones n shown) k ≡ Some x → slice_get n.symbols x.0 ≡ Some x.1
  one_there k x here =
      let y = of_filter_map (λ (z : ℕ × ℕ). with_position n z.0) shown k x here in
      by y.1.0 (slice_get n.symbols y.1.0) refl y.3
    where
      by : (k : ℕ) (o : Option Symbol) → slice_get n.symbols k ≡ o → option_map (λ (s : Symbol). (k, s)) o ≡ Some x → slice_get n.symbols x.0 ≡ Some x.1
      by k None e h = absurd (none-some x h)
      by k (Some s) e h =
          let same : (k, s) ≡ x = same_Some (k, s) x h in
          ap (slice_get n.symbols) (sym (ap (λ (z : ℕ × Symbol). z.0) same)) ∙ e ∙ ap (λ (z : ℕ × Symbol). Some z.1) same

  -- what passes a test, of the symbols that are seen: what passes its like, of those that are shown
  pub passing : (test tests : Symbol → Bool) → ((k number : ℕ) (s : Symbol) → slice_get n.symbols k ≡ Some s → tests (seen_symbol m n shown number s) ≡ test s)
      → filter (λ (x : ℕ × Symbol). tests x.1) (enumerate_from 0 (seen_symbols m n shown)) ≡ map moved (filter (λ (x : ℕ × Symbol). test x.1) (shown_ones n shown))
  passing test tests same =
      ap (filter (λ (x : ℕ × Symbol). tests x.1)) symbols_moved
      ∙ filter-mapped moved (λ (x : ℕ × Symbol). test x.1) (λ (x : ℕ × Symbol). tests x.1) (shown_ones n shown) (λ k x h. same x.0 (number_in x.0) x.1 (one_there k x h))

  -- the same, where those that are shown and pass are those of the object, in their order
  module _ (test tests : Symbol → Bool) (same : (k number : ℕ) (s : Symbol) → slice_get n.symbols k ≡ Some s → tests (seen_symbol m n shown number s) ≡ test s)
      (all : filter (λ (x : ℕ × Symbol). test x.1) (shown_ones n shown) ≡ filter (λ (x : ℕ × Symbol). test x.1) (enumerate_from 0 n.symbols)) where
    pub all_moved : filter (λ (x : ℕ × Symbol). tests x.1) (enumerate_from 0 (seen_symbols m n shown)) ≡ map moved (filter (λ (x : ℕ × Symbol). test x.1) (enumerate_from 0 n.symbols))
    all_moved = passing test tests same ∙ ap (map moved) all

    pub any_same : list_any tests (seen_symbols m n shown) ≡ list_any test n.symbols
    any_same =
        any_filled tests 0 (seen_symbols m n shown) ∙ ap is_filled all_moved ∙ filled_map moved (filter (λ (x : ℕ × Symbol). test x.1) (enumerate_from 0 n.symbols)) ∙ sym (any_filled test 0 n.symbols)

  -- two positions that are shown are told apart by the new ones
  pub positions_tell : (i j : ℕ) (x y : ℕ × ℕ) → slice_get shown i ≡ Some x → slice_get shown j ≡ Some y → nat_eq (new_position shown x.0) (new_position shown y.0) ≡ nat_eq x.0 y.0
  positions_tell i j x y here there = elim (eqb x.0 y.0) as (λ b. eqb x.0 y.0 ≡ b → nat_eq (new_position shown x.0) (new_position shown y.0) ≡ b) [
    | true ↦ λ e. eq-eqb (new_position shown x.0) (new_position shown y.0) (ap (new_position shown) (eqb-true x.0 y.0 e))
    | false ↦ λ e. ne_eqb (new_position shown x.0) (new_position shown y.0) (λ same.
        let at : i ≡ j = sym (position_at i x here) ∙ same ∙ position_at j y there in
        let own : x ≡ y = same_Some x y (sym here ∙ ap (slice_get shown) at ∙ there) in
        true≢false (sym (eq-eqb x.0 y.0 (ap (λ (z : ℕ × ℕ). z.0) own)) ∙ e))
  ] refl

  -- of two that are not Local
  pub outer_tell : (j k : ℕ) (s t : Symbol) → slice_get n.symbols j ≡ Some s → slice_get n.symbols k ≡ Some t → is_local s.binding ≡ false → is_local t.binding ≡ false
      → nat_eq (new_position shown j) (new_position shown k) ≡ nat_eq j k
  outer_tell j k s t here there outer also =
      let x = is.there j s here outer in
      let y = is.there k t there also in
      ap (λ p. nat_eq (new_position shown p) (new_position shown k)) (sym x.3) ∙ ap (λ p. nat_eq (new_position shown x.1.0) (new_position shown p)) (sym y.3)
      ∙ positions_tell x.0 y.0 x.1 y.1 x.2 y.2 ∙ ap (λ p. nat_eq p y.1.0) x.3 ∙ ap (nat_eq j) y.3

  -- what passes a test, without positions
  module _ (test tests : Symbol → Bool) (same : (k number : ℕ) (s : Symbol) → slice_get n.symbols k ≡ Some s → tests (seen_symbol m n shown number s) ≡ test s)
      (all : filter (λ (x : ℕ × Symbol). test x.1) (shown_ones n shown) ≡ filter (λ (x : ℕ × Symbol). test x.1) (enumerate_from 0 n.symbols)) where
    pub listed : {Y : Type 0} (f g : Symbol → Y) → ((k number : ℕ) (s : Symbol) → slice_get n.symbols k ≡ Some s → g (seen_symbol m n shown number s) ≡ f s)
        → map g (filter tests (seen_symbols m n shown)) ≡ map f (filter test n.symbols)
    listed f g image =
        let passed : List (ℕ × Symbol) = filter (λ (x : ℕ × Symbol). test x.1) (enumerate_from 0 n.symbols) in
        ap (map g) (filter_numbered tests 0 (seen_symbols m n shown) ∙ ap (map (λ (x : ℕ × Symbol). x.1)) (all_moved test tests same all))
        ∙ map-map g (λ (x : ℕ × Symbol). x.1) (map moved passed)
        ∙ map-map (λ (x : ℕ × Symbol). g x.1) moved passed
        ∙ map-alike (λ (x : ℕ × Symbol). g (moved x).1) (λ (x : ℕ × Symbol). f x.1) passed (λ k x here.
        let t = of_filter (λ (y : ℕ × Symbol). test y.1) (enumerate_from 0 n.symbols) k x here in
        let z = of_enumerated 0 n.symbols t.0 x t.1 in
        let e : x.0 ≡ t.0 = omega (arith, z.0) in
        image x.0 (number_in x.0) x.1 (ap (slice_get n.symbols) e ∙ z.1))
        ∙ sym (map-map f (λ (x : ℕ × Symbol). x.1) passed)
        ∙ ap (map f) (sym (filter_numbered test 0 n.symbols))

    pub listed_flat : {Y : Type 0} (f g : Symbol → List Y) → ((k number : ℕ) (s : Symbol) → slice_get n.symbols k ≡ Some s → g (seen_symbol m n shown number s) ≡ f s)
        → flat_map g (filter tests (seen_symbols m n shown)) ≡ flat_map f (filter test n.symbols)
    listed_flat {Y} f g image =
        sym (flat_map-mapped g g (λ (ys : List Y). ys) (filter tests (seen_symbols m n shown)) (λ k x h. refl))
        ∙ ap (flat_map (λ (ys : List Y). ys)) (listed f g image)
        ∙ flat_map-mapped f f (λ (ys : List Y). ys) (filter test n.symbols) (λ k x h. refl)
