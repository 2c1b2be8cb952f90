-- The symbols that are seen of an object, by the lines of its file.
use Rattle.std.proofs.Common.{◌≡◌, ℕ, suc, ◌+◌, List, [], ◌∷◌, map, Option, Some, None, refl, sym, ◌∙◌, ap, arith}
use Rattle.std.specs.{Prelude.{slice_get, nat_eq, filter_map}, List.{cons_option}, Option.{option_map, option_map_or, option_and_then}}
use Rattle.std.proofs.lemmas.Bool.{eq-eqb, ne_eqb}
use Rattle.oc_neutral.specs.{declared.symbol.Symbol.{Symbol}, Objects.{Object}}
use Rattle.oc_shows.specs.{Manners.{Manner}, Seen.{shown_from, new_position, seen_symbol, seen_symbols}, SymbolLines.{Line}}
use Rattle.oc_shows.proofs.{SeenLines.{IsShown}, SeenAlike.{filter_all}}
use Rattle.oc_shelf.specs.Writing.Parts.{Laid, laid, behind}
use Rattle.oc_shelf.proofs.{WritingLaws.GatheredLemmas.{laid_ones}, WritingLaws.MemberLemmas.{position_first, member_filter_map}}
use Rattle.oc_shelf.proofs.WritingLaws.PartLemmas.{laid_part, laid_there}
use Rattle.oc_made_files.specs.MadeFiles.{shown_in}

filter_map-same : {X Y : Type 0} (f g : X → Option Y) (xs : List X) → ((k : ℕ) (x : X) → slice_get xs k ≡ Some x → f x ≡ g x) → filter_map f xs ≡ filter_map g xs
filter_map-same f g [] same = refl
filter_map-same f g (x ∷ xs) same = ap (λ o. cons_option o (filter_map f xs)) (same 0 x refl) ∙ ap (cons_option (g x)) (filter_map-same f g xs (λ k y h. same (suc k) y h))

filter_map-twice : {X Y Z : Type 0} (f : Y → Option Z) (g : X → Option Y) (xs : List X) → filter_map f (filter_map g xs) ≡ filter_map (λ x. option_and_then f (g x)) xs
filter_map-twice f g [] = refl
filter_map-twice {X} {Y} {Z} f g (x ∷ xs) = by (g x) (filter_map-twice f g xs)
  where
    by : (o : Option Y) → filter_map f (filter_map g xs) ≡ filter_map (λ x. option_and_then f (g x)) xs
        → filter_map f (cons_option o (filter_map g xs)) ≡ cons_option (option_and_then f o) (filter_map (λ x. option_and_then f (g x)) xs)
    by None e = e
    by (Some y) e = ap (cons_option (f y)) e

module _ (m : Manner) (n : Object) where
  abbrev shown : List (ℕ × ℕ)
  shown = shown_in m n

  abbrev syms : List Symbol
  syms = seen_symbols m n shown

  -- what is seen of one that is shown
  abbrev pub seen_one : ℕ × ℕ → Option Symbol
  seen_one x = option_map (seen_symbol m n shown x.1) (slice_get n.symbols x.0)

  module _ (are : IsShown n shown) where
    -- it is seen where it is shown
    pub seen_at : (i : ℕ) (x : ℕ × ℕ) (s : Symbol) → slice_get shown i ≡ Some x → slice_get n.symbols x.0 ≡ Some s → slice_get syms i ≡ Some (seen_symbol m n shown x.1 s)
    unfolding seen_symbols
    seen_at i x s here there =
        let each : (j : ℕ) (y : ℕ × ℕ) → slice_get shown j ≡ Some y → (t : Symbol) × (seen_one y ≡ Some t)
        = λ j y h. let t = are.valid j y h in (seen_symbol m n shown y.1 t.0, ap (option_map (seen_symbol m n shown y.1)) t.1) in
        filter_all seen_one shown each i x (seen_symbol m n shown x.1 s) here (ap (option_map (seen_symbol m n shown x.1)) there)

    pub position_is : (i : ℕ) (x : ℕ × ℕ) → slice_get shown i ≡ Some x → new_position shown x.0 ≡ i
    position_is i x here = position_first (λ (y : ℕ × ℕ). nat_eq y.0 x.0) shown i x here (eq-eqb x.0 x.0 refl) (λ j y before there. ne_eqb y.0 x.0 (are.once j i y x before there here))

  -- ... lines of a file, as seeing counts them
  module _ {X : Type 0} (size : X → ℕ) (counted : X → Line) (sized : (x : X) → (counted x).entries ≡ size x) (xs : List X) (same : map counted xs ≡ m.lines n) where
    abbrev lines : List (Laid X)
    lines = laid behind size 0 xs

    -- what a line shows
    abbrev shown_line : Laid X → Option (ℕ × ℕ)
    shown_line l = option_map (λ k. (k, l.at)) (counted l.part).shows

    shown_laid : (at : ℕ) (ys : List X) → shown_from at (map counted ys) ≡ filter_map shown_line (laid behind size at ys)
    shown_laid at [] = refl
    shown_laid at (x ∷ ys) =
        ap (λ e. option_map_or (λ k. (k, at) ∷ shown_from (at + e) (map counted ys)) (counted x).shows (shown_from (at + e) (map counted ys))) (sized x)
        ∙ by (counted x).shows (shown_laid (at + size x) ys)
      where
        by : (o : Option ℕ) → shown_from (at + size x) (map counted ys) ≡ filter_map shown_line (laid behind size (at + size x) ys)
            → option_map_or (λ k. (k, at) ∷ shown_from (at + size x) (map counted ys)) o (shown_from (at + size x) (map counted ys))
            ≡ cons_option (option_map (λ k. (k, at)) o) (filter_map shown_line (laid behind size (at + size x) ys))
        by None e = e
        by (Some k) e = ap (λ zs. (k, at) ∷ zs) e

    shown_are : shown ≡ filter_map shown_line lines
    shown_are = ap (shown_from 0) (sym same) ∙ shown_laid 0 xs

    -- the symbols of the lines are those that are seen
    pub symbols_seen : (symbol : X → Option Symbol) → ((k : ℕ) (x : X) → slice_get xs k ≡ Some x → symbol x ≡ option_and_then (slice_get n.symbols) (counted x).shows)
        → filter_map (λ (l : Laid X). option_map (seen_symbol m n shown l.at) (symbol l.part)) lines ≡ syms
    unfolding seen_symbols
    symbols_seen symbol each =
        filter_map-same (λ (l : Laid X). option_map (seen_symbol m n shown l.at) (symbol l.part)) (λ l. option_and_then seen_one (shown_line l)) lines (λ i l here.
        ap (option_map (seen_symbol m n shown l.at)) (each i l.part (laid_part behind size (λ p x. omega arith) 0 xs i l here)) ∙ by l.at (counted l.part).shows)
        ∙ sym (filter_map-twice seen_one shown_line lines)
        ∙ ap (filter_map seen_one) (sym shown_are)
      where
        by : (at : ℕ) (o : Option ℕ) → option_map (seen_symbol m n shown at) (option_and_then (slice_get n.symbols) o) ≡ option_and_then seen_one (option_map (λ k. (k, at)) o)
        by at None = refl
        by at (Some k) = refl

    module _ (are : IsShown n shown) (j : ℕ) (t : Symbol) (here : slice_get n.symbols j ≡ Some t) where
      -- the symbol that a line shows
      pub line_shown : (i : ℕ) (l : Laid X) → slice_get lines i ≡ Some l → (counted l.part).shows ≡ Some j → slice_get syms (new_position shown j) ≡ Some (seen_symbol m n shown l.at t)
      line_shown i l there shows =
          let f = member_filter_map shown_line lines i l (j, l.at) there (ap (option_map (λ k. (k, l.at))) shows) in
          let member : slice_get shown f.0 ≡ Some (j, l.at) = ap (λ ys. slice_get ys f.0) shown_are ∙ f.1 in
          ap (slice_get syms) (position_is are f.0 (j, l.at) member) ∙ seen_at are f.0 (j, l.at) t member here

      -- where each takes one number, that is its position
      pub numbered_shown : ((x : X) → size x ≡ 1) → (i : ℕ) (x : X) → slice_get xs i ≡ Some x → (counted x).shows ≡ Some j → slice_get syms (new_position shown j) ≡ Some (seen_symbol m n shown i t)
      numbered_shown one i x there shows =
          let l = laid_there behind size (λ p x. omega arith) 0 xs i x there in
          let at : l.0.at ≡ 0 + i = laid_ones size 0 xs one i l.0 l.1 in
          let e : l.0.at ≡ i = omega (arith, at) in
          line_shown i l.0 l.1 (ap (λ y. (counted y).shows) l.2 ∙ shows) ∙ ap (λ k. Some (seen_symbol m n shown k t)) e
