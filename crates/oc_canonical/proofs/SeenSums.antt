-- Sums over the symbols that are seen are at most those over the symbols of the object.
use Rattle.std.proofs.Common.{◌≡◌, ◌≢◌, ℕ, suc, ◌+◌, ◌<◌, ◌≤◌, cond, List, [], ◌∷◌, length, sum_by, count_by, Option, Some, None, refl, sym, ◌∙◌, ap, arith, Bool}
use Rattle.std.specs.{Prelude.{slice_get}, List.{enumerate_from, cons_option}, Option.{option_map}}
use Rattle.std.proofs.lemmas.List.Sums.{sum_by-cons}
use Rattle.oc_neutral.specs.{declared.symbol.Symbol.{Symbol}, Objects.{Object}}
use Rattle.oc_shows.specs.{Manners.{Manner}, Seen.{seen_symbol, seen_symbols}}
use Rattle.oc_shows.proofs.SeenLines.{IsShown}
use Rattle.oc_neutral.proofs.{Mapped.{all_from}, LeftObject.{sum_map}}
use Rattle.oc_shelf.proofs.{WritingLaws.MemberLemmas.{of_filter_map}, WritingLaws.SizeLemmas.{sum_enumerated}}
use Rattle.oc_canonical.proofs.{SeenSymbols.{with_position, shown_ones, number_in, moved, one_there, symbols_moved}, SumLemmas.{AreApart, AreOf, sum_apart}}

-- sums of the same
sum_same : {X : Type 0} (f g : X → ℕ) (xs : List X) → ((k : ℕ) (x : X) → slice_get xs k ≡ Some x → f x ≡ g x) → sum_by f xs ≡ sum_by g xs
sum_same f g [] same = refl
sum_same f g (x ∷ xs) same =
    sum_by-cons f x xs ∙ ap (λ n. n + sum_by f xs) (same 0 x refl) ∙ ap (λ n. g x + n) (sum_same f g xs (λ k y h. same (suc k) y h)) ∙ sym (sum_by-cons g x xs)

pub sum_ones : {X : Type 0} (xs : List X) → sum_by (λ (x : X). 1) xs ≡ length xs
sum_ones [] = refl
sum_ones {X} (x ∷ xs) =
    let a = sum_by-cons (λ (y : X). 1) x xs in
    let b = sum_ones xs in
    omega (arith, a, b)

module _ (m : Manner) (n : Object) (shown : List (ℕ × ℕ)) (is : IsShown n shown) where
  ones_of : AreOf n.symbols (shown_ones n shown)
  ones_of = all_from (λ (y : ℕ × Symbol). slice_get n.symbols y.0 ≡ Some y.1) (shown_ones n shown) (one_there m n shown is)

  -- symbols at positions that differ
  apart_from : (xs : List (ℕ × ℕ)) → ((i j : ℕ) (x y : ℕ × ℕ) → i < j → slice_get xs i ≡ Some x → slice_get xs j ≡ Some y → x.0 ≢ y.0) → AreApart (shown_ones n xs)
  apart_from [] once = tt
  apart_from (x ∷ xs) once = by (slice_get n.symbols x.0) (apart_from xs (λ i j y z before here there. once (suc i) (suc j) y z (omega (arith, before)) here there))
    where
      at : (k : ℕ) (y : ℕ × ℕ) (z : ℕ × Symbol) → with_position n y.0 ≡ Some z → z.0 ≡ y.0
      at k y z e = of (slice_get n.symbols y.0) e
        where
          of : (o : Option Symbol) → option_map (λ (s : Symbol). (y.0, s)) o ≡ Some z → z.0 ≡ y.0
          of o h = grind arith

      by : (o : Option Symbol) → AreApart (shown_ones n xs) → AreApart (cons_option (option_map (λ (s : Symbol). (x.0, s)) o) (shown_ones n xs))
      by None later = later
      by (Some s) later = (
        all_from (λ (z : ℕ × Symbol). z.0 ≢ x.0) (shown_ones n xs) (λ k z here same.
            let y = of_filter_map (λ (q : ℕ × ℕ). with_position n q.0) xs k z here in
            once 0 (suc y.0) x y.1 (omega arith) refl y.2 (sym (sym (at k y.1 z y.3) ∙ same))),
        later,
      )

  -- the sum over what is seen, where each symbol counts as before
  pub seen_sum : (f g : Symbol → ℕ) → ((k number : ℕ) (s : Symbol) → slice_get n.symbols k ≡ Some s → g (seen_symbol m n shown number s) ≡ f s) → sum_by g (seen_symbols m n shown) ≤ sum_by f n.symbols
  seen_sum f g same =
      let a : sum_by (λ (x : ℕ × Symbol). g x.1) (enumerate_from 0 (seen_symbols m n shown)) ≡ sum_by g (seen_symbols m n shown) = sum_enumerated g 0 (seen_symbols m n shown) in
      let b : sum_by (λ (x : ℕ × Symbol). g x.1) (enumerate_from 0 (seen_symbols m n shown)) ≡ sum_by (λ (x : ℕ × Symbol). f x.1) (shown_ones n shown)
      = ap (sum_by (λ (x : ℕ × Symbol). g x.1)) (symbols_moved m n shown is)
      ∙ sum_map (λ (x : ℕ × Symbol). g x.1) (moved m n shown is) (shown_ones n shown)
      ∙ sum_same (λ (x : ℕ × Symbol). g (seen_symbol m n shown (number_in m n shown is x.0) x.1)) (λ (x : ℕ × Symbol). f x.1) (shown_ones n shown)
      (λ k x h. same x.0 (number_in m n shown is x.0) x.1 (one_there m n shown is k x h)) in
      let c = sum_apart f n.symbols (shown_ones n shown) ones_of (apart_from shown is.once) in
      omega (arith, a, b, c)

  pub seen_few : length (seen_symbols m n shown) ≤ length n.symbols
  seen_few =
      let a = seen_sum (λ s. 1) (λ s. 1) (λ k number s h. refl) in
      let b = sum_ones (seen_symbols m n shown) in
      let c = sum_ones n.symbols in
      omega (arith, a, b, c)

  -- and so for those that pass a test
  pub seen_count : (test tests : Symbol → Bool) → ((k number : ℕ) (s : Symbol) → slice_get n.symbols k ≡ Some s → tests (seen_symbol m n shown number s) ≡ test s) → count_by tests (seen_symbols m n shown) ≤ count_by test n.symbols
  seen_count test tests same = seen_sum (λ s. cond (test s) 1 0) (λ s. cond (tests s) 1 0) (λ k number s h. ap (λ b. cond b 1 0) (same k number s h))
