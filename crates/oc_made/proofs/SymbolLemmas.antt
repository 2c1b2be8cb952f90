-- The symbols: what stands at each position, that names differ, and that numbers do.
use Rattle.std.proofs.Common.{◌≡◌, ℕ, ◌+◌, ◌*◌, ◌<◌, ◌≤◌, List, ◌++◌, length, get_or, map, min, Option, Some, None, refl, sym, ◌∙◌, ap, subst, inl, inr, ◌⊎◌, arith, length-append}
use Rattle.std.specs.{Prelude.{codes, drop, slice_get, sum_by}, Fmt.{decimal}, List.{AllByRecursion, range_with_len}, Option.{option_map_or, option_and_then}}
use Rattle.std.proofs.lemmas.{List.FromFn.{length-map-range_with_len}, List.Sums.{sum_by-append}, Option.{slice_get-get_or}}
use Rattle.oc_neutral.specs.{declared.symbol.Symbol.{Symbol}, Faces.{number_of}, Invariants.{AreDistinct, IsOriginal}, Normal.{local_place, place_among}}
use Rattle.oc_neutral.specs.declared.reloc.Target.TheVariants as target
use Rattle.oc_made.specs.Functions.{function_symbol, outside_symbol, symbols_of}
use Rattle.oc_made.proofs.{Lists.{all_joined, all_range, joined_get, sum_range}, NameLemmas.{number_short, numbers_differ}}
use Rattle.oc_elf_file.proofs.RepeatLemmas.{at_range}

-- symbol k outside
pub record IsOutside (count k : ℕ) (s : Symbol) : Type 0 where
  pub number : ℕ
  pub low : number < min count 10
  pub behind : k ≡ count + number
  pub is : s ≡ outside_symbol count number

-- a symbol that stands at a position: that of a function, or one outside
abbrev StandsAt : ℕ → ℕ → Symbol → Type 0
StandsAt count k s = ((k < count) × (s ≡ function_symbol k)) ⊎ IsOutside count k s

module _ (count : ℕ) where
  pub length-symbols_of : length (symbols_of count) ≡ count + min count 10
  unfolding symbols_of
  length-symbols_of =
      length-append (map function_symbol (range_with_len 0 count)) (map (outside_symbol count) (range_with_len 0 (min count 10)))
      ∙ ap (λ n. n + length (map (outside_symbol count) (range_with_len 0 (min count 10)))) (length-map-range_with_len function_symbol 0 count)
      ∙ ap (λ n. count + n) (length-map-range_with_len (outside_symbol count) 0 (min count 10))

  -- what holds of both kinds holds of all
  pub all_symbols : (P : Symbol → Type 0) → ((i : ℕ) → i < count → P (function_symbol i)) → ((k : ℕ) → k < min count 10 → P (outside_symbol count k)) → AllByRecursion P (symbols_of count)
  unfolding symbols_of
  all_symbols P inner outer =
      all_joined P (map function_symbol (range_with_len 0 count)) (map (outside_symbol count) (range_with_len 0 (min count 10)))
      (all_range P function_symbol 0 count (λ i l. inner i (omega (arith, l))))
      (all_range P (outside_symbol count) 0 (min count 10) (λ k l. outer k (omega (arith, l))))

  stands_at : (k : ℕ) (s : Symbol) → slice_get (symbols_of count) k ≡ Some s → StandsAt count k s
  unfolding symbols_of
  stands_at k s here =
      elim (joined_get (map function_symbol (range_with_len 0 count)) (map (outside_symbol count) (range_with_len 0 (min count 10))) k s here) [
        | inl a ↦ let r = at_range function_symbol 0 count k s a in let z : 0 + k ≡ k = omega arith in inl (r.0, r.1 ∙ ap function_symbol z)
        | inr b ↦
            let r = at_range (outside_symbol count) 0 (min count 10) b.0 s b.2 in
            let z : 0 + b.0 ≡ b.0 = omega arith in
            inr (record { number = b.0; low = r.0; behind = b.1 ∙ ap (λ n. n + b.0) (length-map-range_with_len function_symbol 0 count); is = r.1 ∙ ap (outside_symbol count) z })
      ]

  -- what holds of both kinds holds of what stands at a position
  pub at_symbol : (P : ℕ → Symbol → Type 0) → ((i : ℕ) → i < count → P i (function_symbol i)) → ((k : ℕ) → k < min count 10 → P (count + k) (outside_symbol count k))
      → (k : ℕ) (s : Symbol) → slice_get (symbols_of count) k ≡ Some s → P k s
  at_symbol P inner outer k s here =
      elim (stands_at k s here) [
        | inl a ↦ subst (P k) (sym a.1) (inner k a.0)
        | inr b ↦ subst (P k) (sym b.is) (subst (λ n. P n (outside_symbol count b.number)) (sym b.behind) (outer b.number b.low))
      ]

  -- the number of the symbol at a position
  pub number_at : (k : ℕ) → k < length (symbols_of count) → number_of (symbols_of count) k ≡ k + 2
  number_at k low =
      let here : slice_get (symbols_of count) k ≡ Some (get_or (symbols_of count) k (function_symbol 0)) = slice_get-get_or (symbols_of count) k (function_symbol 0) low in
      ap (λ (o : Option Symbol). option_map_or (λ (s : Symbol). s.number) o 0) here
      ∙ at_symbol (λ i s. s.number ≡ i + 2) (λ i l. refl) (λ j l. refl) k (get_or (symbols_of count) k (function_symbol 0)) here

  -- each symbol is the first of its number
  pub original_at : (k : ℕ) → k < length (symbols_of count) → IsOriginal (symbols_of count) k
  original_at k low j before same =
      let a : number_of (symbols_of count) j ≡ j + 2 = number_at j (omega (arith, low, before)) in
      let b : number_of (symbols_of count) k ≡ k + 2 = number_at k low in
      omega (arith, a, b, same, before)

  -- no symbol is a Local
  pub no_place : (k : ℕ) → place_among (symbols_of count) (target.Symbol k) ≡ None
  unfolding place_among
  no_place k = by (slice_get (symbols_of count) k) refl
    where
      by : (o : Option Symbol) → slice_get (symbols_of count) k ≡ o → option_and_then (λ (s : Symbol). local_place s.binding) o ≡ None
      by None e = refl
      by (Some s) e = at_symbol (λ i (t : Symbol). local_place t.binding ≡ None) (λ i l. refl) (λ j l. refl) k s e

-- the names of symbols at two positions differ
pub names_differ : (count : ℕ) → count ≤ 100000 → AreDistinct (symbols_of count)
names_differ count few i j s t before first second outer last same =
    elim (stands_at count i s first) [
      | inl a ↦
          elim (stands_at count j t second) [
            | inl b ↦
                let names : codes "f_" ++ decimal i ≡ codes "f_" ++ decimal j = sym (ap (λ (x : Symbol). x.name) a.1) ∙ same ∙ ap (λ (x : Symbol). x.name) b.1 in
                let equal : i ≡ j = numbers_differ i j (omega (arith, few, a.0)) (omega (arith, few, b.0)) (ap (drop 2) names) in
                omega (arith, equal, before)
            | inr b ↦
                let names : codes "f_" ++ decimal i ≡ codes "x_" ++ decimal b.number = sym (ap (λ (x : Symbol). x.name) a.1) ∙ same ∙ ap (λ (x : Symbol). x.name) b.is in
                let heads : 102 ≡ 120 = ap (λ (xs : List ℕ). get_or xs 0 0) names in
                omega (arith, heads)
          ]
      | inr a ↦
          elim (stands_at count j t second) [
            | inl b ↦
                let e : i ≡ count + a.number = a.behind in
                omega (arith, e, b.0, before)
            | inr b ↦
                let names : codes "x_" ++ decimal a.number ≡ codes "x_" ++ decimal b.number = sym (ap (λ (x : Symbol). x.name) a.is) ∙ same ∙ ap (λ (x : Symbol). x.name) b.is in
                let l : a.number < 10 = let m = a.low in omega (arith, m) in
                let k : b.number < 10 = let m = b.low in omega (arith, m) in
                let equal : a.number ≡ b.number = numbers_differ a.number b.number (omega (arith, l)) (omega (arith, k)) (ap (drop 2) names) in
                let e : i ≡ count + a.number = a.behind in
                let f : j ≡ count + b.number = b.behind in
                omega (arith, equal, e, f, before)
          ]
    ]

-- all names together are short
pub names_short : (count : ℕ) → count ≤ 100000 → sum_by (λ (s : Symbol). length s.name) (symbols_of count) ≤ 7 * 100010
unfolding symbols_of
names_short count few =
    let inner : sum_by (λ (s : Symbol). length s.name) (map function_symbol (range_with_len 0 count)) ≤ 7 * count =
    sum_range (λ (s : Symbol). length s.name) function_symbol 0 count (λ i l. let m = number_short i (omega (arith, l, few)) in omega (arith, m)) in
    let outer : sum_by (λ (s : Symbol). length s.name) (map (outside_symbol count) (range_with_len 0 (min count 10))) ≤ 7 * min count 10 =
    sum_range (λ (s : Symbol). length s.name) (outside_symbol count) 0 (min count 10) (λ k l. let m = number_short k (omega (arith, l)) in omega (arith, m)) in
    let both = sum_by-append (λ (s : Symbol). length s.name) (map function_symbol (range_with_len 0 count)) (map (outside_symbol count) (range_with_len 0 (min count 10))) in
    omega (arith, inner, outer, both, few)
