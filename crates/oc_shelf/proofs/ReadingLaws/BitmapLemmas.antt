-- Bytes that are taken one after another are those of the entries so far.
use Rattle.std.proofs.Common.{◌≡◌, ℕ, zero, suc, ◌+◌, ◌*◌, ◌/◌, ◌%◌, ◌^◌, ◌<◌, ◌≤◌, inl, inr, Bool, true, false, ◌&&◌, eqb, List, length, Option, Some, None, refl, sym, ◌∙◌, ap, subst, arith}
use Rattle.std.specs.{Prelude.{◌||◌, nat_lt, slice_index_or, slice_set}, Int.{bit_at, w64}, Int.Bits.{bit_or}, Option.{option_map_or}}
use Rattle.std.proofs.{Math.Nat.{div-add-mod}, Math.Bool.{or-false}}
use Rattle.std.proofs.lemmas.{List.{get_or-set_other, get_or-set_same}, Nat.Bits.{bit_at_set_other, bit_at_set_same}}
use Rattle.std.proofs.lemmas.{Bool.{cases_eq, cases_lt, eq-eqb, ne_eqb, true≢false}, Bool.Decides.{nat_tests}, Option.{none-some, same_Some}}
use Rattle.oc_shelf.specs.{Reading.Bitmaps.{has, is_between, room, IsMetIn, AreBytesOf}, Reading.Firsts.{any_upto}, Reading.Spans.{meets}}
use Rattle.oc_shelf.proofs.ReadingLaws.FirstsLemmas.{any_more, any_none, any_true}

-- a byte more is taken, and all others stay
pub has_more : (words : List ℕ) (at : ℕ) → at < room words → (q : ℕ)
    → has (slice_set words (at / 64) (bit_or (slice_index_or words (at / 64) 0) (1 * 2 ^ (at % 64) % 18446744073709551616))) q ≡ (eqb q at || has words q)
has_more words at there q = elim (cases_eq (q / 64) (at / 64)) [
  | inl word ↦ elim (cases_eq (q % 64) (at % 64)) [
    | inl bit ↦
        let same : q ≡ at = sym (div-add-mod q 64) ∙ ap (λ n. 64 * n + q % 64) word ∙ ap (λ n. 64 * (at / 64) + n) bit ∙ div-add-mod at 64 in
        ap (λ p. has new p) same
        ∙ ap (λ n. eqb (bit_at n (at % 64)) 1) (get_or-set_same words (at / 64) changed 0 low)
        ∙ ap (λ n. eqb n 1) (bit_at_set_same w64 before (at % 64) (omega arith))
        ∙ ap (λ b. b || has words q) (sym (eq-eqb q at same))
    | inr bit ↦
        ap (λ n. eqb (bit_at (slice_index_or new n 0) (q % 64)) 1) word
        ∙ ap (λ n. eqb (bit_at n (q % 64)) 1) (get_or-set_same words (at / 64) changed 0 low)
        ∙ ap (λ n. eqb n 1) (bit_at_set_other w64 before (at % 64) (omega arith) (q % 64) bit)
        ∙ ap (λ n. eqb (bit_at (slice_index_or words n 0) (q % 64)) 1) (sym word)
        ∙ ap (λ b. b || has words q) (sym (ne_eqb q at (λ same. bit (ap (λ n. n % 64) same))))
  ]
  | inr word ↦
      ap (λ n. eqb (bit_at n (q % 64)) 1) (get_or-set_other words (at / 64) (q / 64) changed 0 word)
      ∙ ap (λ b. b || has words q) (sym (ne_eqb q at (λ same. word (ap (λ n. n / 64) same))))
]
  where
    before : ℕ
    before = slice_index_or words (at / 64) 0

    changed : ℕ
    changed = bit_or before (1 * 2 ^ (at % 64) % 18446744073709551616)

    new : List ℕ
    new = slice_set words (at / 64) changed

    low : at / 64 < length words
    low = omega (arith, there)

-- no byte is between a place and itself
pub between_none : (begin q : ℕ) → is_between begin begin q ≡ false
between_none begin q = grind (arith, nat_tests)

-- and one more is before the next place
pub between_more : (begin at q : ℕ) (now old : Bool) → begin ≤ at → now ≡ (is_between begin at q || old) → (eqb q at || now) ≡ (is_between begin (at + 1) q || old)
between_more begin at q now old from is = grind (arith, nat_tests)

-- those before the end are all
pub between_all : (begin end at q : ℕ) → (end ≤ begin → at ≡ begin) → end ≤ at → (begin ≤ end → at ≤ end) → is_between begin at q ≡ is_between begin end q
between_all begin end at q still past upto = elim (cases_lt begin end) [
  | inl some ↦ ap (λ n. is_between begin n q) (omega (arith, past, upto (omega (arith, some))))
  | inr none ↦ ap (λ n. is_between begin n q) (still none) ∙ between_none begin q ∙ none_between none
]
  where
    none_between : end ≤ begin → false ≡ is_between begin end q
    none_between none = grind (arith, nat_tests)

-- whether a byte is one of the span of an entry
abbrev covers : (ℕ → Option (ℕ × ℕ)) → ℕ → ℕ → Bool
covers span q j = option_map_or (λ x. is_between x.0 x.1 q) (span j) false

or_swap : (a b : Bool) → (a || b) ≡ (b || a)
or_swap true true = refl
or_swap true false = refl
or_swap false true = refl
or_swap false false = refl

-- at first no byte is taken
pub bytes_none : (span : ℕ → Option (ℕ × ℕ)) (words : List ℕ) → ((q : ℕ) → has words q ≡ false) → AreBytesOf span 0 words
bytes_none span words none = record { taken = none; some = λ j begin end low is. absurd (omega (arith, low)) }

-- an entry without a span
pub bytes_same : (span : ℕ → Option (ℕ × ℕ)) (n : ℕ) (words : List ℕ) → AreBytesOf span n words → span n ≡ None → AreBytesOf span (n + 1) words
bytes_same span n words are none = record {
  taken = λ q.
      are.taken q
      ∙ sym (or-false (any_upto (covers span q) n))
      ∙ ap (λ o. any_upto (covers span q) n || option_map_or (λ x. is_between x.0 x.1 q) o false) (sym none)
      ∙ sym (any_more (covers span q) n);
  some = λ j begin end low is. elim (cases_eq j n) [
    | inl same ↦ absurd (none-some (begin, end) (sym none ∙ ap span (sym same) ∙ is))
    | inr other ↦ are.some j begin end (omega (arith, low, other)) is
  ];
}

-- an entry more, whose bytes were taken
pub bytes_more : (span : ℕ → Option (ℕ × ℕ)) (n begin end : ℕ) (old new : List ℕ) → AreBytesOf span n old → span n ≡ Some (begin, end) → begin < end
    → ((q : ℕ) → has new q ≡ (is_between begin end q || has old q)) → AreBytesOf span (n + 1) new
bytes_more span n begin end old new are is some taken = record {
  taken = λ q.
      taken q
      ∙ or_swap (is_between begin end q) (has old q)
      ∙ ap (λ b. b || is_between begin end q) (are.taken q)
      ∙ ap (λ o. any_upto (covers span q) n || option_map_or (λ x. is_between x.0 x.1 q) o false) (sym is)
      ∙ sym (any_more (covers span q) n);
  some = λ j q e low here. elim (cases_eq j n) [
    | inl same ↦
        let pair : (begin, end) ≡ (q, e) = same_Some (begin, end) (q, e) (sym is ∙ ap span (sym same) ∙ here) in
        subst (λ (p : ℕ × ℕ). p.0 < p.1) pair some
    | inr other ↦ are.some j q e (omega (arith, low, other)) here
  ];
}

-- some entry passes
any_from : (test : ℕ → Bool) (n : ℕ) → any_upto test n ≡ true → (j : ℕ) × (j < n) × (test j ≡ true)
any_from test zero is = absurd (true≢false (sym is))
any_from test (suc n) is = elim (any_upto test n) as (λ b. any_upto test n ≡ b → (b || test n) ≡ true → (j : ℕ) × (j < suc n) × (test j ≡ true)) [
  | true ↦ λ e f. let m = any_from test n e in (m.0, omega (arith, m.1), m.2)
  | false ↦ λ e f. (n, omega arith, f)
] refl is

-- a byte that two spans have
both : (begin end q e : ℕ) → begin < end → q < e → (nat_lt begin e && nat_lt q end) ≡ true → (at : ℕ) × (begin ≤ at) × (at < end) × (is_between q e at ≡ true)
both begin end q e some wide meet = elim (cases_lt begin q) [
  | inl low ↦ (q, omega (arith, low), grind (arith, nat_tests), grind (arith, nat_tests))
  | inr high ↦ (begin, omega arith, some, grind (arith, nat_tests))
]

-- what is asked of the bytes is asked of the entries so far
pub met_in_upto : (span : ℕ → Option (ℕ × ℕ)) (n begin end : ℕ) (words : List ℕ) (b : Bool) → AreBytesOf span n words → begin < end
    → (b ≡ true → IsMetIn words begin end) → (b ≡ false → IsMetIn words begin end → ⊥)
    → b ≡ any_upto (λ j. option_map_or (meets (begin, end)) (span j) false) n
met_in_upto span n begin end words true are some met free =
    let m = met refl in
    let found = any_from (covers span m.at) n (sym (are.taken m.at) ∙ m.there) in
    sym (any_true (λ j. option_map_or (meets (begin, end)) (span j) false) n found.0 found.1 (by m.at m.from m.below (span found.0) found.2))
  where
    by : (at : ℕ) → begin ≤ at → at < end → (o : Option (ℕ × ℕ)) → option_map_or (λ x. is_between x.0 x.1 at) o false ≡ true → option_map_or (meets (begin, end)) o false ≡ true
    by at from below None is = absurd (true≢false (sym is))
    by at from below (Some x) is = grind (arith, nat_tests)
met_in_upto span n begin end words false are some met free = sym (any_none (λ j. option_map_or (meets (begin, end)) (span j) false) n each)
  where
    by : (j : ℕ) → j < n → (o : Option (ℕ × ℕ)) → span j ≡ o → option_map_or (meets (begin, end)) o false ≡ false
    by j low None e = refl
    by j low (Some x) e = two (nat_lt begin x.1 && nat_lt x.0 end) refl
      where
        two : (c : Bool) → (nat_lt begin x.1 && nat_lt x.0 end) ≡ c → c ≡ false
        two false g = refl
        two true g =
            let shared = both begin end x.0 x.1 some (are.some j x.0 x.1 low e) g in
            let here : covers span shared.0 j ≡ true = ap (λ o. option_map_or (λ y. is_between y.0 y.1 shared.0) o false) e ∙ shared.3 in
            absurd (free refl (record { at = shared.0; from = shared.1; below = shared.2; there = are.taken shared.0 ∙ any_true (covers span shared.0) n j low here }))

    each : (j : ℕ) → j < n → option_map_or (meets (begin, end)) (span j) false ≡ false
    each j low = by j low (span j) refl
