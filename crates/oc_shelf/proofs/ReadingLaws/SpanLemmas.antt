-- Spans that are taken one after another are those of the entries so far.
use Rattle.std.proofs.Common.{◌≡◌, ℕ, ◌+◌, ◌<◌, ◌≤◌, ◌⊎◌, inl, inr, Bool, true, false, cond, eqb, ◌&&◌, List, [], Option, Some, None, refl, sym, ◌∙◌, ap, arith}
use Rattle.std.specs.{Prelude.{nat_lt}, Option.{option_map_or}}
use Rattle.std.proofs.lemmas.{Bool.{cases_eq, cases_lt, eq-eqb, ne_eqb}, Bool.Decides.{nat_tests}, Option.{none-some, same_Some}}
use Rattle.oc_shelf.specs.{Reading.Firsts.{any_upto}, Reading.Spans.{end_at, meets, AreSpans, EndBy, IsMet, AreSpansOf}}
use Rattle.oc_shelf.proofs.ReadingLaws.FirstsLemmas.{any_none, any_true}

-- none at first
pub spans_none : (span : ℕ → Option (ℕ × ℕ)) → AreSpansOf span 0 []
spans_none span = record {
  from = λ q e h. absurd (none-some e h);
  there = λ j q e low is. absurd (omega (arith, low));
}

-- an entry without a span
pub spans_same : (span : ℕ → Option (ℕ × ℕ)) (n : ℕ) (spans : List (ℕ × ℕ)) → AreSpansOf span n spans → span n ≡ None → AreSpansOf span (n + 1) spans
spans_same span n spans are none = record {
  from = λ q e h. let m = are.from q e h in (m.0, omega (arith, m.1), m.2);
  there = λ j q e low is. elim (cases_eq j n) [
    | inl same ↦ absurd (none-some (q, e) (sym none ∙ ap span (sym same) ∙ is))
    | inr other ↦ are.there j q e (omega (arith, low, other)) is
  ];
}

-- an entry more, whose span was taken
pub spans_more : (span : ℕ → Option (ℕ × ℕ)) (n begin end : ℕ) (old new : List (ℕ × ℕ)) → AreSpansOf span n old → span n ≡ Some (begin, end) → end_at old begin ≡ None
    → ((q : ℕ) → end_at new q ≡ cond (eqb q begin) (Some end) (end_at old q)) → AreSpansOf span (n + 1) new
spans_more span n begin end old new are is none taken = record {
  from = λ q e h. elim (cases_eq q begin) [
    | inl same ↦
        let own : e ≡ end = same_Some e end (sym h ∙ taken q ∙ ap (λ b. cond b (Some end) (end_at old q)) (eq-eqb q begin same)) in
        (n, omega arith, is ∙ ap (λ x. Some (x, end)) (sym same) ∙ ap (λ x. Some (q, x)) (sym own))
    | inr other ↦
        let m = are.from q e (sym (taken q ∙ ap (λ b. cond b (Some end) (end_at old q)) (ne_eqb q begin other)) ∙ h) in
        (m.0, omega (arith, m.1), m.2)
  ];
  there = λ j q e low here. elim (cases_eq j n) [
    | inl same ↦
        let pair : (begin, end) ≡ (q, e) = same_Some (begin, end) (q, e) (sym is ∙ ap span (sym same) ∙ here) in
        taken q ∙ ap (λ b. cond b (Some end) (end_at old q)) (eq-eqb q begin (ap (λ (p : ℕ × ℕ). p.0) (sym pair))) ∙ ap (λ (p : ℕ × ℕ). Some p.1) pair
    | inr other ↦
        let was : end_at old q ≡ Some e = are.there j q e (omega (arith, low, other)) here in
        let apart : q ≡ begin → ⊥ = λ same. none-some e (sym none ∙ ap (end_at old) (sym same) ∙ was) in
        taken q ∙ ap (λ b. cond b (Some end) (end_at old q)) (ne_eqb q begin apart) ∙ was
  ];
}

-- what is asked of the spans is asked of the entries so far
pub met_upto : (span : ℕ → Option (ℕ × ℕ)) (n begin end : ℕ) (spans : List (ℕ × ℕ)) (b : Bool) → AreSpansOf span n spans
    → (b ≡ true → IsMet spans begin end) → (b ≡ false → IsMet spans begin end → ⊥)
    → b ≡ any_upto (λ j. option_map_or (meets (begin, end)) (span j) false) n
met_upto span n begin end spans true are met free =
    let m = met refl in
    let j = are.from m.start m.stop m.there in
    let before = m.before in
    let behind = m.behind in
    let passes : (nat_lt begin m.stop && nat_lt m.start end) ≡ true = grind (arith, nat_tests) in
    sym (any_true (λ j. option_map_or (meets (begin, end)) (span j) false) n j.0 j.1 (ap (λ o. option_map_or (meets (begin, end)) o false) j.2 ∙ passes))
met_upto span n begin end spans false are met free = sym (any_none (λ j. option_map_or (meets (begin, end)) (span j) false) n each)
  where
    by : (j : ℕ) → j < n → (o : Option (ℕ × ℕ)) → span j ≡ o → option_map_or (meets (begin, end)) o false ≡ false
    by j low None e = refl
    by j low (Some x) e = two (nat_lt begin x.1) (nat_lt x.0 end) refl refl
      where
        two : (c d : Bool) → nat_lt begin x.1 ≡ c → nat_lt x.0 end ≡ d → (nat_lt begin x.1 && nat_lt x.0 end) ≡ false
        two true true g h = absurd (free refl (record { start = x.0; stop = x.1; there = are.there j x.0 x.1 low e; before = grind (arith, nat_tests); behind = grind (arith, nat_tests) }))
        two true false g h = rw (g, h) refl
        two false d g h = rw g refl

    each : (j : ℕ) → j < n → option_map_or (meets (begin, end)) (span j) false ≡ false
    each j low = by j low (span j) refl

-- no spans
pub are_none : AreSpans []
are_none = record { some = λ q e h. absurd (none-some e h); apart = λ q e r f h i less. absurd (none-some e h) }

-- a span more, up to whose end all end
pub end_more : (begin end top now : ℕ) (old new : List (ℕ × ℕ)) → EndBy top old → top ≤ now → end ≤ now → ((q : ℕ) → end_at new q ≡ cond (eqb q begin) (Some end) (end_at old q)) → EndBy now new
end_more begin end top now old new by low high taken q e h = elim (cases_eq q begin) [
  | inl same ↦
      let own : end ≡ e = same_Some end e (sym (taken q ∙ ap (λ b. cond b (Some end) (end_at old q)) (eq-eqb q begin same)) ∙ h) in
      omega (arith, own, high)
  | inr other ↦
      let was = by q e (sym (taken q ∙ ap (λ b. cond b (Some end) (end_at old q)) (ne_eqb q begin other)) ∙ h) in
      omega (arith, was, low)
]

-- a span more, which none met
pub are_more : (begin end : ℕ) (old new : List (ℕ × ℕ)) → AreSpans old → begin < end → (IsMet old begin end → ⊥)
    → ((q : ℕ) → end_at new q ≡ cond (eqb q begin) (Some end) (end_at old q)) → AreSpans new
are_more begin end old new are some free taken = record {
  some = λ q e h. elim (at q e h) [
    | inl own ↦ let begins = own.0 in let ends = own.1 in omega (arith, begins, ends, some)
    | inr was ↦ are.some q e was
  ];
  apart = λ q e r f h i less. elim (at q e h) [
    | inl own ↦ elim (at r f i) [
      | inl other ↦ let a = own.0 in let b = other.0 in absurd (omega (arith, a, b, less))
      | inr was ↦ behind q e r f own was less
    ]
    | inr was ↦ elim (at r f i) [
      | inl own ↦ before q e r f was own less
      | inr other ↦ are.apart q e r f was other less
    ]
  ];
}
  where
    at : (q e : ℕ) → end_at new q ≡ Some e → ((q ≡ begin) × (e ≡ end)) ⊎ (end_at old q ≡ Some e)
    at q e h = elim (cases_eq q begin) [
      | inl same ↦ inl (same, sym (same_Some end e (sym (taken q ∙ ap (λ b. cond b (Some end) (end_at old q)) (eq-eqb q begin same)) ∙ h)))
      | inr other ↦ inr (sym (taken q ∙ ap (λ b. cond b (Some end) (end_at old q)) (ne_eqb q begin other)) ∙ h)
    ]

    behind : (q e r f : ℕ) → (q ≡ begin) × (e ≡ end) → end_at old r ≡ Some f → q < r → e ≤ r
    behind q e r f own was less = elim (cases_lt r end) [
      | inl low ↦
          let wide = are.some r f was in
          let a = own.0 in
          absurd (free (record { start = r; stop = f; there = was; before = low; behind = omega (arith, a, less, wide) }))
      | inr le ↦ let b = own.1 in omega (arith, b, le)
    ]

    before : (q e r f : ℕ) → end_at old q ≡ Some e → (r ≡ begin) × (f ≡ end) → q < r → e ≤ r
    before q e r f was own less = elim (cases_lt begin e) [
      | inl low ↦ let a = own.0 in absurd (free (record { start = q; stop = e; there = was; before = omega (arith, a, less, some); behind = low }))
      | inr le ↦ let a = own.0 in omega (arith, a, le)
    ]
