-- A search gives the least that passes, and nothing only where nothing passes.
use Rattle.std.proofs.Common.{◌≡◌, ℕ, zero, suc, ◌+◌, ◌<◌, ◌≤◌, inl, inr, Bool, true, false, cond, List, [], ◌∷◌, length, Some, None, refl, sym, ◌∙◌, subst, arith}
use Rattle.std.specs.{Prelude.{slice_get}, Option.{option_map}}
use Rattle.std.proofs.lemmas.{Bool.{cases_eq, true≢false}, Option.{none-some, same_Some}}
use Rattle.oc_linking.specs.{declared.terms.Patch.{Patch}, Numbers.{or_else, first_from}, Images.{Patches, passes_at, first_at, first_field}, Laws.{Before}}

-- what is found passes, and no number before it does
pub first_from_found : (test : ℕ → Bool) (start n i : ℕ) → first_from test start n ≡ Some i
    → (start ≤ i) × (i < start + n) × (test i ≡ true) × ((j : ℕ) → start ≤ j → j < i → test j ≡ false)
first_from_found test start zero i e = absurd (none-some i e)
first_from_found test start (suc n) i e =
    elim (test start) as (λ b. test start ≡ b → cond b (Some start) (first_from test (start + 1) n) ≡ Some i
    → (start ≤ i) × (i < start + suc n) × (test i ≡ true) × ((j : ℕ) → start ≤ j → j < i → test j ≡ false)) [
      | true ↦ λ h e. let same : start ≡ i = same_Some start i e in
          (omega (arith, same), omega (arith, same), subst (λ k. test k ≡ true) same h, λ j from to. absurd (omega (arith, same, from, to)))
      | false ↦ λ h e. let m = first_from_found test (start + 1) n i e in (
        omega (arith, m.0),
        omega (arith, m.1),
        m.2,
        λ j from to. elim (cases_eq start j) [
          | inl same ↦ subst (λ k. test k ≡ false) same h
          | inr other ↦ m.3 j (omega (arith, from, other)) to
        ],
      )
    ] refl e

-- where nothing is found, nothing passes
pub first_from_none : (test : ℕ → Bool) (start n : ℕ) → first_from test start n ≡ None → (j : ℕ) → start ≤ j → j < start + n → test j ≡ false
first_from_none test start zero e j from to = absurd (omega (arith, from, to))
first_from_none test start (suc n) e j from to =
    elim (test start) as (λ b. test start ≡ b → cond b (Some start) (first_from test (start + 1) n) ≡ None → test j ≡ false) [
      | true ↦ λ h e. absurd (none-some start (sym e))
      | false ↦ λ h e. elim (cases_eq start j) [
        | inl same ↦ subst (λ k. test k ≡ false) same h
        | inr other ↦ first_from_none test (start + 1) n e j (omega (arith, from, other)) (omega (arith, to))
      ]
    ] refl e

-- at the section in position j of the list, which is section s + j, a field begins in the contents and passes
pub record Hit (test : Patch → Bool) (patches : Patches) (s : ℕ) (xs : List (List ℕ)) (j at : ℕ) : Type 0 where
  pub contents : List ℕ
  pub here : slice_get xs j ≡ Some contents
  pub inside : at < length contents
  pub passes : passes_at test (patches (s + j)) at ≡ true

-- what is found: a field that passes, with none before it
pub record Found (test : Patch → Bool) (patches : Patches) (s : ℕ) (xs : List (List ℕ)) (k : ℕ × ℕ) : Type 0 where
  pub position : ℕ
  pub section : k.0 ≡ s + position
  pub hit : Hit test patches s xs position k.1
  pub first : (i x : ℕ) → Before i x position k.1 → Hit test patches s xs i x → ⊥

module _ (test : Patch → Bool) (patches : Patches) where
  -- a later section of a list is one of its rest
  rest : (s : ℕ) (x : List ℕ) (xs : List (List ℕ)) (j at : ℕ) → Hit test patches s (x ∷ xs) (suc j) at → Hit test patches (s + 1) xs j at
  rest s x xs j at h = let e : s + suc j ≡ s + 1 + j = omega arith in
      record { contents = h.contents; here = h.here; inside = h.inside; passes = subst (λ i. passes_at test (patches i) at ≡ true) e h.passes }

  -- and the other way round
  more : (s : ℕ) (x : List ℕ) (xs : List (List ℕ)) (j at : ℕ) → Hit test patches (s + 1) xs j at → Hit test patches s (x ∷ xs) (suc j) at
  more s x xs j at h = let e : s + 1 + j ≡ s + suc j = omega arith in
      record { contents = h.contents; here = h.here; inside = h.inside; passes = subst (λ i. passes_at test (patches i) at ≡ true) e h.passes }

  -- in the first section of a list
  begins : (s : ℕ) (x : List ℕ) (xs : List (List ℕ)) (at : ℕ) → Hit test patches s (x ∷ xs) 0 at → (at < length x) × (passes_at test (patches s) at ≡ true)
  begins s x xs at h = let e : s + 0 ≡ s = omega arith in
      (subst (λ ys. at < length ys) (sym (same_Some x h.contents h.here)) h.inside, subst (λ i. passes_at test (patches i) at ≡ true) e h.passes)

  -- none in the first section
  none_first : (s : ℕ) (x : List ℕ) (xs : List (List ℕ)) (at : ℕ) → first_at test (patches s) (length x) ≡ None → Hit test patches s (x ∷ xs) 0 at → ⊥
  none_first s x xs at e h = let m = begins s x xs at h in
      true≢false (sym m.1 ∙ first_from_none (passes_at test (patches s)) 0 (length x) e at (omega arith) (omega (arith, m.0)))

  -- where nothing is found, nothing passes
  pub first_field_none : (s : ℕ) (xs : List (List ℕ)) → first_field test patches s xs ≡ None → (j at : ℕ) → Hit test patches s xs j at → ⊥
  first_field_none s [] e j at h = none-some h.contents h.here
  first_field_none s (x ∷ xs) e j at h =
      elim (first_at test (patches s) (length x)) as (λ o. first_at test (patches s) (length x) ≡ o
      → or_else (option_map (λ at. (s, at)) o) (first_field test patches (s + 1) xs) ≡ None → (j : ℕ) → Hit test patches s (x ∷ xs) j at → ⊥) [
        | Some y ↦ λ f e j h. none-some (s, y) (sym e)
        | None ↦ λ f e j. elim j as (λ j. Hit test patches s (x ∷ xs) j at → ⊥) [
          | zero ↦ λ h. none_first s x xs at f h
          | suc j ↦ λ h. first_field_none (s + 1) xs e j at (rest s x xs j at h)
        ]
      ] refl e j h

  -- what is found in the first section
  found_first : (s : ℕ) (x : List ℕ) (xs : List (List ℕ)) (y : ℕ) → first_at test (patches s) (length x) ≡ Some y → Found test patches s (x ∷ xs) (s, y)
  found_first s x xs y e =
      let m = first_from_found (passes_at test (patches s)) 0 (length x) y e in
      let same : s ≡ s + 0 = omega arith in
      record {
        position = 0;
        section = same;
        hit = record { contents = x; here = refl; inside = omega (arith, m.1); passes = subst (λ i. passes_at test (patches i) y ≡ true) same m.2 };
        first = λ i z before h. elim before as (λ b. ⊥) [
          | inl less ↦ omega (arith, less)
          | inr both ↦ let b = begins s x xs z (subst (λ i. Hit test patches s (x ∷ xs) i z) both.0 h) in
              true≢false (sym b.1 ∙ m.3 z (omega arith) both.1)
        ];
      }

  -- what is found in a later one
  found_later : (s : ℕ) (x : List ℕ) (xs : List (List ℕ)) (k : ℕ × ℕ) → first_at test (patches s) (length x) ≡ None → Found test patches (s + 1) xs k → Found test patches s (x ∷ xs) k
  found_later s x xs k none m = record {
    position = suc m.position;
    section = let e = m.section in omega (arith, e);
    hit = more s x xs m.position k.1 m.hit;
    first = λ i z before h. elim i as (λ i. Before i z (suc m.position) k.1 → Hit test patches s (x ∷ xs) i z → ⊥) [
      | zero ↦ λ before h. none_first s x xs z none h
      | suc i ↦ λ before h. m.first i z (elim before [ inl less ↦ inl (omega (arith, less)) | inr both ↦ inr (omega (arith, both.0), both.1) ]) (rest s x xs i z h)
    ] before h;
  }

  -- what is found is the first
  pub first_field_found : (s : ℕ) (xs : List (List ℕ)) (k : ℕ × ℕ) → first_field test patches s xs ≡ Some k → Found test patches s xs k
  first_field_found s [] k e = absurd (none-some k e)
  first_field_found s (x ∷ xs) k e =
      elim (first_at test (patches s) (length x)) as (λ o. first_at test (patches s) (length x) ≡ o
      → or_else (option_map (λ at. (s, at)) o) (first_field test patches (s + 1) xs) ≡ Some k → Found test patches s (x ∷ xs) k) [
        | Some y ↦ λ f e. subst (λ k. Found test patches s (x ∷ xs) k) (same_Some (s, y) k e) (found_first s x xs y f)
        | None ↦ λ f e. found_later s x xs k f (first_field_found (s + 1) xs k e)
      ] refl e
