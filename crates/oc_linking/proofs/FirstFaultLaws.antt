-- The first fault that is computed is the first.
use Rattle.std.proofs.Common.{◌≡◌, ℕ, zero, suc, ◌<◌, inl, inr, true, false, cond, List, [], ◌∷◌, Option, Some, None, refl, sym, ◌∙◌, ap, subst, arith}
use Rattle.std.specs.Prelude.{slice_get}
use Rattle.std.proofs.lemmas.{Bool.{cases_eq, true≢false}, Option.{none-some, same_Some}}
use Rattle.oc_base.specs.declared.fault.Fault.{Fault}
use Rattle.oc_linking.specs.Numbers.{or_else, first_upto}
use Rattle.oc_linking.specs.FirstFault.{Condition, first_broken, Stage, fault_of, stage_fault, first_fault, Broken, JudgedBefore, IsFirstFault, FirstFaultIsFirst, NoFaultNoneBroken}

-- where no fault is found, no condition is broken
pub none_broken : (cs : List Condition) → first_broken cs ≡ None → (j : ℕ) (f : Fault) → slice_get cs j ≡ Some (true, f) → ⊥
none_broken [] e j f here = none-some (true, f) here
none_broken (c ∷ cs) e j f here =
    elim c.0 as (λ b. c.0 ≡ b → cond b (Some c.1) (first_broken cs) ≡ None → ⊥) [
      | true ↦ λ h e. none-some c.1 (sym e)
      | false ↦ λ h e. elim j as (λ j. slice_get (c ∷ cs) j ≡ Some (true, f) → ⊥) [
        | zero ↦ λ here. true≢false (sym (ap (λ (d : Condition). d.0) (same_Some c (true, f) here)) ∙ h)
        | suc j ↦ λ here. none_broken cs e j f here
      ] here
    ] refl e

-- the fault that is found is of a broken condition, before which none is broken
pub first_broken_from : (cs : List Condition) (f : Fault) → first_broken cs ≡ Some f
    → (j : ℕ) × (slice_get cs j ≡ Some (true, f)) × ((n : ℕ) (g : Fault) → n < j → slice_get cs n ≡ Some (true, g) → ⊥)
first_broken_from [] f e = absurd (none-some f e)
first_broken_from (c ∷ cs) f e =
    elim c.0 as (λ b. c.0 ≡ b → cond b (Some c.1) (first_broken cs) ≡ Some f
    → (j : ℕ) × (slice_get (c ∷ cs) j ≡ Some (true, f)) × ((n : ℕ) (g : Fault) → n < j → slice_get (c ∷ cs) n ≡ Some (true, g) → ⊥)) [
      | true ↦ λ h e. (0, ap (λ b. Some (b, c.1)) h ∙ ap (λ g. Some (true, g)) (same_Some c.1 f e), λ n g l. absurd (omega (arith, l)))
      | false ↦ λ h e. let m = first_broken_from cs f e in (
        suc m.0,
        m.1,
        λ n g l here. elim n as (λ n. n < suc m.0 → slice_get (c ∷ cs) n ≡ Some (true, g) → ⊥) [
          | zero ↦ λ l here. true≢false (sym (ap (λ (d : Condition). d.0) (same_Some c (true, g) here)) ∙ h)
          | suc n ↦ λ l here. m.2 n g (omega (arith, l)) here
        ] l here,
      )
    ] refl e

-- where nothing is there, no item is
pub first_upto_none : {X : Type 0} (item : ℕ → Option X) (n : ℕ) → first_upto item n ≡ None → (i : ℕ) → i < n → item i ≡ None
first_upto_none item zero e i l = absurd (omega (arith, l))
first_upto_none item (suc n) e i l =
    elim (first_upto item n) as (λ o. first_upto item n ≡ o → or_else o (item n) ≡ None → item i ≡ None) [
      | Some y ↦ λ h e. absurd (none-some y (sym e))
      | None ↦ λ h e. elim (cases_eq i n) [
        | inl same ↦ subst (λ k. item k ≡ None) (sym same) e
        | inr other ↦ first_upto_none item n h i (omega (arith, l, other))
      ]
    ] refl e

-- what is found is an item, before which none is there
pub first_upto_least : {X : Type 0} (item : ℕ → Option X) (n : ℕ) (x : X) → first_upto item n ≡ Some x
    → (k : ℕ) × (k < n) × (item k ≡ Some x) × ((i : ℕ) → i < k → item i ≡ None)
first_upto_least item zero x e = absurd (none-some x e)
first_upto_least item (suc n) x e =
    elim (first_upto item n) as (λ o. first_upto item n ≡ o → or_else o (item n) ≡ Some x → (k : ℕ) × (k < suc n) × (item k ≡ Some x) × ((i : ℕ) → i < k → item i ≡ None)) [
      | None ↦ λ h e. (n, omega arith, e, λ i l. first_upto_none item n h i l)
      | Some y ↦ λ h e. let m = first_upto_least item n x (h ∙ e) in (m.0, omega (arith, m.1), m.2, m.3)
    ] refl e

module _ (stage : Stage) (stages : List Stage) where
  -- broken in the first stage
  in_first : (i j : ℕ) (f : Fault) → Broken (stage ∷ stages) 0 i j f → (i < stage.count) × (slice_get (stage.conditions i) j ≡ Some (true, f))
  in_first i j f b =
      let same : b.stage ≡ stage = sym (same_Some stage b.stage b.here) in
      (subst (λ (s : Stage). i < s.count) same b.among, subst (λ (s : Stage). slice_get (s.conditions i) j ≡ Some (true, f)) same b.condition)

  -- where the first stage has no fault, none of its conditions is broken
  first_clean : stage_fault stage ≡ None → (i j : ℕ) (f : Fault) → Broken (stage ∷ stages) 0 i j f → ⊥
  first_clean e i j f b = let m = in_first i j f b in none_broken (stage.conditions i) (first_upto_none (fault_of stage) stage.count e i m.0) j f m.1

  -- broken in a later stage
  later : (k i j : ℕ) (f : Fault) → Broken (stage ∷ stages) (suc k) i j f → Broken stages k i j f
  later k i j f b = record { stage = b.stage; here = b.here; among = b.among; condition = b.condition }

pub no_fault_none_broken : NoFaultNoneBroken
no_fault_none_broken [] e k i j f b = none-some b.stage b.here
no_fault_none_broken (stage ∷ stages) e k i j f b =
    elim (stage_fault stage) as (λ o. stage_fault stage ≡ o → or_else o (first_fault stages) ≡ None → ⊥) [
      | Some g ↦ λ h e. none-some g (sym e)
      | None ↦ λ h e. elim k as (λ k. Broken (stage ∷ stages) k i j f → ⊥) [
        | zero ↦ λ b. first_clean stage stages h i j f b
        | suc k ↦ λ b. no_fault_none_broken stages e k i j f (later stage stages k i j f b)
      ] b
    ] refl e

-- the first fault is in the first stage
found_first : (stage : Stage) (stages : List Stage) (f : Fault) → stage_fault stage ≡ Some f → IsFirstFault (stage ∷ stages) f
found_first stage stages f e =
    let m = first_upto_least (fault_of stage) stage.count f e in
    let c = first_broken_from (stage.conditions m.0) f m.2 in
    record {
      k = 0;
      i = m.0;
      j = c.0;
      broken = record { stage = stage; here = refl; among = m.1; condition = c.1 };
      first = λ l i n g before b. elim before as (λ _. ⊥) [
        | inl less ↦ omega (arith, less)
        | inr both ↦ let d = in_first stage stages i n g (subst (λ l. Broken (stage ∷ stages) l i n g) both.0 b) in
            elim both.1 as (λ _. ⊥) [
              | inl less ↦ none_broken (stage.conditions i) (m.3 i less) n g d.1
              | inr same ↦ c.2 n g same.1 (subst (λ k. slice_get (stage.conditions k) n ≡ Some (true, g)) same.0 d.1)
            ]
      ];
    }

-- the first fault is in a later stage
found_later : (stage : Stage) (stages : List Stage) (f : Fault) → stage_fault stage ≡ None → IsFirstFault stages f → IsFirstFault (stage ∷ stages) f
found_later stage stages f none m = record {
  k = suc m.k;
  i = m.i;
  j = m.j;
  broken = record { stage = m.broken.stage; here = m.broken.here; among = m.broken.among; condition = m.broken.condition };
  first = λ l i n g before b. elim l as (λ l. JudgedBefore l i n (suc m.k) m.i m.j → Broken (stage ∷ stages) l i n g → ⊥) [
    | zero ↦ λ before b. first_clean stage stages none i n g b
    | suc l ↦ λ before b. m.first l i n g (elim before [ inl less ↦ inl (omega (arith, less)) | inr both ↦ inr (omega (arith, both.0), both.1) ]) (later stage stages l i n g b)
  ] before b;
}

pub first_fault_is_first : FirstFaultIsFirst
first_fault_is_first [] f e = absurd (none-some f e)
first_fault_is_first (stage ∷ stages) f e =
    elim (stage_fault stage) as (λ o. stage_fault stage ≡ o → or_else o (first_fault stages) ≡ Some f → IsFirstFault (stage ∷ stages) f) [
      | Some g ↦ λ h e. found_first stage stages f (h ∙ e)
      | None ↦ λ h e. found_later stage stages f h (first_fault_is_first stages f e)
    ] refl e
