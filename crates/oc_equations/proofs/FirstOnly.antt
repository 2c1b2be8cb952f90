-- There is one first fault.
use Rattle.std.proofs.Common.{◌≡◌, ℕ, ◌⊎◌, true, List, Option, Some, None, inl, inr, refl, sym, ◌∙◌, ap, subst, arith}
use Rattle.std.specs.Prelude.{slice_get}
use Rattle.std.proofs.lemmas.{Bool.{cases_lt}, Option.{same_Some}}
use Rattle.oc_base.specs.declared.fault.Fault.{Fault}
use Rattle.oc_linking.specs.FirstFault.{Broken, IsFirstFault, JudgedBefore, Stage, first_fault}
use Rattle.oc_linking.proofs.FirstFaultLaws.{first_fault_is_first, no_fault_none_broken}

-- of two conditions one is judged before the other, or they are one
either : (k i j l m n : ℕ) → JudgedBefore k i j l m n ⊎ (JudgedBefore l m n k i j ⊎ ((k ≡ l) × (i ≡ m) × (j ≡ n)))
either k i j l m n = elim (cases_lt k l) [
  | inl low ↦ inl (inl low)
  | inr high ↦ elim (cases_lt l k) [
    | inl low ↦ inr (inl (inl low))
    | inr le ↦
        let stage : k ≡ l = omega (arith, high, le) in
        elim (cases_lt i m) [
          | inl low ↦ inl (inr (stage, inl low))
          | inr high ↦ elim (cases_lt m i) [
            | inl low ↦ inr (inl (inr (sym stage, inl low)))
            | inr le ↦
                let item : i ≡ m = omega (arith, high, le) in
                elim (cases_lt j n) [
                  | inl low ↦ inl (inr (stage, inr (item, low)))
                  | inr high ↦ elim (cases_lt n j) [
                    | inl low ↦ inr (inl (inr (sym stage, inr (sym item, low))))
                    | inr le ↦ let last : j ≡ n = omega (arith, high, le) in inr (inr (stage, item, last))
                  ]
                ]
          ]
        ]
  ]
]

-- a condition that is broken has one fault
one_fault : (stages : List Stage) (k i j : ℕ) (f g : Fault) → Broken stages k i j f → Broken stages k i j g → f ≡ g
one_fault stages k i j f g a b =
    let same : a.stage ≡ b.stage = same_Some a.stage b.stage (sym a.here ∙ b.here) in
    let here : slice_get (b.stage.conditions i) j ≡ Some (true, f) = subst (λ (s : Stage). slice_get (s.conditions i) j ≡ Some (true, f)) same a.condition in
    ap (λ (c : _ × Fault). c.1) (same_Some (true, f) (true, g) (sym here ∙ b.condition))

-- what is a first fault is computed
pub first_only : (stages : List Stage) (fault : Fault) → IsFirstFault stages fault → first_fault stages ≡ Some fault
first_only stages fault is = by (first_fault stages) refl
  where
    same : (other : Fault) → IsFirstFault stages other → other ≡ fault
    same other o = elim (either o.k o.i o.j is.k is.i is.j) [
      | inl before ↦ absurd (is.first o.k o.i o.j other before o.broken)
      | inr rest ↦ elim rest [
        | inl before ↦ absurd (o.first is.k is.i is.j fault before is.broken)
        | inr e ↦ one_fault stages is.k is.i is.j other fault
            (subst (λ j. Broken stages is.k is.i j other) e.2 (subst (λ i. Broken stages is.k i o.j other) e.1 (subst (λ k. Broken stages k o.i o.j other) e.0 o.broken))) is.broken
      ]
    ]

    by : (o : Option Fault) → first_fault stages ≡ o → o ≡ Some fault
    by None e = absurd (no_fault_none_broken stages e is.k is.i is.j fault is.broken)
    by (Some other) e = ap Some (same other (first_fault_is_first stages other e))
