-- The first entries that pass a test, and the first of each key.
use Rattle.std.proofs.Common.{◌≡◌, ℕ, zero, suc, ◌+◌, ◌<◌, inl, inr, Bool, true, false, cond, eqb, Option, Some, None, refl, sym, ◌∙◌, ap, subst, arith}
use Rattle.std.specs.{Prelude.{◌||◌}, Option.{option_map_or}}
use Rattle.std.proofs.lemmas.{Bool.{cases_eq, eq-eqb, eqb-true, true≢false}, Option.{none-some, same_Some}}
use Rattle.oc_linking.proofs.{Upto.{first_upto_from}, FirstFaultLaws.{first_upto_none}}
use Rattle.oc_linking.specs.Numbers.{or_else, first_upto}
use Rattle.oc_shelf.specs.Reading.Firsts.{any_upto, has_key, first_keyed}

-- one entry more
pub any_more : (test : ℕ → Bool) (i : ℕ) → any_upto test (i + 1) ≡ (any_upto test i || test i)
any_more test i = let e : i + 1 ≡ suc i = omega arith in rw e refl

pub first_more : {X : Type 0} (item : ℕ → Option X) (i : ℕ) → first_upto item (i + 1) ≡ or_else (first_upto item i) (item i)
first_more item i = let e : i + 1 ≡ suc i = omega arith in rw e refl

-- a key more, where it is new
pub keyed_more : (key : ℕ → Option ℕ) (i k : ℕ) → key i ≡ Some k → first_keyed key i k ≡ None → (j : ℕ)
    → first_keyed key (i + 1) j ≡ cond (eqb k j) (Some i) (first_keyed key i j)
keyed_more key i k is new j =
    first_more (λ m. cond (has_key key j m) (Some m) None) i
    ∙ ap (λ (o : Option ℕ). or_else (first_keyed key i j) (cond (option_map_or (λ n. eqb n j) o false) (Some i) None)) is
    ∙ by (eqb k j) refl
  where
    right : (o : Option ℕ) → or_else o None ≡ o
    right None = refl
    right (Some x) = refl

    by : (b : Bool) → eqb k j ≡ b → or_else (first_keyed key i j) (cond b (Some i) None) ≡ cond b (Some i) (first_keyed key i j)
    by true e = ap (λ (o : Option ℕ). or_else o (Some i)) (ap (first_keyed key i) (sym (eqb-true k j e)) ∙ new)
    by false e = right (first_keyed key i j)

-- an entry without a key
pub keyed_none : (key : ℕ → Option ℕ) (i : ℕ) → key i ≡ None → (j : ℕ) → first_keyed key (i + 1) j ≡ first_keyed key i j
keyed_none key i none j = first_more (λ m. cond (has_key key j m) (Some m) None) i ∙ rw none (right (first_keyed key i j))
  where
    right : (o : Option ℕ) → or_else o None ≡ o
    right None = refl
    right (Some x) = refl

-- none passes, and some passes
pub any_none : (test : ℕ → Bool) (n : ℕ) → ((j : ℕ) → j < n → test j ≡ false) → any_upto test n ≡ false
any_none test zero none = refl
any_none test (suc n) none = rw (any_none test n (λ j l. none j (omega arith)), none n (omega arith)) refl

pub any_false : (test : ℕ → Bool) (n j : ℕ) → any_upto test n ≡ false → j < n → test j ≡ false
any_false test zero j none l = absurd (omega arith)
any_false test (suc n) j none l = elim (any_upto test n) as (λ b. any_upto test n ≡ b → (b || test n) ≡ false → test j ≡ false) [
  | true ↦ λ e f. absurd (true≢false f)
  | false ↦ λ e f. elim (cases_eq j n) [
    | inl same ↦ subst (λ (k : ℕ). test k ≡ false) (sym same) f
    | inr other ↦ any_false test n j e (omega arith)
  ]
] refl none

pub any_true : (test : ℕ → Bool) (n j : ℕ) → j < n → test j ≡ true → any_upto test n ≡ true
any_true test zero j l is = absurd (omega arith)
any_true test (suc n) j l is = elim (cases_eq j n) [
  | inl same ↦ rw (subst (λ (k : ℕ). test k ≡ true) same is) (or_true (any_upto test n))
  | inr other ↦ rw (any_true test n j (omega arith) is) refl
]
  where
    or_true : (b : Bool) → (b || true) ≡ true
    or_true true = refl
    or_true false = refl

-- an entry that is found has the key
pub record IsKeyed (key : ℕ → Option ℕ) (n j k : ℕ) : Type 0 where
  pub below : k < n
  pub is : key k ≡ Some j

pub keyed_from : (key : ℕ → Option ℕ) (n j k : ℕ) → first_keyed key n j ≡ Some k → IsKeyed key n j k
keyed_from key n j k e =
    let m = first_upto_from (λ i. cond (has_key key j i) (Some i) None) n k e in
    by m.0 m.1 (key m.0) refl m.2
  where
    by : (i : ℕ) → i < n → (o : Option ℕ) → key i ≡ o → cond (option_map_or (λ x. eqb x j) o false) (Some i) None ≡ Some k → IsKeyed key n j k
    by i l None e f = absurd (none-some k f)
    by i l (Some x) e f = elim (eqb x j) as (λ b. eqb x j ≡ b → cond b (Some i) None ≡ Some k → IsKeyed key n j k) [
      | true ↦ λ g f. subst (IsKeyed key n j) (same_Some i k f) (record { below = l; is = e ∙ ap (λ (y : ℕ). Some y) (eqb-true x j g) })
      | false ↦ λ g f. absurd (none-some k f)
    ] refl f

-- and where an entry has the key, one is found
pub keyed_some : (key : ℕ → Option ℕ) (n j k : ℕ) → k < n → key k ≡ Some j → first_keyed key n j ≡ None → ⊥
keyed_some key n j k l is none =
    let here = first_upto_none (λ i. cond (has_key key j i) (Some i) None) n none k l in
    none-some k (sym here ∙ ap (λ (o : Option ℕ). cond (option_map_or (λ x. eqb x j) o false) (Some k) None) is ∙ ap (λ b. cond b (Some k) None) (eq-eqb j j refl))
