-- What is found first: by positions, and in a list.
use Rattle.std.proofs.Common.{◌≡◌, ℕ, zero, suc, ◌+◌, Bool, true, false, cond, List, [], ◌∷◌, length, map, take, Option, Some, None, refl, sym, ◌∙◌, ap, arith}
use Rattle.std.specs.{Prelude.{slice_get, filter_map}, List.{cons_option, enumerate_from, position_from}, Option.{option_and_then, option_map_or}}
use Rattle.oc_base.specs.declared.fault.Fault.{Fault}
use Rattle.oc_linking.specs.{Numbers.{or_else, first_upto}, FirstFault.{Condition, first_broken, stage_fault}}
use Rattle.oc_drop.specs.Steps.{first_in}
use Rattle.oc_equations.specs.Faults.{each_of}

-- ... of several

pub or_none : {X : Type 0} (o : Option X) → or_else o None ≡ o
or_none None = refl
or_none (Some x) = refl

pub or_assoc : {X : Type 0} (o p q : Option X) → or_else (or_else o p) q ≡ or_else o (or_else p q)
or_assoc None p q = refl
or_assoc (Some x) p q = refl

-- the first of several positions, and then the others
pub upto_cons : {X : Type 0} (item : ℕ → Option X) (n : ℕ) → first_upto item (suc n) ≡ or_else (item 0) (first_upto (λ i. item (suc i)) n)
upto_cons item zero = sym (or_none (item 0))
upto_cons item (suc n) =
    ap (λ o. or_else o (item (suc n))) (upto_cons item n)
    ∙ or_assoc (item 0) (first_upto (λ i. item (suc i)) n) (item (suc n))

pub upto_none : {X : Type 0} (item : ℕ → Option X) (n : ℕ) → ((i : ℕ) → item i ≡ None) → first_upto item n ≡ None
upto_none item zero none = refl
upto_none item (suc n) none = ap (λ o. or_else o (item n)) (upto_none item n none) ∙ none n

-- ... in a list

module _ {X Y : Type 0} where
  -- items that are told by their positions
  pub upto_numbered : (h : ℕ → X → Option Y) (a : ℕ) (xs : List X) (item : ℕ → Option Y) → ((i j : ℕ) → a + i ≡ j → item i ≡ option_and_then (h j) (slice_get xs i))
      → first_upto item (length xs) ≡ first_in (λ (x : ℕ × X). h x.0 x.1) (enumerate_from a xs)
  upto_numbered h a [] item is = refl
  upto_numbered h a (x ∷ xs) item is =
      upto_cons item (length xs)
      ∙ ap (λ o. or_else o (first_upto (λ i. item (suc i)) (length xs))) (is 0 a (omega arith))
      ∙ ap (or_else (h a x)) (upto_numbered h (a + 1) xs (λ i. item (suc i)) (λ i j e. is (suc i) j (omega (arith, e))))

  -- the first, of a list that a function made
  pub first_map : {Z : Type 0} (f : Y → Option Z) (h : X → Y) (xs : List X) → first_in f (map h xs) ≡ first_in (λ x. f (h x)) xs
  first_map f h [] = refl
  first_map f h (x ∷ xs) = ap (or_else (f (h x))) (first_map f h xs)

  pub first_same : (f g : X → Option Y) (xs : List X) → ((k : ℕ) (x : X) → slice_get xs k ≡ Some x → f x ≡ g x) → first_in f xs ≡ first_in g xs
  first_same f g [] same = refl
  first_same f g (x ∷ xs) same =
      ap (λ o. or_else o (first_in f xs)) (same 0 x refl) ∙ ap (or_else (g x)) (first_same f g xs (λ k y here. same (suc k) y here))

  pub first_filtered : (f : X → Option Y) (xs : List X) → slice_get (filter_map f xs) 0 ≡ first_in f xs
  first_filtered f [] = refl
  first_filtered f (x ∷ xs) = by (f x) (first_filtered f xs)
    where
      by : (o : Option Y) → slice_get (filter_map f xs) 0 ≡ first_in f xs → slice_get (cons_option o (filter_map f xs)) 0 ≡ or_else o (first_in f xs)
      by None e = e
      by (Some y) e = refl

-- ... conditions

-- the fault of a condition
abbrev pub fault_by : Condition → Option Fault
fault_by c = cond c.0 (Some c.1) None

or_by : (b : Bool) (f : Fault) (o : Option Fault) → cond b (Some f) o ≡ or_else (cond b (Some f) None) o
or_by true f o = refl
or_by false f o = refl

pub broken_map : {X : Type 0} (condition : X → Condition) (xs : List X) → first_broken (map condition xs) ≡ first_in (λ x. fault_by (condition x)) xs
broken_map condition [] = refl
broken_map condition (x ∷ xs) =
    or_by (condition x).0 (condition x).1 (first_broken (map condition xs)) ∙ ap (or_else (fault_by (condition x))) (broken_map condition xs)

-- a stage in which each item of a list is judged
pub stage_in : {X : Type 0} (conditions : X → List Condition) (xs : List X) → stage_fault (each_of conditions xs) ≡ first_in (λ x. first_broken (conditions x)) xs
stage_in conditions [] = refl
stage_in conditions (x ∷ xs) =
    upto_cons (λ i. first_broken (option_map_or conditions (slice_get (x ∷ xs) i) [])) (length xs)
    ∙ ap (or_else (first_broken (conditions x))) (stage_in conditions xs)

-- ... places

or_position : (b : Bool) (a : ℕ) (o : Option ℕ) → or_else (cond b (Some a) None) o ≡ cond b (Some a) o
or_position true a o = refl
or_position false a o = refl

-- the first of the n lowest positions whose item passes a test
pub upto_position : {X : Type 0} (test : X → Bool) (a : ℕ) (xs : List X) (n : ℕ) (item : ℕ → Option ℕ)
    → ((i j : ℕ) → a + i ≡ j → item i ≡ cond (option_map_or test (slice_get xs i) false) (Some j) None) → first_upto item n ≡ position_from test a (take n xs)
upto_position test a xs zero item is = refl
upto_position test a [] (suc n) item is = upto_none item (suc n) (λ i. is i (a + i) refl)
upto_position test a (x ∷ xs) (suc n) item is =
    upto_cons item n
    ∙ ap (λ o. or_else o (first_upto (λ i. item (suc i)) n)) (is 0 a (omega arith))
    ∙ ap (or_else (cond (test x) (Some a) None)) (upto_position test (a + 1) xs n (λ i. item (suc i)) (λ i j e. is (suc i) j (omega (arith, e))))
    ∙ or_position (test x) a (position_from test (a + 1) (take n xs))
