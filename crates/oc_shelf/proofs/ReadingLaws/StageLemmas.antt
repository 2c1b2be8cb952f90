-- Stages of conditions, judged by loops, and running sums.
use Rattle.std.proofs.Common.{◌≡◌, ℕ, zero, suc, ◌+◌, ◌<◌, Bool, true, false, cond, List, [], ◌∷◌, ◌++◌, map, Option, Some, None, refl, sym, ◌∙◌, ap, subst, arith}
use Rattle.std.specs.{Prelude.{not, ◌&&◌}, List.{AllByRecursion, range_with_len}}
use Rattle.std.proofs.lemmas.{Bool.{true≢false}, Option.{none-some}}
use Rattle.oc_base.specs.{declared.fault.Fault.{Fault}, declared.stop.Stop.{Stop}, Stops.{IsStop}}
use Rattle.oc_base.specs.declared.stop.Stop.TheVariants as stop
use Rattle.oc_linking.specs.{Numbers.{or_else, first_upto}, FirstFault.{Condition, first_broken, Stage, fault_of, stage_fault, first_fault}}
use Rattle.oc_linking.proofs.{Upto.{first_upto_stop}, FirstFaultLaws.{first_upto_none}}
use Rattle.oc_shelf.specs.Reading.Sums.{sum_upto}

-- the first of two lists of conditions
pub first_broken-append : (cs ds : List Condition) → first_broken (cs ++ ds) ≡ or_else (first_broken cs) (first_broken ds)
first_broken-append [] ds = refl
first_broken-append (c ∷ cs) ds = elim c.0 as (λ b. cond b (Some c.1) (first_broken (cs ++ ds)) ≡ or_else (cond b (Some c.1) (first_broken cs)) (first_broken ds)) [
  | true ↦ refl
  | false ↦ first_broken-append cs ds
]

-- where none is broken, each holds
pub all_hold : (cs : List Condition) → first_broken cs ≡ None → AllByRecursion (λ (c : Condition). c.0 ≡ false) cs
all_hold [] e = tt
all_hold (c ∷ cs) e = elim c.0 as (λ b. c.0 ≡ b → cond b (Some c.1) (first_broken cs) ≡ None → AllByRecursion (λ (c : Condition). c.0 ≡ false) (c ∷ cs)) [
  | true ↦ λ h e. absurd (none-some c.1 (sym e))
  | false ↦ λ h e. (h, all_hold cs e)
] refl e

-- a condition that one test calls for another, where it holds
pub implied : (a b : Bool) → (a && not b) ≡ false → a ≡ true → b ≡ true
implied true true e h = refl
implied true false e h = absurd (true≢false e)
implied false b e h = absurd (true≢false (sym h))

-- where neither of two lists has a broken condition, and where the list of both has none
pub clean_both : (cs ds : List Condition) → first_broken (cs ++ ds) ≡ None → (first_broken cs ≡ None) × (first_broken ds ≡ None)
clean_both cs ds clean = by (first_broken cs) (first_broken ds) (sym (first_broken-append cs ds) ∙ clean)
  where
    by : (a b : Option Fault) → or_else a b ≡ None → (a ≡ None) × (b ≡ None)
    by None b e = (refl, e)
    by (Some f) b e = absurd (none-some f (sym e))

-- the first broken condition of three lists, from the first of each
pub broken_of_three : (cs ds es : List Condition) → first_broken (cs ++ (ds ++ es)) ≡ or_else (first_broken cs) (or_else (first_broken ds) (first_broken es))
broken_of_three cs ds es = first_broken-append cs (ds ++ es) ∙ ap (or_else (first_broken cs)) (first_broken-append ds es)

-- one structure more without a fault
pub clean_more : {X : Type 0} (item : ℕ → Option X) (i : ℕ) → first_upto item i ≡ None → item i ≡ None → first_upto item (i + 1) ≡ None
clean_more item i none here = let e : i + 1 ≡ suc i = omega arith in rw e (rw none here)

-- a structure of a stage without a fault has none
pub clean_at : {X : Type 0} (item : ℕ → Option X) (n i : ℕ) → first_upto item n ≡ None → i < n → item i ≡ None
clean_at item n i none l = first_upto_none item n none i l

-- what stops at a structure stops the stage
pub stops_at : (item : ℕ → Option Fault) (i n : ℕ) (s : Stop) → first_upto item i ≡ None → i < n → IsStop (item i) s → IsStop (first_upto item n) s
stops_at item i n (stop.Refused f) none l is = first_upto_stop item i n f none is l
stops_at item i n stop.NoMemory none l is = tt

-- what stops a stage stops the stages
pub stops_first : (stage : Stage) (stages : List Stage) (s : Stop) → IsStop (stage_fault stage) s → IsStop (first_fault (stage ∷ stages)) s
stops_first stage stages (stop.Refused f) is = rw is refl
stops_first stage stages stop.NoMemory is = tt

-- stages behind one without a fault
pub clean_first : (stage : Stage) (stages : List Stage) → stage_fault stage ≡ None → first_fault (stage ∷ stages) ≡ first_fault stages
clean_first stage stages none = rw none refl

pub stops_later : (stage : Stage) (stages : List Stage) (s : Stop) → stage_fault stage ≡ None → IsStop (first_fault stages) s → IsStop (first_fault (stage ∷ stages)) s
stops_later stage stages s none is = subst (λ o. IsStop o s) (sym (clean_first stage stages none)) is

pub or_else-assoc : {X : Type 0} (a b c : Option X) → or_else (or_else a b) c ≡ or_else a (or_else b c)
or_else-assoc None b c = refl
or_else-assoc (Some x) b c = refl

pub or_else-none : {X : Type 0} (a : Option X) → or_else a None ≡ a
or_else-none None = refl
or_else-none (Some x) = refl

pub first_fault-append : (xs ys : List Stage) → first_fault (xs ++ ys) ≡ or_else (first_fault xs) (first_fault ys)
first_fault-append [] ys = refl
first_fault-append (x ∷ xs) ys = ap (or_else (stage_fault x)) (first_fault-append xs ys) ∙ sym (or_else-assoc (stage_fault x) (first_fault xs) (first_fault ys))

-- items that are the same
pub first_upto-same : {X : Type 0} (f g : ℕ → Option X) (n : ℕ) → ((i : ℕ) → i < n → f i ≡ g i) → first_upto f n ≡ first_upto g n
first_upto-same f g zero same = refl
first_upto-same f g (suc n) same = rw (first_upto-same f g n (λ i l. same i (omega arith)), same n (omega arith)) refl

-- the first, and those behind it
pub first_upto-head : {X : Type 0} (f : ℕ → Option X) (k : ℕ) → first_upto f (suc k) ≡ or_else (f 0) (first_upto (λ i. f (suc i)) k)
first_upto-head f zero = sym (or_else-none (f 0))
first_upto-head f (suc k) = ap (λ o. or_else o (f (suc k))) (first_upto-head f k) ∙ or_else-assoc (f 0) (first_upto (λ i. f (suc i)) k) (f (suc k))

stages_from : (stage : ℕ → Stage) (a k : ℕ) → first_fault (map stage (range_with_len a k)) ≡ first_upto (λ i. stage_fault (stage (a + i))) k
stages_from stage a zero = refl
stages_from stage a (suc k) =
    let start : a ≡ a + 0 = omega arith in
    ap (or_else (stage_fault (stage a))) (stages_from stage (a + 1) k)
    ∙ ap (λ (j : ℕ). or_else (stage_fault (stage j)) (first_upto (λ i. stage_fault (stage (a + 1 + i))) k)) start
    ∙ ap (or_else (stage_fault (stage (a + 0)))) (first_upto-same (λ i. stage_fault (stage (a + 1 + i))) (λ i. stage_fault (stage (a + suc i))) k (λ i l. let e : a + 1 + i ≡ a + suc i = omega arith in ap (λ (j : ℕ). stage_fault (stage j)) e))
    ∙ sym (first_upto-head (λ i. stage_fault (stage (a + i))) k)

-- a number of stages of one kind: the first that has a fault
pub first_fault-range : (stage : ℕ → Stage) (n : ℕ) → first_fault (map stage (range_with_len 0 n)) ≡ first_upto (λ i. stage_fault (stage i)) n
first_fault-range stage n =
    stages_from stage 0 n
    ∙ first_upto-same (λ i. stage_fault (stage (0 + i))) (λ i. stage_fault (stage i)) n (λ i l. let e : 0 + i ≡ i = omega arith in ap (λ (j : ℕ). stage_fault (stage j)) e)

-- no condition is broken
abbrev pub Unbroken : List Condition → Type 0
Unbroken conditions = AllByRecursion (λ (c : Condition). c.0 ≡ false) conditions

-- where none is broken, there is no fault
pub unbroken_none : (conditions : List Condition) → Unbroken conditions → first_broken conditions ≡ None
unbroken_none [] all = refl
unbroken_none (c ∷ conditions) all = rw all.0 (unbroken_none conditions all.1)

pub unbroken_append : (xs ys : List Condition) → Unbroken xs → Unbroken ys → Unbroken (xs ++ ys)
unbroken_append [] ys first second = second
unbroken_append (c ∷ xs) ys first second = (first.0, unbroken_append xs ys first.1 second)

-- a stage none of whose conditions is broken
abbrev pub IsUnbroken : Stage → Type 0
IsUnbroken stage = (i : ℕ) → i < stage.count → Unbroken (stage.conditions i)

pub upto_none : {X : Type 0} (item : ℕ → Option X) (n : ℕ) → ((i : ℕ) → i < n → item i ≡ None) → first_upto item n ≡ None
upto_none item zero none = refl
upto_none item (suc n) none = rw (upto_none item n (λ i l. none i (omega (arith, l))), none n (omega arith)) refl

pub no_stage_fault : (stage : Stage) → IsUnbroken stage → stage_fault stage ≡ None
no_stage_fault stage all = upto_none (fault_of stage) stage.count (λ i l. unbroken_none (stage.conditions i) (all i l))

pub no_first_fault : (stages : List Stage) → AllByRecursion IsUnbroken stages → first_fault stages ≡ None
no_first_fault [] all = refl
no_first_fault (stage ∷ stages) all = rw (no_stage_fault stage all.0) (no_first_fault stages all.1)

-- one structure more in a running sum
pub sum_more : (worth : ℕ → ℕ) (i : ℕ) → sum_upto worth (i + 1) ≡ sum_upto worth i + worth i
sum_more worth i = let e : i + 1 ≡ suc i = omega arith in rw e refl
