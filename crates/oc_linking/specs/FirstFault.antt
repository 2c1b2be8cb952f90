-- The first fault of a file, from tables of conditions: by stage, then by structure, then by condition (our profile).
use Rattle.std.specs.Prelude.{◌≡◌, ℕ, ◌<◌, ◌⊎◌, Bool, true, if◌then◌else◌, List, [], ◌∷◌, slice_get, Option, Some, None}
use Rattle.oc_base.specs.declared.fault.Fault.{Fault}
use Rattle.oc_linking.specs.Numbers.{or_else, first_upto}

-- a condition on a structure: whether it is broken, and the fault for that
abbrev pub Condition : Type 0
Condition = Bool × Fault

-- the fault of the first condition that is broken
abbrev pub first_broken : List Condition → Option Fault
first_broken [] = None
first_broken (c ∷ conditions) = if c.0 then Some c.1 else first_broken conditions

-- a stage of reading: how many structures it judges, and the conditions on each, in the order in which they are judged
pub record Stage : Type 0 where
  pub count : ℕ
  pub conditions : ℕ → List Condition

-- the first fault of structure i
abbrev pub fault_of : Stage → ℕ → Option Fault
fault_of stage i = first_broken (stage.conditions i)

-- the first fault of a stage
abbrev pub stage_fault : Stage → Option Fault
stage_fault stage = first_upto (fault_of stage) stage.count

-- the first fault of stages in their order
abbrev pub first_fault : List Stage → Option Fault
first_fault [] = None
first_fault (stage ∷ stages) = or_else (stage_fault stage) (first_fault stages)

-- condition j on structure i of stage k is broken, and has that fault
pub record Broken (stages : List Stage) (k i j : ℕ) (fault : Fault) : Type 0 where
  pub stage : Stage
  pub here : slice_get stages k ≡ Some stage
  pub among : i < stage.count
  pub condition : slice_get (stage.conditions i) j ≡ Some (true, fault)

-- one condition is judged before another
abbrev pub JudgedBefore : ℕ → ℕ → ℕ → ℕ → ℕ → ℕ → Type 0
JudgedBefore k i j l m n = (k < l) ⊎ ((k ≡ l) × ((i < m) ⊎ ((i ≡ m) × (j < n))))

-- some condition is broken with that fault, and none that is judged before it is broken
pub record IsFirstFault (stages : List Stage) (fault : Fault) : Type 0 where
  pub k : ℕ
  pub i : ℕ
  pub j : ℕ
  pub broken : Broken stages k i j fault
  pub first : (l m n : ℕ) (other : Fault) → JudgedBefore l m n k i j → Broken stages l m n other → ⊥

-- what is computed is the first fault
abbrev pub FirstFaultIsFirst : Type 0
FirstFaultIsFirst = (stages : List Stage) (fault : Fault) → first_fault stages ≡ Some fault → IsFirstFault stages fault

-- where none is computed, no condition is broken
abbrev pub NoFaultNoneBroken : Type 0
NoFaultNoneBroken = (stages : List Stage) → first_fault stages ≡ None → (k i j : ℕ) (fault : Fault) → Broken stages k i j fault → ⊥
