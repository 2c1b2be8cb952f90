-- What a fixup must meet after what a reader keeps (our profile).
use Rattle.std.specs.Prelude.{◌≡◌, ℕ, true, ◌||◌, if◌then◌else◌, List, [], ◌∷◌, ◌++◌, Option, Some, None, Ok}
use Rattle.oc_base.specs.{declared.code.Code.TheVariants.{BadTarget, TargetKind, Overlap}, declared.fault.Fault.{Fault}, declared.stop.Stop.{Stop}}
use Rattle.oc_base.specs.Stops.{IsStop}
use Rattle.oc_base.specs.declared.stop.Stop.TheVariants as stop
use Rattle.oc_linking.specs.FirstFault.{first_broken}
use Rattle.oc_omf.specs.{declared.structures.Fixup.{Fixup}, declared.structures.Method.{Method}, Tables.{Tables}, Fixups.{PlacedSubrecord, fixed_in, fixed_of}}
use Rattle.oc_omf.specs.RelocationFaults.{fixup_conditions, is_datum_there}
use Rattle.oc_omf.specs.declared.structures.Subrecord.TheVariants as subrecord
use Rattle.oc_omf_judge.specs.{declared.reached.Reached.{Reached}, declared.whole.Whole.{Whole}}
use Rattle.oc_omf_judge.specs.{Reached.{IsReached, base_in, last_in, placed_at, relocation_fault}, Rows.{has_row}, Starts.{IsMet, is_among, is_start}}
use Rattle.oc_omf_judge.specs.Whole.{is_judged, meaning}

-- the fault of what it names
abbrev pub names_fault : Whole → Tables → Option ℕ → ℕ × ℕ → Fixup → Option Method → Option Method → Option Fault
names_fault w before segment at f target frame =
    if is_datum_there before f.target target then (
    if is_datum_there before f.frame frame then (if has_row w segment f.segment_relative target frame then None else Some (relocation_fault at TargetKind))
    else Some (relocation_fault at BadTarget)
    ) else Some (relocation_fault at BadTarget)

-- its fields meet no others, and are recorded
pub record AreFieldsTaken (old : Reached) (places : List ℕ) (new : Reached) : Type 0 where
  pub free : IsMet old.starts (base_in old) places → ⊥
  pub starts : (k : ℕ) → is_start new.starts k ≡ (is_start old.starts k || is_among (base_in old) places k)
  pub counts : new.counts ≡ old.counts
  pub last : last_in new ≡ last_in old
  pub threads : new.threads ≡ old.threads

-- one meets another
abbrev pub AreFieldsStopped : Reached → ℕ × ℕ → List ℕ → Stop → Type 0
AreFieldsStopped old at places (stop.Refused f) = (f ≡ relocation_fault at Overlap) × IsMet old.starts (base_in old) places
AreFieldsStopped old at places stop.NoMemory = Unit {0}

-- a fixup that is judged after what is kept has no fault, and is recorded
abbrev pub IsFixupTaken : Whole → Reached → ℕ × ℕ → Fixup → Reached → Type 0
IsFixupTaken w old at f new =
    (before : Tables) (earlier : List PlacedSubrecord) → IsReached w before earlier old → is_judged w (fixed_of earlier before f) ≡ true
    → (first_broken (fixup_conditions (meaning w) (fixed_in earlier) (placed_at before at (Ok (subrecord.Fixup f))) (fixed_of earlier before f)) ≡ None)
    × IsReached w before (earlier ++ placed_at before at (Ok (subrecord.Fixup f)) ∷ []) new

-- it has a fault, which is reported
abbrev pub IsFixupStopped : Whole → Reached → ℕ × ℕ → Fixup → Stop → Type 0
IsFixupStopped w old at f s =
    (before : Tables) (earlier : List PlacedSubrecord) → IsReached w before earlier old → is_judged w (fixed_of earlier before f) ≡ true
    → IsStop (first_broken (fixup_conditions (meaning w) (fixed_in earlier) (placed_at before at (Ok (subrecord.Fixup f))) (fixed_of earlier before f))) s
