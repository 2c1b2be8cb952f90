-- What a refusal of the edits means (our profile).
use Rattle.std.specs.Prelude.{◌≡◌, Result, Err}
use Rattle.oc_base.specs.{declared.fault.Fault.{Fault}, declared.stop.Stop.{Stop}}
use Rattle.oc_base.specs.declared.stop.Stop.TheVariants as stop

-- the fault is that of the step; lack of memory needs no cause
abbrev pub IsStepRefusal : {X : Type 0} → Result X Fault → Stop → Type 0
IsStepRefusal step (stop.Refused f) = step ≡ Err f
IsStepRefusal step stop.NoMemory = Unit {0}
