-- Why a step stops (our profile).
use Rattle.std.specs.Prelude.{◌≡◌, Option, Some}
use Rattle.oc_base.specs.{declared.fault.Fault.{Fault}, declared.stop.Stop.{Stop}}
use Rattle.oc_base.specs.declared.stop.Stop.TheVariants as stop

-- the fault is the first; lack of memory needs no cause
abbrev pub IsStop : Option Fault → Stop → Type 0
IsStop first (stop.Refused f) = first ≡ Some f
IsStop first stop.NoMemory = Unit {0}
