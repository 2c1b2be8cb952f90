-- Faults at the structure under examination (our profile).
use Rattle.oc_base.specs.{declared.code.Code.{Code}, declared.fault.Fault.{Fault}, declared.fault.Spot.{Spot}}

-- the fault of a structure with a code
abbrev pub fault_at : Spot → Code → Fault
fault_at spot code = record { phase = spot.phase; index = spot.index; code = code; place = spot.place }
