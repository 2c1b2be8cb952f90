-- How the refusals of steps follow from those of their parts.
use Rattle.std.proofs.Common.{◌≡◌, Option, Some, None, Result, Ok, refl, ◌∙◌, ap}
use Rattle.oc_base.specs.{declared.fault.Fault.{Fault}, declared.stop.Stop.{Stop}, Stops.{IsStop}}
use Rattle.oc_base.specs.declared.stop.Stop.TheVariants as stop
use Rattle.oc_linking.specs.Numbers.{or_else}
use Rattle.oc_drop.specs.{Refusals.{IsStepRefusal}, Steps.{unless, then_by}}

-- the first of two faults
pub refused_first : (o p : Option Fault) (e : Stop) → IsStop o e → IsStop (or_else o p) e
refused_first o p stop.NoMemory is = tt
refused_first o p (stop.Refused f) is = ap (λ x. or_else x p) is

pub refused_second : (o p : Option Fault) (e : Stop) → o ≡ None → IsStop p e → IsStop (or_else o p) e
refused_second o p stop.NoMemory none is = tt
refused_second o p (stop.Refused f) none is = ap (λ x. or_else x p) none ∙ is

-- a step that has a fault, and one that has none
pub step_refused : {X : Type 0} (o : Option Fault) (x : X) (e : Stop) → IsStop o e → IsStepRefusal (unless o x) e
step_refused o x stop.NoMemory is = tt
step_refused o x (stop.Refused f) is = ap (λ p. unless p x) is

pub step_clean : {X : Type 0} (o : Option Fault) (x : X) → o ≡ None → unless o x ≡ Ok x
step_clean o x none = ap (λ p. unless p x) none

-- a step after another
pub then_refused : {X Y : Type 0} (step : X → Result Y Fault) (r : Result X Fault) (e : Stop) → IsStepRefusal r e → IsStepRefusal (then_by step r) e
then_refused step r stop.NoMemory is = tt
then_refused step r (stop.Refused f) is = ap (then_by step) is

pub then_step : {X Y : Type 0} (step : X → Result Y Fault) (r : Result X Fault) (x : X) (e : Stop) → r ≡ Ok x → IsStepRefusal (step x) e → IsStepRefusal (then_by step r) e
then_step step r x stop.NoMemory ok is = tt
then_step step r x (stop.Refused f) ok is = ap (then_by step) ok ∙ is

-- what a step gives that is not refused
pub unless_ok : {X : Type 0} (o : Option Fault) (x y : X) → unless o x ≡ Ok y → (o ≡ None) × (x ≡ y)
unless_ok None x y e = (refl, cc)
unless_ok (Some f) x y e = absurd (cc)
