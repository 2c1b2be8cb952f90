-- The first refusal of the input of a job (our profile).
use Rattle.std.specs.Prelude.{false, List, ℕ, Option}
use Rattle.oc_base.specs.{declared.fault.Fault.{Fault}, declared.format.Format.{Format}}
use Rattle.oc_linking.specs.{declared.terms.Keep.{Keep}, Numbers.{or_else}}
use Rattle.oc_names.specs.Wishes.{Wishes}
use Rattle.oc_convert.specs.Dispatched.{dispatch_refusal, reading_refusal}
use Rattle.oc_built.specs.Built.{built}
use Rattle.oc_runs.specs.Refusals.{length_refusal}

-- nothing is kept that may be left out
abbrev pub none : Keep
none = record { debug = false; exceptions = false; notes = false }

-- the first refusal of an input that is converted, or none
abbrev pub conversion_refusal : Wishes → Format → List ℕ → Option Fault
conversion_refusal wishes to b = or_else (length_refusal b) (dispatch_refusal built wishes to b)

-- the first refusal of an input that is listed, or none
abbrev pub listing_refusal : List ℕ → Option Fault
listing_refusal b = or_else (length_refusal b) (reading_refusal built none b)
