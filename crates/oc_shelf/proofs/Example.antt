-- An example of a stage: structures that may not be worth more than a limit together.
use Rattle.std.specs.Prelude.{ℕ, List, [], ◌∷◌, length, slice_index_or}
use Rattle.oc_base.specs.{declared.code.Code.TheVariants.{LimitBytes}, declared.fault.Fault.{Fault}, declared.fault.Phase.TheVariants.{Section}}
use Rattle.oc_linking.specs.FirstFault.{Stage}
use Rattle.oc_shelf.specs.Reading.Sums.{passes}

-- what structure i is worth
abbrev pub worth_of : List ℕ → ℕ → ℕ
worth_of worths i = slice_index_or worths i 0

-- the structure with which the limit is passed
abbrev pub passed_at : ℕ → Fault
passed_at i = record { phase = Section; index = i; code = LimitBytes; place = i }

abbrev pub weighed : List ℕ → ℕ → Stage
weighed worths most = record { count = length worths; conditions = λ i. (passes (worth_of worths) most i, passed_at i) ∷ [] }
