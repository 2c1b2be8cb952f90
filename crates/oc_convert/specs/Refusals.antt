-- The first refusal of a conversion (our profile).
use Rattle.std.specs.Prelude.{List, ℕ, Option}
use Rattle.oc_base.specs.{declared.format.Format.{Format}, declared.fault.Fault.{Fault}}
use Rattle.oc_linking.specs.{declared.terms.Keep.{Keep}, Numbers.{or_else}}
use Rattle.oc_neutral.specs.Dialects.{Dialect}
use Rattle.oc_shows.specs.Computed.{object_in}
use Rattle.oc_names.specs.Wishes.{Wishes}
use Rattle.oc_equations.specs.{Choices.{kept_kinds}, Edited.{refusal_after_reading}}

-- what is kept of a file of the dialect on its way to a target
abbrev pub kept_of_file : Wishes → Dialect → Format → Keep
kept_of_file wishes f to = kept_kinds wishes f.format to

-- the first refusal of a file of the dialect, or none: the file's first fault as it is kept, or else the refusal after reading, of the file's object
abbrev pub first_refusal : Wishes → Dialect → Format → List ℕ → Option Fault
first_refusal wishes f to b =
    let keep : Keep = kept_of_file wishes f to in
    or_else (f.rules.fault b keep) (refusal_after_reading wishes to (object_in f b keep))
