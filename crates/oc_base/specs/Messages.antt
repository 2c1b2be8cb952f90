-- The texts of refusals (our profile).
use Rattle.std.specs.{Prelude.{ℕ, List, ◌++◌, codes}, Fmt.{decimal}}
use Rattle.oc_base.specs.{declared.fault.Phase.{Phase}, declared.fault.Class.{Class}, declared.fault.Class.TheVariants.{Malformed, Refused, Limit}}
use Rattle.oc_base.specs.{declared.fault.Fault.{Fault}, Codes.{class_of, code_text}}
use Rattle.oc_base.specs.declared.fault.Phase.TheVariants as phase

-- the word for a class
abbrev pub class_text : Class → List ℕ
class_text Malformed = codes "malformed"
class_text Refused = codes "refused"
class_text Limit = codes "limit"

-- the words for a phase
abbrev pub phase_text : Phase → List ℕ
phase_text phase.Header = codes "header"
phase_text phase.Section = codes "section"
phase_text phase.Symbol = codes "symbol"
phase_text phase.Relocation = codes "relocation"
phase_text phase.Edit = codes "edit"
phase_text phase.TargetSection = codes "target section"
phase_text phase.TargetSymbol = codes "target symbol"
phase_text phase.TargetRelocation = codes "target relocation"

-- `objconv: CLASS: PHASE INDEX: CODE at PLACE` and a newline, the numbers in decimal
unfoldable pub message_of : Fault → List ℕ
message_of fault =
    codes "objconv: " ++ class_text (class_of fault.code) ++ codes ": " ++ phase_text fault.phase ++ codes " " ++ decimal fault.index
    ++ codes ": " ++ code_text fault.code ++ codes " at " ++ decimal fault.place ++ codes "\n"
