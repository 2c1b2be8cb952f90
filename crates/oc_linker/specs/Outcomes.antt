-- What comes of an object and a placement (our profile).
use Rattle.std.specs.Prelude.{ℕ, nat_lt, if◌then◌else◌, List, length, Option, Some, None, Result, Ok, Err}
use Rattle.oc_base.specs.{declared.code.Code.TheVariants.{UnknownFormat}, declared.fault.Fault.{Fault}, declared.format.Format.{Format}, Codes.{class_of}}
use Rattle.oc_linking.specs.{Keeping.{all}, Numbers.{or_else}}
use Rattle.oc_neutral.specs.Dialects.{Dialect}
use Rattle.oc_convert.specs.{Dispatched.{header_refusal, reading_refusal}, Identified.{identified}}
use Rattle.oc_built.specs.Built.{built}
use Rattle.oc_place.specs.{Placings.{Placing, placed_in}, Footprints.{footprint_in}, Written.{Bad}}
use Rattle.oc_link.specs.Linked.{link_text_in}
use Rattle.oc_runs.specs.{Refusals.{length_refusal}, States.{status_by}}
use Rattle.oc_linker.specs.Texts.{long_text, placement_text}

-- what comes of two files
pub data Outcome : Type 0 where
  -- one of them is not held
  Absent : Outcome
  -- the object has this first refusal
  Refusal : Fault → Outcome
  -- the placement is at fault, for the reason in this text
  Misplacement : List ℕ → Outcome
  -- the text of linking
  LinkText : List ℕ → Outcome

-- the first refusal of an object, of which all is kept, or none
abbrev pub link_refusal : List ℕ → Option Fault
link_refusal b = or_else (length_refusal b) (reading_refusal built all b)

-- what comes of a file of the dialect where placing it gives this
abbrev pub linking_outcome : Dialect → List ℕ → Result Placing Bad → Outcome
linking_outcome f b (Ok x) = LinkText (link_text_in f b x)
linking_outcome f b (Err bad) = Misplacement (placement_text bad.line bad.code)

-- what comes of the file b at the placement t, by the rules of its format
abbrev pub outcome_from : List ℕ → List ℕ → Option Format → Outcome
outcome_from b t None = Refusal (header_refusal UnknownFormat)
outcome_from b t (Some from) = linking_outcome (built.reader from) b (placed_in (footprint_in (built.reader from) b) t)

-- the same of a placement that may be too long
abbrev pub outcome_at : List ℕ → List ℕ → Outcome
outcome_at b t = if nat_lt 67108864 (length t) then Misplacement long_text else outcome_from b t (identified b)

-- the same of one that may not be held
abbrev pub placement_outcome : List ℕ → Option (List ℕ) → Outcome
placement_outcome b None = Absent
placement_outcome b (Some t) = outcome_at b t

-- what comes of an object that has this first refusal, or none, so that the placement is read
abbrev pub object_outcome : List ℕ → Option (List ℕ) → Option Fault → Outcome
object_outcome b placement (Some f) = Refusal f
object_outcome b placement None = placement_outcome b placement

-- what comes of an object and a placement, where they are held
abbrev pub outcome_of : Option (List ℕ) → Option (List ℕ) → Outcome
outcome_of None placement = Absent
outcome_of (Some b) placement = object_outcome b placement (link_refusal b)

-- the status
abbrev pub status_for : Outcome → ℕ
status_for Absent = 4
status_for (Refusal f) = status_by (class_of f.code)
status_for (Misplacement text) = 9
status_for (LinkText text) = 0
