-- Why nothing was linked, and what is reported of it (our profile).
use Rattle.std.specs.{Prelude.{◌≡◌, ℕ, ◌<◌, ◌⊎◌, List, length, Option, None, Some, Result, Ok, Err}, Option.{ForSome, IsSomeAnd}}
use Rattle.oc_linking.specs.Keeping.{all}
use Rattle.oc_neutral.specs.Objects.{Object}
use Rattle.oc_outside.specs.{Causes.{Rose}, Held.{Held, file_of}, Reading.{IsAbsent}}
use Rattle.oc_built.specs.Built.{IsRead}
use Rattle.oc_place.specs.{Placings.{Placing, placed_in}, Footprints.{footprint_of}, Written.{Bad}}
use Rattle.oc_link.specs.Linked.{link_text_of}
use Rattle.oc_runs.specs.{Refusals.{HasRefusal}, Reports.{IsReported}, Texts.{Tells, memory_text}}
use Rattle.oc_runs.specs.declared.input.InputFault.TheVariants as input
use Rattle.oc_linker.specs.{declared.linking.LinkFault.{LinkFault}, Outcomes.{Outcome, LinkText, Misplacement, link_refusal}, Runs.{ComesOf, IsAbsence}}
use Rattle.oc_linker.specs.Texts.{long_text, placement_text}
use Rattle.oc_linker.specs.declared.linking.LinkFault.TheVariants as fault

-- ... of an object

-- the object is that of the file of this name, which has no refusal
pub record IsObjectOf (object : List ℕ) (files : Option Held) (n : Object) : Type 0 where
  pub accepted : HasRefusal link_refusal object files None
  pub read : ForSome files (λ m. IsSomeAnd (file_of object m) (λ b. IsRead all b n))

-- what comes of an object where placing it gives this
abbrev pub text_outcome : Object → Result Placing Bad → Outcome
text_outcome n (Ok x) = LinkText (link_text_of n x)
text_outcome n (Err bad) = Misplacement (placement_text bad.line bad.code)

-- what comes of an object at a placement
abbrev pub outcome_with : Object → List ℕ → Outcome
outcome_with n t = text_outcome n (placed_in (footprint_of n) t)

-- the cause of a fault of an object at a placement, of those that may be; lack of memory needs no cause
abbrev pub ExplainsText : Object → List ℕ → LinkFault → Type 0
ExplainsText n t (fault.Input (input.Refused f)) = ⊥
ExplainsText n t (fault.Input input.Unread) = ⊥
ExplainsText n t (fault.Input input.NoMemory) = Unit {0}
ExplainsText n t fault.TooLong = ⊥
ExplainsText n t (fault.Placement line code) = outcome_with n t ≡ Misplacement (placement_text line code)

-- ... of files

-- the cause of a fault of reading a placement, of those that may be
abbrev pub ExplainsPlacement : List ℕ → Option Held → ℕ → ℕ → LinkFault → Type 0
ExplainsPlacement placement files before after (fault.Input (input.Refused f)) = ⊥
ExplainsPlacement placement files before after (fault.Input input.Unread) = Rose before after ⊎ IsAbsent placement files
ExplainsPlacement placement files before after (fault.Input input.NoMemory) = Unit {0}
ExplainsPlacement placement files before after fault.TooLong = ForSome files (λ m. IsSomeAnd (file_of placement m) (λ t. 67108864 < length t))
ExplainsPlacement placement files before after (fault.Placement line code) = ⊥

-- the cause of a fault of two files, where the counts of failed reads were these
module _ (object placement : List ℕ) (files : Option Held) (before after : ℕ) where
  abbrev pub Explains : LinkFault → Type 0
  Explains (fault.Input (input.Refused f)) = HasRefusal link_refusal object files (Some f)
  Explains (fault.Input input.Unread) = Rose before after ⊎ IsAbsence object placement files
  Explains (fault.Input input.NoMemory) = Unit {0}
  Explains fault.TooLong = ForSome files (ComesOf object placement (Misplacement long_text))
  Explains (fault.Placement line code) = ForSome files (ComesOf object placement (Misplacement (placement_text line code)))

-- ... what is reported

module _ (before now : Option (List ℕ)) (faults_before faults_now : ℕ) where
  -- the status and the text of a fault; where the text finds no memory, they are those of lack of memory
  abbrev pub IsLinkReported : LinkFault → ℕ → Type 0
  IsLinkReported (fault.Input f) status = IsReported before now faults_before faults_now f status
  IsLinkReported fault.TooLong status = (status ≡ 9) × Tells long_text before now faults_before faults_now
  IsLinkReported (fault.Placement line code) status =
      ((status ≡ 9) × Tells (placement_text line code) before now faults_before faults_now) ⊎ ((status ≡ 7) × Tells memory_text before now faults_before faults_now)
