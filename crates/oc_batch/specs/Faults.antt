-- Why no job of a list was run, and what is reported of it (our profile).
use Rattle.std.specs.{Prelude.{◌≡◌, ℕ, ◌⊎◌, List, Option, Some}, Option.{IsSomeAnd}}
use Rattle.oc_base.specs.Messages.{message_of}
use Rattle.oc_outside.specs.{Causes.{Rose}, Held.{Held, file_of}, Reading.{IsAbsent}}
use Rattle.oc_runs.specs.{declared.input.InputFault.{InputFault}, Refusals.{too_long}, Texts.{Tells, input_text, memory_text}}
use Rattle.oc_runs.specs.declared.input.InputFault.TheVariants as input
use Rattle.oc_batch.specs.{declared.fault.ListFault.{ListFault}, Lists.{IsLong, IsNoText}, Texts.{list_text}}
use Rattle.oc_batch.specs.declared.fault.ListFault.TheVariants as fault

-- the fault of a list that gave nothing as an input: the one refusal of its bytes is their number
abbrev pub fault_of : InputFault → ListFault
fault_of (input.Refused f) = fault.TooLong
fault_of input.Unread = fault.Unread
fault_of input.NoMemory = fault.NoMemory

-- its status
abbrev pub status_of : ListFault → ℕ
status_of fault.Unread = 4
status_of fault.TooLong = 8
status_of fault.NotText = 9
status_of fault.NoMemory = 7

-- what is reported of it
abbrev pub text_of : ListFault → List ℕ
text_of fault.Unread = input_text
text_of fault.TooLong = message_of too_long
text_of fault.NotText = list_text
text_of fault.NoMemory = memory_text

-- where contracts see the files, the list is held, and this holds of its bytes
pub record HoldsOf (name : List ℕ) (files : Option Held) (P : List ℕ → Type 0) : Type 0 where
  pub held : (m : Held) → files ≡ Some m → IsSomeAnd (file_of name m) P

module _ (name : List ℕ) (files : Option Held) (reads_before reads_now : ℕ) where
  -- the cause of a fault: a failed read, or that the list is not held; its length; its bytes; or lack of memory, which needs no cause
  abbrev pub Explains : ListFault → Type 0
  Explains fault.Unread = Rose reads_before reads_now ⊎ IsAbsent name files
  Explains fault.TooLong = HoldsOf name files IsLong
  Explains fault.NotText = HoldsOf name files IsNoText
  Explains fault.NoMemory = Unit {0}

module _ (before now : Option (List ℕ)) (faults_before faults_now : ℕ) where
  -- the status and the text of a fault; where the text of a list that is too long finds no memory, they are those of lack of memory
  abbrev pub IsTold : ListFault → ℕ → Type 0
  IsTold f status =
      ((status ≡ status_of f) × Tells (text_of f) before now faults_before faults_now)
      ⊎ ((f ≡ fault.TooLong) × (status ≡ 7) × Tells memory_text before now faults_before faults_now)
