-- What a run of the command does (our profile).
use Rattle.std.specs.Prelude.{◌≡◌, ℕ, ◌<◌, ◌≤◌, ◌⊎◌, List, Option, Some, None, Result, Ok, Err}
use Rattle.oc_outside.specs.Causes.{Rose}
use Rattle.oc_words.specs.{declared.job.Job.{Job}, declared.job.Job.TheVariants.{Convert, Symbols, Make}, Faults.{BadWord}, Jobs.{job_of}}
use Rattle.oc_words.specs.Messages.{word_message_of}
use Rattle.oc_runs.specs.Ends as ends
use Rattle.oc_runs.specs.{States.{State}, Texts.{Tells}}
use Rattle.objconv.specs.{Conversions.{IsConversion}, Listings.{IsSymbols}, Making.{IsMaking}}

-- ... what the words ask for

-- nothing is done, and nothing is read; the text for the words was reported
pub record IsUndone (text : List ℕ) (before : State) (status : ℕ) (after : State) : Type 0 where
  pub named : (status ≡ 3) ⊎ (status ≡ 7)
  pub told : status ≡ 3 → Tells text before.told after.told before.err_faults after.err_faults
  pub held : after.held ≡ before.held
  pub reads : after.read_faults ≡ before.read_faults
  pub writes : after.write_faults ≡ before.write_faults
  pub shown : after.shown ≡ before.shown
  pub outs : after.out_faults ≡ before.out_faults

-- the job of the words is done, or it is reported which word is at fault
abbrev pub DoesJob : Result Job BadWord → State → ℕ → State → Type 0
DoesJob (Err bad) = IsUndone (word_message_of bad.index bad.code)
DoesJob (Ok (Convert to wishes input output)) = IsConversion to wishes input output
DoesJob (Ok (Symbols input)) = IsSymbols input
DoesJob (Ok (Make count to output)) = IsMaking count to output

-- ... what holds of every run

-- the status is one that a run answers
abbrev pub IsStatus : ℕ → Type 0
IsStatus status =
    (status ≡ 0) ⊎ (status ≡ 1) ⊎ (status ≡ 2) ⊎ (status ≡ 3) ⊎ (status ≡ 4) ⊎ (status ≡ 5) ⊎ (status ≡ 6) ⊎ (status ≡ 7) ⊎ (status ≡ 8)

-- a run that ends with the status
abbrev pub IsEnd : State → ℕ → State → Type 0
IsEnd = ends.IsEnd IsStatus

-- a run of these words that ends with the status
pub record IsRun (words : List (List ℕ)) (before : State) (status : ℕ) (after : State) : Type 0 where
  pub job : DoesJob (job_of words) before status after
  pub end : IsEnd before status after
