-- What a batch does, by its status (our profile).
use Rattle.std.specs.Prelude.{◌≡◌, ℕ, ◌<◌, ◌⊎◌, List, [], ◌∷◌, Option, Some}
use Rattle.oc_outside.specs.{Causes.{Rose}, Held.{Held, file_of}, Reading.{IsAbsent}}
use Rattle.oc_runs.specs.Ends as ends
use Rattle.oc_runs.specs.{States.{State}, Texts.{Tells}}
use Rattle.oc_batch.specs.{declared.fault.ListFault.{ListFault}, Faults.{Explains, status_of, text_of}, Lists.{IsLong, IsNoText, IsText, jobs_in}}
use Rattle.oc_batch.specs.{Runs.{HasRunAll, HasStopped, NoCountFalls}, Texts.{words_text}}
use Rattle.oc_batch.specs.declared.fault.ListFault.TheVariants as fault

-- the words are not one name: that was reported, and nothing was read
abbrev pub IsWordless : State → ℕ → State → Type 0
IsWordless = ends.IsWordless words_text

-- the status is one that a batch of a list answers
abbrev pub IsStatus : ℕ → Type 0
IsStatus status = (status ≡ 0) ⊎ (status ≡ 4) ⊎ (status ≡ 6) ⊎ (status ≡ 7) ⊎ (status ≡ 8) ⊎ (status ≡ 9) ⊎ (status ≡ 10)

-- the status by the bytes of the list, where it was read and memory did not run out
pub record IsBytesStatus (b : List ℕ) (status : ℕ) : Type 0 where
  pub long : IsLong b → status ≡ 8
  pub other : IsNoText b → status ≡ 9
  pub text : IsText b → (status ≡ 0) ⊎ (status ≡ 6) ⊎ (status ≡ 10)

module _ (name : List ℕ) where
  -- these are the jobs of the list: where contracts see the files, it is held, and has these jobs as its text
  pub record HasJobs (files : Option Held) (jobs : List (List (List ℕ))) : Type 0 where
    pub bytes : List ℕ
    pub held : (m : Held) → files ≡ Some m → file_of name m ≡ Some bytes
    pub text : IsText bytes
    pub made : jobs ≡ jobs_in bytes

  -- all jobs of the list were run
  pub record RunsList (before : State) (status : ℕ) (after : State) : Type 0 where
    pub jobs : List (List (List ℕ))
    pub listed : HasJobs before.held jobs
    pub run : HasRunAll jobs before status after

  -- they were run up to one whose line was not shown whole
  pub record StopsList (before after : State) : Type 0 where
    pub jobs : List (List (List ℕ))
    pub listed : HasJobs before.held jobs
    pub stopped : HasStopped jobs before after
    pub failed : Rose before.out_faults after.out_faults

  -- none was run, by a fault of the list: its text was reported, and all else stays, except that a read may have failed
  pub record RefusesList (f : ListFault) (before after : State) : Type 0 where
    pub cause : Explains name before.held before.read_faults after.read_faults f
    pub told : Tells (text_of f) before.told after.told before.err_faults after.err_faults
    pub held : after.held ≡ before.held
    pub shown : after.shown ≡ before.shown
    pub writes : after.write_faults ≡ before.write_faults
    pub outs : after.out_faults ≡ before.out_faults
    pub failed : before.read_faults < after.read_faults → f ≡ fault.Unread

  -- a batch of this list that ends with the status
  pub record IsBatchOf (before : State) (status : ℕ) (after : State) : Type 0 where
    pub named : IsStatus status
    pub ran : (status ≡ 0) ⊎ (status ≡ 10) → RunsList before status after
    pub stopped : status ≡ 6 → StopsList before after
    pub refused : (f : ListFault) → status ≡ status_of f → RefusesList f before after
    pub absent : IsAbsent name before.held → (status ≡ 4) ⊎ (status ≡ 7)
    pub exact : (m : Held) → before.held ≡ Some m → (b : List ℕ) → file_of name m ≡ Some b → (status ≡ 4) ⊎ (status ≡ 7) ⊎ IsBytesStatus b status
    pub counts : NoCountFalls before after

-- a batch of these words that ends with the status
abbrev pub IsBatch : List (List ℕ) → State → ℕ → State → Type 0
IsBatch [] = IsWordless
IsBatch (name ∷ []) = IsBatchOf name
IsBatch (name ∷ word ∷ words) = IsWordless
