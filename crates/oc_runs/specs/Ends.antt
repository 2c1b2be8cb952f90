-- What holds of every run of a program (our profile).
use Rattle.std.specs.Prelude.{◌≡◌, ℕ, ◌<◌, ◌≤◌, ◌⊎◌, List}
use Rattle.oc_outside.specs.Causes.{Rose}
use Rattle.oc_runs.specs.{States.{State}, Texts.{Tells, input_text, output_text, memory_text}}

-- no write failed in a run that ended with the status
abbrev pub LeavesFiles : ℕ → Type 0
LeavesFiles status = (status ≡ 0 → ⊥) × (status ≡ 5 → ⊥)

-- the status leaves all files as they were, whatever was asked. With 6 a file may have been written before something was shown
abbrev pub KeepsFiles : ℕ → Type 0
KeepsFiles status = (status ≡ 0 → ⊥) × (status ≡ 5 → ⊥) × (status ≡ 6 → ⊥)

-- the status leaves standard output as it was
abbrev pub LeavesOutput : ℕ → Type 0
LeavesOutput status = (status ≡ 0 → ⊥) × (status ≡ 6 → ⊥)

-- where the program answers statuses of which this holds
module _ (IsNamed : ℕ → Type 0) where
  -- a run that ends with the status
  pub record IsEnd (before : State) (status : ℕ) (after : State) : Type 0 where
    -- when each status comes
    pub named : IsNamed status
    pub output : status ≡ 5 → Rose before.write_faults after.write_faults
    pub listing : status ≡ 6 → Rose before.out_faults after.out_faults
    -- a failed call on a file, or on standard output, ends the run
    pub read_failed : before.read_faults < after.read_faults → status ≡ 4
    pub write_failed : before.write_faults < after.write_faults → status ≡ 5
    pub out_failed : before.out_faults < after.out_faults → status ≡ 6
    -- what becomes of the files and of standard output
    pub kept : KeepsFiles status → after.held ≡ before.held
    pub unwritten : LeavesFiles status → after.write_faults ≡ before.write_faults
    pub shown : LeavesOutput status → after.shown ≡ before.shown
    pub unshown : LeavesOutput status → after.out_faults ≡ before.out_faults
    -- what is reported
    pub quiet : (status ≡ 0) ⊎ (status ≡ 6) → after.told ≡ before.told
    pub told_input : status ≡ 4 → Tells input_text before.told after.told before.err_faults after.err_faults
    pub told_output : status ≡ 5 → Tells output_text before.told after.told before.err_faults after.err_faults
    pub told_memory : status ≡ 7 → Tells memory_text before.told after.told before.err_faults after.err_faults
    -- no count of a failed call falls
    pub reads : before.read_faults ≤ after.read_faults
    pub writes : before.write_faults ≤ after.write_faults
    pub outs : before.out_faults ≤ after.out_faults
    pub errs : before.err_faults ≤ after.err_faults

-- the words ask for nothing that the program does: the text was reported, and nothing was read, changed or shown
pub record IsWordless (text : List ℕ) (before : State) (status : ℕ) (after : State) : Type 0 where
  pub named : status ≡ 3
  pub told : Tells text before.told after.told before.err_faults after.err_faults
  pub held : after.held ≡ before.held
  pub shown : after.shown ≡ before.shown
  pub reads : after.read_faults ≡ before.read_faults
  pub writes : after.write_faults ≡ before.write_faults
  pub outs : after.out_faults ≡ before.out_faults
  pub errs : before.err_faults ≤ after.err_faults
