-- What a run of several jobs does (our profile).
use Rattle.std.specs.Prelude.{◌≡◌, ℕ, ◌+◌, ◌≤◌, ◌⊎◌, nat_eq, if◌then◌else◌, List, [], ◌∷◌, ◌++◌, length}
use Rattle.oc_outside.specs.{Causes.{Rose}, Texts.{grown, TakesPrefix}}
use Rattle.oc_runs.specs.States.{State}
use Rattle.objconv.specs.Runs.{IsRun}
use Rattle.oc_batch.specs.Texts.{job_line}

-- a state, with the line of a job at the end of standard output
abbrev pub with_line : ℕ → ℕ → State → State
with_line number status x = record x { shown = grown (job_line number status) x.shown }

-- one job ran, as the command does by itself, and then its line was shown
pub record HasRunOne (number : ℕ) (job : List (List ℕ)) (before : State) (status : ℕ) (after : State) : Type 0 where
  pub left : State
  pub ran : IsRun job before status left
  pub lined : after ≡ with_line number status left

-- jobs ran in order, counted from `number` on, each from the state that the one before left, and with these statuses
abbrev pub HaveRun : ℕ → List (List (List ℕ)) → State → List ℕ → State → Type 0
HaveRun number [] before [] after = after ≡ before
HaveRun number [] before (status ∷ statuses) after = ⊥
HaveRun number (job ∷ jobs) before [] after = ⊥
HaveRun number (job ∷ jobs) before (status ∷ statuses) after = (between : State) × HasRunOne number job before status between × HaveRun (number + 1) jobs between statuses after

-- the status of a batch, by those of its jobs: 0 where all are 0, else 10
abbrev pub batch_status : List ℕ → ℕ
batch_status [] = 0
batch_status (status ∷ statuses) = if nat_eq status 0 then batch_status statuses else 10

-- all jobs ran, counted from 1
pub record HasRunAll (jobs : List (List (List ℕ))) (before : State) (status : ℕ) (after : State) : Type 0 where
  pub statuses : List ℕ
  pub runs : HaveRun 1 jobs before statuses after
  pub named : status ≡ batch_status statuses

-- one job ran, and standard output took a prefix of its line and then failed; all else is as the job left it
pub record HasCutOne (number : ℕ) (job : List (List ℕ)) (before after : State) : Type 0 where
  pub status : ℕ
  pub left : State
  pub ran : IsRun job before status left
  pub shown : TakesPrefix (job_line number status) left.shown after.shown
  pub failed : Rose left.out_faults after.out_faults
  pub outs : left.out_faults ≤ after.out_faults
  pub held : after.held ≡ left.held
  pub told : after.told ≡ left.told
  pub reads : after.read_faults ≡ left.read_faults
  pub writes : after.write_faults ≡ left.write_faults
  pub errs : after.err_faults ≡ left.err_faults

-- jobs ran up to one whose line was not shown whole, and none after it
pub record HasStopped (jobs : List (List (List ℕ))) (before after : State) : Type 0 where
  pub done : List (List (List ℕ))
  pub job : List (List ℕ)
  pub rest : List (List (List ℕ))
  pub all : jobs ≡ done ++ job ∷ rest
  pub statuses : List ℕ
  pub reached : State
  pub runs : HaveRun 1 done before statuses reached
  pub cut : HasCutOne (length done + 1) job reached after

-- no count of failed calls falls
pub record NoCountFalls (before after : State) : Type 0 where
  pub reads : before.read_faults ≤ after.read_faults
  pub writes : before.write_faults ≤ after.write_faults
  pub outs : before.out_faults ≤ after.out_faults
  pub errs : before.err_faults ≤ after.err_faults

-- the jobs were run: all of them, or up to one whose line was not shown whole
pub record AreRun (jobs : List (List (List ℕ))) (before : State) (status : ℕ) (after : State) : Type 0 where
  pub done : HasRunAll jobs before status after ⊎ ((status ≡ 6) × HasStopped jobs before after)
  pub counts : NoCountFalls before after
