-- One more job, and what holds of several.
use Rattle.std.proofs.Common.{◌≡◌, ℕ, ◌+◌, ◌<◌, ◌≤◌, ◌⊎◌, inl, inr, Bool, true, false, cond, eqb, List, [], ◌∷◌, ◌++◌, length, take, drop, get_or, refl, sym, ap, subst, ◌∙◌, arith, add-zero, add-one, length-take-le, take-append-drop, take_all, drop-cons}
use Rattle.std.proofs.lemmas.List.{take_more}
use Rattle.oc_runs.specs.States.{State}
use Rattle.objconv.specs.Runs.{IsRun}
use Rattle.oc_batch.specs.Runs.{HasRunOne, HaveRun, batch_status, HasRunAll, HasCutOne, NoCountFalls, AreRun}

abbrev Job : Type 0
Job = List (List ℕ)

-- two states are one where they agree in all that is seen
pub same_state : (a b : State) → a.held ≡ b.held → a.shown ≡ b.shown → a.told ≡ b.told → a.read_faults ≡ b.read_faults → a.write_faults ≡ b.write_faults
    → a.out_faults ≡ b.out_faults → a.err_faults ≡ b.err_faults → a ≡ b
same_state a b held shown told reads writes outs errs = λ i. record {
  held = held i;
  shown = shown i;
  told = told i;
  read_faults = reads i;
  write_faults = writes i;
  out_faults = outs i;
  err_faults = errs i;
}

-- one more job after the others
pub runs_more : (number : ℕ) (jobs : List Job) (job : Job) (before : State) (statuses : List ℕ) (reached : State) (status : ℕ) (after : State)
    → HaveRun number jobs before statuses reached → HasRunOne (number + length jobs) job reached status after
    → HaveRun number (jobs ++ job ∷ []) before (statuses ++ status ∷ []) after
runs_more number [] job before [] reached status after runs one =
    (after, subst (λ n. HasRunOne n job before status after) (add-zero number) (subst (λ x. HasRunOne (number + 0) job x status after) runs one), refl)
runs_more number [] job before (s ∷ statuses) reached status after runs one = absurd runs
runs_more number (j ∷ jobs) job before [] reached status after runs one = absurd runs
runs_more number (j ∷ jobs) job before (s ∷ statuses) reached status after runs one =
    let next : number + length (j ∷ jobs) ≡ number + 1 + length jobs = omega arith in
    (runs.0, runs.1, runs_more (number + 1) jobs job runs.0 statuses reached status after runs.2 (subst (λ n. HasRunOne n job reached status after) next one))

-- the status of a batch with one more job
pub status_more : (statuses : List ℕ) (status : ℕ) → batch_status (statuses ++ status ∷ []) ≡ cond (eqb status 0) (batch_status statuses) 10
status_more [] status = refl
status_more (s ∷ statuses) status = ap (λ x. cond (eqb s 0) x 10) (status_more statuses status) ∙ by (eqb s 0) (eqb status 0) (batch_status statuses)
  where
    by : (a b : Bool) (x : ℕ) → cond a (cond b x 10) 10 ≡ cond b (cond a x 10) 10
    by true b x = refl
    by false true x = refl
    by false false x = refl

-- it is 0 or 10
pub status_named : (statuses : List ℕ) → (batch_status statuses ≡ 0) ⊎ (batch_status statuses ≡ 10)
status_named [] = inl refl
status_named (s ∷ statuses) = by (eqb s 0) (status_named statuses)
  where
    by : (a : Bool) → (batch_status statuses ≡ 0) ⊎ (batch_status statuses ≡ 10) → (cond a (batch_status statuses) 10 ≡ 0) ⊎ (cond a (batch_status statuses) 10 ≡ 10)
    by true h = h
    by false h = inr refl

-- no count falls
pub counts_same : (before : State) → NoCountFalls before before
counts_same before = record { reads = omega arith; writes = omega arith; outs = omega arith; errs = omega arith }

pub counts_on : (a b c : State) → NoCountFalls a b → NoCountFalls b c → NoCountFalls a c
counts_on a b c h k = record {
  reads = omega (arith, h.reads, k.reads);
  writes = omega (arith, h.writes, k.writes);
  outs = omega (arith, h.outs, k.outs);
  errs = omega (arith, h.errs, k.errs);
}

pub counts_run : (job : Job) (before : State) (status : ℕ) (after : State) → IsRun job before status after → NoCountFalls before after
counts_run job before status after ran = record { reads = ran.end.reads; writes = ran.end.writes; outs = ran.end.outs; errs = ran.end.errs }

pub counts_one : (number : ℕ) (job : Job) (before : State) (status : ℕ) (after : State) → HasRunOne number job before status after → NoCountFalls before after
counts_one number job before status after one =
    subst (NoCountFalls before) (sym one.lined) (record { reads = one.ran.end.reads; writes = one.ran.end.writes; outs = one.ran.end.outs; errs = one.ran.end.errs })

pub counts_all : (number : ℕ) (jobs : List Job) (before : State) (statuses : List ℕ) (after : State) → HaveRun number jobs before statuses after → NoCountFalls before after
counts_all number [] before [] after runs = subst (NoCountFalls before) (sym runs) (counts_same before)
counts_all number [] before (s ∷ statuses) after runs = absurd runs
counts_all number (j ∷ jobs) before [] after runs = absurd runs
counts_all number (j ∷ jobs) before (s ∷ statuses) after runs =
    counts_on before runs.0 after (counts_one number j before s runs.0 runs.1) (counts_all (number + 1) jobs runs.0 statuses after runs.2)

pub counts_cut : (number : ℕ) (job : Job) (before after : State) → HasCutOne number job before after → NoCountFalls before after
counts_cut number job before after cut = counts_on before cut.left after (counts_run job before cut.status cut.left cut.ran) (record {
  reads = omega (arith, cut.reads);
  writes = omega (arith, cut.writes);
  outs = cut.outs;
  errs = omega (arith, cut.errs);
})

module _ (jobs : List Job) (i : ℕ) (job : Job) (before reached after : State) (answer : ℕ) (within : i < length jobs) (at : job ≡ get_or jobs i job) (so_far : HasRunAll (take i jobs) before answer reached) where
  next : take (i + 1) jobs ≡ take i jobs ++ job ∷ []
  next = take_more jobs i job within ∙ ap (λ x. take i jobs ++ x ∷ []) (sym at)

  count : 1 + length (take i jobs) ≡ i + 1
  count = omega (arith, length-take-le i jobs (omega (arith, within)))

  -- one more job ran
  pub all_more : (status : ℕ) → HasRunOne (i + 1) job reached status after → HasRunAll (take (i + 1) jobs) before (cond (eqb status 0) answer 10) after
  all_more status one = record {
    statuses = so_far.statuses ++ status ∷ [];
    runs = subst (λ js. HaveRun 1 js before (so_far.statuses ++ status ∷ []) after) (sym next)
        (runs_more 1 (take i jobs) job before so_far.statuses reached status after so_far.runs (subst (λ n. HasRunOne n job reached status after) (sym count) one));
    named = ap (λ x. cond (eqb status 0) x 10) so_far.named ∙ sym (status_more so_far.statuses status);
  }

  -- one more job ran, and its line was not shown whole
  pub stopped_at : HasCutOne (i + 1) job reached after → AreRun jobs before 6 after
  stopped_at cut = record {
    done = inr (
      refl,
      record {
        done = take i jobs;
        job = job;
        rest = drop (i + 1) jobs;
        all = sym (take-append-drop i jobs) ∙ ap (λ js. take i jobs ++ js) (here ∙ ap (λ x. x ∷ drop (i + 1) jobs) (sym at));
        statuses = so_far.statuses;
        reached = reached;
        runs = so_far.runs;
        cut = subst (λ n. HasCutOne n job reached after) (sym (omega (arith, count))) cut;
      },
    );
    counts = counts_on before reached after (counts_all 1 (take i jobs) before so_far.statuses reached so_far.runs) (counts_cut (i + 1) job reached after cut);
  }
    where
      here : drop i jobs ≡ get_or jobs i job ∷ drop (i + 1) jobs
      here = rw add-one (drop-cons jobs i job within)

-- all jobs ran
pub all_run : (jobs : List Job) (n : ℕ) (before after : State) (answer : ℕ) → length jobs ≤ n → HasRunAll (take n jobs) before answer after → AreRun jobs before answer after
all_run jobs n before after answer long run =
    let whole : HasRunAll jobs before answer after = subst (λ js. HasRunAll js before answer after) (take_all n jobs long) run in
    record { done = inl whole; counts = counts_all 1 jobs before whole.statuses after whole.runs }
