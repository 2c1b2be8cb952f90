-- What a batch does, from what was done.
use Rattle.std.proofs.Common.{◌≡◌, ℕ, ◌<◌, ◌≤◌, ◌⊎◌, inl, inr, Bool, true, false, cond, eqb, List, [], ◌∷◌, length, Option, Some, None, Result, Ok, Err, refl, sym, ap, subst, ◌∙◌, arith}
use Rattle.std.specs.{Prelude.{slice_get, nat_lt, IfErr, IfOk}, Option.{ForSome, IsSomeAnd}}
use Rattle.std.proofs.lemmas.Bool.{ltb-true}
use Rattle.oc_base.specs.declared.fault.Fault.{Fault}
use Rattle.oc_outside.specs.{Causes.{Rose}, Held.{Held, file_of}, Reading.{IsAbsent}}
use Rattle.oc_runs.proofs.Refused.{some_and}
use Rattle.oc_runs.specs.{Refusals.{length_refusal, too_long}, States.{State}, declared.input.InputFault.{InputFault}}
use Rattle.oc_runs.specs.Reports as reports
use Rattle.oc_runs.specs.declared.input.InputFault.TheVariants as input
use Rattle.oc_batch.specs.{declared.fault.ListFault.{ListFault}, Batches.{IsWordless, IsStatus, IsBytesStatus, HasJobs, RefusesList, IsBatchOf, IsBatch}}
use Rattle.oc_batch.specs.{Faults.{Explains, HoldsOf, IsTold, fault_of, status_of}, Lists.{IsLong, IsNoText, IsText, jobs_in}}
use Rattle.oc_batch.specs.Runs.{HasRunAll, HasStopped, NoCountFalls, AreRun}
use Rattle.oc_batch.specs.declared.fault.ListFault.TheVariants as fault
use Rattle.oc_batch.proofs.RunLaws.{status_named, counts_all, counts_on, counts_run}

-- ... the words

-- words that are not one name
pub wordless : (words : List (List ℕ)) (before : State) (status : ℕ) (after : State) → (length words ≡ 1 → ⊥) → IsWordless before status after → IsBatch words before status after
wordless [] before status after differ is = is
wordless (name ∷ []) before status after differ is = absurd (differ refl)
wordless (name ∷ word ∷ words) before status after differ is = is

-- one name
pub named : (words : List (List ℕ)) (name : List ℕ) (before : State) (status : ℕ) (after : State) → length words ≡ 1 → slice_get words 0 ≡ Some name
    → IsBatchOf name before status after → IsBatch words before status after
named [] name before status after one at is = absurd (omega (arith, one))
named (word ∷ []) name before status after one at is = let same : word ≡ name = cc at in subst (λ n. IsBatchOf n before status after) (sym same) is
named (word ∷ other ∷ words) name before status after one at is = absurd (omega (arith, one))

-- ... the statuses of faults

-- the fault of a status
fault_at : ℕ → ListFault
fault_at s = cond (eqb s 4) fault.Unread (cond (eqb s 8) fault.TooLong (cond (eqb s 9) fault.NotText fault.NoMemory))

fault_there : (f : ListFault) → fault_at (status_of f) ≡ f
unfolding fault_at
fault_there fault.Unread = refl
fault_there fault.TooLong = refl
fault_there fault.NotText = refl
fault_there fault.NoMemory = refl

-- they differ
fault_by : (f g : ListFault) → status_of f ≡ status_of g → f ≡ g
fault_by f g same = sym (fault_there f) ∙ ap fault_at same ∙ fault_there g

-- they are none of a batch whose jobs were run
record IsFaultStatus (s : ℕ) : Type 0 where
  zero : s ≡ 0 → ⊥
  six : s ≡ 6 → ⊥
  ten : s ≡ 10 → ⊥
  named : IsStatus s

fault_status : (f : ListFault) → IsFaultStatus (status_of f)
fault_status fault.Unread = record { zero = λ e. omega (arith, e); six = λ e. omega (arith, e); ten = λ e. omega (arith, e); named = inr (inl refl) }
fault_status fault.NoMemory = record { zero = λ e. omega (arith, e); six = λ e. omega (arith, e); ten = λ e. omega (arith, e); named = inr (inr (inr (inl refl))) }
fault_status fault.TooLong = record { zero = λ e. omega (arith, e); six = λ e. omega (arith, e); ten = λ e. omega (arith, e); named = inr (inr (inr (inr (inl refl)))) }
fault_status fault.NotText = record { zero = λ e. omega (arith, e); six = λ e. omega (arith, e); ten = λ e. omega (arith, e); named = inr (inr (inr (inr (inr (inl refl))))) }

-- ... the list that was read

-- what holds of a value that is there
some_of : {X : Type 0} (P : X → Type 0) (o : Option X) (x : X) → o ≡ Some x → IsSomeAnd o P → P x
some_of P o x is h = subst (λ q. IsSomeAnd q P) is h

-- bytes that are refused are too many
refused_long : (b : List ℕ) (f : Fault) → length_refusal b ≡ Some f → IsLong b
unfolding length_refusal
refused_long b f refused = by (nat_lt 67108864 (length b)) refl refused
  where
    by : (t : Bool) → nat_lt 67108864 (length b) ≡ t → cond t (Some too_long) None ≡ Some f → IsLong b
    by true e refused = ltb-true 67108864 (length b) e
    by false e refused = cc refused

module _ (name : List ℕ) (files : Option Held) where
  -- a list that is not held is at no fault of its bytes
  not_absent : (P : List ℕ → Type 0) → HoldsOf name files P → IsAbsent name files → ⊥
  not_absent P holds absent = by files absent holds.held
    where
      by : (o : Option Held) → IsAbsent name o → ((m : Held) → o ≡ Some m → IsSomeAnd (file_of name m) P) → ⊥
      by None gone h = gone
      by (Some m) gone h = subst (λ o. IsSomeAnd o P) gone (h m refl)

  -- why a list gave nothing as an input
  pub explained_input : (before now : ℕ) (f : InputFault) → reports.Explains length_refusal name files before now f → Explains name files before now (fault_of f)
  explained_input before now (input.Refused f) why = record { held = λ m told. some_and (file_of name m) (λ b is. refused_long b f is) (why.held m told) }
  explained_input before now input.Unread why = why
  explained_input before now input.NoMemory why = why

  module _ (bytes slice : List ℕ) (same : slice ≡ bytes) (held : ForSome files (λ m. file_of name m ≡ Some bytes)) where
    -- the jobs that were made of the bytes that were read
    pub made_jobs : {V : Type 0} (items : V → List (List (List ℕ))) (r : Result V ListFault) → IfOk r (λ v. IsText slice) → IfOk r (λ v. items v ≡ jobs_in slice)
        → IfOk r (λ v. HasJobs name files (items v))
    made_jobs items (Ok v) text made = record {
      bytes = bytes;
      held = held;
      text = subst IsText same text;
      made = made ∙ ap jobs_in same;
    }
    made_jobs items (Err f) text made = tt

    -- why none were made
    pub made_fault : {V : Type 0} (before now : ℕ) (r : Result V ListFault) → IfErr r (λ f. (f ≡ fault.NoMemory) ⊎ ((f ≡ fault.NotText) × IsNoText slice))
        → IfErr r (Explains name files before now)
    made_fault before now (Ok v) why = tt
    made_fault before now (Err f) (inl e) = subst (Explains name files before now) (sym e) tt
    made_fault before now (Err f) (inr why) = subst (Explains name files before now) (sym why.0) (record {
      held = λ m told. subst (λ o. IsSomeAnd o IsNoText) (sym (held m told)) (subst IsNoText same why.1);
    })

module _ (name : List ℕ) (before after : State) where
  -- ... a list that was not run

  absent_status : (f : ListFault) → Explains name before.held before.read_faults after.read_faults f → IsAbsent name before.held → (status_of f ≡ 4) ⊎ (status_of f ≡ 7)
  absent_status fault.Unread cause absent = inl refl
  absent_status fault.TooLong cause absent = absurd (not_absent name before.held IsLong cause absent)
  absent_status fault.NotText cause absent = absurd (not_absent name before.held IsNoText cause absent)
  absent_status fault.NoMemory cause absent = inr refl

  exact_status : (f : ListFault) → Explains name before.held before.read_faults after.read_faults f
      → (m : Held) → before.held ≡ Some m → (b : List ℕ) → file_of name m ≡ Some b → (status_of f ≡ 4) ⊎ (status_of f ≡ 7) ⊎ IsBytesStatus b (status_of f)
  exact_status fault.Unread cause m told b holds = inl refl
  exact_status fault.TooLong cause m told b holds =
      let long : IsLong b = some_of IsLong (file_of name m) b holds (cause.held m told) in
      inr (inr (record { long = λ _. refl; other = λ is. absurd (omega (arith, long, is.0)); text = λ is. absurd (omega (arith, long, is.0)) }))
  exact_status fault.NotText cause m told b holds =
      let odd : IsNoText b = some_of IsNoText (file_of name m) b holds (cause.held m told) in
      inr (inr (record { long = λ long. absurd (omega (arith, long, odd.0)); other = λ _. refl; text = λ is. absurd (odd.1 is.1) }))
  exact_status fault.NoMemory cause m told b holds = inr (inl refl)

  refused_by : (f : ListFault) → RefusesList name f before after → NoCountFalls before after → IsBatchOf name before (status_of f) after
  refused_by f refuses counts =
      let is : IsFaultStatus (status_of f) = fault_status f in
      record {
        named = is.named;
        ran = λ done. absurd (elim done [ inl e ↦ is.zero e | inr e ↦ is.ten e ]);
        stopped = λ e. absurd (is.six e);
        refused = λ g e. subst (λ x. RefusesList name x before after) (fault_by f g e) refuses;
        absent = absent_status f refuses.cause;
        exact = exact_status f refuses.cause;
        counts = counts;
      }

  -- a list that is too long was read
  unread_long : fault.Unread ≡ fault.TooLong → ⊥
  unread_long e = cc e

  -- a list with a fault, where that or lack of memory was told
  pub refused_list : (f : ListFault) (status : ℕ) → Explains name before.held before.read_faults after.read_faults f
      → IsTold before.told after.told before.err_faults after.err_faults f status
      → after.held ≡ before.held → after.shown ≡ before.shown → after.write_faults ≡ before.write_faults → after.out_faults ≡ before.out_faults
      → (before.read_faults < after.read_faults → f ≡ fault.Unread) → NoCountFalls before after → IsBatchOf name before status after
  refused_list f status cause (inl told) held shown writes outs failed counts = subst (λ s. IsBatchOf name before s after) (sym told.0) (refused_by f (record {
    cause = cause;
    told = told.1;
    held = held;
    shown = shown;
    writes = writes;
    outs = outs;
    failed = failed;
  }) counts)
  refused_list f status cause (inr told) held shown writes outs failed counts = subst (λ s. IsBatchOf name before s after) (sym told.1) (refused_by fault.NoMemory (record {
    cause = tt;
    told = told.2;
    held = held;
    shown = shown;
    writes = writes;
    outs = outs;
    failed = λ rose. absurd (unread_long (sym (failed rose) ∙ told.0));
  }) counts)

  -- ... a list whose jobs were run

  -- a count that rose since, rose
  rose_since : (a b c : ℕ) → a ≤ b → Rose b c → Rose a c
  rose_since a b c later rose = grind (arith, later, rose)

  -- the list has a text
  text_status : (b bytes : List ℕ) (status : ℕ) → bytes ≡ b → IsText bytes → (status ≡ 0) ⊎ (status ≡ 6) ⊎ (status ≡ 10) → IsBytesStatus b status
  text_status b bytes status same text is =
      let here : IsText b = subst IsText same text in
      record {
        long = λ long. absurd (omega (arith, here.0, long));
        other = λ odd. absurd (odd.1 here.1);
        text = λ _. is;
      }

  listed_present : (jobs : List (List (List ℕ))) → HasJobs name before.held jobs → IsAbsent name before.held → ⊥
  listed_present jobs listed = not_absent name before.held (λ b. b ≡ listed.bytes) (record { held = λ m told. subst (λ o. IsSomeAnd o (λ b. b ≡ listed.bytes)) (sym (listed.held m told)) refl })

  no_fault : (f : ListFault) (status : ℕ) → (status ≡ 0) ⊎ (status ≡ 6) ⊎ (status ≡ 10) → status ≡ status_of f → ⊥
  no_fault f status is e =
      let s : IsFaultStatus (status_of f) = fault_status f in
      elim is [ inl a ↦ s.zero (sym e ∙ a) | inr (inl a) ↦ s.six (sym e ∙ a) | inr (inr a) ↦ s.ten (sym e ∙ a) ]

  ran_list : (jobs : List (List (List ℕ))) (status : ℕ) → HasJobs name before.held jobs → NoCountFalls before after
      → HasRunAll jobs before status after ⊎ ((status ≡ 6) × HasStopped jobs before after) → IsBatchOf name before status after
  ran_list jobs status listed counts (inl run) =
      let is : (status ≡ 0) ⊎ (status ≡ 10) = elim (status_named run.statuses) [ inl e ↦ inl (run.named ∙ e) | inr e ↦ inr (run.named ∙ e) ] in
      let or_six : (status ≡ 0) ⊎ (status ≡ 6) ⊎ (status ≡ 10) = elim is [ inl e ↦ inl e | inr e ↦ inr (inr e) ] in
      record {
        named = elim is [ inl e ↦ inl e | inr e ↦ inr (inr (inr (inr (inr (inr e))))) ];
        ran = λ done. record { jobs = jobs; listed = listed; run = run };
        stopped = λ six. absurd (elim is [ inl e ↦ omega (arith, e, six) | inr e ↦ omega (arith, e, six) ]);
        refused = λ f e. absurd (no_fault f status or_six e);
        absent = λ absent. absurd (listed_present jobs listed absent);
        exact = λ m told b holds. inr (inr (text_status b listed.bytes status (cc (holds, listed.held m told)) listed.text or_six));
        counts = counts;
      }
  ran_list jobs status listed counts (inr stopped) = record {
    named = inr (inr (inl stopped.0));
    ran = λ done. absurd (elim done [ inl e ↦ omega (arith, e, stopped.0) | inr e ↦ omega (arith, e, stopped.0) ]);
    stopped = λ six. record { jobs = jobs; listed = listed; stopped = stopped.1; failed = rose };
    refused = λ f e. absurd (no_fault f status (inr (inl stopped.0)) e);
    absent = λ absent. absurd (listed_present jobs listed absent);
    exact = λ m told b holds. inr (inr (text_status b listed.bytes status (cc (holds, listed.held m told)) listed.text (inr (inl stopped.0))));
    counts = counts;
  }
    where
      s : HasStopped jobs before after
      s = stopped.1

      early : NoCountFalls before s.cut.left
      early = counts_on before s.reached s.cut.left (counts_all 1 s.done before s.statuses s.reached s.runs) (counts_run s.job s.reached s.cut.status s.cut.left s.cut.ran)

      rose : Rose before.out_faults after.out_faults
      rose = rose_since before.out_faults s.cut.left.out_faults after.out_faults early.outs s.cut.failed

  pub run_list : (jobs : List (List (List ℕ))) (status : ℕ) → HasJobs name before.held jobs → AreRun jobs before status after → IsBatchOf name before status after
  run_list jobs status listed run = ran_list jobs status listed run.counts run.done
