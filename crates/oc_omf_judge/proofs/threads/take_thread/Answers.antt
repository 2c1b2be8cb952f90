-- It names an index that is there, or not.
use Rattle.std.proofs.Common.{ℕ, cond, Some, None, refl, sym, ◌∙◌, ap}
use Rattle.oc_base.specs.declared.code.Code.TheVariants.{BadTarget}
use Rattle.oc_omf_judge.specs.Reached.{relocation_fault}
use Rattle.oc_omf_judge.proofs.ReachedLemmas.{thread_taken, thread_verdict}
use Rattle.oc_omf_judge.proofs.threads.take_thread.Goals as goal

pub returns-then-not-is_there-clause-stop : goal.returns-then-not-is_there-clause-stop
returns-then-not-is_there-clause-stop c = λ w before earlier is.
    let x : ℕ × ℕ = (c.args.here.index, c.args.here.place) in
    thread_verdict w before earlier c.args.reached.now is x c.args.thread
    ∙ ap (λ b. cond b None (Some (relocation_fault x BadTarget))) (sym (c.is_there.ensures before is.counts_are) ∙ c.if-not-is_there.true) ∙ ap (λ f. Some f) (sym c.relocation_fault.ensures)

pub returns-clause-taken : goal.returns-clause-taken
returns-clause-taken c = λ w before earlier is.
    let x : ℕ × ℕ = (c.args.here.index, c.args.here.place) in (
      thread_verdict w before earlier c.args.reached.now is x c.args.thread
          ∙ ap (λ b. cond b None (Some (relocation_fault x BadTarget))) (sym (c.is_there.ensures before is.counts_are) ∙ c.if-not-is_there.false),
      thread_taken w before earlier c.args.reached.now is x c.args.thread _ refl refl refl c.take_up.ensures,
    )
