-- A thread, whatever is kept.
use Rattle.std.proofs.Common.{Ok, sym, subst}
use Rattle.std.proofs.lemmas.Result.{on_ok_weaker}
use Rattle.oc_omf.specs.declared.structures.Subrecord.{Subrecord}
use Rattle.oc_omf_judge.specs.Reached.{IsPartTaken}
use Rattle.oc_omf_judge.proofs.relocs.take_part.Goals as goal

pub returns-in-Thread-clause-taken : goal.returns-in-Thread-clause-taken
returns-in-Thread-clause-taken c =
    on_ok_weaker c.take_thread.result (λ taken. subst (λ (p : Subrecord). IsPartTaken c.args.whole.now c.args.reached.now (c.args.here.index, c.args.here.place) (Ok p) c.take_thread.new.reached) (sym c.in-Thread.is)
    (taken c.args.whole.now)) c.take_thread.ensures.taken
