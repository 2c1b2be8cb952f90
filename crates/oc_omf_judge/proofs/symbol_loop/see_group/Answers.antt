-- One that is read is taken up.
use Rattle.std.proofs.Common.{refl, sym, ◌∙◌}
use Rattle.oc_omf_judge.proofs.SeenEntry.{group_lost, group_seen}
use Rattle.oc_omf_judge.proofs.symbol_loop.see_group.Goals as goal

pub returns-in_ok-push-in-Ok-clause-taken : goal.returns-in_ok-push-in-Ok-clause-taken
returns-in_ok-push-in-Ok-clause-taken c = λ wide known index place.
    group_seen known c.args.seen.now _ index place wide c.args.contents.now c.in-Ok.name c.in-Ok._at
    (sym c.read_index.ensures ∙ c.in-Ok.is) c.in_ok-push-in-Ok.ensures.items refl refl refl refl refl

pub returns-in-Err-clause-taken : goal.returns-in-Err-clause-taken
returns-in-Err-clause-taken c = λ wide known index place.
    group_lost known c.args.seen.now index place wide c.args.contents.now c.in-Err.field-0 (sym c.read_index.ensures ∙ c.in-Err.is)
