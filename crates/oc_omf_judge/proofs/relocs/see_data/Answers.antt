-- The last data are those of the entry.
use Rattle.std.proofs.Common.{refl}
use Rattle.oc_omf_judge.proofs.EntryLemmas.{data_lost, data_taken}
use Rattle.oc_omf_judge.proofs.relocs.see_data.Goals as goal

pub returns-in-Ok-Some-clause-taken : goal.returns-in-Ok-Some-clause-taken
returns-in-Ok-Some-clause-taken c = λ w index place.
    data_taken w c.args.reached.now _ index place c.args.wide c.args.iterated c.args.contents.now c.in-Ok-Some.last refl refl refl refl (rw c.in-Ok-Some.field-0-is at c.in-Ok-Some.ensures)

pub returns-in-Ok-None-clause-taken : goal.returns-in-Ok-None-clause-taken
returns-in-Ok-None-clause-taken c = λ w index place.
    data_lost w c.args.reached.now index place c.args.wide c.args.iterated c.args.contents.now (rw c.in-Ok-None.field-0-is at c.in-Ok-None.ensures)
