-- The definitions behind a base.
use Rattle.std.proofs.Common.{sym, ◌∙◌, subst}
use Rattle.std.proofs.lemmas.Result.{on_ok_weaker}
use Rattle.oc_omf.specs.{declared.topics.Topic.{Topic}, Entries.{all_read}, Topics.{said_on}}
use Rattle.oc_omf_judge.specs.Locals.{AreLocated}
use Rattle.oc_omf_judge.proofs.SeenEntry.{located_entry}
use Rattle.oc_omf_judge.proofs.locals.locate_entry.Goals as goal

pub returns-in-Ok : goal.returns-in-Ok
returns-in-Ok c =
    on_ok_weaker c.locate_publics.result (λ located place. subst (λ (a : Topic). AreLocated c.args.locals.now (all_read (said_on a place c.args.wide c.args.contents.now).publics) c.locate_publics.new.locals) (sym c.in-Publics.is)
    (located_entry c.args.locals.now c.locate_publics.new.locals c.in-Publics.local place c.args.wide c.args.contents.now c.in-Ok.base c.in-Ok.at (sym c.read_base.ensures ∙ c.in-Ok.is) located)) c.locate_publics.ensures
