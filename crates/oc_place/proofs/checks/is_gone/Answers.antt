use Rattle.std.proofs.Common.{◌∙◌, ap, sym}
use Rattle.oc_place.specs.Placings.{is_dropped}
use Rattle.oc_place.proofs.CheckLemmas.{group_is, group_there}
use Rattle.oc_place.proofs.checks.is_gone.Goals as goal

pub is_dropped-requires : goal.is_dropped-requires
is_dropped-requires c = group_there c.args.object.now c.is_object.ensures c.args.section c.section.result.now c.section.ensures _ c.requires.counted.dropped

pub returns : goal.returns
returns c = c.is_dropped.ensures ∙ ap (is_dropped c.args.notebook.now.dropped) (sym (group_is c.args.object.now c.is_object.ensures c.args.section c.section.result.now c.section.ensures))
