-- The text was shown, or it was told why there is none.
use Rattle.std.proofs.Common.{rules, refl}
use Rattle.oc_linker.proofs.RunLemmas.{explained, linking_cut, linking_shown}
use Rattle.oc_linker.proofs.running.link_files.Goals as goal

pub returns-in-Err-clause-link : goal.returns-in-Err-clause-link
returns-in-Err-clause-link g c = explained c.args.object.now c.args.placement.now _ _ c.report_link.result c.in-Err.fault c.in-Err.ensures.fault c.report_link.ensures.reported

pub returns-in-Ok-show_all-clause-link : goal.returns-in-Ok-show_all-clause-link
returns-in-Ok-show_all-clause-link g c = linking_shown c.args.object.now c.args.placement.now _ _ 0 c.in-Ok.text c.in-Ok.ensures.text refl (search rules)

pub returns-clause-link : goal.returns-clause-link
returns-clause-link g c = linking_cut c.args.object.now c.args.placement.now _ _ 6 c.in-Ok.text c.in-Ok.ensures.text refl (search rules) (search rules)
