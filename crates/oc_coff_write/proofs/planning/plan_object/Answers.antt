-- The parts are placed, can be given, and make the canonical file.
use Rattle.std.proofs.Common.{◌∙◌, ap, subst}
use Rattle.oc_target.specs.Fitted.{IsFitted}
use Rattle.oc_shelf.specs.Writing.Parts.{file_of}
use Rattle.oc_coff_file.proofs.CodedLaws.{for_coff}
use Rattle.oc_coff_write.proofs.PlannedLemmas.{file_same, placed, sound}
use Rattle.oc_coff_write.proofs.planning.plan_object.Goals as goal

pub new-requires-clause-sound : goal.new-requires-clause-sound
new-requires-clause-sound c =
    let fit = subst (λ f. IsFitted f c.args.fitted) c.requires c.is_fitted.ensures in
    sound c.args.form c.args.fitted (for_coff c.args.form c.args.fitted fit) c.in_ok-parts.parts c.in_ok-parts.ensures.made c.in_ok-parts.layout c.in_ok-parts.ensures.laid

pub new-requires-clause-placed : goal.new-requires-clause-placed
new-requires-clause-placed c =
    let fit = subst (λ f. IsFitted f c.args.fitted) c.requires c.is_fitted.ensures in
    placed c.args.form c.args.fitted (for_coff c.args.form c.args.fitted fit) c.in_ok-parts.parts c.in_ok-parts.ensures.made c.in_ok-parts.layout c.in_ok-parts.ensures.laid

pub returns : goal.returns
returns c =
    let fit = subst (λ f. IsFitted f c.args.fitted) c.requires c.is_fitted.ensures in
    ap file_of c.new.ensures
    ∙ file_same c.args.form c.args.fitted (for_coff c.args.form c.args.fitted fit) c.in_ok-parts.parts c.in_ok-parts.ensures.made c.in_ok-parts.layout c.in_ok-parts.ensures.laid
