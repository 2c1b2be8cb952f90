-- The parts are placed, can be given, and make the canonical file.
use Rattle.std.proofs.Common.{◌∙◌, ap, subst}
use Rattle.oc_target.specs.Fitted.{IsFitted}
use Rattle.oc_shelf.specs.Writing.Parts.{file_of}
use Rattle.oc_macho_file.proofs.CodedLaws.{for_mach}
use Rattle.oc_macho_write.proofs.PlannedLemmas.{file_is, placed, sound}
use Rattle.oc_macho_write.proofs.planning.plan_object.Goals as goal

pub new-requires-clause-sound : goal.new-requires-clause-sound
new-requires-clause-sound c =
    let fit = subst (λ f. IsFitted f c.args.fitted) c.requires c.is_fitted.ensures in
    sound c.args.word c.args.fitted c.in_ok-parts.parts c.in_ok-parts.ensures.made c.in_ok-parts.layout c.in_ok-parts.ensures.laid (for_mach c.args.word c.args.fitted fit)

pub new-requires-clause-placed : goal.new-requires-clause-placed
new-requires-clause-placed c = placed c.args.word c.args.fitted c.in_ok-parts.parts c.in_ok-parts.ensures.made c.in_ok-parts.layout c.in_ok-parts.ensures.laid

pub returns : goal.returns
returns c = ap file_of c.new.ensures ∙ file_is c.args.word c.args.fitted c.in_ok-parts.parts c.in_ok-parts.ensures.made c.in_ok-parts.layout c.in_ok-parts.ensures.laid
