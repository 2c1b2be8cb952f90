-- The fault of a file is that of its header, or of the rest.
use Rattle.std.proofs.Common.{Option, sym, ◌∙◌, subst}
use Rattle.oc_base.specs.{declared.fault.Fault.{Fault}, Stops.{IsStop}}
use Rattle.oc_macho_judge.proofs.JudgingLemmas.{behind_header, header_stops}
use Rattle.oc_macho_judge.proofs.judging.judged.Goals as goal

pub returns-in-Err-clause-fault : goal.returns-in-Err-clause-fault
returns-in-Err-clause-fault c = header_stops c.args.word c.args.bytes.now c.args.keep.now c.in-Err.fault c.in-Err.ensures.fault

pub returns-in-Err-check_rest-clause-fault : goal.returns-in-Err-check_rest-clause-fault
returns-in-Err-check_rest-clause-fault c =
    subst (λ (o : Option Fault). IsStop o c.in-Err-check_rest.stop) (sym (behind_header c.args.word c.args.bytes.now c.args.keep.now c.in-Ok.frame c.in-Ok.ensures.clean c.in-Ok.ensures.frame))
    c.in-Err-check_rest.ensures.stop

pub returns-in-Ok-check_rest-clause-well_formed : goal.returns-in-Ok-check_rest-clause-well_formed
returns-in-Ok-check_rest-clause-well_formed c =
    behind_header c.args.word c.args.bytes.now c.args.keep.now c.in-Ok.frame c.in-Ok.ensures.clean c.in-Ok.ensures.frame ∙ c.in-Ok-check_rest.ensures.clean
