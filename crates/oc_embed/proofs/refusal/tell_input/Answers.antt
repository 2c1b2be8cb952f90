-- The message is told, or lack of memory.
use Rattle.std.proofs.Common.{inr, refl, ◌∙◌}
use Rattle.oc_base.specs.{Codes.{class_of}, Messages.{message_of}}
use Rattle.oc_runs.specs.States.{status_by}
use Rattle.oc_embed.specs.declared.refusal.Refusal.TheVariants.{Input}
use Rattle.oc_embed.specs.Said.{no_memory}
use Rattle.oc_embed.proofs.CallLaws.{left_as, tells}
use Rattle.oc_embed.proofs.refusal.tell_input.Goals as goal

pub returns-in-Ok : goal.returns-in-Ok
returns-in-Ok c = λ output.
    tells (Input c.args.fault) output c.args.text.now c.tell.result output c.tell.new.text
    (left_as c.status_of.result (status_by (class_of c.args.fault.code)) c.as_slice.result.now (message_of c.args.fault) output c.args.text.now c.tell.result output c.tell.new.text
    c.status_of.ensures (c.as_slice.ensures ∙ c.in-Ok.ensures) (c.tell.ensures output))

pub returns-in-Err : goal.returns-in-Err
returns-in-Err c = λ output. record { said = no_memory; says = inr refl; leaves = c.tell_memory.ensures output }
