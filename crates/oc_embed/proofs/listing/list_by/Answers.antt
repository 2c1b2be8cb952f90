-- A cause is told.
use Rattle.std.proofs.Common.{inr}
use Rattle.oc_embed.specs.{Listings.{SaysListing}, Refusals.{IsTold}}
use Rattle.oc_embed.proofs.CallLaws.{answers_weaker}
use Rattle.oc_embed.proofs.listing.list_by.Goals as goal

pub returns-in-Err : goal.returns-in-Err
returns-in-Err g c =
    answers_weaker (IsTold c.in-Err.refusal) (SaysListing c.args.input.now) c.args.output.now c.args.text.now c.tell_refusal.result c.args.output.now c.tell_refusal.new.text
    (λ said told. inr (c.in-Err.refusal, c.in-Err.ensures.refused, told)) (c.tell_refusal.ensures c.args.output.now)
