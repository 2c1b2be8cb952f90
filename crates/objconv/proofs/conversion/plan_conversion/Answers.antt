-- The bytes that were read decide.
use Rattle.std.proofs.Common.{◌≡◌, ℕ, List, Option, None, Some, subst}
use Rattle.oc_base.specs.declared.fault.Fault.{Fault}
use Rattle.oc_convert.specs.Dispatched.{dispatch_refusal}
use Rattle.oc_built.specs.Built.{built}
use Rattle.oc_runs.proofs.Refused.{decided, holds_of}
use Rattle.objconv.proofs.conversion.plan_conversion.Goals as goal

pub returns-in-Ok-dispatch-clause-planned : goal.returns-in-Ok-dispatch-clause-planned
returns-in-Ok-dispatch-clause-planned g c = record {
  accepted = decided (dispatch_refusal built c.args.edits.now c.args.to) c.args.input.now (g.F.Files.held c.args.files.now) c.in-Ok.bytes.items None c.in-Ok.ensures.bytes c.in-Ok.ensures.short
      (subst (λ (b : List ℕ). dispatch_refusal built c.args.edits.now c.args.to b ≡ None) c.as_slice.ensures.value c.in-Ok-dispatch.ensures.accepted);
  dispatched = λ m told. holds_of _ c.args.input.now m c.in-Ok.bytes.items c.as_slice.result.now (c.in-Ok.ensures.bytes m told) c.as_slice.ensures.value c.in-Ok-dispatch.ensures.dispatched;
}

pub returns-in-Err-Refused-clause-fault : goal.returns-in-Err-Refused-clause-fault
returns-in-Err-Refused-clause-fault g c =
    let refusal : List ℕ → Option Fault = dispatch_refusal built c.args.edits.now c.args.to in
    let judged : refusal c.as_slice.result.now ≡ Some c.in-Err-Refused.fault = rw c.in-Err-Refused.field-0-is at c.in-Err-Refused.ensures.refused in
    decided refusal c.args.input.now (g.F.Files.held c.args.files.now) c.in-Ok.bytes.items (Some c.in-Err-Refused.fault) c.in-Ok.ensures.bytes c.in-Ok.ensures.short
    (subst (λ (b : List ℕ). refusal b ≡ Some c.in-Err-Refused.fault) c.as_slice.ensures.value judged)
