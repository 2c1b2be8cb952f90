-- The bytes that were read decide.
use Rattle.std.proofs.Common.{◌≡◌, ℕ, List, Option, None, Some, sym, subst}
use Rattle.oc_base.specs.declared.fault.Fault.{Fault}
use Rattle.oc_convert.specs.Dispatched.{reading_refusal}
use Rattle.oc_built.specs.Built.{built}
use Rattle.oc_linking.specs.Keeping.{all}
use Rattle.oc_runs.specs.Refusals.{HasRefusal}
use Rattle.oc_runs.proofs.Refused.{decided, holds_of}
use Rattle.oc_lister.specs.Runs.{list_refusal}
use Rattle.oc_lister.proofs.lister.lines_of.Goals as goal

pub returns-in-Err-Refused-clause-fault : goal.returns-in-Err-Refused-clause-fault
returns-in-Err-Refused-clause-fault g c =
    let refusal : List ℕ → Option Fault = reading_refusal built all in
    let judged : refusal c.as_slice.result.now ≡ Some c.in-Err-Refused.fault = rw c.in-Err-Refused.field-0-is at c.in-Err-Refused.ensures.refused in
    subst (λ (f : Fault). HasRefusal list_refusal c.args.input.now (g.F.Files.held c.args.files.now) (Some f)) (sym c.in-Err-Refused.fault-is)
    (decided refusal c.args.input.now (g.F.Files.held c.args.files.now) c.in-Ok.bytes.items (Some c.in-Err-Refused.fault) c.in-Ok.ensures.bytes c.in-Ok.ensures.short
    (subst (λ (b : List ℕ). refusal b ≡ Some c.in-Err-Refused.fault) c.as_slice.ensures.value judged))

pub returns-in-Ok-text_of-clause-listing : goal.returns-in-Ok-text_of-clause-listing
returns-in-Ok-text_of-clause-listing g c = record {
  accepted = decided (reading_refusal built all) c.args.input.now (g.F.Files.held c.args.files.now) c.in-Ok.bytes.items None c.in-Ok.ensures.bytes c.in-Ok.ensures.short
      (subst (λ (b : List ℕ). reading_refusal built all b ≡ None) c.as_slice.ensures.value c.in-Ok-text_of.ensures.accepted);
  listed = λ m told. holds_of _ c.args.input.now m c.in-Ok.bytes.items c.as_slice.result.now (c.in-Ok.ensures.bytes m told) c.as_slice.ensures.value c.in-Ok-text_of.ensures.listed;
}
