-- The bytes that were read decide.
use Rattle.std.proofs.Common.{◌≡◌, ℕ, List, Option, None, Some, sym, subst}
use Rattle.oc_base.specs.declared.fault.Fault.{Fault}
use Rattle.oc_linking.specs.Keeping.{all}
use Rattle.oc_convert.specs.Dispatched.{reading_refusal}
use Rattle.oc_built.specs.Built.{built, IsRead}
use Rattle.oc_runs.specs.Refusals.{HasRefusal}
use Rattle.oc_runs.proofs.Refused.{decided, holds_of}
use Rattle.oc_linker.specs.Outcomes.{link_refusal}
use Rattle.oc_linker.proofs.linking.object_of.Goals as goal

pub returns-in-Err-Refused-clause-fault : goal.returns-in-Err-Refused-clause-fault
returns-in-Err-Refused-clause-fault g c =
    let refusal : List ℕ → Option Fault = reading_refusal built all in
    let judged : refusal c.as_slice.result.now ≡ Some c.in-Err-Refused.fault = rw c.in-Err-Refused.field-0-is at c.in-Err-Refused.ensures.refused in
    subst (λ (f : Fault). HasRefusal link_refusal c.args.name.now (g.F.Files.held c.args.files.now) (Some f)) (sym c.in-Err-Refused.fault-is)
    (decided refusal c.args.name.now (g.F.Files.held c.args.files.now) c.in-Ok.bytes.items (Some c.in-Err-Refused.fault) c.in-Ok.ensures.bytes c.in-Ok.ensures.short
    (subst (λ (b : List ℕ). refusal b ≡ Some c.in-Err-Refused.fault) c.as_slice.ensures.value judged))

pub returns-in-Ok-read-clause-object : goal.returns-in-Ok-read-clause-object
returns-in-Ok-read-clause-object g c = record {
  accepted = decided (reading_refusal built all) c.args.name.now (g.F.Files.held c.args.files.now) c.in-Ok.bytes.items None c.in-Ok.ensures.bytes c.in-Ok.ensures.short
      (subst (λ (b : List ℕ). reading_refusal built all b ≡ None) c.as_slice.ensures.value c.in-Ok-read.ensures.well_formed);
  read = λ m told. holds_of (λ b. IsRead all b c.in-Ok-read.object) c.args.name.now m c.in-Ok.bytes.items c.as_slice.result.now (c.in-Ok.ensures.bytes m told) c.as_slice.ensures.value
      c.in-Ok-read.ensures.read;
}
