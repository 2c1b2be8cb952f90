-- The bytes that were read decide.
use Rattle.std.proofs.Common.{◌≡◌, ℕ, List, Option, None, Some, sym, subst}
use Rattle.oc_base.specs.declared.fault.Fault.{Fault}
use Rattle.oc_convert.specs.Dispatched.{reading_refusal}
use Rattle.oc_built.specs.Built.{built}
use Rattle.oc_runs.specs.Refusals.{HasRefusal}
use Rattle.objconv.specs.Refusals.{listing_refusal, none}
use Rattle.oc_runs.proofs.Refused.{decided, holds_of}
use Rattle.objconv.proofs.listing.lines_of.Goals as goal

pub returns-in-Err-Refused-clause-fault : goal.returns-in-Err-Refused-clause-fault
returns-in-Err-Refused-clause-fault g c =
    let refusal : List ℕ → Option Fault = reading_refusal built none in
    let judged : refusal c.as_slice.result.now ≡ Some c.in-Err-Refused.fault = rw c.in-Err-Refused.field-0-is at c.in-Err-Refused.ensures.refused in
    subst (λ (f : Fault). HasRefusal listing_refusal c.args.input.now (g.F.Files.held c.args.files.now) (Some f)) (sym c.in-Err-Refused.fault-is)
    (decided refusal c.args.input.now (g.F.Files.held c.args.files.now) c.in-Ok.bytes.items (Some c.in-Err-Refused.fault) c.in-Ok.ensures.bytes c.in-Ok.ensures.short
    (subst (λ (b : List ℕ). refusal b ≡ Some c.in-Err-Refused.fault) c.as_slice.ensures.value judged))

pub returns-in-Ok-symbol_lines-clause-listing : goal.returns-in-Ok-symbol_lines-clause-listing
returns-in-Ok-symbol_lines-clause-listing g c = record {
  accepted = decided (reading_refusal built none) c.args.input.now (g.F.Files.held c.args.files.now) c.in-Ok.bytes.items None c.in-Ok.ensures.bytes c.in-Ok.ensures.short
      (subst (λ (b : List ℕ). reading_refusal built none b ≡ None) c.as_slice.ensures.value c.in-Ok-read_any.ensures.well_formed);
  listed = λ m told. holds_of _ c.args.input.now m c.in-Ok.bytes.items c.as_slice.result.now (c.in-Ok.ensures.bytes m told) c.as_slice.ensures.value
      (record { object = c.in-Ok-read_any.neutral; read = c.in-Ok-read_any.ensures.read; lines = c.in-Ok-symbol_lines.ensures });
}
