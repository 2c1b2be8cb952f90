-- What is refused of bytes is their length.
use Rattle.std.proofs.Common.{Some}
use Rattle.oc_runs.specs.Refusals.{HasRefusal, length_refusal}
use Rattle.oc_linker.proofs.LinkLemmas.{long_told}
use Rattle.oc_linker.proofs.linking.placement_of.Goals as goal

pub returns-in-Err-Refused-clause-fault : goal.returns-in-Err-Refused-clause-fault
returns-in-Err-Refused-clause-fault g c =
    let refused : HasRefusal length_refusal c.args.name.now (g.F.Files.held c.args.files.now) (Some c.in-Err-Refused.field-0-0) = rw c.in-Err-Refused.field-0-is at c.in-Err-Refused.ensures.fault in
    long_told c.args.name.now (g.F.Files.held c.args.files.now) c.in-Err-Refused.field-0-0 refused
