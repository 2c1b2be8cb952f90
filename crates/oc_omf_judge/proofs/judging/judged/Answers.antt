-- The front, and then threads and fixups.
use Rattle.std.proofs.Common.{ℕ, List, sym, ◌∙◌, ap, subst}
use Rattle.oc_base.specs.Stops.{IsStop}
use Rattle.oc_linking.specs.FirstFault.{first_fault}
use Rattle.oc_omf.specs.{Entries.{entries_in}, Tables.{tables_of}, RelocationFaults.{relocation_stages}}
use Rattle.oc_omf_judge.specs.{Defined.{IsDefined}, Judged.{IsFront}}
use Rattle.oc_omf_judge.proofs.JudgingLemmas.{fault_behind, front_stops}
use Rattle.oc_omf_judge.proofs.judging.judged.Goals as goal

pub returns-in-Err-clause-fault : goal.returns-in-Err-clause-fault
returns-in-Err-clause-fault c = front_stops c.args.bytes.now c.args.keep.now c.in-Err.stop c.in-Err.ensures.stop

pub check_relocations-requires : goal.check_relocations-requires
check_relocations-requires c = record {
  front_is = subst (λ (b : List ℕ). IsFront b c.in-Ok.front) (sym c.in-Ok.ensures.front.omf_is) c.in-Ok.ensures.front;
  locals_are = c.in_ok-locals.ensures;
}

pub returns-in-Ok-check_relocations-clause-well_formed : goal.returns-in-Ok-check_relocations-clause-well_formed
returns-in-Ok-check_relocations-clause-well_formed c =
    fault_behind c.args.bytes.now c.args.keep.now c.in-Ok.ensures.clean
    ∙ ap (λ (b : List ℕ). first_fault (relocation_stages (entries_in b) c.args.keep.now)) (sym c.in-Ok.ensures.front.omf_is) ∙ c.in-Ok-check_relocations.ensures.clean

pub returns-in-Ok-check_relocations-clause-defined : goal.returns-in-Ok-check_relocations-clause-defined
returns-in-Ok-check_relocations-clause-defined c =
    subst (λ (b : List ℕ). IsDefined (tables_of (entries_in b)) c.in-Ok.front.defined) (sym c.in-Ok.ensures.front.omf_is) c.in-Ok.ensures.front.defined_is

pub returns-clause-fault : goal.returns-clause-fault
returns-clause-fault c =
    subst (λ o. IsStop o c.in-Err-check_relocations.stop) (sym (fault_behind c.args.bytes.now c.args.keep.now c.in-Ok.ensures.clean
    ∙ ap (λ (b : List ℕ). first_fault (relocation_stages (entries_in b) c.args.keep.now)) (sym c.in-Ok.ensures.front.omf_is))) c.in-Err-check_relocations.ensures.stop
