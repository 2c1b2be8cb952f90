use Rattle.std.proofs.Common.{Option, Err, sym, ◌∙◌, ap}
use Rattle.std.specs.Option.{option_map}
use Rattle.oc_base.specs.declared.code.Code.{Code}
use Rattle.oc_omf_records.specs.{declared.records.RecordFault.{RecordFault}, NextEntry.{entry_at}}
use Rattle.oc_omf.specs.HeaderFaults.{entry_fault}
use Rattle.oc_omf.proofs.HeaderLemmas.{entry_judged, verdict}
use Rattle.oc_omf.proofs.header_stage.judge_entry.Goals as goal

pub returns-in-Err-Truncated-clause-fault : goal.returns-in-Err-Truncated-clause-fault
returns-in-Err-Truncated-clause-fault c = λ i.
    entry_judged c.args.file.now c.args.begun i c.args.at
    ∙ ap (verdict c.args.begun (i, c.args.at)) (ap (entry_at c.args.file.now) (sym c.from.ensures) ∙ sym c.entry_at.ensures.answer ∙ c.in-Err-Truncated.is ∙ ap (λ (f : RecordFault). Err f) c.in-Err-Truncated.field-0-is)

pub returns-in-Err-BadChecksum-clause-fault : goal.returns-in-Err-BadChecksum-clause-fault
returns-in-Err-BadChecksum-clause-fault c = λ i.
    entry_judged c.args.file.now c.args.begun i c.args.at
    ∙ ap (verdict c.args.begun (i, c.args.at)) (ap (entry_at c.args.file.now) (sym c.from.ensures) ∙ sym c.entry_at.ensures.answer ∙ c.in-Err-BadChecksum.is ∙ ap (λ (f : RecordFault). Err f) c.in-Err-BadChecksum.field-0-is)

pub returns-in-Some-clause-fault : goal.returns-in-Some-clause-fault
returns-in-Some-clause-fault c = λ i.
    entry_judged c.args.file.now c.args.begun i c.args.at
    ∙ ap (verdict c.args.begun (i, c.args.at)) (ap (entry_at c.args.file.now) (sym c.from.ensures) ∙ sym c.entry_at.ensures.answer ∙ c.in-Ok.is)
    ∙ c.record_code.ensures (i, c.args.at) ∙ ap (λ (o : Option Code). option_map (entry_fault (i, c.args.at)) o) c.in-Some.is

pub returns-in-None-clause-clean : goal.returns-in-None-clause-clean
returns-in-None-clause-clean c = λ i.
    entry_judged c.args.file.now c.args.begun i c.args.at
    ∙ ap (verdict c.args.begun (i, c.args.at)) (ap (entry_at c.args.file.now) (sym c.from.ensures) ∙ sym c.entry_at.ensures.answer ∙ c.in-Ok.is)
    ∙ c.record_code.ensures (i, c.args.at) ∙ ap (λ (o : Option Code). option_map (entry_fault (i, c.args.at)) o) c.in-None.is
