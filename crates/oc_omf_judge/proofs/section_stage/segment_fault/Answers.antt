-- What a segment says, and then its size.
use Rattle.std.proofs.Common.{ℕ, sym, ◌∙◌, ap}
use Rattle.oc_linking.specs.{Numbers.{or_else}, FirstFault.{first_broken}}
use Rattle.oc_shelf.proofs.ReadingLaws.StageLemmas.{first_broken-append}
use Rattle.oc_omf.specs.SectionFaults.{form_conditions, size_conditions}
use Rattle.oc_omf_judge.proofs.section_stage.segment_fault.Goals as goal

pub returns : goal.returns
returns c =
    let x : ℕ × ℕ = (c.args.spot.index, c.args.spot.place) in
    c.earlier.ensures ∙ ap (λ o. or_else o c.size_fault.result) c.form_fault.ensures
    ∙ ap (λ o. or_else (first_broken (form_conditions c.args.names x c.args.s.now)) o) c.size_fault.ensures
    ∙ sym (first_broken-append (form_conditions c.args.names x c.args.s.now) (size_conditions c.args.sizes x c.args.s.now))
