-- The fault of a section is one of its own, or of the limits.
use Rattle.std.proofs.Common.{Option, sym, ◌∙◌, ap}
use Rattle.oc_base.specs.declared.fault.Fault.{Fault}
use Rattle.oc_linking.specs.{FirstFault.{first_broken}, Numbers.{or_else}}
use Rattle.oc_macho.specs.{declared.section_header.SectionHeader.{SectionHeader}, SectionFaults.{limit_conditions, own_conditions}}
use Rattle.oc_macho_judge.proofs.SectionLemmas.{section_broken}
use Rattle.oc_macho_judge.proofs.section_stage.judge_section.Goals as goal

pub returns-in-Some-clause-fault : goal.returns-in-Some-clause-fault
returns-in-Some-clause-fault c =
    section_broken c.args.frame.now c.args.i c.requires.there
    ∙ ap (λ (h : SectionHeader). or_else (first_broken (own_conditions c.args.frame.now c.args.i h)) (first_broken (limit_conditions c.args.frame.now c.args.i h))) (sym c.section-h.ensures)
    ∙ ap (λ (o : Option Fault). or_else o (first_broken (limit_conditions c.args.frame.now c.args.i c.section-h.result))) (sym c.in-Some.ensures)

pub returns-in-Ok-clause-clean : goal.returns-in-Ok-clause-clean
returns-in-Ok-clause-clean c =
    section_broken c.args.frame.now c.args.i c.requires.there
    ∙ ap (λ (h : SectionHeader). or_else (first_broken (own_conditions c.args.frame.now c.args.i h)) (first_broken (limit_conditions c.args.frame.now c.args.i h))) (sym c.section-h.ensures)
    ∙ ap (λ (o : Option Fault). or_else o (first_broken (limit_conditions c.args.frame.now c.args.i c.section-h.result))) (sym c.in-None.ensures) ∙ c.in-Ok.ensures.clean

pub returns-in-Err-clause-fault : goal.returns-in-Err-clause-fault
returns-in-Err-clause-fault c =
    section_broken c.args.frame.now c.args.i c.requires.there
    ∙ ap (λ (h : SectionHeader). or_else (first_broken (own_conditions c.args.frame.now c.args.i h)) (first_broken (limit_conditions c.args.frame.now c.args.i h))) (sym c.section-h.ensures)
    ∙ ap (λ (o : Option Fault). or_else o (first_broken (limit_conditions c.args.frame.now c.args.i c.section-h.result))) (sym c.in-None.ensures) ∙ c.in-Err.ensures.fault
