-- A section with a fault stops the stage.
use Rattle.std.proofs.Common.{◌≡◌, ℕ, ◌<◌, length, None, refl, subst, arith}
use Rattle.oc_linking.specs.{FirstFault.{fault_of}, Numbers.{first_upto}}
use Rattle.oc_linking.proofs.Upto.{first_upto_stop}
use Rattle.oc_shelf.proofs.ReadingLaws.StageLemmas.{clean_more}
use Rattle.oc_macho.specs.SectionFaults.{section_stage}
use Rattle.oc_macho_judge.proofs.SectionLemmas.{sums_none}
use Rattle.oc_macho_judge.proofs.section_stage.check_sections.Goals as goal

pub loop-i-init : goal.loop-i-init
loop-i-init c = record { clean = refl; sums = sums_none c.args.frame.now }

pub judge_section-requires-clause-there : goal.judge_section-requires-clause-there
judge_section-requires-clause-there c = omega (arith, c.loop-i-test.true, c.section_count-count.ensures.count)

pub judge_section-requires-clause-sums : goal.judge_section-requires-clause-sums
judge_section-requires-clause-sums c = c.loop-i.invariant.sums

pub returns-in-Err-clause-fault : goal.returns-in-Err-clause-fault
returns-in-Err-clause-fault c =
    let low : c.loop-i.i < length c.args.frame.now.sections = omega (arith, c.loop-i-test.true, c.section_count-count.ensures.count) in
    first_upto_stop (fault_of (section_stage c.args.frame.now)) c.loop-i.i (length c.args.frame.now.sections) c.in-Err.fault c.loop-i.invariant.clean c.in-Err.ensures.fault low

pub loop-i-preserved : goal.loop-i-preserved
loop-i-preserved c = record { clean = clean_more (fault_of (section_stage c.args.frame.now)) c.loop-i.i c.loop-i.invariant.clean c.in-Ok.ensures.clean; sums = c.in-Ok.ensures.sums }

pub returns-clause-clean : goal.returns-clause-clean
returns-clause-clean c =
    let end : c.loop-i.i ≡ length c.args.frame.now.sections = omega (arith, c.loop-i-test.false, c.section_count-count.ensures.count, c.loop-i.auto.i-end) in
    subst (λ (n : ℕ). first_upto (fault_of (section_stage c.args.frame.now)) n ≡ None) end c.loop-i.invariant.clean
