-- A section with a fault stops the stage.
use Rattle.oc_coff.specs.Files.{tables_in}
use Rattle.std.proofs.Common.{◌≡◌, ℕ, ◌<◌, length, None, subst, arith}
use Rattle.oc_linking.proofs.Upto.{first_upto_stop}
use Rattle.oc_linking.specs.Numbers.{first_upto}
use Rattle.oc_shelf.proofs.ReadingLaws.StageLemmas.{clean_more}
use Rattle.oc_coff_judge.specs.Judged.{section_fault_of}
use Rattle.oc_coff_judge.proofs.SectionLemmas.{checking_none}
use Rattle.oc_coff_judge.proofs.section_stage.check_sections.Goals as goal

pub loop-i-init : goal.loop-i-init
loop-i-init c = checking_none c.args.coff.now

pub judge_section-requires-clause-there : goal.judge_section-requires-clause-there
judge_section-requires-clause-there c = omega (arith, c.loop-i-test.true, c.section_count-count.ensures)

pub judge_section-requires-clause-sums : goal.judge_section-requires-clause-sums
judge_section-requires-clause-sums c = c.loop-i.invariant.sums

pub returns-in-Err-clause-fault : goal.returns-in-Err-clause-fault
returns-in-Err-clause-fault c =
    let low : c.loop-i.i < length (tables_in c.args.coff.now).sections = omega (arith, c.loop-i-test.true, c.section_count-count.ensures) in
    first_upto_stop (section_fault_of c.args.coff.now) c.loop-i.i (length (tables_in c.args.coff.now).sections) c.in-Err.fault c.loop-i.invariant.clean c.in-Err.ensures.fault low

pub loop-i-preserved : goal.loop-i-preserved
loop-i-preserved c = record { clean = clean_more (section_fault_of c.args.coff.now) c.loop-i.i c.loop-i.invariant.clean c.in-Ok.ensures.clean; sums = c.in-Ok.ensures.sums }

pub returns-clause-clean : goal.returns-clause-clean
returns-clause-clean c =
    let end : c.loop-i.i ≡ length (tables_in c.args.coff.now).sections = omega (arith, c.loop-i-test.false, c.section_count-count.ensures, c.loop-i.auto.i-end) in
    subst (λ (n : ℕ). first_upto (section_fault_of c.args.coff.now) n ≡ None) end c.loop-i.invariant.clean
