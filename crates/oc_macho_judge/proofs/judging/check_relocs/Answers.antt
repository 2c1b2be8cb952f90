-- The first section whose relocations have a fault stops the reading.
use Rattle.std.proofs.Common.{◌≡◌, ℕ, ◌<◌, ◌∙◌, length, None, Option, sym, subst, arith}
use Rattle.oc_base.specs.{declared.fault.Fault.{Fault}, Stops.{IsStop}}
use Rattle.oc_linking.specs.{FirstFault.{stage_fault}, Numbers.{first_upto}}
use Rattle.oc_shelf.proofs.ReadingLaws.StageLemmas.{clean_more, first_fault-range, stops_at}
use Rattle.oc_macho.specs.RelocationFaults.{relocation_stage}
use Rattle.oc_macho_judge.proofs.judging.check_relocs.Goals as goal

pub returns-in-Err-clause-stop : goal.returns-in-Err-clause-stop
returns-in-Err-clause-stop c =
    let low : c.loop-i.i < length c.args.frame.now.sections = omega (arith, c.loop-i-test.true, c.section_count-count.ensures.count) in
    subst (λ (o : Option Fault). IsStop o c.in-Err.stop) (sym (first_fault-range (relocation_stage c.args.frame.now c.args.keep.now) (length c.args.frame.now.sections)))
    (stops_at (λ i. stage_fault (relocation_stage c.args.frame.now c.args.keep.now i)) c.loop-i.i (length c.args.frame.now.sections) c.in-Err.stop c.loop-i.invariant low c.in-Err.ensures.stop)

pub loop-i-preserved : goal.loop-i-preserved
loop-i-preserved c = clean_more (λ i. stage_fault (relocation_stage c.args.frame.now c.args.keep.now i)) c.loop-i.i c.loop-i.invariant c.in-Ok.ensures.clean

pub returns-clause-clean : goal.returns-clause-clean
returns-clause-clean c =
    first_fault-range (relocation_stage c.args.frame.now c.args.keep.now) (length c.args.frame.now.sections)
    ∙ (let end : c.loop-i.i ≡ length c.args.frame.now.sections = omega (arith, c.loop-i-test.false, c.section_count-count.ensures.count, c.loop-i.auto.i-end) in
    subst (λ (n : ℕ). first_upto (λ i. stage_fault (relocation_stage c.args.frame.now c.args.keep.now i)) n ≡ None) end c.loop-i.invariant)
