-- The first section whose relocations have a fault stops the reading.
use Rattle.oc_coff.specs.Files.{tables_in}
use Rattle.std.proofs.Common.{◌≡◌, ℕ, ◌<◌, ◌∙◌, length, None, Option, sym, subst, arith}
use Rattle.oc_base.specs.{declared.fault.Fault.{Fault}, Stops.{IsStop}}
use Rattle.oc_linking.specs.Numbers.{first_upto}
use Rattle.oc_shelf.proofs.ReadingLaws.StageLemmas.{clean_more, stops_at}
use Rattle.oc_coff_judge.specs.Relocs.{relocs_fault}
use Rattle.oc_coff_judge.proofs.JudgedRelocs.{relocations_are}
use Rattle.oc_coff_judge.proofs.judging.check_relocs.Goals as goal

pub check_relocs_of-requires-clause-there : goal.check_relocs_of-requires-clause-there
check_relocs_of-requires-clause-there c = omega (arith, c.loop-i-test.true, c.section_count-count.ensures)

pub returns-in-Err-clause-stop : goal.returns-in-Err-clause-stop
returns-in-Err-clause-stop c =
    let t = tables_in c.args.coff.now in
    let fault = relocs_fault c.args.aims.now.word t c.args.keep.now in
    let low : c.loop-i.i < length t.sections = omega (arith, c.loop-i-test.true, c.section_count-count.ensures) in
    subst (λ (o : Option Fault). IsStop o c.in-Err.stop) (sym (relocations_are c.args.aims.now.word t c.args.keep.now)) (stops_at fault c.loop-i.i (length t.sections) c.in-Err.stop c.loop-i.invariant low c.in-Err.ensures.stop)

pub loop-i-preserved : goal.loop-i-preserved
loop-i-preserved c = clean_more (relocs_fault c.args.aims.now.word (tables_in c.args.coff.now) c.args.keep.now) c.loop-i.i c.loop-i.invariant c.in-Ok.ensures.clean

pub returns-clause-clean : goal.returns-clause-clean
returns-clause-clean c =
    let end : c.loop-i.i ≡ length (tables_in c.args.coff.now).sections = omega (arith, c.loop-i-test.false, c.section_count-count.ensures, c.loop-i.auto.i-end) in
    relocations_are c.args.aims.now.word (tables_in c.args.coff.now) c.args.keep.now
    ∙ subst (λ (n : ℕ). first_upto (relocs_fault c.args.aims.now.word (tables_in c.args.coff.now) c.args.keep.now) n ≡ None) end c.loop-i.invariant
