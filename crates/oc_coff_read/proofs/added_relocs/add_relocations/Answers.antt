-- Nothing is given for no sections, and all for all.
use Rattle.oc_coff.specs.{Files.{tables_in}, Sections.{carried_in}}
use Rattle.std.proofs.Common.{◌≡◌, ℕ, length, ◌∙◌, sym, ap, arith}
use Rattle.oc_shows.proofs.BuiltSteps.{added_same}
use Rattle.oc_shelf.specs.Reading.Collected.{collected}
use Rattle.oc_coff_read.specs.{Adding.{started}, Given.{given_at, given_before}}
use Rattle.oc_coff_judge.specs.Led.{carried_at}
use Rattle.oc_coff_read.proofs.AddedTables.{given_all}
use Rattle.oc_coff_judge.proofs.CollectLemmas.{carried_are}
use Rattle.oc_coff_read.proofs.added_relocs.add_relocations.Goals as goal

pub returns : goal.returns
returns c =
    let t = tables_in c.args.coff.now in
    let end : c.loop-i.i ≡ length t.sections = omega (arith, c.loop-i-test.false, c.section_count-i-end.ensures, c.loop-i.auto.i-end) in
    let all : c.loop-i.position ≡ length (carried_in t) = c.loop-i.invariant.position ∙ ap (λ (n : ℕ). length (collected (carried_at t) n)) end ∙ sym (ap length (carried_are t)) in
    added_same (started c.args.word c.args.coff.now) c.loop-i.builder (given_before c.args.word t c.args.keep.now c.loop-i.position) (given_at c.args.word t c.args.keep.now) c.loop-i.invariant.added
    (given_all c.args.word t c.args.keep.now c.loop-i.position (omega (arith, all)))
