-- Nothing is given for no sections, and all for all.
use Rattle.std.proofs.Common.{◌≡◌, [], length, sym, arith}
use Rattle.oc_shows.proofs.BuiltSteps.{added_same}
use Rattle.oc_macho_read.specs.{Built.{started}, Given.{given_at, given_before}}
use Rattle.oc_macho_read.proofs.StepLemmas.{given_all, given_none}
use Rattle.oc_macho_read.proofs.added_relocs.add_relocations.Goals as goal

pub loop-i-init : goal.loop-i-init
loop-i-init c = record { entries = []; made = c.requires.before; each = λ s at. sym (given_none c.args.frame.now c.args.known.now.keep s at) }

pub returns : goal.returns
returns c =
    let t = c.args.frame.now in
    let end : c.loop-i.i ≡ length t.sections = omega (arith, c.loop-i-test.false, c.section_count-count.ensures.count, c.loop-i.auto.i-end) in
    added_same (started t c.args.known.now.keep) c.loop-i.builder (given_before t c.args.known.now.keep c.loop-i.i) (given_at t c.args.known.now.keep) c.loop-i.invariant (given_all t c.args.known.now.keep c.loop-i.i (omega (arith, end)))
