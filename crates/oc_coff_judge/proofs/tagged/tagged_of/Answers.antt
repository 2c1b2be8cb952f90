-- Symbol by symbol.
use Rattle.std.proofs.Common.{◌≡◌, ◌+◌, ◌<◌, length, refl, sym, subst, arith}
use Rattle.oc_coff_judge.proofs.TaggedLemmas.{AreMarked, marked_end, marked_more}
use Rattle.oc_coff_judge.proofs.tagged.tagged_of.Goals as goal

pub loop-i-preserved : goal.loop-i-preserved
loop-i-preserved c =
    let low : c.loop-i.i < length c.args.numbers.now = omega (arith, c.loop-i-test.true) in
    subst (AreMarked c.args.coff.now c.args.numbers.now (c.loop-i.i + 1)) (sym c.mark.ensures) (marked_more c.args.coff.now c.args.numbers.now c.loop-i.i c.loop-i.slots _ 0 c.loop-i.invariant low refl)

pub returns : goal.returns
returns c =
    let end : c.loop-i.i ≡ length c.args.numbers.now = omega (arith, c.loop-i-test.false, c.loop-i.auto.i-end) in
    marked_end c.args.coff.now c.args.numbers.now c.loop-i.i c.loop-i.slots c.loop-i.invariant end c.requires
