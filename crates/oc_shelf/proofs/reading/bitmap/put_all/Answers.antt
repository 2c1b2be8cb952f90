-- One byte more is taken at each turn.
use Rattle.std.proofs.Common.{refl, sym, ◌∙◌, ap, arith}
use Rattle.std.specs.Prelude.{◌||◌}
use Rattle.oc_shelf.specs.Reading.Bitmaps.{has}
use Rattle.oc_shelf.proofs.ReadingLaws.BitmapLemmas.{between_all, between_more, between_none}
use Rattle.oc_shelf.proofs.reading.bitmap.put_all.Goals as goal

pub loop-at-init : goal.loop-at-init
loop-at-init c = (λ none. refl, λ q. ap (λ b. b || has c.args.words.now q) (sym (between_none c.args.begin q)))

pub loop-at-preserved : goal.loop-at-preserved
loop-at-preserved c =
    let from = c.loop-at.auto.at in
    let below = c.loop-at-test.true in (
      λ none. absurd (omega (arith, none, from, below)),
      λ q. c.put.ensures.taken q ∙ between_more c.args.begin c.loop-at.at q (has c.loop-at.words q) (has c.args.words.now q) from (c.loop-at.invariant.1 q),
    )

pub returns-clause-taken : goal.returns-clause-taken
returns-clause-taken c = λ q.
    c.loop-at.invariant.1 q
    ∙ ap (λ b. b || has c.args.words.now q) (between_all c.args.begin c.args.end c.loop-at.at q c.loop-at.invariant.0 c.loop-at-test.false c.loop-at.auto.at-end)
