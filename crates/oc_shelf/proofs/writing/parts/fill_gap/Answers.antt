-- The zeros fill what is left of the buffer.
use Rattle.std.proofs.Common.{◌≡◌, ℕ, ◌+◌, ◌-◌, length, replicate, refl, arith}
use Rattle.oc_shelf.proofs.{WritingLaws.WindowLemmas.{filled_long, filled_rest}, WritingLaws.LayoutLemmas.{zeros_filled}}
use Rattle.oc_shelf.proofs.writing.parts.fill_gap.Goals as goal

pub returns : goal.returns
returns c = λ xs old low filled.
    let at : ℕ = c.args.from + c.args.done - length xs in
    let count = filled.count in
    let long = filled_long xs old c.args.out.now c.args.from c.args.done filled in
    let room = c.requires.room in
    let left : c.saturating_sub-zeros.result ≡ c.args.place - length xs - at = omega (arith, count, long, room, low, c.saturating_sub-zeros.ensures) in
    filled_rest xs (replicate (c.args.place - length xs) 0) old c.args.out.now c.zero_window.new.out c.args.from at c.args.done c.zero_window.result
    filled refl (omega (arith, room)) (zeros_filled at (c.args.place - length xs) c.saturating_sub-zeros.result _ c.zero_window.new.out c.zero_window.result left c.zero_window.ensures)
