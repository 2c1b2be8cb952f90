-- The part fills what is left of the buffer.
use Rattle.std.proofs.Common.{◌≡◌, ◌+◌, ◌-◌, [], length, get_or, arith}
use Rattle.oc_shelf.proofs.WritingLaws.WindowLemmas.{filled_rest}
use Rattle.oc_shelf.proofs.writing.parts.fill_part.Goals as goal

pub returns : goal.returns
returns g c = λ xs old long filled.
    let at : c.saturating_sub-at.result ≡ c.args.from + c.args.done - length xs = omega (arith, long, c.saturating_sub-at.ensures) in
    filled_rest xs (get_or (g.P.Parts.parts c.args.parts.now) c.args.k []) old c.args.out.now c.part_window.new.out c.args.from c.saturating_sub-at.result c.args.done c.part_window.result
    filled at c.requires.room c.part_window.ensures
