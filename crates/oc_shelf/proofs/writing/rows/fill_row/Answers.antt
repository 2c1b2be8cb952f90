-- The entry fills what is left of the buffer.
use Rattle.std.proofs.Common.{◌≡◌, ℕ, ◌+◌, ◌-◌, List, length, subst, arith}
use borrow.Rule.Slice.PartMut.{mid_of}
use Rattle.oc_shelf.specs.Writing.Parts.{row_of}
use Rattle.oc_outside.specs.Windows.{IsFilled}
use Rattle.oc_shelf.proofs.WritingLaws.WindowLemmas.{filled_rest}
use Rattle.oc_shelf.proofs.writing.rows.fill_row.Goals as goal

pub returns : goal.returns
returns g c = λ xs old long filled.
    let row : List ℕ = row_of (g.T.WritesRows.rows c.args.table.now) c.args.k in
    let at : c.saturating_sub-at.result ≡ c.args.from + c.args.done - length xs = omega (arith, long, c.saturating_sub-at.ensures) in
    let own : IsFilled row c.saturating_sub-at.result (mid_of c.args.done (length c.args.out.now - c.args.done) c.args.out.now) c.copy_window.new.out c.copy_window.result
    = subst (λ (zs : List ℕ). IsFilled zs c.saturating_sub-at.result (mid_of c.args.done (length c.args.out.now - c.args.done) c.args.out.now) c.copy_window.new.out c.copy_window.result)
    c.put_row.ensures c.copy_window.ensures in
    filled_rest xs row old c.args.out.now c.copy_window.new.out c.args.from c.saturating_sub-at.result c.args.done c.copy_window.result filled at c.requires.room own
