-- The second run fills what the first leaves of the buffer.
use Rattle.std.proofs.Common.{◌≡◌, ℕ, ◌+◌, ◌-◌, ◌≤◌, List, length, arith}
use Rattle.oc_outside.specs.Windows.{IsFilled}
use Rattle.oc_shelf.proofs.WritingLaws.WindowLemmas.{filled_long, filled_rest}
use Rattle.oc_macho_write.proofs.windows.pair_window.Goals as goal

pub returns : goal.returns
returns c =
    let head : List ℕ = c.args.first.now in
    let old : List ℕ = c.args.out.now in
    let mid : List ℕ = c.copy_window-done.new.out in
    let n : ℕ = c.copy_window-done.result in
    let first : IsFilled head c.args.from old mid n = c.copy_window-done.ensures in
    let at : c.saturating_sub-past.result ≡ c.args.from + n - length head = omega (arith, c.saturating_sub-past.ensures) in
    let long = filled_long head old mid c.args.from n first in
    let count = first.count in
    let room : n ≤ length mid = omega (arith, long, count) in
    filled_rest head c.args.second.now old mid c.copy_window.new.out c.args.from c.saturating_sub-past.result n c.copy_window.result first at room c.copy_window.ensures
