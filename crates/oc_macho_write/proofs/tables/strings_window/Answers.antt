-- The zeros fill what the text leaves of the buffer.
use Rattle.std.proofs.Common.{◌≡◌, ℕ, ◌+◌, ◌-◌, ◌≤◌, List, ◌∷◌, ◌++◌, length, replicate, subst, arith, ap}
use borrow.Rule.Slice.PartMut.{mid_of, put_mid}
use Rattle.oc_base.specs.Strings.{table_text}
use Rattle.oc_outside.specs.Windows.{IsFilled}
use Rattle.oc_shelf.proofs.WritingLaws.WindowLemmas.{filled_long, filled_rest}
use Rattle.oc_macho_write.proofs.tables.strings_window.Goals as goal

pub returns : goal.returns
returns c =
    let head : List ℕ = 0 ∷ table_text c.args.names.now.names in
    let old : List ℕ = c.args.out.now in
    let mid : List ℕ = c.pair_window-done.new.out in
    let n : ℕ = c.pair_window-done.result in
    let first : IsFilled head c.args.from old mid n = subst (λ (xs : List ℕ). IsFilled (0 ∷ xs) c.args.from old mid n) c.bytes.ensures c.pair_window-done.ensures in
    let size = ap (λ (xs : List ℕ). length xs) c.bytes-2.ensures in
    let at : c.saturating_sub-past.result ≡ c.args.from + n - length head = omega (arith, size, c.saturating_sub-past.ensures) in
    let long = filled_long head old mid c.args.from n first in
    let count = first.count in
    let room : n ≤ length mid = omega (arith, long, count) in
    let rest : IsFilled (replicate c.padding.result 0) c.saturating_sub-past.result (mid_of n (length mid - n) mid) c.zero_window.new.out c.zero_window.result = c.zero_window.ensures in
    subst (λ (m : ℕ). IsFilled (head ++ replicate m 0) c.args.from old (put_mid n (length mid - n) mid c.zero_window.new.out) (n + c.zero_window.result)) c.padding.ensures
    (filled_rest head (replicate c.padding.result 0) old mid c.zero_window.new.out c.args.from c.saturating_sub-past.result n c.zero_window.result first at room rest)
