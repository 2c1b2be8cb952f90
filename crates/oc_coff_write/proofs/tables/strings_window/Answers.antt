-- The text fills what the size leaves of the buffer.
use Rattle.std.proofs.Common.{◌≡◌, ℕ, ◌+◌, ◌-◌, ◌≤◌, List, length, sym, ◌∙◌, ap, subst, arith}
use borrow.Rule.Slice.PartMut.{mid_of}
use Rattle.oc_base.specs.{Numbers.{bytes_of_number}, Strings.{table_text}}
use Rattle.oc_outside.specs.Windows.{IsFilled}
use Rattle.oc_shelf.proofs.WritingLaws.WindowLemmas.{filled_long, filled_rest}
use Rattle.oc_coff_write.proofs.tables.strings_window.Goals as goal

pub returns : goal.returns
returns c =
    let text : List ℕ = table_text c.args.names.now.names in
    let head : List ℕ = bytes_of_number 4 (4 + length text) in
    let old : List ℕ = c.args.out.now in
    let mid : List ℕ = c.copy_window-done.new.out in
    let n : ℕ = c.copy_window-done.result in
    let same : c.bytes-text.result.now ≡ text = c.bytes-text.ensures in
    let is : c.size_bytes-head.result ≡ head = c.size_bytes-head.ensures.bytes ∙ ap (λ (xs : List ℕ). bytes_of_number 4 (4 + length xs)) same in
    let four : length head ≡ 4 = ap length (sym is) ∙ c.size_bytes-head.ensures.long in
    let first : IsFilled head c.args.from old mid n = subst (λ (xs : List ℕ). IsFilled xs c.args.from old mid n) is c.copy_window-done.ensures in
    let at : c.saturating_sub-past.result ≡ c.args.from + n - length head = omega (arith, four, c.saturating_sub-past.ensures) in
    let long = filled_long head old mid c.args.from n first in
    let count = first.count in
    let room : n ≤ length mid = omega (arith, long, count) in
    let second : IsFilled text c.saturating_sub-past.result (mid_of n (length mid - n) mid) c.copy_window.new.out c.copy_window.result
    = subst (λ (xs : List ℕ). IsFilled xs c.saturating_sub-past.result (mid_of n (length mid - n) mid) c.copy_window.new.out c.copy_window.result) same c.copy_window.ensures in
    filled_rest head text old mid c.copy_window.new.out c.args.from c.saturating_sub-past.result n c.copy_window.result first at room second
