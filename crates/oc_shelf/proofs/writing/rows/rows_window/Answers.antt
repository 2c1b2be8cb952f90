-- An entry more fills the buffer further.
use Rattle.std.proofs.Common.{ℕ, ◌*◌, ◌/◌, ◌<◌, ◌≤◌, List, length, take, drop, subst, sym, arith, rules}
use Rattle.oc_shelf.specs.Writing.Parts.{table_of}
use Rattle.oc_outside.specs.Windows.{IsFilled}
use Rattle.oc_shelf.proofs.WritingLaws.TableLemmas.{rows_cut, rows_long, rows_more, table_long, times_quotient, times_rises}
use Rattle.oc_shelf.proofs.WritingLaws.WindowLemmas.{filled_full, filled_nothing}
use Rattle.oc_shelf.proofs.writing.rows.rows_window.Goals as goal

pub returns-then-first-count : goal.returns-then-first-count
returns-then-first-count g c =
    let rows : List (List ℕ) = g.T.WritesRows.rows c.args.table.now in
    let w : ℕ = c.size-size.result in
    let past : length rows ≤ c.args.from / w = search rules in
    let up : w * length rows ≤ w * (c.args.from / w) = times_rises w (length rows) (c.args.from / w) past in
    filled_nothing (table_of rows) c.args.out.now c.args.from (omega (arith, up, times_quotient w c.args.from c.size-size.ensures.some, table_long w rows c.size-size.ensures.same))

pub loop-k-init : goal.loop-k-init
loop-k-init g c =
    let rows : List (List ℕ) = g.T.WritesRows.rows c.args.table.now in
    let w : ℕ = c.size-size.result in
    let first : ℕ = c.args.from / w in
    let low : first < length rows = search rules in
    filled_nothing (table_of (take first rows)) c.args.out.now c.args.from
    (omega (arith, times_quotient w c.args.from c.size-size.ensures.some, rows_long w rows first c.size-size.ensures.same (omega (arith, low))))

pub returns-then-done-out : goal.returns-then-done-out
returns-then-done-out g c =
    let rows : List (List ℕ) = g.T.WritesRows.rows c.args.table.now in
    let full : length c.args.out.now ≤ c.loop-k.done = search rules in
    subst (λ (zs : List ℕ). IsFilled zs c.args.from c.args.out.now c.loop-k.out c.loop-k.done) (sym (rows_cut rows c.loop-k.k))
    (filled_full (table_of (take c.loop-k.k rows)) (table_of (drop c.loop-k.k rows)) c.args.out.now c.loop-k.out c.args.from c.loop-k.done c.loop-k.invariant full)

pub fill_row-done-requires-clause-near : goal.fill_row-done-requires-clause-near
fill_row-done-requires-clause-near g c =
    let rows : List (List ℕ) = g.T.WritesRows.rows c.args.table.now in
    let w : ℕ = c.size-size.result in
    let low : c.loop-k.k < length rows = search rules in
    let up : w * c.loop-k.k ≤ w * length rows = times_rises w c.loop-k.k (length rows) (omega (arith, low)) in
    omega (arith, up, table_long w rows c.size-size.ensures.same, c.requires)

pub fill_row-done-requires-clause-filled : goal.fill_row-done-requires-clause-filled
fill_row-done-requires-clause-filled g c =
    let rows : List (List ℕ) = g.T.WritesRows.rows c.args.table.now in
    let w : ℕ = c.size-size.result in
    let low : c.loop-k.k < length rows = search rules in
    let count = c.loop-k.invariant.count in
    omega (arith, count, rows_long w rows c.loop-k.k c.size-size.ensures.same (omega (arith, low)))

pub loop-k-preserved : goal.loop-k-preserved
loop-k-preserved g c =
    let rows : List (List ℕ) = g.T.WritesRows.rows c.args.table.now in
    let w : ℕ = c.size-size.result in
    let low : c.loop-k.k < length rows = search rules in
    subst (λ (zs : List ℕ). IsFilled zs c.args.from c.args.out.now c.fill_row-done.new.out c.fill_row-done.result) (sym (rows_more rows c.loop-k.k low))
    (c.fill_row-done.ensures (table_of (take c.loop-k.k rows)) c.args.out.now (rows_long w rows c.loop-k.k c.size-size.ensures.same (omega (arith, low))) c.loop-k.invariant)
