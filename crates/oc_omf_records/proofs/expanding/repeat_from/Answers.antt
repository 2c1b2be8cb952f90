use Rattle.std.proofs.Common.{◌≡◌, ◌+◌, ◌<◌, ◌≤◌, length, take, drop, sym, arith}
use Rattle.std.proofs.lemmas.List.{length-take-le, length-drop}
use Rattle.oc_omf_records.proofs.RowLemmas.{repeated-end, repeated-room, repeated-more}
use Rattle.oc_omf_records.proofs.expanding.repeat_from.Goals as goal

pub returns-then-start-end : goal.returns-then-start-end
returns-then-start-end c =
    let start : c.args.start ≡ length c.args.out.now.items = omega (arith, c.args.out.now.ok.0) in
    repeated-end _ _ c.args.count start

pub extend_from_within-requires-clause-in_bounds : goal.extend_from_within-requires-clause-in_bounds
extend_from_within-requires-clause-in_bounds c =
    let start : c.args.start ≤ length c.args.out.now.items = omega (arith, c.args.out.now.ok.0) in
    let room = repeated-room _ _ _ _ start c.loop-copy.auto._copy c.loop-copy.invariant in
    omega (arith, room, c.args.out.now.ok.0, c.loop-copy.out.ok.0)

pub loop-copy-preserved : goal.loop-copy-preserved
loop-copy-preserved c =
    let inside : c.args.start ≤ length c.args.out.now.items = omega (arith, c.args.out.now.ok.0) in
    let start : c.args.start ≡ length (take c.args.start c.args.out.now.items) = sym (length-take-le _ _ inside) in
    let end : c.len-end.result ≡ c.args.start + length (drop c.args.start c.args.out.now.items)
    = omega (arith, c.args.out.now.ok.0, length-drop c.args.start c.args.out.now.items) in
    let copies : 0 < c.loop-copy._copy = omega arith in
    repeated-more _ _ _ _ _ _ _ start end copies c.loop-copy.invariant c.in_ok-extend_from_within.ensures.items
