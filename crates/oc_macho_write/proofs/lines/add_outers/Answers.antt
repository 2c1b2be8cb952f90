-- Each turn adds the line of its symbol, where it passes.
use Rattle.std.proofs.Common.{ℕ, ◌≤◌, length, map, ap, arith}
use Rattle.std.specs.{List.{enumerate_from, filter}, Option.{option_map}}
use Rattle.std.proofs.lemmas.List.{drop_all}
use Rattle.oc_neutral.specs.declared.symbol.Symbol.{Symbol}
use Rattle.oc_macho_file.specs.Lines.{OuterLine}
use Rattle.oc_macho_write.specs.Lines.{is_outer, line_in}
use Rattle.oc_macho_write.specs.declared.lines.Line.TheVariants as line
use Rattle.oc_plans.proofs.Turns.{filter_step, turn_if, whole}
use Rattle.oc_macho_write.proofs.lines.add_outers.Goals as goal

pub loop-k-preserved : goal.loop-k-preserved
loop-k-preserved c =
    let n = c.args.neutral.now in
    let k = c.loop-k.k in
    let s = c.symbol.result.now in
    turn_if (line_in n) c.loop-k.lines.items _ (line.Outer k) (OuterLine k s) _ (is_outer c.args.outer s.binding) _ _ _ c.in_ok-give_line.ensures (ap (option_map (OuterLine k)) c.symbol.ensures) c.is_outer-wanted.ensures
    (filter_step (λ (x : ℕ × Symbol). OuterLine x.0 x.1) (λ (x : ℕ × Symbol). is_outer c.args.outer x.1.binding) n.symbols k s c.symbol.ensures) c.loop-k.invariant

pub returns : goal.returns
returns c =
    let n = c.args.neutral.now in
    let done : length n.symbols ≤ c.loop-k.k = omega (arith, c.loop-k-test.false, c.symbol_count-k-end.ensures) in
    whole (line_in n) c.loop-k.lines.items _ _ (ap (λ xs. map (λ (x : ℕ × Symbol). OuterLine x.0 x.1) (filter (λ (x : ℕ × Symbol). is_outer c.args.outer x.1.binding) (enumerate_from c.loop-k.k xs))) (drop_all c.loop-k.k n.symbols done)) c.loop-k.invariant
