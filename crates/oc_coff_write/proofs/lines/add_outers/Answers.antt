-- Each turn adds the line of its symbol, where it passes.
use Rattle.std.proofs.Common.{◌≤◌, length, ap, arith}
use Rattle.std.specs.Option.{option_map}
use Rattle.oc_coff_file.specs.Lines.{OuterLine, is_free}
use Rattle.oc_coff_write.proofs.LineLemmas.{line_turn, lines_whole}
use Rattle.oc_coff_write.proofs.lines.add_outers.Goals as goal

pub loop-k-preserved : goal.loop-k-preserved
loop-k-preserved c =
    let n = c.args.neutral.now in
    line_turn n OuterLine (is_free n) c.loop-k.k c.symbol-symbol.result.now _ _ _ _ _ c.symbol-symbol.ensures (ap (option_map (OuterLine c.loop-k.k)) c.symbol-symbol.ensures) c.is_unkeyed-wanted.ensures c.in_ok-give_line.ensures c.loop-k.invariant

pub returns : goal.returns
returns c =
    let n = c.args.neutral.now in
    let done : length n.symbols ≤ c.loop-k.k = omega (arith, c.loop-k-test.false, c.symbol_count-k-end.ensures) in
    lines_whole n OuterLine (is_free n) c.loop-k.k _ _ done c.loop-k.invariant
