-- Each turn adds the line of its symbol, where it passes.
use Rattle.std.proofs.Common.{◌≤◌, length, ap, arith}
use Rattle.std.specs.Option.{option_map}
use Rattle.oc_shows.specs.SymbolLines.{needs_default}
use Rattle.oc_coff_file.specs.Lines.{DefaultLine}
use Rattle.oc_coff_write.proofs.LineLemmas.{line_turn, lines_whole}
use Rattle.oc_coff_write.proofs.lines.add_defaults.Goals as goal

pub loop-k-preserved : goal.loop-k-preserved
loop-k-preserved c =
    let n = c.args.neutral.now in
    line_turn n DefaultLine needs_default c.loop-k.k c.symbol-symbol.result.now _ _ _ _ _ c.symbol-symbol.ensures (ap (option_map (DefaultLine c.loop-k.k)) c.symbol-symbol.ensures) c.needs_default-wanted.ensures.needed c.in_ok-give_line.ensures c.loop-k.invariant

pub returns : goal.returns
returns c =
    let n = c.args.neutral.now in
    let done : length n.symbols ≤ c.loop-k.k = omega (arith, c.loop-k-test.false, c.symbol_count-k-end.ensures) in
    lines_whole n DefaultLine needs_default c.loop-k.k _ _ done c.loop-k.invariant
