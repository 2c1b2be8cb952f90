use Rattle.std.proofs.Common.{◌++◌, sym, ◌∙◌, ap}
use Rattle.oc_dump.specs.Lines.{line_of}
use Rattle.oc_dump.proofs.LineLemmas.{flat_map-next}
use Rattle.oc_dump.proofs.lines.symbol_lines.Goals as goal

pub loop-index-preserved : goal.loop-index-preserved
loop-index-preserved c =
    let n = c.args.neutral.now in
    c.in_ok-put_line.ensures ∙ ap (λ text. text ++ line_of n c.symbol.result.now) c.loop-index.invariant
    ∙ sym (flat_map-next (line_of n) n.symbols c.loop-index.index c.symbol.result.now c.symbol.ensures)
