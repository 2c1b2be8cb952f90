-- Each turn adds the entry of its symbol, if it has one.
use Rattle.std.proofs.Common.{◌≤◌, length, arith}
use Rattle.oc_omf_file.specs.Outputs.{public_output}
use Rattle.oc_omf_write.proofs.SymbolLemmas.{entry_turn, entries_whole}
use Rattle.oc_omf_write.proofs.symbols.add_publics.Goals as goal

pub loop-k-preserved : goal.loop-k-preserved
loop-k-preserved c =
    entry_turn public_output c.args.neutral.now.symbols c.loop-k.k c.symbol.result.now _ _ _ _ c.symbol.ensures (c.public-entry.ensures c.symbol.result.now) c.in_ok-give.ensures c.loop-k.invariant

pub returns : goal.returns
returns c =
    let done : length c.args.neutral.now.symbols ≤ c.loop-k.k = omega (arith, c.loop-k-test.false, c.symbol_count-k-end.ensures) in
    entries_whole public_output c.args.neutral.now.symbols c.loop-k.k _ _ done c.loop-k.invariant
