-- All symbols are added.
use Rattle.std.proofs.Common.{◌≡◌, length, ◌∙◌, ap, arith}
use Rattle.oc_omf.specs.{Entries.{entries_in}, Symbols.{symbols_in}}
use Rattle.oc_omf_read.specs.Built.{symboled}
use Rattle.oc_omf_read.proofs.SymbolLemmas.{all_symbols}
use Rattle.oc_omf_read.proofs.built_symbols.add_symbols.Goals as goal

pub returns : goal.returns
returns c =
    let many = all_symbols (entries_in c.args.omf.now) c.requires.clean c.args.mentions.now c.requires.declarations in
    let long = c.args.mentions.now.symbols.ok.0 in
    let all : c.loop-k.k ≡ length (symbols_in (entries_in c.args.omf.now)) = omega (arith, many, long) in
    c.loop-k.invariant ∙ ap (symboled (entries_in c.args.omf.now)) all
