-- The externals, the communals and the publics, one behind another.
use Rattle.oc_omf_write.proofs.SymbolLemmas.{all_symbols}
use Rattle.oc_omf_write.proofs.symbols.symbol_entries.Goals as goal

pub returns : goal.returns
returns c = all_symbols c.args.neutral.now _ _ _ _ c.new-entries.ensures.items c.in_ok-add_externals.ensures c.in_ok-add_communals.ensures c.in_ok-add_publics.ensures
