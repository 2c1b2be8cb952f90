-- No entry so far has a fault, and what is kept is what they have.
use Rattle.std.proofs.Common.{◌≡◌, None}
use Rattle.oc_linking.specs.Numbers.{first_upto}
use Rattle.oc_omf_judge.specs.{Defined.{before_in}, EarlierSymbols.{AreEarlierSymbols}}
use Rattle.oc_omf_judge.proofs.SymbolStages.{symbols_at}
use Rattle.oc_omf_judge.proofs.symbol_loop.check_symbols.Given as goal

abbrev pub invariant-loop-i : goal.invariant-loop-i
invariant-loop-i l = record {
  clean : first_upto (symbols_at l.omf) l.i ≡ None;
  seen : AreEarlierSymbols (before_in l.omf l.i) l.seen;
}
