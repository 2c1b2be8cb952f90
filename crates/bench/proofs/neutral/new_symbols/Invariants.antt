-- The symbols so far have the numbers so far.
use Rattle.std.proofs.Common.{◌≡◌, length}
use Rattle.bench.proofs.Numbered.{AreNumbered}
use Rattle.bench.proofs.neutral.new_symbols.Given as goal

abbrev pub invariant-loop-k : goal.invariant-loop-k
invariant-loop-k l = record {
  count : length l.builder.object.symbols ≡ l.k;
  numbered : AreNumbered l.k l.builder.object.symbols;
}
