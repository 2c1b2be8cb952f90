-- An auxiliary entry that is not there says nothing.
use Rattle.std.proofs.Common.{sym, ◌∙◌, ap, arith}
use Rattle.oc_coff.specs.declared.symbol.SymbolEntry.{SymbolEntry}
use Rattle.oc_coff_judge.proofs.AuxLemmas.{weak_none, weak_past}
use Rattle.oc_coff_judge.proofs.bindings.default_behind.Goals as goal

pub returns-then-symbol-eq0 : goal.returns-then-symbol-eq0
returns-then-symbol-eq0 c = weak_none c.args.coff.now c.args.j (sym (ap (λ (s : SymbolEntry). s.NumberOfAuxSymbols) c.symbol.ensures) ∙ c.if-symbol-eq0.true)

pub returns-then-j-count : goal.returns-then-j-count
returns-then-j-count c = weak_past c.args.coff.now c.args.j (omega (arith, c.if-j-count.true, c.entry_count-count.ensures))
