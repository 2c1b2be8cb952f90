-- The conditions are those of two lists.
use Rattle.std.proofs.Common.{◌∙◌, cond, None, sym, ap}
use Rattle.std.proofs.lemmas.Bool.{ne_eqb}
use Rattle.oc_linking.specs.FirstFault.{first_broken}
use Rattle.oc_elf.specs.{Tables.{entry_of, symbol_place}, SymbolRules.{entry_conditions}}
use Rattle.oc_elf_judge.proofs.SymbolLemmas.{entry_broken}
use Rattle.oc_elf_judge.proofs.symbols.entry_fault.Goals as goal

pub returns : goal.returns
returns c =
    rw (c.earlier.ensures, c.kind_fault-kind.ensures, c.value_fault-value.ensures, c.entry_of-s.ensures, c.symbol_place-place.ensures)
    (sym (entry_broken c.args.frame.now c.args.k (symbol_place c.args.frame.now c.args.k) (entry_of c.args.frame.now c.args.k))
    ∙ sym (ap (λ b. cond b None (first_broken (entry_conditions c.args.frame.now c.args.k (symbol_place c.args.frame.now c.args.k) (entry_of c.args.frame.now c.args.k)))) (ne_eqb c.args.k 0 c.if-k-eq0.false)))
