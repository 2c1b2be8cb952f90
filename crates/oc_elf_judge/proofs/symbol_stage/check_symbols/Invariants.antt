-- The symbols so far have no fault.
use Rattle.std.proofs.Common.{◌≡◌, None}
use Rattle.oc_linking.specs.{FirstFault.{fault_of}, Numbers.{first_upto}}
use Rattle.oc_elf.specs.SymbolRules.{symbol_stage}
use Rattle.oc_elf_judge.proofs.symbol_stage.check_symbols.Given as goal

abbrev pub invariant-loop-k : goal.invariant-loop-k
invariant-loop-k l = first_upto (fault_of (symbol_stage l.frame)) l.k ≡ None
