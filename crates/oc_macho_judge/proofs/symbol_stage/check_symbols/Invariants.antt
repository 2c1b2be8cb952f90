-- The symbols so far have no fault.
use Rattle.std.proofs.Common.{◌≡◌, None}
use Rattle.oc_linking.specs.{FirstFault.{fault_of}, Numbers.{first_upto}}
use Rattle.oc_macho.specs.SymbolFaults.{symbol_stage}
use Rattle.oc_macho_judge.proofs.symbol_stage.check_symbols.Given as goal

abbrev pub invariant-loop-j : goal.invariant-loop-j
invariant-loop-j l = first_upto (fault_of (symbol_stage l.frame)) l.j ≡ None
