-- The symbols so far have no fault.
use Rattle.oc_coff.specs.{Files.{tables_in}, SymbolFaults.{symbol_stage}}
use Rattle.std.proofs.Common.{◌≡◌, None}
use Rattle.oc_linking.specs.{FirstFault.{fault_of}, Numbers.{first_upto}}
use Rattle.oc_coff_judge.proofs.symbol_stage.check_symbols.Given as goal

abbrev pub invariant-loop-i : goal.invariant-loop-i
invariant-loop-i l = first_upto (fault_of (symbol_stage (tables_in l.coff))) l.i ≡ None
