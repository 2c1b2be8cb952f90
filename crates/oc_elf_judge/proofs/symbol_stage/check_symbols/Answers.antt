-- A symbol with a fault stops the stage.
use Rattle.std.proofs.Common.{◌<◌, ◌∙◌, Option, sym, ap, arith}
use Rattle.oc_base.specs.declared.fault.Fault.{Fault}
use Rattle.oc_linking.specs.{FirstFault.{fault_of}, Numbers.{or_else}}
use Rattle.oc_linking.proofs.Upto.{first_upto_stop}
use Rattle.oc_shelf.proofs.ReadingLaws.StageLemmas.{clean_more}
use Rattle.oc_elf.specs.{SymbolRules.{symbol_stage}, Tables.{symbol_count}}
use Rattle.oc_elf_judge.proofs.SymbolLemmas.{other_fault, repeat_ends, symbol_broken}
use Rattle.oc_elf_judge.proofs.symbol_stage.check_symbols.Goals as goal

pub other_fault-other-requires-clause-repeat : goal.other_fault-other-requires-clause-repeat
other_fault-other-requires-clause-repeat c =
    let low : c.loop-k.k < symbol_count c.args.frame.now = omega (arith, c.loop-k-test.true, c.symbol_count-count.ensures) in
    repeat_ends c.args.frame.now c.in_ok-found.found c.loop-k.k c.in_ok-found.ensures low c.loop-k.invariant

pub returns-in-Some-clause-stop : goal.returns-in-Some-clause-stop
returns-in-Some-clause-stop c =
    let low : c.loop-k.k < symbol_count c.args.frame.now = omega (arith, c.loop-k-test.true, c.symbol_count-count.ensures) in
    first_upto_stop (fault_of (symbol_stage c.args.frame.now)) c.loop-k.k (symbol_count c.args.frame.now) c.in-Some.fault c.loop-k.invariant
    (symbol_broken c.args.frame.now c.loop-k.k ∙ ap (λ (o : Option Fault). or_else o (other_fault c.args.frame.now c.loop-k.k)) (sym c.entry_fault-own.ensures)
    ∙ ap (λ (o : Option Fault). or_else c.entry_fault-own.result o) (sym c.other_fault-other.ensures) ∙ sym c.earlier.ensures ∙ c.in-Some.is) low

pub loop-k-preserved : goal.loop-k-preserved
loop-k-preserved c =
    clean_more (fault_of (symbol_stage c.args.frame.now)) c.loop-k.k c.loop-k.invariant
    (symbol_broken c.args.frame.now c.loop-k.k ∙ ap (λ (o : Option Fault). or_else o (other_fault c.args.frame.now c.loop-k.k)) (sym c.entry_fault-own.ensures)
    ∙ ap (λ (o : Option Fault). or_else c.entry_fault-own.result o) (sym c.other_fault-other.ensures) ∙ sym c.earlier.ensures ∙ c.in-None.is)
