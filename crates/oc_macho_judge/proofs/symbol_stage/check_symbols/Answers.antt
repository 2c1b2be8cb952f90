-- A symbol with a fault stops the stage.
use Rattle.std.proofs.Common.{◌<◌, length, ◌∙◌, sym, arith}
use Rattle.oc_linking.specs.FirstFault.{fault_of}
use Rattle.oc_linking.proofs.Upto.{first_upto_stop}
use Rattle.oc_shelf.proofs.ReadingLaws.StageLemmas.{clean_more}
use Rattle.oc_macho.specs.SymbolFaults.{symbol_stage}
use Rattle.oc_macho_judge.proofs.SymbolLemmas.{symbol_broken}
use Rattle.oc_macho_judge.proofs.symbol_stage.check_symbols.Goals as goal

pub returns-in-Some-clause-stop : goal.returns-in-Some-clause-stop
returns-in-Some-clause-stop c =
    let low : c.loop-j.j < length c.args.frame.now.symbols = omega (arith, c.loop-j-test.true, c.symbol_count-count.ensures.count) in
    first_upto_stop (fault_of (symbol_stage c.args.frame.now)) c.loop-j.j (length c.args.frame.now.symbols) c.in-Some.fault c.loop-j.invariant
    (symbol_broken c.args.frame.now c.in_ok-found.found c.loop-j.j c.symbol.result c.ends_at.result c.in_ok-found.ensures low c.loop-j.invariant c.symbol.ensures c.ends_at.ensures ∙ sym c.in-Some.ensures) low

pub loop-j-preserved : goal.loop-j-preserved
loop-j-preserved c =
    let low : c.loop-j.j < length c.args.frame.now.symbols = omega (arith, c.loop-j-test.true, c.symbol_count-count.ensures.count) in
    clean_more (fault_of (symbol_stage c.args.frame.now)) c.loop-j.j c.loop-j.invariant
    (symbol_broken c.args.frame.now c.in_ok-found.found c.loop-j.j c.symbol.result c.ends_at.result c.in_ok-found.ensures low c.loop-j.invariant c.symbol.ensures c.ends_at.ensures ∙ sym c.in-None.ensures)
