-- A symbol with a fault stops the stage.
use Rattle.oc_coff.specs.{Files.{tables_in}, Entries.{entries_in}, SymbolFaults.{symbol_stage}}
use Rattle.std.proofs.Common.{◌≡◌, ℕ, ◌<◌, ◌∙◌, length, None, sym, subst, arith}
use Rattle.oc_linking.specs.{FirstFault.{fault_of}, Numbers.{first_upto}}
use Rattle.oc_linking.proofs.Upto.{first_upto_stop}
use Rattle.oc_shelf.proofs.ReadingLaws.StageLemmas.{clean_more}
use Rattle.oc_coff_judge.specs.Numbered.{AreNumbers}
use Rattle.oc_coff_judge.proofs.{JudgedSymbols.{judged_fault, symbols_long}, NumberLemmas.{all_at}}
use Rattle.oc_coff_judge.proofs.symbol_stage.check_symbols.Goals as goal

pub repeat_of-requires : goal.repeat_of-requires
repeat_of-requires c = subst (AreNumbers c.args.coff.now) (sym c.as_slice-numbers.ensures.value) c.requires.numbers_are

pub judge_symbol-requires-clause-there : goal.judge_symbol-requires-clause-there
judge_symbol-requires-clause-there c =
    let all = subst (AreNumbers c.args.coff.now) (sym c.as_slice-numbers.ensures.value) c.requires.numbers_are in
    let low : c.loop-i.i < length c.as_slice-numbers.result.now = omega (arith, c.loop-i-test.true) in
    subst (λ (n : ℕ). n < length (tables_in c.args.coff.now).entries) (sym c.number_at-j.ensures) (all_at (length (tables_in c.args.coff.now).entries) c.as_slice-numbers.result.now c.loop-i.i 0 all.there low)

pub returns-in-Some-clause-stop : goal.returns-in-Some-clause-stop
returns-in-Some-clause-stop c =
    let all = subst (AreNumbers c.args.coff.now) (sym c.as_slice-numbers.ensures.value) c.requires.numbers_are in
    let low : c.loop-i.i < length c.as_slice-numbers.result.now = omega (arith, c.loop-i-test.true) in
    let long = symbols_long c.args.coff.now c.as_slice-numbers.result.now all in
    first_upto_stop (fault_of (symbol_stage (tables_in c.args.coff.now))) c.loop-i.i (length (entries_in (tables_in c.args.coff.now))) c.in-Some.fault c.loop-i.invariant
    (judged_fault c.args.coff.now c.as_slice-numbers.result.now c.in_ok-repeat.repeat c.loop-i.i c.number_at-j.result c.ends_at.result c.judge_symbol.result all low c.in_ok-repeat.ensures c.loop-i.invariant
    c.number_at-j.ensures c.ends_at.ensures c.judge_symbol.ensures
    ∙ c.in-Some.is) (omega (arith, low, long))

pub loop-i-preserved : goal.loop-i-preserved
loop-i-preserved c =
    let all = subst (AreNumbers c.args.coff.now) (sym c.as_slice-numbers.ensures.value) c.requires.numbers_are in
    let low : c.loop-i.i < length c.as_slice-numbers.result.now = omega (arith, c.loop-i-test.true) in
    clean_more (fault_of (symbol_stage (tables_in c.args.coff.now))) c.loop-i.i c.loop-i.invariant
    (judged_fault c.args.coff.now c.as_slice-numbers.result.now c.in_ok-repeat.repeat c.loop-i.i c.number_at-j.result c.ends_at.result c.judge_symbol.result all low c.in_ok-repeat.ensures c.loop-i.invariant
    c.number_at-j.ensures c.ends_at.ensures c.judge_symbol.ensures
    ∙ c.in-None.is)

pub returns-clause-clean : goal.returns-clause-clean
returns-clause-clean c =
    let all = subst (AreNumbers c.args.coff.now) (sym c.as_slice-numbers.ensures.value) c.requires.numbers_are in
    let long = symbols_long c.args.coff.now c.as_slice-numbers.result.now all in
    let end : c.loop-i.i ≡ length (entries_in (tables_in c.args.coff.now)) = omega (arith, long, c.loop-i-test.false, c.loop-i.auto.i-end) in
    subst (λ (n : ℕ). first_upto (fault_of (symbol_stage (tables_in c.args.coff.now))) n ≡ None) end c.loop-i.invariant
