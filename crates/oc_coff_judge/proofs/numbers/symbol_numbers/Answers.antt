-- Entry by entry.
use Rattle.std.proofs.Common.{ℕ, ◌-◌, cond, eqb, sym, ◌∙◌, ap, subst, arith}
use Rattle.oc_coff.specs.declared.symbol.SymbolEntry.{SymbolEntry}
use Rattle.oc_coff_judge.proofs.NumberLemmas.{IsPassing, passing_none, passing_more, passing_end}
use Rattle.oc_coff_judge.proofs.numbers.symbol_numbers.Goals as goal

pub loop-j-init : goal.loop-j-init
loop-j-init c = subst (IsPassing c.args.coff.now 0 0) (sym c.new-numbers.ensures.items) (passing_none c.args.coff.now)

pub loop-j-preserved : goal.loop-j-preserved
loop-j-preserved c =
    passing_more c.args.coff.now c.is_headed.ensures c.loop-j.j c.loop-j.auxiliary c.in_ok-auxiliary.auxiliary c.loop-j.numbers.items c.take_entry.new.numbers.items
    c.loop-j.invariant (omega (arith, c.loop-j-test.true, c.entry_count-count.ensures)) c.in_ok-auxiliary.ensures.numbers
    (c.in_ok-auxiliary.ensures.left
    ∙ ap (λ (n : ℕ). cond (eqb c.loop-j.auxiliary 0) n (c.loop-j.auxiliary - 1)) (ap (λ (s : SymbolEntry). s.NumberOfAuxSymbols) c.symbol-follow.ensures))

pub returns : goal.returns
returns c =
    passing_end c.args.coff.now c.loop-j.j c.loop-j.auxiliary c.loop-j.numbers.items c.loop-j.invariant
    (omega (arith, c.loop-j-test.false, c.entry_count-count.ensures, c.loop-j.auto.j-end))
