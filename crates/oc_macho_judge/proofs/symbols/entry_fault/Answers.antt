-- The fault is that of the first part that has one.
use Rattle.std.proofs.Common.{Bool, cond, [], ◌++◌, Option, sym, ◌∙◌, ap}
use Rattle.oc_base.specs.declared.fault.Fault.{Fault}
use Rattle.oc_linking.specs.{Numbers.{or_else}, FirstFault.{first_broken}}
use Rattle.oc_shelf.proofs.ReadingLaws.StageLemmas.{broken_of_three}
use Rattle.oc_macho.specs.SymbolFaults.{kind_conditions, home_conditions, name_conditions, symbol_conditions}
use Rattle.oc_macho_judge.proofs.symbols.entry_fault.Goals as goal

pub returns : goal.returns
unfolding symbol_conditions
returns c =
    let kinds = kind_conditions c.args.frame.now c.args.j c.args.s.now in
    let homes = home_conditions c.args.frame.now c.args.j c.args.s.now in
    let names = name_conditions c.args.frame.now c.args.j c.args.s.now c.args.again in
    c.earlier-2.ensures ∙ ap (λ (o : Option Fault). or_else o c.earlier.result) c.kind_fault.ensures
    ∙ ap (or_else (first_broken kinds)) (c.earlier.ensures ∙ ap (λ (o : Option Fault). or_else o c.name_fault-name.result) c.home_fault.ensures ∙ ap (or_else (first_broken homes)) c.name_fault-name.ensures)
    ∙ sym (broken_of_three kinds homes names)
    ∙ ap (λ (b : Bool). first_broken (cond b [] (kinds ++ (homes ++ names)))) (sym (sym c.is_stab.ensures ∙ c.if-is_stab.false))
