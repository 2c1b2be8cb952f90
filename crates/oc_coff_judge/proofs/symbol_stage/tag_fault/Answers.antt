-- What a weak external tags is a symbol that it may tag.
use Rattle.oc_coff.specs.Files.{tables_in}
use Rattle.std.proofs.Common.{◌∙◌, None, Some, sym, ap, cond}
use Rattle.oc_base.specs.declared.code.Code.TheVariants.{SymbolKind}
use Rattle.oc_coff_judge.specs.Classed.{symbol_fault_at}
use Rattle.oc_coff_judge.proofs.JudgedSymbols.{tags_lost, tags_none, tags_told}
use Rattle.oc_coff_judge.proofs.symbol_stage.tag_fault.Goals as goal

pub returns-then-not-is_weak : goal.returns-then-not-is_weak
returns-then-not-is_weak c = tags_none c.args.coff.now c.args.j c.symbol-s.result c.is_weak.result c.symbol-s.ensures c.is_weak.ensures c.if-not-is_weak.true

pub returns-then-can_be_tagged : goal.returns-then-can_be_tagged
returns-then-can_be_tagged c =
    sym (ap (λ b. cond b None (Some (symbol_fault_at (tables_in c.args.coff.now) c.args.j SymbolKind))) c.if-can_be_tagged.true)
    ∙ tags_told c.args.coff.now c.args.j c.symbol-s.result c.is_weak.result c.symbol-s.ensures c.is_weak.ensures c.in-Some.d c.symbol-tagged.result c.can_be_tagged.result c.if-not-is_weak.false c.in-Some.ensures.is
    c.symbol-tagged.ensures (c.can_be_tagged.ensures c.args.coff.now c.requires.found.sections_are)

pub returns-else-can_be_tagged : goal.returns-else-can_be_tagged
returns-else-can_be_tagged c =
    c.symbol_fault.ensures ∙ sym (ap (λ b. cond b None (Some (symbol_fault_at (tables_in c.args.coff.now) c.args.j SymbolKind))) c.if-can_be_tagged.false)
    ∙ tags_told c.args.coff.now c.args.j c.symbol-s.result c.is_weak.result c.symbol-s.ensures c.is_weak.ensures c.in-Some.d c.symbol-tagged.result c.can_be_tagged.result c.if-not-is_weak.false c.in-Some.ensures.is
    c.symbol-tagged.ensures (c.can_be_tagged.ensures c.args.coff.now c.requires.found.sections_are)

pub returns-in-None : goal.returns-in-None
returns-in-None c =
    c.symbol_fault-in-None.ensures ∙ tags_lost c.args.coff.now c.args.j c.symbol-s.result c.is_weak.result c.symbol-s.ensures c.is_weak.ensures c.if-not-is_weak.false c.in-None.ensures
