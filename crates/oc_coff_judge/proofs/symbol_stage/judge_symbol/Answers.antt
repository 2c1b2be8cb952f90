-- Part by part.
use Rattle.oc_coff_judge.proofs.JudgedSymbols.{entry_symbol, parts_told}
use Rattle.oc_coff_judge.proofs.symbol_stage.judge_symbol.Goals as goal

pub returns : goal.returns
returns c =
    parts_told c.args.coff.now c.args.j c.symbol-s.result c.args.again c.place_fault.result c.class_fault.result c.tag_fault.result c.name_fault-name.result c.earlier-class.result c.earlier-tag.result c.earlier.result
    (entry_symbol c.args.coff.now c.args.j c.symbol-s.result c.symbol-s.ensures) c.place_fault.ensures c.class_fault.ensures c.tag_fault.ensures c.name_fault-name.ensures c.earlier-tag.ensures c.earlier-class.ensures c.earlier.ensures
