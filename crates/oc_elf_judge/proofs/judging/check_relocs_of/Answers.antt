-- The relocation table lies in the file.
use Rattle.std.proofs.Common.{◌∙◌, sym, subst}
use Rattle.oc_elf_judge.specs.Known.{IsTable}
use Rattle.oc_elf_judge.proofs.{JudgingLemmas.{kept_small}, TableLemmas.{table_is}}
use Rattle.oc_elf_judge.proofs.judging.check_relocs_of.Goals as goal

pub check_table-requires-clause-table : goal.check_table-requires-clause-table
check_table-requires-clause-table c =
    subst (IsTable c.args.frame.now c.args.i) (sym c.table_header-table.ensures)
    (table_is c.args.frame.now c.is_frame.ensures c.requires.sections c.args.i c.get.result (c.get.ensures ∙ c.requires.tables.each c.args.i c.requires.there))

pub check_table-requires-clause-small : goal.check_table-requires-clause-small
check_table-requires-clause-small c = kept_small c.args.frame.now c.args.keep.now c.args.i c.is_frame.ensures c.requires.sections c.requires.there (sym c.is_kept.ensures ∙ c.if-not-is_kept.false)
