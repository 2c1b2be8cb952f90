-- A section that is left out is given nothing; any other is carried, and its table lies in the file.
use Rattle.std.proofs.Common.{◌+◌, ◌∙◌, sym, subst}
use Rattle.std.specs.Option.{IsSome}
use Rattle.oc_shows.proofs.BuiltSteps.{added_same}
use Rattle.oc_elf_read.specs.{Built.{symboled}, Given.{given_before}}
use Rattle.oc_elf_judge.specs.Known.{IsTable}
use Rattle.oc_elf.specs.Tables.{symbol_count}
use Rattle.oc_elf_read.proofs.{AddedTables.{given_left, kept_position}, FoundFields.{stages_clean}}
use Rattle.oc_elf_judge.proofs.TableLemmas.{table_is}
use Rattle.oc_elf_read.proofs.added_relocs.add_relocs_of.Goals as goal

pub returns-then-not-is_kept : goal.returns-then-not-is_kept
returns-then-not-is_kept c =
    added_same (symboled c.args.frame.now (symbol_count c.args.frame.now)) c.args.builder.now (given_before c.args.frame.now c.args.keep.now c.args.i) (given_before c.args.frame.now c.args.keep.now (c.args.i + 1)) c.requires.before
    (given_left c.args.frame.now c.args.keep.now c.is_frame.ensures c.args.i (sym c.is_kept.ensures ∙ c.if-not-is_kept.true))

pub unwrap-requires : goal.unwrap-requires
unwrap-requires c =
    subst (λ o. IsSome o) (sym (c.get-2.ensures ∙ c.requires.aims.sections_are.each c.args.i c.requires.low))
    (kept_position c.args.frame.now c.args.keep.now c.args.i (sym c.is_kept.ensures ∙ c.if-not-is_kept.false))

pub add_table-requires-clause-table : goal.add_table-requires-clause-table
add_table-requires-clause-table c =
    subst (IsTable c.args.frame.now c.args.i) (sym c.table_header-table.ensures)
    (table_is c.args.frame.now c.is_frame.ensures (stages_clean c.args.frame.now c.args.keep.now c.requires.clean).sections c.args.i c.get.result (c.get.ensures ∙ c.requires.tables.each c.args.i c.requires.low))
