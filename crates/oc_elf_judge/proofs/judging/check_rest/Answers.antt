-- The symbol table lies in the file.
use Rattle.std.proofs.Common.{sym, subst}
use Rattle.oc_elf_judge.specs.Known.{IsSymtab}
use Rattle.oc_elf_judge.proofs.{SymbolLemmas.{locals_first}, TableLemmas.{are_signed, symtab_is}}
use Rattle.oc_elf_judge.proofs.judging.check_rest.Goals as goal

pub weigh_symbols-requires : goal.weigh_symbols-requires
weigh_symbols-requires c =
    subst (IsSymtab c.args.frame.now) (sym c.table_header-table.ensures)
    (symtab_is c.args.frame.now c.is_frame.ensures c.in-Ok.ensures.clean c.in-Ok.tables.symtab c.in-Ok.ensures.symtab)

pub check_symbols-requires-clause-table : goal.check_symbols-requires-clause-table
check_symbols-requires-clause-table c =
    subst (IsSymtab c.args.frame.now) (sym c.table_header-table.ensures)
    (symtab_is c.args.frame.now c.is_frame.ensures c.in-Ok.ensures.clean c.in-Ok.tables.symtab c.in-Ok.ensures.symtab)

pub check_symbols-requires-clause-signed : goal.check_symbols-requires-clause-signed
check_symbols-requires-clause-signed c = are_signed c.args.frame.now c.is_frame.ensures c.in-Ok.ensures.clean

pub symbol_positions-requires-clause-table : goal.symbol_positions-requires-clause-table
symbol_positions-requires-clause-table c =
    subst (IsSymtab c.args.frame.now) (sym c.table_header-table.ensures)
    (symtab_is c.args.frame.now c.is_frame.ensures c.in-Ok.ensures.clean c.in-Ok.tables.symtab c.in-Ok.ensures.symtab)

pub check_relocs-requires-clause-aims : goal.check_relocs-requires-clause-aims
check_relocs-requires-clause-aims c = record {
  table_is = subst (IsSymtab c.args.frame.now) (sym c.table_header-table.ensures)
      (symtab_is c.args.frame.now c.is_frame.ensures c.in-Ok.ensures.clean c.in-Ok.tables.symtab c.in-Ok.ensures.symtab);
  sections_are = c.in_ok-sections.ensures;
  symbols_are = c.in_ok-symbols.ensures;
  locals_are = locals_first c.args.frame.now c.in-Ok-check_symbols.ensures.clean;
}
