-- The command that places symbols and strings (Mach-O reference, "symtab_command").
use Rattle.std.specs.Prelude.{ℕ, ◌+◌, List}
use Rattle.oc_base.specs.Numbers.{number_at}
use Rattle.oc_macho.specs.declared.symtab_command.SymtabCommand.{SymtabCommand}

-- the command at a place of the file
unfoldable pub symtab_command_at : List ℕ → ℕ → SymtabCommand
symtab_command_at file at = record {
  symoff = number_at file (at + 8) 4;
  nsyms = number_at file (at + 12) 4;
  stroff = number_at file (at + 16) 4;
  strsize = number_at file (at + 20) 4;
}
