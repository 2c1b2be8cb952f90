-- Load commands: what all of them begin with (Mach-O reference, "load_command").
use Rattle.std.specs.Prelude.{ℕ, ◌+◌, List}
use Rattle.oc_base.specs.Numbers.{number_at}
use Rattle.oc_macho.specs.declared.load_command.LoadCommand.{LoadCommand}

-- the load command at a place of the file
unfoldable pub load_command_at : List ℕ → ℕ → LoadCommand
load_command_at file at = record { cmd = number_at file at 4; cmdsize = number_at file (at + 4) 4 }
