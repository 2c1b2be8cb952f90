-- What is known of load commands that were walked (our profile).
use Rattle.std.specs.Prelude.{◌≡◌, ℕ, ◌+◌, ◌≤◌, Bool, false, nat_eq, if◌then◌else◌, List, Option, Some, None}
use Rattle.oc_base.specs.declared.format.Word.{Word}
use Rattle.oc_linking.specs.Numbers.{or_else}
use Rattle.oc_macho.specs.{declared.constants.TheConstants.{LC_SYMTAB}, declared.commands.Commands.{Commands}, declared.load_command.LoadCommand.{LoadCommand}}
use Rattle.oc_macho.specs.{LoadCommand.{load_command_at}, SegmentCommand.{segment_number}, Tables.{command_place, first_command}}
use Rattle.oc_macho.specs.HeaderFaults.{any_bad, commands_end, count_upto, has_bad_commands, is_bad}

-- the command at a place is this one, which breaks no rule and lies before that end
abbrev pub IsGoodCommand : Word → List ℕ → ℕ → ℕ → LoadCommand → Type 0
IsGoodCommand w file end at c = (is_bad w file at ≡ false) × (c ≡ load_command_at file at) × (at + c.cmdsize ≤ end)

-- no commands
abbrev pub no_commands : Commands
no_commands = record { segments = 0; segment = None; symtabs = 0; symtab = None }

-- the first of two places, where the second counts if the test holds
abbrev pub and_place : Option ℕ → Bool → ℕ → Option ℕ
and_place before is at = or_else before (if is then Some at else None)

-- with one more command, of that number and at a place
abbrev pub with_command : Word → Commands → ℕ → ℕ → Commands
with_command w c cmd at = record {
  segments = c.segments + (if nat_eq cmd (segment_number w) then 1 else 0);
  segment = and_place c.segment (nat_eq cmd (segment_number w)) at;
  symtabs = c.symtabs + (if nat_eq cmd LC_SYMTAB then 1 else 0);
  symtab = and_place c.symtab (nat_eq cmd LC_SYMTAB) at;
}

-- the first n commands break no rule, and this is where those of two kinds lie
pub record AreCommands (w : Word) (file : List ℕ) (n : ℕ) (c : Commands) : Type 0 where
  pub good : any_bad w file n ≡ false
  pub segments : c.segments ≡ count_upto w file (segment_number w) n
  pub segment : c.segment ≡ first_command w file (segment_number w) n
  pub symtabs : c.symtabs ≡ count_upto w file LC_SYMTAB n
  pub symtab : c.symtab ≡ first_command w file LC_SYMTAB n

-- these n are all commands, and break no rule
abbrev pub AreGoodCommands : Word → List ℕ → ℕ → Commands → Type 0
AreGoodCommands w file n c = (has_bad_commands w file ≡ false) × AreCommands w file n c

-- the first n break no rule, and the next one begins here
pub record IsWalking (w : Word) (file : List ℕ) (n at : ℕ) (c : Commands) : Type 0 where
  pub are : AreCommands w file n c
  pub place : at ≡ command_place w file n
  pub inside : at ≤ commands_end w file
  pub segments_few : c.segments ≤ n
  pub symtabs_few : c.symtabs ≤ n
