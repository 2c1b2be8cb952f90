-- The command for a segment (Mach-O reference, "segment_command" and "segment_command_64").
use Rattle.std.specs.Prelude.{ℕ, ◌+◌, List, take, drop}
use Rattle.oc_base.specs.{declared.format.Word.{Word}, declared.format.Word.TheVariants.{W32, W64}, Numbers.{number_at}}
use Rattle.oc_macho.specs.{declared.constants.TheConstants.{LC_SEGMENT, LC_SEGMENT_64}, declared.segment_command.SegmentCommand.{SegmentCommand}}

-- the number of the command in files of that word
abbrev pub segment_number : Word → ℕ
segment_number W32 = LC_SEGMENT
segment_number W64 = LC_SEGMENT_64

-- that of the other word
abbrev pub foreign_number : Word → ℕ
foreign_number W32 = LC_SEGMENT_64
foreign_number W64 = LC_SEGMENT

-- the size of the command without its section headers
abbrev pub segment_command_size : Word → ℕ
segment_command_size W32 = 56
segment_command_size W64 = 72

-- the command at a place of the file
unfoldable pub segment_command_at : Word → List ℕ → ℕ → SegmentCommand
segment_command_at W32 file at = record {
  segname = take 16 (drop (at + 8) file);
  vmaddr = number_at file (at + 24) 4;
  vmsize = number_at file (at + 28) 4;
  fileoff = number_at file (at + 32) 4;
  filesize = number_at file (at + 36) 4;
  maxprot = number_at file (at + 40) 4;
  initprot = number_at file (at + 44) 4;
  nsects = number_at file (at + 48) 4;
  flags = number_at file (at + 52) 4;
}
segment_command_at W64 file at = record {
  segname = take 16 (drop (at + 8) file);
  vmaddr = number_at file (at + 24) 8;
  vmsize = number_at file (at + 32) 8;
  fileoff = number_at file (at + 40) 8;
  filesize = number_at file (at + 48) 8;
  maxprot = number_at file (at + 56) 4;
  initprot = number_at file (at + 60) 4;
  nsects = number_at file (at + 64) 4;
  flags = number_at file (at + 68) 4;
}
