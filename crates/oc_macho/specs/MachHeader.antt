-- The file header (Mach-O reference, "mach_header" and "mach_header_64").
use Rattle.std.specs.Prelude.{ℕ, List}
use Rattle.oc_base.specs.{declared.format.Word.{Word}, declared.format.Word.TheVariants.{W32, W64}, declared.format.Format.{Format}}
use Rattle.oc_base.specs.{declared.format.Format.TheVariants.{Mac32, Mac64}, Numbers.{number_at}}
use Rattle.oc_macho.specs.{declared.constants.TheConstants.{CPU_TYPE_X86, CPU_TYPE_X86_64}, declared.mach_header.MachHeader.{MachHeader}}

-- the format of that word
abbrev pub mach_format : Word → Format
mach_format W32 = Mac32
mach_format W64 = Mac64

-- the bytes of an address
abbrev pub address_size : Word → ℕ
address_size W32 = 4
address_size W64 = 8

-- the processor for which the files of that word are
abbrev pub cpu_type : Word → ℕ
cpu_type W32 = CPU_TYPE_X86
cpu_type W64 = CPU_TYPE_X86_64

-- the size of the file header
abbrev pub mach_header_size : Word → ℕ
mach_header_size W32 = 28
mach_header_size W64 = 32

-- the file header
unfoldable pub mach_header_of : List ℕ → MachHeader
mach_header_of file = record {
  magic = number_at file 0 4;
  cputype = number_at file 4 4;
  cpusubtype = number_at file 8 4;
  filetype = number_at file 12 4;
  ncmds = number_at file 16 4;
  sizeofcmds = number_at file 20 4;
  flags = number_at file 24 4;
}
