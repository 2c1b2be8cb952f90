-- Section headers (Mach-O reference, "section" and "section_64").
use Rattle.std.specs.Prelude.{ℕ, ◌+◌, List, take, drop}
use Rattle.oc_base.specs.{declared.format.Word.{Word}, declared.format.Word.TheVariants.{W32, W64}, Numbers.{number_at}}
use Rattle.oc_macho.specs.declared.section_header.SectionHeader.{SectionHeader}

-- the size of one
abbrev pub section_header_size : Word → ℕ
section_header_size W32 = 68
section_header_size W64 = 80

-- the section header at a place of the file
unfoldable pub section_header_at : Word → List ℕ → ℕ → SectionHeader
section_header_at W32 file at = record {
  sectname = take 16 (drop at file);
  segname = take 16 (drop (at + 16) file);
  addr = number_at file (at + 32) 4;
  size = number_at file (at + 36) 4;
  offset = number_at file (at + 40) 4;
  align = number_at file (at + 44) 4;
  reloff = number_at file (at + 48) 4;
  nreloc = number_at file (at + 52) 4;
  flags = number_at file (at + 56) 4;
}
section_header_at W64 file at = record {
  sectname = take 16 (drop at file);
  segname = take 16 (drop (at + 16) file);
  addr = number_at file (at + 32) 8;
  size = number_at file (at + 40) 8;
  offset = number_at file (at + 48) 4;
  align = number_at file (at + 52) 4;
  reloff = number_at file (at + 56) 4;
  nreloc = number_at file (at + 60) 4;
  flags = number_at file (at + 64) 4;
}
