-- The sections that are carried (gABI, "Sections" and "Section Groups"; our profile).
use Rattle.std.specs.Prelude.{ℕ, max, if◌then◌else◌, List, length, Option, Some, None}
use Rattle.oc_linking.specs.Parts.{Section}
use Rattle.oc_neutral.specs.Elf.Kinds.{elf_tag}
use Rattle.oc_shelf.specs.Reading.Collected.{collected, position_in}
use Rattle.oc_elf.specs.{declared.shdr.Shdr.{Shdr}, Frames.{FileFrame, header_at}, Sections.{is_carried, section_name, kind_of, contents_of}}
use Rattle.oc_elf.specs.Groups.{group_key}

-- section k with this header, which is carried; the alignment 0 is 1
unfoldable pub section_with : FileFrame → ℕ → Shdr → Section
section_with f k s = record {
  name = section_name f s;
  kind = kind_of f s;
  align = max 1 s.sh_addralign;
  size = s.sh_size;
  contents = contents_of f s;
  tag = elf_tag s.sh_type s.sh_flags;
  number = k;
  group = group_key f k;
}

-- section k, where it is carried
unfoldable pub section_of : FileFrame → ℕ → Option Section
section_of f k = if is_carried (header_at f.headers k) then Some (section_with f k (header_at f.headers k)) else None

-- the carried sections
abbrev pub sections_of : FileFrame → List Section
sections_of f = collected (section_of f) (length f.headers)

-- the position of section k among the carried ones, where it is one
abbrev pub position_of : FileFrame → ℕ → Option ℕ
position_of f k = position_in (section_of f) k
