-- The section headers of an output (gABI, "Section Header" and "Section Groups"; our profile).
use Rattle.std.specs.Prelude.{ℕ, ◌+◌, nat_lt, if◌then◌else◌, List, [], ◌∷◌, length, filter_map, Option, Some, None}
use Rattle.oc_neutral.specs.{Objects.{Object}, Elf.Kinds.{elf_tag_type, elf_tag_flags}}
use Rattle.oc_elf.specs.declared.class.ElfClass.{ElfClass}
use Rattle.oc_elf.specs.declared.constants.TheConstants.{SHT_SYMTAB, SHT_SYMTAB_SHNDX, SHT_STRTAB, SHT_GROUP, GRP_ENTRY_SIZE, SHNDX_SIZE}
use Rattle.oc_elf.specs.{declared.shdr.Shdr.{Shdr}, Classes.{is_big, reloc_type, word_of}, Shdr.{null_shdr}, Sym.{sym_size}, Rel.{rel_size}}
use Rattle.oc_elf.specs.{declared.constants.TheConstants.{FIRST_EXTENDED, SHF_INFO_LINK}, Structures.{word_bytes}}
use Rattle.oc_shelf.specs.Writing.Parts.{Laid}
use Rattle.oc_elf_file.specs.Heads.{Head, NullHead, GroupHead, SectionHead, RelocHead, SymtabHead, ShndxHead, StrtabHead, ShstrtabHead, heads_of, head_where, section_number, is_symtab_head, is_strtab_head, is_shstrtab_head, head_name}
use Rattle.oc_elf_file.specs.{Lines.{inner_lines, numbered_lines, signature_number}, Groups.{member_flag}}
use Rattle.oc_elf_file.specs.{Layout.{Part, FileHead, Body, HeadTable, body_size, head_names, laid_parts}, Symbols.{offset_in}}

-- the section header of a string table that lies at a place; others differ from it
abbrev pub plain_header : ElfClass → Object → ℕ → Head → Shdr
plain_header class n at h = record {
  sh_name = offset_in (head_names class n) (head_name class h);
  sh_type = SHT_STRTAB;
  sh_flags = 0;
  sh_offset = at;
  sh_size = body_size class n h;
  sh_link = 0;
  sh_info = 0;
  sh_addralign = 1;
  sh_entsize = 0;
}

-- the section header of what lies at a place
unfoldable pub shdr_of : ElfClass → Object → ℕ → Head → Shdr
shdr_of class n at NullHead = null_shdr
shdr_of class n at (GroupHead k g) = record (plain_header class n at (GroupHead k g)) {
  sh_type = SHT_GROUP;
  sh_link = head_where n is_symtab_head;
  sh_info = signature_number (numbered_lines n) k g;
  sh_addralign = GRP_ENTRY_SIZE;
  sh_entsize = GRP_ENTRY_SIZE;
}
shdr_of class n at (SectionHead k s) = record (plain_header class n at (SectionHead k s)) {
  sh_type = elf_tag_type s.tag;
  sh_flags = elf_tag_flags s.tag + member_flag s;
  sh_size = s.size;
  sh_addralign = s.align;
}
shdr_of class n at (RelocHead k s) = record (plain_header class n at (RelocHead k s)) {
  sh_type = reloc_type (word_of class);
  sh_flags = SHF_INFO_LINK + member_flag s;
  sh_link = head_where n is_symtab_head;
  sh_info = section_number n k;
  sh_addralign = word_bytes (word_of class);
  sh_entsize = rel_size (word_of class);
}
shdr_of class n at SymtabHead = record (plain_header class n at SymtabHead) {
  sh_type = SHT_SYMTAB;
  sh_link = head_where n is_strtab_head;
  sh_info = length (inner_lines n);
  sh_addralign = word_bytes (word_of class);
  sh_entsize = sym_size (word_of class);
}
shdr_of class n at ShndxHead = record (plain_header class n at ShndxHead) {
  sh_type = SHT_SYMTAB_SHNDX;
  sh_link = head_where n is_symtab_head;
  sh_addralign = SHNDX_SIZE;
  sh_entsize = SHNDX_SIZE;
}
shdr_of class n at StrtabHead = plain_header class n at StrtabHead
shdr_of class n at ShstrtabHead = plain_header class n at ShstrtabHead

-- the section header of a part that has one
abbrev pub part_header : ElfClass → Object → Laid Part → Option Shdr
part_header class n l = elim l.part [ FileHead ↦ None | Body h ↦ Some (shdr_of class n l.at h) | HeadTable ↦ None ]

-- the section headers, in the order of the parts, as they are read: the first is that of no section
unfoldable pub made_headers : ElfClass → Object → List Shdr
made_headers class n = filter_map (part_header class n) (laid_parts class n)

-- the number of the header of the names of sections, where header 0 has it
abbrev pub extended_names : ℕ → ℕ
extended_names k = if nat_lt k FIRST_EXTENDED then 0 else k

-- header 0 as it is written: where sections are many, it has their number, and that of the names of sections where the file header has no room
abbrev pub zero_shdr : ElfClass → Object → Shdr
zero_shdr class n = if is_big class then record null_shdr { sh_size = length (heads_of n); sh_link = extended_names (head_where n is_shstrtab_head) } else null_shdr

-- headers with another first one
abbrev pub with_first : Shdr → List Shdr → List Shdr
with_first first [] = []
with_first first (s ∷ rest) = first ∷ rest

-- the section headers as they are written
unfoldable pub stored_headers : ElfClass → Object → List Shdr
stored_headers class n = with_first (zero_shdr class n) (made_headers class n)
