-- The canonical file of an object that is ready for ELF (gABI; i386 and x86-64 psABI; our profile).
use Rattle.std.specs.Prelude.{ℕ, not, ◌&&◌, nat_lt, if◌then◌else◌, List, [], length, flat_map}
use Rattle.oc_neutral.specs.Objects.{Object}
use Rattle.oc_elf.specs.{declared.class.ElfClass.{ElfClass}, declared.constants.TheConstants.{ELFDATA2LSB, EV_CURRENT, ET_REL, SHN_XINDEX}}
use Rattle.oc_elf.specs.{declared.ehdr.Ehdr.{Ehdr}, Classes.{machine_of, is_big, word_of}, Ehdr.{ehdr_size}, Shdr.{shdr_size}}
use Rattle.oc_elf.specs.{declared.constants.TheConstants.{FIRST_EXTENDED}, Structures.{ehdr_bytes, shdr_bytes, sym_bytes, index_bytes, rel_bytes}}
use Rattle.oc_shelf.specs.Writing.Parts.{joined, place_where}
use Rattle.oc_elf_file.specs.Heads.{Head, NullHead, GroupHead, SectionHead, RelocHead, SymtabHead, ShndxHead, StrtabHead, ShstrtabHead, heads_of, head_where, is_shstrtab_head}
use Rattle.oc_elf_file.specs.Symbols.{line_entry}
use Rattle.oc_elf_file.specs.{Lines.{Line, lines_of, numbered_lines}, Groups.{group_words, group_bytes}, Bodies.{raw_of, rels_of}}
use Rattle.oc_elf_file.specs.{Layout.{Part, FileHead, Body, HeadTable, head_names, line_names, strings_of, laid_parts, is_head_table}, Headers.{stored_headers}}

-- how many headers there are, by the file header: where sections are many, header 0 has the number
abbrev pub shown_count : ElfClass → ℕ → ℕ
shown_count class count = if is_big class then 0 else count

-- and the number of that of their names, where there is room for it
abbrev pub shown_names : ElfClass → ℕ → ℕ
shown_names class k = if is_big class && not (nat_lt k FIRST_EXTENDED) then SHN_XINDEX else k

-- the file header
unfoldable pub file_header : ElfClass → Object → Ehdr
file_header class n = record {
  ei_data = ELFDATA2LSB;
  ei_version = EV_CURRENT;
  e_type = ET_REL;
  e_machine = machine_of (word_of class);
  e_version = EV_CURRENT;
  e_shoff = place_where is_head_table (laid_parts class n);
  e_ehsize = ehdr_size (word_of class);
  e_shentsize = shdr_size (word_of class);
  e_shnum = shown_count class (length (heads_of n));
  e_shstrndx = shown_names class (head_where n is_shstrtab_head);
}

-- what a header is of
abbrev pub body_bytes : ElfClass → Object → Head → List ℕ
body_bytes class n NullHead = []
body_bytes class n (GroupHead k g) = group_bytes (group_words n k)
body_bytes class n (SectionHead k s) = raw_of (word_of class) n k s
body_bytes class n (RelocHead k s) = flat_map (rel_bytes (word_of class)) (rels_of class (numbered_lines n) n k)
body_bytes class n SymtabHead = flat_map (λ (line : Line). sym_bytes class (line_entry n line)) (lines_of n)
body_bytes class n ShndxHead = flat_map (λ (line : Line). index_bytes (line_entry n line)) (lines_of n)
body_bytes class n StrtabHead = strings_of (line_names n)
body_bytes class n ShstrtabHead = strings_of (head_names class n)

-- the bytes of a part
unfoldable pub part_bytes : ElfClass → Object → Part → List ℕ
part_bytes class n FileHead = ehdr_bytes (word_of class) (file_header class n)
part_bytes class n (Body h) = body_bytes class n h
part_bytes class n HeadTable = flat_map (shdr_bytes (word_of class)) (stored_headers class n)

-- the canonical file
unfoldable pub elf_file : ElfClass → Object → List ℕ
elf_file class n = joined (part_bytes class n) 0 (laid_parts class n)
