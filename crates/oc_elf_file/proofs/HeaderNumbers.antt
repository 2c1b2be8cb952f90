-- What the file header of a canonical file says of the section headers: by this a file with many sections is told from one with few.
use Rattle.std.proofs.Common.{◌≡◌, ℕ, ◌+◌, ◌≤◌, true, false, cond, ◌&&◌, not, eqb, List, [], ◌∷◌, ◌++◌, length, map, ap, arith}
use Rattle.std.specs.Prelude.{nat_lt}
use Rattle.std.proofs.lemmas.{Bool.{ne_eqb}, Option.{slice_get_within}}
use Rattle.oc_neutral.specs.Objects.{Object}
use Rattle.oc_shelf.specs.Writing.Parts.{laid, place_where}
use Rattle.oc_shelf.proofs.WritingLaws.StandingLemmas.{stands_inside}
use Rattle.oc_elf.specs.{declared.class.ElfClass.{ElfClass}, Classes.{is_big, word_of}, Ehdr.{ehdr_size}, Structures.{ehdr_bytes}}
use Rattle.oc_base.specs.declared.format.Word.{Word}
use Rattle.oc_elf_file.specs.Heads.{Head, ShstrtabHead, heads_of, head_where, is_shstrtab_head}
use Rattle.oc_elf_file.specs.Layout.{Body, HeadTable, parts_of, part_size, part_begin, is_head_table}
use Rattle.oc_elf_file.specs.Canonical.{shown_count, shown_names, file_header, elf_file}
use Rattle.oc_elf_file.proofs.{StructureLaws.{length-ehdr_bytes}, HeadLaws.{shstrtab_at}, PartLaws.{rises, stands_file_header}, CodedLaws.{IsForElf}}
use Rattle.oc_elf_file.proofs.HeadCounts.{plain_heads}

module _ (class : ElfClass) (n : Object) where
  -- the file header is whole
  pub header_inside : ehdr_size (word_of class) ≤ length (elf_file class n)
  header_inside =
      let inside = stands_inside (elf_file class n) (ehdr_bytes (word_of class) (file_header class n)) 0 (stands_file_header class n) in
      let size = length-ehdr_bytes (word_of class) (file_header class n) in
      omega (arith, inside, size)

  table_past : (at : ℕ) (heads : List Head) → at ≤ place_where is_head_table (laid (part_begin class) (part_size class n) at (map Body heads ++ HeadTable ∷ []))
  table_past at [] = rises class at HeadTable
  table_past at (g ∷ heads) =
      let before = rises class at (Body g) in
      let rest = table_past (part_begin class at (Body g) + part_size class n (Body g)) heads in
      omega (arith, before, rest)

  -- the section headers stand behind it
  pub table_behind : ehdr_size (word_of class) ≤ (file_header class n).e_shoff
  unfolding file_header parts_of
  table_behind = let past : 0 + ehdr_size (word_of class) ≤ (file_header class n).e_shoff = table_past (0 + ehdr_size (word_of class)) (heads_of n) in omega (arith, past)

  pub some_table : eqb (file_header class n).e_shoff 0 ≡ false
  some_table =
      let behind = table_behind in
      let some = long (word_of class) in
      ne_eqb (file_header class n).e_shoff 0 (λ e. omega (arith, behind, some, e))
    where
      long : (word : Word) → 1 ≤ ehdr_size word
      long word = grind arith

  -- where sections are many, their number stands in header 0
  pub big_number : is_big class ≡ true → (file_header class n).e_shnum ≡ 0
  unfolding file_header
  big_number big = ap (λ b. cond b 0 (length (heads_of n))) big

module _ (class : ElfClass) (n : Object) (is : IsForElf class n) (plain : is_big class ≡ false) where
  -- where they are few, both numbers stand in the file header
  pub plain_number : eqb (file_header class n).e_shnum 0 ≡ false
  unfolding file_header
  plain_number =
      let low = slice_get_within (heads_of n) (head_where n is_shstrtab_head) ShstrtabHead (shstrtab_at n) in
      let same : shown_count class (length (heads_of n)) ≡ length (heads_of n) = ap (λ b. cond b 0 (length (heads_of n))) plain in
      ne_eqb (shown_count class (length (heads_of n))) 0 (λ e. omega (arith, e, same, low))

  pub plain_names : eqb (file_header class n).e_shstrndx 0xFFFF ≡ false
  unfolding file_header
  plain_names =
      let k : ℕ = head_where n is_shstrtab_head in
      let low = slice_get_within (heads_of n) k ShstrtabHead (shstrtab_at n) in
      let few = plain_heads class n is plain in
      let same : shown_names class k ≡ k = ap (λ b. cond (b && not (nat_lt k 0xFF00)) 0xFFFF k) plain in
      ne_eqb (shown_names class k) 0xFFFF (λ e. omega (arith, e, same, low, few))
