-- The header of a canonical file is well formed.
use Rattle.oc_elf.specs.{declared.shdr.Shdr.{Shdr}, declared.class.ElfClass.{ElfClass}, Classes.{is_big, machine_of, word_of}, Ehdr.{ehdr_size}}
use Rattle.oc_elf.specs.{Shdr.{shdr_size}, Headers.{header_conditions, names_conditions}, Structures.{ehdr_bytes, shdr_bytes}}
use Rattle.std.proofs.Common.{◌≡◌, ℕ, ◌+◌, ◌*◌, ◌≤◌, Bool, true, false, not, ◌&&◌, eqb, List, length, refl, ◌∙◌, ap, arith}
use Rattle.std.specs.Prelude.{flat_map, nat_lt}
use Rattle.std.proofs.lemmas.{Bool.{ne_eqb}, Bool.Decides.{nat_tests}, Option.{slice_get_within}}
use Rattle.oc_base.proofs.NumberLaws.{length-table}
use Rattle.oc_neutral.specs.Objects.{Object}
use Rattle.oc_shelf.specs.Writing.Parts.{place_where}
use Rattle.oc_shelf.proofs.{ReadingLaws.StageLemmas.{Unbroken}, WritingLaws.StandingLemmas.{stands_inside}}
use Rattle.oc_base.specs.declared.format.Word.{Word}
use Rattle.oc_elf_file.specs.{Heads.{ShstrtabHead, heads_of, head_where, is_shstrtab_head}, Layout.{laid_parts, is_head_table}}
use Rattle.oc_elf_file.specs.{Headers.{shdr_of, zero_shdr, stored_headers}, Canonical.{file_header, elf_file}}
use Rattle.oc_elf_file.proofs.{StructureLaws.{length-ehdr_bytes, length-shdr_bytes}, HeadLaws.{shstrtab_at}}
use Rattle.oc_elf_file.proofs.{PartLaws.{length-stored_headers, stands_file_header, table_stands}, FrameLaws.{IsCodable, made_frame}, CodedLaws.{IsForElf}}
use Rattle.oc_elf_file.proofs.{TableLaws.{header_is}, HeadCounts.{plain_heads}}

-- a range that lies in the file
pub within_file : (size end : ℕ) → end ≤ size → nat_lt size end ≡ false
within_file size end l = grind (arith, nat_tests)

module _ (class : ElfClass) (n : Object) (is : IsForElf class n) (fits : IsCodable class n) where
  abbrev file : List ℕ
  file = elf_file class n

  -- the number of headers
  some_heads : eqb (length (heads_of n)) 0 ≡ false
  some_heads = let low = slice_get_within (heads_of n) (head_where n is_shstrtab_head) ShstrtabHead (shstrtab_at n) in ne_eqb (length (heads_of n)) 0 (λ e. omega (arith, e, low))

  -- no number stands elsewhere
  not_extended : is_big class ≡ false → eqb (head_where n is_shstrtab_head) 0xFFFF ≡ false
  not_extended plain =
      let low = slice_get_within (heads_of n) (head_where n is_shstrtab_head) ShstrtabHead (shstrtab_at n) in
      let few = plain_heads class n is plain in
      ne_eqb (head_where n is_shstrtab_head) 0xFFFF (λ e. omega (arith, e, low, few))

  table_inside : place_where is_head_table (laid_parts class n) + shdr_size (word_of class) * length (heads_of n) ≤ length file
  table_inside =
      let inside = stands_inside file (flat_map (shdr_bytes (word_of class)) (stored_headers class n)) (place_where is_head_table (laid_parts class n)) (table_stands class n) in
      let size : length (flat_map (shdr_bytes (word_of class)) (stored_headers class n)) ≡ shdr_size (word_of class) * length (heads_of n)
      = length-table (shdr_bytes (word_of class)) (shdr_size (word_of class)) (stored_headers class n) (length-shdr_bytes (word_of class)) ∙ ap (λ m. shdr_size (word_of class) * m) (length-stored_headers class n) in
      omega (arith, inside, size)

  header_inside : ehdr_size (word_of class) ≤ length file
  header_inside =
      let inside = stands_inside file (ehdr_bytes (word_of class) (file_header class n)) 0 (stands_file_header class n) in
      let size = length-ehdr_bytes (word_of class) (file_header class n) in
      omega (arith, inside, size)

  same : (word : Word) → (eqb (ehdr_size word) (ehdr_size word) ≡ true) × (eqb (machine_of word) (machine_of word) ≡ true) × (eqb (shdr_size word) (shdr_size word) ≡ true)
  same word = grind arith

  -- header 0 lies in the file
  first_inside : place_where is_head_table (laid_parts class n) + shdr_size (word_of class) ≤ length file
  first_inside =
      let low = slice_get_within (heads_of n) (head_where n is_shstrtab_head) ShstrtabHead (shstrtab_at n) in
      let all = table_inside in
      let more = times (word_of class) (length (heads_of n)) (omega (arith, low)) in
      omega (arith, all, more)
    where
      times : (word : Word) (m : ℕ) → 1 ≤ m → shdr_size word ≤ shdr_size word * m
      times word m some = grind arith

  pub header_clean : Unbroken (header_conditions class (length file) (file_header class n) (zero_shdr class n))
  unfolding header_conditions file_header
  header_clean = by (is_big class) refl
    where
      by : (b : Bool) → is_big class ≡ b → Unbroken (header_conditions class (length file) (file_header class n) (zero_shdr class n))
      by true big =
          let s = same (word_of class) in
          rw (big, s.0, s.1, s.2, some_heads) (
            within_file (length file) (ehdr_size (word_of class)) header_inside,
            (
              refl,
              (
                refl,
                (
                  refl,
                  (
                    refl,
                    (
                      within_file (length file) (place_where is_head_table (laid_parts class n) + shdr_size (word_of class)) first_inside,
                      (
                        refl,
                        (within_file (length file) (place_where is_head_table (laid_parts class n) + shdr_size (word_of class) * length (heads_of n)) table_inside, tt),
                      ),
                    ),
                  ),
                ),
              ),
            ),
          )
      by false plain =
          let s = same (word_of class) in
          rw (plain, s.0, s.1, s.2, some_heads, not_extended plain) (
            within_file (length file) (ehdr_size (word_of class)) header_inside,
            (refl, (refl, (refl, (refl, (within_file (length file) (place_where is_head_table (laid_parts class n) + shdr_size (word_of class) * length (heads_of n)) table_inside, tt))))),
          )

  pub names_clean : Unbroken (names_conditions (length (made_frame class n).headers) (made_frame class n).names)
  unfolding made_frame shdr_of
  names_clean =
      let b = header_is class n is fits (head_where n is_shstrtab_head) ShstrtabHead (shstrtab_at n) in
      (ap (λ (x : Shdr). not (eqb (length (made_frame class n).headers) 0) && not (eqb x.sh_type 3)) b.1 ∙ and_no (not (eqb (length (made_frame class n).headers) 0)), tt)
    where
      and_no : (b : Bool) → (b && false) ≡ false
      and_no b = grind arith
