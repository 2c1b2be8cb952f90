-- The numbers in the headers of a canonical file fit their widths.
use Rattle.oc_elf.specs.{Shdr.{shdr_size, null_shdr}, Ehdr.{ehdr_size}, Sym.{sym_size}, Rel.{rel_size}, declared.class.ElfClass.{ElfClass}}
use Rattle.oc_elf.specs.{declared.shdr.Shdr.{Shdr}, Classes.{is_big, machine_of, reloc_type, word_of}}
use Rattle.oc_elf.specs.Structures.{word_bytes, ehdr_numbers, shdr_bytes, shdr_numbers}
use Rattle.std.proofs.Common.{◌≡◌, ℕ, ◌-◌, ◌^◌, ◌<◌, List, [], ◌∷◌, ◌++◌, length, Some, None, refl, sym, ◌∙◌, ap, subst, arith, length-append, Bool, true, false, not, ◌&&◌, ◌≤◌, inl, inr, cond}
use Rattle.std.specs.{Prelude.{slice_get, flat_map, nat_lt}, Option.{unwrap_or}}
use Rattle.std.proofs.lemmas.{Bool.{cases_lt, lt-ltb, le-ltb}, Option.{same_Some, slice_get_within}}
use Rattle.oc_base.specs.{Strings.{is_given, table_text, table_place, place_from, tops_of}, declared.format.Word.{Word}}
use Rattle.oc_base.specs.declared.format.Word.TheVariants.{W32, W64}
use Rattle.oc_neutral.specs.Objects.{Object}
use Rattle.oc_neutral.proofs.Positions.{there_at}
use Rattle.oc_shelf.specs.Writing.Parts.{place_where}
use Rattle.oc_shelf.proofs.{WritingLaws.PackedLemmas.{Fit}, WritingLaws.StandingLemmas.{stands_inside}, WritingLaws.StringLemmas.{name_in_table}}
use Rattle.oc_elf_file.specs.Heads.{Head, NullHead, GroupHead, SectionHead, RelocHead, SymtabHead, ShndxHead, StrtabHead, ShstrtabHead, heads_of, head_where, head_name, section_number, is_symtab_head, is_strtab_head, is_shstrtab_head}
use Rattle.oc_elf_file.specs.Lines.{Line, lines_of, inner_lines, numbered_lines, signature_number, outer_lines}
use Rattle.oc_elf_file.specs.Layout.{head_names, line_names, strings_of, body_size, laid_parts, is_head_table}
use Rattle.oc_elf_file.specs.{Headers.{plain_header, shdr_of, made_headers, extended_names, zero_shdr, stored_headers}, Symbols.{offset_in}}
use Rattle.oc_elf_file.specs.Canonical.{shown_count, shown_names, file_header, body_bytes, elf_file}
use Rattle.oc_elf_file.proofs.HeadLaws.{IsHeadAt, head_at, symtab_at, strtab_at, shstrtab_at, section_at}
use Rattle.oc_elf_file.proofs.PartLaws.{IsBody, body_stands, body_sized, length-made_headers, table_stands}
use Rattle.oc_elf_file.proofs.{CodedLaws.{IsForElf, few_sections, meets_section, size_low, power_low}, FlagLaws.{flags_low, table_flags_low}}
use Rattle.oc_elf_file.proofs.{SignatureLaws.{signature_found}, FileSize.{few_lines, small_file}, HeadCounts.{few_heads, plain_heads}, FrameLaws.{IsIndex}}

-- each field is a number of 32 bits
pub record IsSmall (s : Shdr) : Type 0 where
  pub sh_name : s.sh_name < 2 ^ 32
  pub sh_type : s.sh_type < 2 ^ 32
  pub sh_flags : s.sh_flags < 2 ^ 32
  pub sh_offset : s.sh_offset < 2 ^ 32
  pub sh_size : s.sh_size < 2 ^ 32
  pub sh_link : s.sh_link < 2 ^ 32
  pub sh_info : s.sh_info < 2 ^ 32
  pub sh_addralign : s.sh_addralign < 2 ^ 32
  pub sh_entsize : s.sh_entsize < 2 ^ 32

header_fits : (word : Word) (s : Shdr) → IsSmall s → Fit (shdr_numbers word s)
header_fits W32 s m =
    let a = m.sh_name in let b = m.sh_type in let c = m.sh_flags in let d = m.sh_offset in let e = m.sh_size in
    let f = m.sh_link in let g = m.sh_info in let h = m.sh_addralign in let i = m.sh_entsize in
    (omega (arith, a), (omega (arith, b), (omega (arith, c), (omega arith, (omega (arith, d), (omega (arith, e), (omega (arith, f), (omega (arith, g), (omega (arith, h), (omega (arith, i), tt))))))))))
header_fits W64 s m =
    let a = m.sh_name in let b = m.sh_type in let c = m.sh_flags in let d = m.sh_offset in let e = m.sh_size in
    let f = m.sh_link in let g = m.sh_info in let h = m.sh_addralign in let i = m.sh_entsize in
    (omega (arith, a), (omega (arith, b), (omega (arith, c), (omega arith, (omega (arith, d), (omega (arith, e), (omega (arith, f), (omega (arith, g), (omega (arith, h), (omega (arith, i), tt))))))))))

word_low : (word : Word) → word_bytes word < 2 ^ 32
word_low word = grind arith

type_low : (word : Word) → reloc_type word < 2 ^ 32
type_low word = grind arith

module _ (class : ElfClass) (n : Object) (is : IsForElf class n) where
  -- ... what stands in the file is small

  -- a body ends in the file
  body_low : (k : ℕ) (h : Head) → slice_get (heads_of n) k ≡ Some h → (b : IsBody class n k h) → (b.at < 2 ^ 32) × (body_size class n h < 2 ^ 32)
  body_low k h here b =
      let in_file = stands_inside (elf_file class n) (body_bytes class n h) b.at b.there in
      let size = body_sized class n h in
      let small = small_file class n is in
      (omega (arith, in_file, small), omega (arith, in_file, small, size))

  -- an offset in a string table that is in the file
  offset_low : (names : List (List ℕ)) (name : List ℕ) → length (strings_of names) < 2 ^ 32 → offset_in names name < 2 ^ 32
  unfolding table_place
  offset_low names name small = by (is_given names name) refl
    where
      by : (b : Bool) → is_given names name ≡ b → offset_in names name < 2 ^ 32
      by true g =
          let t = name_in_table 1 names name g in
          let above = t.above in
          let in_table = stands_inside (table_text names) (name ++ 0 ∷ []) (offset_in names name - 1) t.there in
          let long = length-append name (0 ∷ []) in
          omega (arith, above, in_table, long, small)
      by false g = let e : offset_in names name ≡ 0 = ap (λ b. unwrap_or (cond b (place_from 1 (tops_of names) name) None) 0) g in omega (arith, e)

  head_offset_low : (h : Head) → offset_in (head_names class n) (head_name class h) < 2 ^ 32
  head_offset_low h =
      let k : ℕ = head_where n is_shstrtab_head in
      offset_low (head_names class n) (head_name class h) (body_low k ShstrtabHead (shstrtab_at n) (body_stands class n k ShstrtabHead (shstrtab_at n))).1

  pub name_low : (name : List ℕ) → offset_in (line_names n) name < 2 ^ 32
  name_low name =
      let k : ℕ = head_where n is_strtab_head in
      offset_low (line_names n) name (body_low k StrtabHead (strtab_at n) (body_stands class n k StrtabHead (strtab_at n))).1

  -- a header that is there has a low number
  pub head_low : (k : ℕ) (h : Head) → slice_get (heads_of n) k ≡ Some h → k < 4194305
  head_low k h here = let low = slice_get_within (heads_of n) k h here in let few = few_heads class n is in omega (arith, low, few)

  pub head_index : (k : ℕ) (h : Head) → slice_get (heads_of n) k ≡ Some h → IsIndex class k
  head_index k h here = elim (cases_lt k 0xFF00) [
    | inl low ↦ inl low
    | inr high ↦ inr (inl (big (is_big class) refl high, high, let l = head_low k h here in omega (arith, l)))
  ]
    where
      big : (b : Bool) → is_big class ≡ b → 0xFF00 ≤ k → is_big class ≡ true
      big true e high = e
      big false e high = let low = slice_get_within (heads_of n) k h here in let few = plain_heads class n is e in absurd (omega (arith, high, low, few))

  -- a line that is there has a number of 26 bits
  pub line_low : (k : ℕ) (x : Line) → slice_get (lines_of n) k ≡ Some x → k < 2 ^ 26
  line_low k x here =
      let low = slice_get_within (lines_of n) k x here in
      let few = few_lines class n is in
      let heads = few_sections class n is in
      let symbols = is.meets.bounds.symbols in
      omega (arith, low, few, heads, symbols)

  inner_low : length (inner_lines n) < 2 ^ 26
  unfolding lines_of
  inner_low =
      let few = few_lines class n is in
      let all = length-append (inner_lines n) (outer_lines n) in
      let heads = few_sections class n is in
      let symbols = is.meets.bounds.symbols in
      omega (arith, few, all, heads, symbols)

  -- ... section headers

  -- the header of a string table
  small_plain : (k : ℕ) (h : Head) → slice_get (heads_of n) k ≡ Some h → (b : IsBody class n k h) → IsSmall (plain_header class n b.at h)
  small_plain k h here b =
      let l = body_low k h here b in
      record {
        sh_name = head_offset_low h;
        sh_type = omega arith;
        sh_flags = omega arith;
        sh_offset = l.0;
        sh_size = l.1;
        sh_link = omega arith;
        sh_info = omega arith;
        sh_addralign = omega arith;
        sh_entsize = omega arith;
      }

  small_header : (k : ℕ) (h : Head) → slice_get (heads_of n) k ≡ Some h → (b : IsBody class n k h) → IsHeadAt n k h → IsSmall (shdr_of class n b.at h)
  unfolding shdr_of
  small_header k NullHead here b own = record {
    sh_name = omega arith;
    sh_type = omega arith;
    sh_flags = omega arith;
    sh_offset = omega arith;
    sh_size = omega arith;
    sh_link = omega arith;
    sh_info = omega arith;
    sh_addralign = omega arith;
    sh_entsize = omega arith;
  }
  small_header k (GroupHead g x) here b own =
      let l = body_low k (GroupHead g x) here b in
      let link = head_low (head_where n is_symtab_head) SymtabHead (symtab_at n) in
      let s = signature_found class n is g x own.0 in
      let info = line_low (signature_number (numbered_lines n) g x) s.line s.here in
      record {
        sh_name = head_offset_low (GroupHead g x);
        sh_type = omega arith;
        sh_flags = omega arith;
        sh_offset = l.0;
        sh_size = l.1;
        sh_link = omega (arith, link);
        sh_info = omega (arith, info);
        sh_addralign = omega arith;
        sh_entsize = omega arith;
      }
  small_header k (SectionHead j s) here b own =
      let l = body_low k (SectionHead j s) here b in
      let m = meets_section class n is j s own.0 in
      let size = size_low class n is j s own.0 in
      let align = power_low s.align m.align in
      record {
        sh_name = head_offset_low (SectionHead j s);
        sh_type = m.small;
        sh_flags = flags_low s;
        sh_offset = l.0;
        sh_size = omega (arith, size);
        sh_link = omega arith;
        sh_info = omega arith;
        sh_addralign = omega (arith, align);
        sh_entsize = omega arith;
      }
  small_header k (RelocHead j s) here b own =
      let l = body_low k (RelocHead j s) here b in
      let link = head_low (head_where n is_symtab_head) SymtabHead (symtab_at n) in
      let info = head_low (section_number n j) (SectionHead j s) (section_at n j s own.0) in
      record {
        sh_name = head_offset_low (RelocHead j s);
        sh_type = type_low (word_of class);
        sh_flags = table_flags_low s;
        sh_offset = l.0;
        sh_size = l.1;
        sh_link = omega (arith, link);
        sh_info = omega (arith, info);
        sh_addralign = word_low (word_of class);
        sh_entsize = rel_low (word_of class);
      }
    where
      rel_low : (word : Word) → rel_size word < 2 ^ 32
      rel_low word = grind arith
  small_header k SymtabHead here b own =
      let l = body_low k SymtabHead here b in
      let link = head_low (head_where n is_strtab_head) StrtabHead (strtab_at n) in
      let info = inner_low in
      record {
        sh_name = head_offset_low SymtabHead;
        sh_type = omega arith;
        sh_flags = omega arith;
        sh_offset = l.0;
        sh_size = l.1;
        sh_link = omega (arith, link);
        sh_info = omega (arith, info);
        sh_addralign = word_low (word_of class);
        sh_entsize = sym_low (word_of class);
      }
    where
      sym_low : (word : Word) → sym_size word < 2 ^ 32
      sym_low word = grind arith
  small_header k ShndxHead here b own =
      let l = body_low k ShndxHead here b in
      let link = head_low (head_where n is_symtab_head) SymtabHead (symtab_at n) in
      record {
        sh_name = head_offset_low ShndxHead;
        sh_type = omega arith;
        sh_flags = omega arith;
        sh_offset = l.0;
        sh_size = l.1;
        sh_link = omega (arith, link);
        sh_info = omega arith;
        sh_addralign = omega arith;
        sh_entsize = omega arith;
      }
  small_header k StrtabHead here b own = small_plain k StrtabHead here b
  small_header k ShstrtabHead here b own = small_plain k ShstrtabHead here b

  pub headers_fit : (k : ℕ) (s : Shdr) → slice_get (made_headers class n) k ≡ Some s → Fit (shdr_numbers (word_of class) s)
  headers_fit k s here =
      let low = slice_get_within (made_headers class n) k s here in
      let long = length-made_headers class n in
      let h = there_at (heads_of n) k (omega (arith, low, long)) in
      let b = body_stands class n k h.0 h.1 in
      subst (λ (y : Shdr). Fit (shdr_numbers (word_of class) y)) (same_Some (shdr_of class n b.at h.0) s (sym b.header ∙ here))
      (header_fits (word_of class) (shdr_of class n b.at h.0) (small_header k h.0 h.1 b (head_at n k h.0 h.1)))

  -- the numbers in the file header

  none_right : (a : Bool) → (a && false) ≡ false
  none_right a = grind arith

  pub count_low : shown_count class (length (heads_of n)) < 2 ^ 16
  count_low = by (is_big class) refl
    where
      by : (b : Bool) → is_big class ≡ b → shown_count class (length (heads_of n)) < 2 ^ 16
      by true e = let s : shown_count class (length (heads_of n)) ≡ 0 = ap (λ b. cond b 0 (length (heads_of n))) e in omega (arith, s)
      by false e = let s : shown_count class (length (heads_of n)) ≡ length (heads_of n) = ap (λ b. cond b 0 (length (heads_of n))) e in let few = plain_heads class n is e in omega (arith, s, few)

  pub names_low : shown_names class (head_where n is_shstrtab_head) < 2 ^ 16
  names_low = elim (cases_lt (head_where n is_shstrtab_head) 0xFF00) [
    | inl low ↦
        let k : ℕ = head_where n is_shstrtab_head in
        let s : shown_names class k ≡ k = ap (λ t. cond (is_big class && not t) 0xFFFF k) (lt-ltb k 0xFF00 low) ∙ ap (λ t. cond t 0xFFFF k) (none_right (is_big class)) in
        omega (arith, s, low)
    | inr high ↦ far (is_big class) refl high
  ]
    where
      far : (b : Bool) → is_big class ≡ b → 0xFF00 ≤ head_where n is_shstrtab_head → shown_names class (head_where n is_shstrtab_head) < 2 ^ 16
      far true e high =
          let k : ℕ = head_where n is_shstrtab_head in
          let s : shown_names class k ≡ 0xFFFF = ap (λ t. cond (t && not (nat_lt k 0xFF00)) 0xFFFF k) e ∙ ap (λ t. cond (not t) 0xFFFF k) (le-ltb k 0xFF00 high) in
          omega (arith, s)
      far false e high =
          let low = slice_get_within (heads_of n) (head_where n is_shstrtab_head) ShstrtabHead (shstrtab_at n) in
          let few = plain_heads class n is e in
          absurd (omega (arith, high, low, few))

  pub head_fits : Fit (ehdr_numbers (word_of class) (file_header class n))
  unfolding file_header
  head_fits =
      let at = stands_inside (elf_file class n) (flat_map (shdr_bytes (word_of class)) (stored_headers class n)) (place_where is_head_table (laid_parts class n)) (table_stands class n) in
      let small = small_file class n is in
      let shoff : place_where is_head_table (laid_parts class n) < 2 ^ 32 = omega (arith, at, small) in
      by (word_of class) (place_where is_head_table (laid_parts class n)) shoff (shown_count class (length (heads_of n))) count_low (shown_names class (head_where n is_shstrtab_head)) names_low
    where
      by : (word : Word) (shoff : ℕ) → shoff < 2 ^ 32 → (count : ℕ) → count < 2 ^ 16 → (names : ℕ) → names < 2 ^ 16
          → Fit (ehdr_numbers word (record { ei_data = 1; ei_version = 1; e_type = 1; e_machine = machine_of word; e_version = 1; e_shoff = shoff; e_ehsize = ehdr_size word; e_shentsize = shdr_size word; e_shnum = count; e_shstrndx = names }))
      by W32 shoff a count b names c =
          (omega arith, (omega arith, (omega arith, (omega arith, (omega arith, (omega arith, (omega arith, (omega arith, (omega arith, (omega arith, (omega arith, (omega arith, (omega arith, (omega (arith, a), (omega arith, (omega arith, (omega arith, (omega arith, (omega arith, (omega (arith, b), (omega (arith, c), tt)))))))))))))))))))))
      by W64 shoff a count b names c =
          (omega arith, (omega arith, (omega arith, (omega arith, (omega arith, (omega arith, (omega arith, (omega arith, (omega arith, (omega arith, (omega arith, (omega arith, (omega arith, (omega (arith, a), (omega arith, (omega arith, (omega arith, (omega arith, (omega arith, (omega (arith, b), (omega (arith, c), tt)))))))))))))))))))))

  -- header 0 as it is written
  pub zero_fits : Fit (shdr_numbers (word_of class) (zero_shdr class n))
  zero_fits = header_fits (word_of class) (zero_shdr class n) (by (is_big class))
    where
      names : extended_names (head_where n is_shstrtab_head) < 2 ^ 32
      names = elim (cases_lt (head_where n is_shstrtab_head) 0xFF00) [
        | inl low ↦
            let k : ℕ = head_where n is_shstrtab_head in
            let s : extended_names k ≡ 0 = ap (λ t. cond t 0 k) (lt-ltb k 0xFF00 low) in omega (arith, s)
        | inr high ↦
            let k : ℕ = head_where n is_shstrtab_head in
            let s : extended_names k ≡ k = ap (λ t. cond t 0 k) (le-ltb k 0xFF00 high) in let l = head_low k ShstrtabHead (shstrtab_at n) in omega (arith, s, l)
      ]

      by : (b : Bool) → IsSmall (cond b (record null_shdr { sh_size = length (heads_of n); sh_link = extended_names (head_where n is_shstrtab_head) }) null_shdr)
      by true =
          let few = few_heads class n is in
          let link = names in
          record {
            sh_name = omega arith;
            sh_type = omega arith;
            sh_flags = omega arith;
            sh_offset = omega arith;
            sh_size = omega (arith, few);
            sh_link = link;
            sh_info = omega arith;
            sh_addralign = omega arith;
            sh_entsize = omega arith;
          }
      by false = record {
        sh_name = omega arith;
        sh_type = omega arith;
        sh_flags = omega arith;
        sh_offset = omega arith;
        sh_size = omega arith;
        sh_link = omega arith;
        sh_info = omega arith;
        sh_addralign = omega arith;
        sh_entsize = omega arith;
      }
