-- The tables of a canonical file are well formed, and no header is of a kind that is not read.
use Rattle.oc_elf.specs.{Shdr.{null_shdr}, declared.class.ElfClass.{ElfClass}, declared.constants.TheConstants.{SHT_SYMTAB, SHT_STRTAB}}
use Rattle.oc_elf.specs.{declared.shdr.Shdr.{Shdr}, Classes.{reloc_type, foreign_type, word_of}, Frames.{FileFrame, header_at}, Rel.{rel_size}}
use Rattle.oc_elf.specs.{Sections.{is_type, shndx_number, symtab_among, table_among, relocated_by}, Sym.{sym_size}}
use Rattle.oc_elf.specs.SectionRules.{known_types, has_entries, is_left_out, is_good_symtab, is_good_table, is_good_shndx, table_conditions}
use Rattle.oc_neutral.proofs.Positions.{there_at}
use Rattle.std.proofs.Common.{◌≡◌, ℕ, ◌+◌, ◌*◌, ◌%◌, ◌/◌, ◌<◌, inl, inr, Bool, true, false, not, ◌&&◌, ◌||◌, cond, eqb, List, [], ◌∷◌, length, Option, Some, None, refl, sym, ◌∙◌, ap, arith}
use Rattle.std.specs.{Prelude.{slice_get, nat_lt, nat_le}, List.{list_any, enumerate_from, AllByRecursion}, Option.{is_some, option_map_or}}
use Rattle.std.proofs.lemmas.{Bool.{true≢false, eq-eqb, eqb-true, lt-ltb, le-leb}, Option.{slice_get_within}}
use Rattle.oc_chains.specs.Lists.{list_of}
use Rattle.oc_neutral.specs.{declared.section.Section.{Section}, Objects.{Object}}
use Rattle.oc_neutral.specs.{Elf.Kinds.{carried_types, is_carried_type, elf_tag_type, is_nobits_tag, elf_tag_flags}, KindRules.{has}, Families.{is_many}}
use Rattle.oc_shelf.proofs.{ReadingLaws.FirstsLemmas.{keyed_from}, ReadingLaws.StageLemmas.{Unbroken, upto_none}}
use Rattle.oc_shelf.proofs.WritingLaws.MemberLemmas.{keyed_once, of_append, of_filter_map}
use Rattle.oc_base.specs.declared.format.Word.{Word}
use Rattle.oc_elf_file.specs.Heads.{Head, NullHead, GroupHead, SectionHead, RelocHead, SymtabHead, ShndxHead, StrtabHead, ShstrtabHead, reloc_head, reloc_heads, table_heads_by, table_heads, heads_of, head_where, section_number, is_symtab_head, is_strtab_head}
use Rattle.oc_elf_file.specs.{Lines.{lines_of}, Headers.{shdr_of}}
use Rattle.oc_elf_file.proofs.{HeadLaws.{IsHeadAt, head_at, head_behind, symtab_at, strtab_at, section_at, symtab_only}, FrameLaws.{IsCodable, made_frame}}
use Rattle.oc_elf_file.proofs.CodedLaws.{IsForElf, many_is, meets_section}
use Rattle.oc_elf_file.proofs.FlagLaws.{flags_of, alloc, no_link_order, no_tls, no_compressed, table_no_alloc, table_no_link_order, table_no_tls, table_no_compressed, table_flags}
use Rattle.oc_elf_file.proofs.{TableLaws.{carried_not, header_is, length-headers, symtab_test, shndx_read}, RelocTableLaws.{table_head}}

pub none_right : (a : Bool) → (a && false) ≡ false
none_right a = grind arith

-- a carried type is known
known_carried : (t : ℕ) → is_carried_type t ≡ true → list_any (eqb t) known_types ≡ true
known_carried t is = among carried_types is (refl, (refl, (refl, (refl, (refl, (refl, tt))))))
  where
    among : (xs : List ℕ) → list_any (eqb t) xs ≡ true → AllByRecursion (λ x. list_any (eqb x) known_types ≡ true) xs → list_any (eqb t) known_types ≡ true
    among [] e all_known = absurd (true≢false (sym e))
    among (x ∷ xs) e all_known = elim (eqb t x) as (λ b. eqb t x ≡ b → (b || list_any (eqb t) xs) ≡ true → list_any (eqb t) known_types ≡ true) [
      | true ↦ λ h g. ap (λ y. list_any (eqb y) known_types) (eqb-true t x h) ∙ all_known.0
      | false ↦ λ h g. among xs g all_known.1
    ] refl e

-- the section whose relocations a header has
abbrev reloc_key : Head → ℕ
reloc_key NullHead = 0
reloc_key (GroupHead k g) = 0
reloc_key (SectionHead k s) = 0
reloc_key (RelocHead k s) = k
reloc_key SymtabHead = 0
reloc_key ShndxHead = 0
reloc_key StrtabHead = 0
reloc_key ShstrtabHead = 0

abbrev is_reloc : Head → Bool
is_reloc NullHead = false
is_reloc (GroupHead k g) = false
is_reloc (SectionHead k s) = false
is_reloc (RelocHead k s) = true
is_reloc SymtabHead = false
is_reloc ShndxHead = false
is_reloc StrtabHead = false
is_reloc ShstrtabHead = false

module _ (class : ElfClass) (n : Object) (is : IsForElf class n) (fits : IsCodable class n) where
  abbrev f : FileFrame
  f = made_frame class n

  -- ... each table stands once

  no_reloc_table : (i : ℕ) (h : Head) → slice_get (table_heads n) i ≡ Some h → is_reloc h ≡ false
  no_reloc_table i h here = by (is_many n.format) i here
    where
      by : (b : Bool) (i : ℕ) → slice_get (table_heads_by b) i ≡ Some h → is_reloc h ≡ false
      by b i here = grind arith

  one_symtab_table : (i : ℕ) → slice_get (table_heads n) i ≡ Some SymtabHead → i ≡ 0
  one_symtab_table i here = by (is_many n.format) i here
    where
      by : (b : Bool) (i : ℕ) → slice_get (table_heads_by b) i ≡ Some SymtabHead → i ≡ 0
      by b i here = grind arith

  one_shndx_table : (i : ℕ) → slice_get (table_heads n) i ≡ Some ShndxHead → i ≡ 1
  one_shndx_table i here = by (is_many n.format) i here
    where
      by : (b : Bool) (i : ℕ) → slice_get (table_heads_by b) i ≡ Some ShndxHead → i ≡ 1
      by b i here = grind arith

  no_table_reloc : (h : Head) → is_reloc h ≡ false → (i : ℕ) → slice_get (reloc_heads n) i ≡ Some h → ⊥
  no_table_reloc h none i here =
      let m = of_filter_map (reloc_head n) (enumerate_from 0 n.sections) i h here in
      by m.1 (eqb (length (list_of n.relocs m.1.0)) 0) m.3
    where
      by : (x : ℕ × Section) (b : Bool) → cond b None (Some (RelocHead x.0 x.1)) ≡ Some h → ⊥
      by x b e = grind arith

  -- the number of the symbol table's header
  symtab_place : (i : ℕ) → slice_get (heads_of n) i ≡ Some SymtabHead → i ≡ length n.groups + 1 + length n.sections + length (reloc_heads n)
  symtab_place i here =
      let past = head_at n i SymtabHead here in
      let b = head_behind n i SymtabHead here past in
      elim (of_append (reloc_heads n) (table_heads n) b.0 SymtabHead b.2) [
        | inl h ↦ absurd (no_table_reloc SymtabHead refl b.0 h)
        | inr r ↦ let z = one_symtab_table r.0 r.2 in let e = r.1 in let at = b.1 in omega (arith, z, e, at)
      ]

  -- and that of its section numbers
  shndx_place : (i : ℕ) → slice_get (heads_of n) i ≡ Some ShndxHead → i ≡ length n.groups + 1 + length n.sections + length (reloc_heads n) + 1
  shndx_place i here =
      let past = (head_at n i ShndxHead here).0 in
      let b = head_behind n i ShndxHead here past in
      elim (of_append (reloc_heads n) (table_heads n) b.0 ShndxHead b.2) [
        | inl h ↦ absurd (no_table_reloc ShndxHead refl b.0 h)
        | inr r ↦ let z = one_shndx_table r.0 r.2 in let e = r.1 in let at = b.1 in omega (arith, z, e, at)
      ]

  no_symtab_before : (i : ℕ) → slice_get (heads_of n) i ≡ Some SymtabHead → symtab_among f i ≡ None
  no_symtab_before i here = upto_none (λ j. cond (is_type 2 (header_at f.headers j)) (Some j) None) i each
    where
      each : (j : ℕ) → j < i → cond (is_type 2 (header_at f.headers j)) (Some j) None ≡ None
      each j low =
          let inside = slice_get_within (heads_of n) i SymtabHead here in
          let h = there_at (heads_of n) j (omega (arith, low, inside)) in
          ap (λ b. cond b (Some j) None) (symtab_test class n is fits j h.0 h.1) ∙ by (is_symtab_head h.0) h.0 h.1 refl
        where
          by : (b : Bool) (h : Head) → slice_get (heads_of n) j ≡ Some h → is_symtab_head h ≡ b → cond b (Some j) None ≡ None
          by true h at e =
              let own = symtab_place j (at ∙ ap (λ (y : Head). Some y) (symtab_only n h e)) in
              let other = symtab_place i here in
              absurd (omega (arith, own, other, low))
          by false h at e = refl

  -- the number of the header of a section's relocation table
  reloc_place : (i k : ℕ) (s : Section) → slice_get (heads_of n) i ≡ Some (RelocHead k s) → (j : ℕ) × (i ≡ length n.groups + 1 + length n.sections + j) × (slice_get (reloc_heads n) j ≡ Some (RelocHead k s))
  reloc_place i k s here =
      let past = (head_at n i (RelocHead k s) here).2 in
      let b = head_behind n i (RelocHead k s) here past in
      elim (of_append (reloc_heads n) (table_heads n) b.0 (RelocHead k s) b.2) [
        | inl h ↦ (b.0, b.1, h)
        | inr r ↦ absurd (true≢false (no_reloc_table r.0 (RelocHead k s) r.2))
      ]

  one_reloc : (i j k : ℕ) (s t : Section) → slice_get (heads_of n) i ≡ Some (RelocHead k s) → slice_get (heads_of n) j ≡ Some (RelocHead k t) → i ≡ j
  one_reloc i j k s t here there =
      let a = reloc_place i k s here in
      let b = reloc_place j k t there in
      let same : a.0 ≡ b.0 = keyed_once (reloc_head n) reloc_key keyed 0 n.sections a.0 b.0 (RelocHead k s) (RelocHead k t) a.2 b.2 refl in
      let first = a.1 in
      let second = b.1 in
      omega (arith, same, first, second)
    where
      keyed : (j : ℕ) (x : Section) (y : Head) → reloc_head n (j, x) ≡ Some y → reloc_key y ≡ j
      keyed j x y e = by (eqb (length (list_of n.relocs j)) 0) e
        where
          by : (b : Bool) → cond b None (Some (RelocHead j x)) ≡ Some y → reloc_key y ≡ j
          by b e = grind arith

  no_table_before : (i k : ℕ) (s : Section) → slice_get (heads_of n) i ≡ Some (RelocHead k s) → table_among f i (section_number n k) ≡ None
  no_table_before i k s here = by (table_among f i (section_number n k)) refl
    where
      by : (o : Option ℕ) → table_among f i (section_number n k) ≡ o → table_among f i (section_number n k) ≡ None
      by None e = e
      by (Some m) e =
          let key = keyed_from (relocated_by f) i (section_number n k) m e in
          let there = (head_at n i (RelocHead k s) here).0 in
          let inside = slice_get_within (heads_of n) i (RelocHead k s) here in
          let long = length-headers class n is fits in
          let low = key.below in
          let t = table_head class n is fits k s there m (omega (arith, low, inside, long)) key.is in
          absurd (omega (arith, low, one_reloc m i k s s t here))

  -- ... kinds

  abbrev left_by : Bool → Bool → Bool → Bool → Bool → Bool → Bool → Bool
  left_by tls compressed ordered nobits allocated foreign known = tls || compressed || ordered || nobits && not allocated || foreign || not known && allocated

  judge : (tls compressed ordered nobits allocated foreign known : Bool) → tls ≡ false → compressed ≡ false → ordered ≡ false → (nobits && not allocated) ≡ false → foreign ≡ false → known ≡ true
      → left_by tls compressed ordered nobits allocated foreign known ≡ false
  judge tls compressed ordered nobits allocated foreign known a b c d e g = rw (a, b, c, d, e, g) refl

  foreign_not : (t : ℕ) → is_carried_type t ≡ true → eqb t (foreign_type (word_of class)) ≡ false
  foreign_not t is = by (word_of class)
    where
      by : (word : Word) → eqb t (foreign_type word) ≡ false
      by word = grind arith

  kept : (i : ℕ) (h : Head) → slice_get (heads_of n) i ≡ Some h → is_left_out f (header_at f.headers i) ≡ false
  unfolding shdr_of is_left_out made_frame
  kept i h here = let b = header_is class n is fits i h here in ap (is_left_out f) b.1 ∙ by h b.0.at (head_at n i h here)
    where
      plain : (t : ℕ) → eqb t 8 ≡ false → eqb t 4 ≡ false → eqb t 9 ≡ false → list_any (eqb t) known_types ≡ true → left_by false false false (eqb t 8) false (eqb t (foreign_type (word_of class))) (list_any (eqb t) known_types) ≡ false
      plain t a b c known = judge false false false (eqb t 8) false (eqb t (foreign_type (word_of class))) (list_any (eqb t) known_types) refl refl refl (ap (λ b. b && true) a) (foreign (word_of class)) known
        where
          foreign : (word : Word) → eqb t (foreign_type word) ≡ false
          foreign word = grind arith

      table : (word : Word) → ((eqb (reloc_type word) 8 && true) ≡ false) × (eqb (reloc_type word) (foreign_type word) ≡ false) × (list_any (eqb (reloc_type word)) known_types ≡ true)
      table word = grind arith

      by : (h : Head) (at : ℕ) → IsHeadAt n i h → is_left_out f (shdr_of class n at h) ≡ false
      by NullHead at own = plain 0 refl refl refl refl
      by (GroupHead k g) at own = plain 17 refl refl refl refl
      by (SectionHead k s) at own =
          let m = meets_section class n is k s own.0 in
          judge (has (flags_of s) 0x400) (has (flags_of s) 0x800) (has (flags_of s) 0x80) (is_nobits_tag s.tag) (has (flags_of s) 2) (eqb (elf_tag_type s.tag) (foreign_type (word_of class))) (list_any (eqb (elf_tag_type s.tag)) known_types)
          (no_tls s) (no_compressed s) (no_link_order s) (ap (λ b. is_nobits_tag s.tag && not b) (alloc s) ∙ zeros (is_nobits_tag s.tag) (has (elf_tag_flags s.tag) 2) refl m.allocated)
          (foreign_not (elf_tag_type s.tag) m.carried) (known_carried (elf_tag_type s.tag) m.carried)
        where
          zeros : (z a : Bool) → is_nobits_tag s.tag ≡ z → (is_nobits_tag s.tag ≡ true → a ≡ true) → (z && not a) ≡ false
          zeros z a e allocated = grind arith
      by (RelocHead k s) at own =
          judge (has (table_flags s) 0x400) (has (table_flags s) 0x800) (has (table_flags s) 0x80) (eqb (reloc_type (word_of class)) 8) (has (table_flags s) 2) (eqb (reloc_type (word_of class)) (foreign_type (word_of class))) (list_any (eqb (reloc_type (word_of class))) known_types)
          (table_no_tls s) (table_no_compressed s) (table_no_link_order s) (ap (λ b. eqb (reloc_type (word_of class)) 8 && not b) (table_no_alloc s) ∙ (table (word_of class)).0) (table (word_of class)).1 (table (word_of class)).2
      by SymtabHead at own = plain 2 refl refl refl refl
      by ShndxHead at own = plain 18 refl refl refl refl
      by StrtabHead at own = plain 3 refl refl refl refl
      by ShstrtabHead at own = plain 3 refl refl refl refl

  -- ... tables

  whole_syms : (m : ℕ) → has_entries (sym_size (word_of class)) (record null_shdr { sh_entsize = sym_size (word_of class); sh_size = sym_size (word_of class) * m }) ≡ true
  whole_syms m = by (word_of class)
    where
      by : (word : Word) → (eqb (sym_size word) (sym_size word) && eqb (sym_size word * m % sym_size word) 0) ≡ true
      by word = grind arith

  whole_rels : (m : ℕ) → (eqb (rel_size (word_of class)) (rel_size (word_of class)) && eqb (rel_size (word_of class) * m % rel_size (word_of class)) 0) ≡ true
  whole_rels m = by (word_of class)
    where
      by : (word : Word) → (eqb (rel_size word) (rel_size word) && eqb (rel_size word * m % rel_size word) 0) ≡ true
      by word = grind arith

  strings_type : is_type SHT_STRTAB (header_at f.headers (head_where n is_strtab_head)) ≡ true
  unfolding shdr_of
  strings_type = ap (is_type SHT_STRTAB) (header_is class n is fits (head_where n is_strtab_head) StrtabHead (strtab_at n)).1

  symbols_type : is_type SHT_SYMTAB (header_at f.headers (head_where n is_symtab_head)) ≡ true
  symbols_type = symtab_test class n is fits (head_where n is_symtab_head) SymtabHead (symtab_at n)

  symtab_good : (i at : ℕ) → slice_get (heads_of n) i ≡ Some SymtabHead → is_good_symtab f i (shdr_of class n at SymtabHead) ≡ true
  unfolding shdr_of is_good_symtab made_frame
  symtab_good i at here =
      ap (λ b. b && is_type SHT_STRTAB (header_at f.headers (head_where n is_strtab_head)) && not (is_some (symtab_among f i))) (whole_syms (length (lines_of n)))
      ∙ ap (λ b. b && not (is_some (symtab_among f i))) strings_type
      ∙ ap (λ o. not (is_some o)) (no_symtab_before i here)

  table_good : (i at k : ℕ) (s : Section) → slice_get (heads_of n) i ≡ Some (RelocHead k s) → is_good_table f i (shdr_of class n at (RelocHead k s)) ≡ true
  unfolding shdr_of is_good_table made_frame
  table_good i at k s here =
      let there = (head_at n i (RelocHead k s) here).0 in
      let inside = slice_get_within (heads_of n) (section_number n k) (SectionHead k s) (section_at n k s there) in
      let long = length-headers class n is fits in
      ap (λ b. b && is_type SHT_SYMTAB (header_at f.headers (head_where n is_symtab_head)) && nat_lt (section_number n k) (length f.headers) && not (is_some (table_among f i (section_number n k)))) (whole_rels (length (list_of n.relocs k)))
      ∙ ap (λ b. b && nat_lt (section_number n k) (length f.headers) && not (is_some (table_among f i (section_number n k)))) symbols_type
      ∙ ap (λ b. b && not (is_some (table_among f i (section_number n k)))) (lt-ltb (section_number n k) (length f.headers) (omega (arith, inside, long)))
      ∙ ap (λ o. not (is_some o)) (no_table_before i k s here)

  -- the table of section numbers: one for each symbol
  shndx_good : (i at : ℕ) → slice_get (heads_of n) i ≡ Some ShndxHead → is_good_shndx f i (shdr_of class n at ShndxHead) ≡ true
  unfolding is_good_shndx shdr_of made_frame
  shndx_good i at here =
      let many = (head_at n i ShndxHead here).1 in
      let t = shndx_read class n is fits (sym (many_is class n is) ∙ many) in
      let own = shndx_place i here in
      let other = shndx_place t.m t.here in
      let number : option_map_or (λ j. eqb j i) (shndx_number class f.headers) false ≡ true = ap (λ o. option_map_or (λ j. eqb j i) o false) t.number ∙ eq-eqb t.m i (omega (arith, own, other)) in
      let whole : (true && eqb (4 * length (lines_of n) % 4) 0) ≡ true = eq-eqb (4 * length (lines_of n) % 4) 0 (omega arith) in
      let linked = header_is class n is fits (head_where n is_symtab_head) SymtabHead (symtab_at n) in
      let count : (header_at f.headers (head_where n is_symtab_head)).sh_size / sym_size (word_of class) ≡ length (lines_of n) = ap (λ (s : Shdr). s.sh_size / sym_size (word_of class)) linked.1 ∙ counted (word_of class) in
      let enough : nat_le ((header_at f.headers (head_where n is_symtab_head)).sh_size / sym_size (word_of class)) (4 * length (lines_of n) / 4) ≡ true
      = le-leb _ _ (omega (arith, count)) in
      ap (λ b. b && is_type SHT_SYMTAB (header_at f.headers (head_where n is_symtab_head)) && nat_le ((header_at f.headers (head_where n is_symtab_head)).sh_size / sym_size (word_of class)) (4 * length (lines_of n) / 4) && option_map_or (λ j. eqb j i) (shndx_number class f.headers) false) whole
      ∙ ap (λ b. b && nat_le ((header_at f.headers (head_where n is_symtab_head)).sh_size / sym_size (word_of class)) (4 * length (lines_of n) / 4) && option_map_or (λ j. eqb j i) (shndx_number class f.headers) false) symbols_type
      ∙ ap (λ b. b && option_map_or (λ j. eqb j i) (shndx_number class f.headers) false) enough
      ∙ number
    where
      counted : (word : Word) → sym_size word * length (lines_of n) / sym_size word ≡ length (lines_of n)
      counted word = grind arith

  -- a type that is not that of the word's relocation tables
  other_type : (t : ℕ) → eqb t 9 ≡ false → eqb t 4 ≡ false → eqb t (reloc_type (word_of class)) ≡ false
  other_type t a b = by (word_of class)
    where
      by : (word : Word) → eqb t (reloc_type word) ≡ false
      by word = grind arith

  pub table_clean : (i place : ℕ) (h : Head) → slice_get (heads_of n) i ≡ Some h → Unbroken (table_conditions f i place (header_at f.headers i))
  unfolding shdr_of table_conditions made_frame
  table_clean i place h here =
      let b = header_is class n is fits i h here in
      let own = by h b.0.at here (head_at n i h here) in (
        kept i h here,
        (
          ap (λ (s : Shdr). is_type SHT_SYMTAB s && not (is_good_symtab f i s)) b.1 ∙ own.0,
          (
            ap (λ (s : Shdr). is_type (reloc_type (word_of class)) s && not (is_good_table f i s)) b.1 ∙ own.1,
            (ap (λ (s : Shdr). is_type 18 s && not (is_good_shndx f i s)) b.1 ∙ own.2, tt),
          ),
        ),
      )
    where
      FineTable : Shdr → Type 0
      FineTable s = ((is_type SHT_SYMTAB s && not (is_good_symtab f i s)) ≡ false) × ((is_type (reloc_type (word_of class)) s && not (is_good_table f i s)) ≡ false) × ((is_type 18 s && not (is_good_shndx f i s)) ≡ false)

      neither : (s : Shdr) → eqb s.sh_type 2 ≡ false → eqb s.sh_type 9 ≡ false → eqb s.sh_type 4 ≡ false → eqb s.sh_type 18 ≡ false → FineTable s
      neither s a b c d = (ap (λ t. t && not (is_good_symtab f i s)) a, ap (λ t. t && not (is_good_table f i s)) (other_type s.sh_type b c), ap (λ t. t && not (is_good_shndx f i s)) d)

      by : (h : Head) (at : ℕ) → slice_get (heads_of n) i ≡ Some h → IsHeadAt n i h → FineTable (shdr_of class n at h)
      by NullHead at here own = neither (shdr_of class n at NullHead) refl refl refl refl
      by (GroupHead k g) at here own = neither (shdr_of class n at (GroupHead k g)) refl refl refl refl
      by (SectionHead k s) at here own =
          let carried = (meets_section class n is k s own.0).carried in
          neither (shdr_of class n at (SectionHead k s)) (carried_not (elf_tag_type s.tag) 2 carried refl) (carried_not (elf_tag_type s.tag) 9 carried refl) (carried_not (elf_tag_type s.tag) 4 carried refl)
          (carried_not (elf_tag_type s.tag) 18 carried refl)
      by (RelocHead k s) at here own = (
        ap (λ t. t && not (is_good_symtab f i (shdr_of class n at (RelocHead k s)))) (no_symtab (word_of class)).0,
        ap (λ b. eqb (reloc_type (word_of class)) (reloc_type (word_of class)) && not b) (table_good i at k s here) ∙ none_right (eqb (reloc_type (word_of class)) (reloc_type (word_of class))),
        ap (λ t. t && not (is_good_shndx f i (shdr_of class n at (RelocHead k s)))) (no_symtab (word_of class)).1,
      )
        where
          no_symtab : (word : Word) → (eqb (reloc_type word) 2 ≡ false) × (eqb (reloc_type word) 18 ≡ false)
          no_symtab word = grind arith
      by SymtabHead at here own =
          (ap not (symtab_good i at here), ap (λ t. t && not (is_good_table f i (shdr_of class n at SymtabHead))) (other_type 2 refl refl), refl)
      by ShndxHead at here own = (refl, ap (λ t. t && not (is_good_table f i (shdr_of class n at ShndxHead))) (other_type 18 refl refl), ap not (shndx_good i at here))
      by StrtabHead at here own = neither (shdr_of class n at StrtabHead) refl refl refl refl
      by ShstrtabHead at here own = neither (shdr_of class n at ShstrtabHead) refl refl refl refl
