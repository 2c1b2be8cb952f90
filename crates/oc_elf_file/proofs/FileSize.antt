-- A canonical file has fewer than 2^32 bytes.
use Rattle.std.proofs.Common.{◌≡◌, ℕ, suc, ◌+◌, ◌*◌, ◌^◌, ◌<◌, ◌≤◌, Bool, true, false, cond, eqb, List, [], ◌∷◌, ◌++◌, length, map, get_or, Some, None, refl, ◌∙◌, ap, arith, length-append}
use Rattle.std.specs.{Prelude.{filter_map, not}, List.{count_by, sum_by, enumerate_from, filter, cons_option, AllByRecursion}}
use Rattle.std.proofs.lemmas.{List.{length-map}, List.FromFn.{length-enumerate_from}, List.Sums.{sum_by-cons, sum_by-append, length-filter, count_by-le-length}}
use Rattle.oc_chains.specs.declared.field.Field as chains
use Rattle.oc_chains.specs.Lists.{list_of}
use Rattle.oc_linking.specs.Parts.{is_local}
use Rattle.oc_neutral.specs.{declared.group.Group.{Group}, declared.reloc.Reloc.{Reloc}, declared.section.Section.{Section}, declared.symbol.Symbol.{Symbol}}
use Rattle.oc_neutral.specs.{Building.{stored_size, stored_sum}, Invariants.{HasItsBytes}, Objects.{Object}, Elf.Family.{elf_symbol_count, signature_count}}
use Rattle.oc_neutral.specs.Families.{is_many}
use Rattle.oc_shows.specs.SymbolLines.{needs_signature}
use Rattle.oc_shelf.specs.Writing.Parts.{laid, behind}
use Rattle.oc_elf.specs.{declared.class.ElfClass.{ElfClass}, Classes.{format_of, word_of}, Ehdr.{ehdr_size}, Shdr.{shdr_size}, Sym.{sym_size}, Rel.{rel_size}}
use Rattle.oc_base.specs.declared.format.Word.{Word}
use Rattle.oc_elf_file.specs.Heads.{Head, NullHead, RelocHead, SymtabHead, ShndxHead, StrtabHead, ShstrtabHead, placed_sections, group_head, section_head, reloc_head, group_heads, section_heads, reloc_heads, table_heads_by, table_heads, heads_of, head_size, numbered_heads, head_name, reloc_prefix}
use Rattle.oc_elf_file.specs.Lines.{Line, NullLine, SectionLine, SignatureLine, LocalLine, OuterLine, lines_of, line_name, section_lines, signature_lines, lines_where, inner_lines, outer_lines}
use Rattle.oc_elf_file.specs.Groups.{member_number, group_words}
use Rattle.oc_elf_file.specs.Layout.{Part, FileHead, Body, HeadTable, parts_of, head_names, line_names, part_size, part_align, part_begin}
use Rattle.oc_elf_file.specs.Canonical.{elf_file}
use Rattle.oc_elf_file.proofs.{CodedLaws.{IsForElf, few_sections}, HeadCounts.{length-heads, counted_tables, most_tables, few_heads, few_reloc_heads}}
use Rattle.oc_elf_file.proofs.{PartLaws.{length-elf_file}, SizeLaws.{strings_size, end_low, gap_low, align_low, members_few}}
use Rattle.oc_shelf.proofs.WritingLaws.SizeLemmas.{sum_enumerated, sum_filter, sum_more, sum_same, ended_size}
use Rattle.oc_neutral.proofs.LeftObject.{sum_map}

-- ... sums over lists

length-laid : {X : Type 0} (begin : ℕ → X → ℕ) (size : X → ℕ) (at : ℕ) (xs : List X) → length (laid begin size at xs) ≡ length xs
length-laid begin size at [] = refl
length-laid begin size at (x ∷ xs) = ap suc (length-laid begin size (begin at x + size x) xs)

module _ (class : ElfClass) (n : Object) (is : IsForElf class n) where
  -- ... symbols

  length-where : (line : ℕ → Symbol → Line) (test : Symbol → Bool) → length (lines_where line test n) ≡ count_by test n.symbols
  length-where line test =
      length-map (filter (λ (x : ℕ × Symbol). test x.1) (enumerate_from 0 n.symbols)) (λ (x : ℕ × Symbol). line x.0 x.1)
      ∙ length-filter (λ (x : ℕ × Symbol). test x.1) (enumerate_from 0 n.symbols)
      ∙ sum_enumerated (λ (s : Symbol). cond (test s) 1 0) 0 n.symbols

  each_counted : (test : Symbol → Bool) (xs : List Symbol) → count_by test xs + count_by (λ s. not (test s)) xs ≡ length xs
  each_counted test [] = refl
  each_counted test (s ∷ xs) = by (test s) (each_counted test xs) (sum_by-cons (λ s. cond (test s) 1 0) s xs) (sum_by-cons (λ s. cond (not (test s)) 1 0) s xs)
    where
      by : (b : Bool) → count_by test xs + count_by (λ s. not (test s)) xs ≡ length xs → count_by test (s ∷ xs) ≡ cond b 1 0 + count_by test xs
          → count_by (λ s. not (test s)) (s ∷ xs) ≡ cond (not b) 1 0 + count_by (λ s. not (test s)) xs → count_by test (s ∷ xs) + count_by (λ s. not (test s)) (s ∷ xs) ≡ suc (length xs)
      by true rest a b = omega (arith, rest, a, b)
      by false rest a b = omega (arith, rest, a, b)

  pub length-lines : length (lines_of n) ≡ elf_symbol_count n
  unfolding lines_of
  length-lines =
      let locals : List Line = lines_where LocalLine (λ s. is_local s.binding) n in
      let a = length-append (inner_lines n) (outer_lines n) in
      let b = length-append (section_lines n) (signature_lines n ++ locals) in
      let c = length-append (signature_lines n) locals in
      let d : length (section_lines n) ≡ length n.sections = length-map (enumerate_from 0 n.sections) (λ (x : ℕ × Section). SectionLine x.0 x.1) ∙ length-enumerate_from 0 n.sections in
      let e : length (signature_lines n) ≡ signature_count n
      = length-map (filter (λ (x : ℕ × Group). needs_signature n.symbols x.1) (enumerate_from 0 n.groups)) (λ (x : ℕ × Group). SignatureLine x.0 x.1)
      ∙ length-filter (λ (x : ℕ × Group). needs_signature n.symbols x.1) (enumerate_from 0 n.groups)
      ∙ sum_enumerated (λ (g : Group). cond (needs_signature n.symbols g) 1 0) 0 n.groups in
      let inner = length-where LocalLine (λ s. is_local s.binding) in
      let outer = length-where OuterLine (λ s. not (is_local s.binding)) in
      let all = each_counted (λ s. is_local s.binding) n.symbols in
      omega (arith, a, b, c, d, e, inner, outer, all)

  pub few_lines : length (lines_of n) ≤ 1 + length n.sections + length n.groups + length n.symbols
  few_lines = let a = length-lines in let b = count_by-le-length (needs_signature n.symbols) n.groups in omega (arith, a, b)

  -- ... names

  abbrev pub section_text : ℕ
  section_text = sum_by (λ (s : Section). length s.name) n.sections

  abbrev pub symbol_text : ℕ
  symbol_text = sum_by (λ (s : Symbol). length s.name) n.symbols

  abbrev pub key_text : ℕ
  key_text = sum_by (λ (g : Group). length g.key) n.groups

  where_names : (line : ℕ → Symbol → Line) (test : Symbol → Bool) → ((k : ℕ) (s : Symbol) → line_name (line k s) ≡ s.name)
      → sum_by (λ (x : Line). ended_size (line_name x)) (lines_where line test n) ≤ symbol_text + length n.symbols
  where_names line test name =
      let xs : List (ℕ × Symbol) = filter (λ (x : ℕ × Symbol). test x.1) (enumerate_from 0 n.symbols) in
      let a : sum_by (λ (x : Line). ended_size (line_name x)) (lines_where line test n) ≡ sum_by (λ (x : ℕ × Symbol). length x.1.name + 1) xs
      = sum_map (λ (x : Line). ended_size (line_name x)) (λ (x : ℕ × Symbol). line x.0 x.1) xs ∙ same xs in
      let b = sum_filter (λ (x : ℕ × Symbol). length x.1.name + 1) (λ (x : ℕ × Symbol). test x.1) (enumerate_from 0 n.symbols) in
      let c = sum_enumerated (λ (s : Symbol). length s.name + 1) 0 n.symbols in
      let d = sum_more (λ (s : Symbol). length s.name) 1 n.symbols in
      omega (arith, a, b, c, d)
    where
      same : (xs : List (ℕ × Symbol)) → sum_by (λ (x : ℕ × Symbol). ended_size (line_name (line x.0 x.1))) xs ≡ sum_by (λ (x : ℕ × Symbol). length x.1.name + 1) xs
      same [] = refl
      same (x ∷ xs) =
          let a = sum_by-cons (λ (x : ℕ × Symbol). ended_size (line_name (line x.0 x.1))) x xs in
          let b = sum_by-cons (λ (x : ℕ × Symbol). length x.1.name + 1) x xs in
          let c = same xs in
          let d : ended_size (line_name (line x.0 x.1)) ≡ length x.1.name + 1 = ap ended_size (name x.0 x.1) in
          omega (arith, a, b, c, d)

  signature_names : sum_by (λ (x : Line). ended_size (line_name x)) (signature_lines n) ≤ key_text + length n.groups
  signature_names =
      let xs : List (ℕ × Group) = filter (λ (x : ℕ × Group). needs_signature n.symbols x.1) (enumerate_from 0 n.groups) in
      let a = sum_map (λ (x : Line). ended_size (line_name x)) (λ (x : ℕ × Group). SignatureLine x.0 x.1) xs in
      let b = sum_filter (λ (x : ℕ × Group). length x.1.key + 1) (λ (x : ℕ × Group). needs_signature n.symbols x.1) (enumerate_from 0 n.groups) in
      let c = sum_enumerated (λ (g : Group). length g.key + 1) 0 n.groups in
      let d = sum_more (λ (g : Group). length g.key) 1 n.groups in
      omega (arith, a, b, c, d)

  pub line_text : sum_by ended_size (map line_name (lines_of n)) ≤ 1 + length n.sections + (key_text + length n.groups) + 2 * (symbol_text + length n.symbols)
  unfolding lines_of
  line_text =
      let size : Line → ℕ = λ x. ended_size (line_name x) in
      let locals : List Line = lines_where LocalLine (λ s. is_local s.binding) n in
      let a = sum_map ended_size line_name (inner_lines n ++ outer_lines n) in
      let b = sum_by-append size (inner_lines n) (outer_lines n) in
      let c = sum_by-cons size NullLine (section_lines n ++ (signature_lines n ++ locals)) in
      let d = sum_by-append size (section_lines n) (signature_lines n ++ locals) in
      let e = sum_by-append size (signature_lines n) locals in
      let sections : sum_by size (section_lines n) ≡ length n.sections
      = sum_map size (λ (x : ℕ × Section). SectionLine x.0 x.1) (enumerate_from 0 n.sections) ∙ sum_same 1 (enumerate_from 0 n.sections) ∙ omega (arith, length-enumerate_from 0 n.sections) in
      let signatures = signature_names in
      let inner = where_names LocalLine (λ s. is_local s.binding) (λ k s. refl) in
      let outer = where_names OuterLine (λ s. not (is_local s.binding)) (λ k s. refl) in
      omega (arith, a, b, c, d, e, sections, signatures, inner, outer)

  reloc_names : (i : ℕ) (xs : List Section) → sum_by (λ (h : Head). ended_size (head_name class h)) (filter_map (reloc_head n) (enumerate_from i xs)) ≤ sum_by (λ (s : Section). length s.name) xs + 6 * length xs
  reloc_names i [] = omega arith
  reloc_names i (s ∷ xs) = by (eqb (length (list_of n.relocs i)) 0) (reloc_names (i + 1) xs) (sum_by-cons (λ (s : Section). length s.name) s xs)
    where
      long : (word : Word) → length (reloc_prefix word) ≤ 5
      long word = grind arith

      by : (b : Bool) → sum_by (λ (h : Head). ended_size (head_name class h)) (filter_map (reloc_head n) (enumerate_from (i + 1) xs)) ≤ sum_by (λ (s : Section). length s.name) xs + 6 * length xs
          → sum_by (λ (s : Section). length s.name) (s ∷ xs) ≡ length s.name + sum_by (λ (s : Section). length s.name) xs
          → sum_by (λ (h : Head). ended_size (head_name class h)) (cons_option (cond b None (Some (RelocHead i s))) (filter_map (reloc_head n) (enumerate_from (i + 1) xs))) ≤ sum_by (λ (s : Section). length s.name) (s ∷ xs) + 6 * suc (length xs)
      by true rest sum = omega (arith, rest, sum)
      by false rest sum =
          let a = sum_by-cons (λ (h : Head). ended_size (head_name class h)) (RelocHead i s) (filter_map (reloc_head n) (enumerate_from (i + 1) xs)) in
          let b = length-append (reloc_prefix (word_of class)) s.name in
          let c = long (word_of class) in
          omega (arith, rest, sum, a, b, c)

  tables_text : (b : Bool) → sum_by (λ (h : Head). ended_size (head_name class h)) (table_heads_by b) ≤ 40
  tables_text b = grind arith

  pub head_text : sum_by ended_size (map (head_name class) (heads_of n)) ≤ 41 + 7 * length n.groups + (section_text + length n.sections) + (section_text + 6 * length n.sections)
  unfolding heads_of
  head_text =
      let size : Head → ℕ = λ h. ended_size (head_name class h) in
      let a = sum_map ended_size (head_name class) (NullHead ∷ group_heads n ++ (section_heads n ++ (reloc_heads n ++ (table_heads n)))) in
      let b = sum_by-cons size NullHead (group_heads n ++ (section_heads n ++ (reloc_heads n ++ (table_heads n)))) in
      let c = sum_by-append size (group_heads n) (section_heads n ++ (reloc_heads n ++ (table_heads n))) in
      let d = sum_by-append size (section_heads n) (reloc_heads n ++ (table_heads n)) in
      let e = sum_by-append size (reloc_heads n) (table_heads n) in
      let groups : sum_by size (group_heads n) ≡ 7 * length n.groups
      = sum_map size group_head (enumerate_from 0 n.groups) ∙ sum_same 7 (enumerate_from 0 n.groups) ∙ ap (λ m. 7 * m) (length-enumerate_from 0 n.groups) in
      let sections : sum_by size (section_heads n) ≡ section_text + 1 * length n.sections
      = sum_map size section_head (placed_sections n) ∙ sum_enumerated (λ (s : Section). length s.name + 1) 0 n.sections ∙ sum_more (λ (s : Section). length s.name) 1 n.sections in
      let relocs = reloc_names 0 n.sections in
      let tables : sum_by size (table_heads n) ≤ 40 = tables_text (is_many n.format) in
      omega (arith, a, b, c, d, e, groups, sections, relocs, tables)

  -- ... parts

  abbrev size_of : Part → ℕ
  size_of x = part_size class n x + 16

  abbrev head_size_of : Head → ℕ
  head_size_of h = size_of (Body h)

  groups_size : (i : ℕ) (gs : List Group)
      → sum_by (λ (x : ℕ × Group). head_size_of (group_head x)) (enumerate_from i gs) ≡ 4 * sum_by (λ (x : ℕ × Group). length (filter_map (member_number x.0) (numbered_heads n))) (enumerate_from i gs) + 20 * length gs
  unfolding group_words
  groups_size i [] = refl
  groups_size i (g ∷ gs) =
      let a = sum_by-cons (λ (x : ℕ × Group). head_size_of (group_head x)) (i, g) (enumerate_from (i + 1) gs) in
      let b = sum_by-cons (λ (x : ℕ × Group). length (filter_map (member_number x.0) (numbered_heads n))) (i, g) (enumerate_from (i + 1) gs) in
      let c = groups_size (i + 1) gs in
      omega (arith, a, b, c)

  sections_size : (xs : List Section) → AllByRecursion HasItsBytes xs → sum_by (λ (s : Section). length s.bytes + 16) xs ≡ stored_sum xs + 16 * length xs
  sections_size [] bytes = refl
  sections_size (s ∷ xs) bytes =
      let a = sum_by-cons (λ (s : Section). length s.bytes + 16) s xs in
      let b = sum_by-cons stored_size s xs in
      let c = sections_size xs bytes.1 in
      let d = bytes.0 in
      omega (arith, a, b, c, d)

  relocs_size : (i : ℕ) (xs : List Section) (ls : List (List (chains.Field Reloc))) → length ls ≡ length xs → ((j : ℕ) → list_of n.relocs (i + j) ≡ get_or ls j [])
      → sum_by head_size_of (filter_map (reloc_head n) (enumerate_from i xs)) ≤ 24 * sum_by length ls + 16 * length xs
  relocs_size i [] ls e same = omega arith
  relocs_size i (s ∷ xs) [] e same = absurd (omega (arith, e))
  relocs_size i (s ∷ xs) (l ∷ ls) e same =
      let at : i ≡ i + 0 = omega arith in
      let own : length (list_of n.relocs i) ≡ length l = ap length (ap (list_of n.relocs) at ∙ same 0) in
      by (eqb (length (list_of n.relocs i)) 0) own (sum_by-cons length l ls)
      (relocs_size (i + 1) xs ls (omega (arith, e)) (λ j. let next : i + 1 + j ≡ i + suc j = omega arith in ap (list_of n.relocs) next ∙ same (suc j)))
    where
      wide : (word : Word) (m : ℕ) → rel_size word * m ≤ 24 * m
      wide word m = grind arith

      by : (b : Bool) → length (list_of n.relocs i) ≡ length l → sum_by length (l ∷ ls) ≡ length l + sum_by length ls
          → sum_by head_size_of (filter_map (reloc_head n) (enumerate_from (i + 1) xs)) ≤ 24 * sum_by length ls + 16 * length xs
          → sum_by head_size_of (cons_option (cond b None (Some (RelocHead i s))) (filter_map (reloc_head n) (enumerate_from (i + 1) xs))) ≤ 24 * sum_by length (l ∷ ls) + 16 * suc (length xs)
      by true own sum rest = omega (arith, rest, sum)
      by false own sum rest =
          let a = sum_by-cons head_size_of (RelocHead i s) (filter_map (reloc_head n) (enumerate_from (i + 1) xs)) in
          let w = wide (word_of class) (length (list_of n.relocs i)) in
          omega (arith, rest, sum, own, a, w)

  sym_low : (word : Word) (m : ℕ) → sym_size word * m ≤ 24 * m
  sym_low word m = grind arith

  shdr_low : (word : Word) (m : ℕ) → shdr_size word * m ≤ 64 * m
  shdr_low word m = grind arith

  ehdr_low : (word : Word) → ehdr_size word ≤ 64
  ehdr_low word = grind arith

  tables_size : (b : Bool) → sum_by head_size_of (table_heads_by b) ≤ head_size_of SymtabHead + head_size_of ShndxHead + head_size_of StrtabHead + head_size_of ShstrtabHead
  tables_size true =
      let a = sum_by-cons head_size_of SymtabHead (ShndxHead ∷ StrtabHead ∷ ShstrtabHead ∷ []) in
      let b = sum_by-cons head_size_of ShndxHead (StrtabHead ∷ ShstrtabHead ∷ []) in
      let c = sum_by-cons head_size_of StrtabHead (ShstrtabHead ∷ []) in
      let d = sum_by-cons head_size_of ShstrtabHead [] in
      omega (arith, a, b, c, d)
  tables_size false =
      let a = sum_by-cons head_size_of SymtabHead (StrtabHead ∷ ShstrtabHead ∷ []) in
      let c = sum_by-cons head_size_of StrtabHead (ShstrtabHead ∷ []) in
      let d = sum_by-cons head_size_of ShstrtabHead [] in
      omega (arith, a, c, d)

  -- what the parts of headers take at most, by counts and sums of the object
  heads_size : sum_by head_size_of (heads_of n)
      ≤ 1200 + 100 * length n.sections + 100 * length n.groups + stored_sum n.sections + 30 * length n.symbols + 2 * symbol_text + 3 * section_text + key_text + 24 * sum_by length n.relocs
  unfolding heads_of head_names line_names
  heads_size =
      let a = sum_by-cons head_size_of NullHead (group_heads n ++ (section_heads n ++ (reloc_heads n ++ (table_heads n)))) in
      let b = sum_by-append head_size_of (group_heads n) (section_heads n ++ (reloc_heads n ++ (table_heads n))) in
      let c = sum_by-append head_size_of (section_heads n) (reloc_heads n ++ (table_heads n)) in
      let d = sum_by-append head_size_of (reloc_heads n) (table_heads n) in
      let groups = sum_map head_size_of group_head (enumerate_from 0 n.groups) ∙ groups_size 0 n.groups in
      let members = members_few (numbered_heads n) n.groups in
      let heads : length (numbered_heads n) ≡ length (heads_of n) = length-laid behind head_size 0 (heads_of n) in
      let few = few_heads class n is in
      let sections = sum_map head_size_of section_head (placed_sections n) ∙ sum_enumerated (λ (s : Section). length s.bytes + 16) 0 n.sections ∙ sections_size n.sections is.object.built.bytes in
      let relocs = relocs_size 0 n.sections n.relocs is.object.built.fields.counted (λ j. let e : 0 + j ≡ j = omega arith in ap (list_of n.relocs) e) in
      let symtab = sym_low (word_of class) (length (lines_of n)) in
      let lines = few_lines in
      let strtab = strings_size (map line_name (lines_of n)) in
      let shstrtab = strings_size (map (head_name class) (heads_of n)) in
      let tables = tables_size (is_many n.format) in
      let text = line_text in
      let names = head_text in
      let all = length-heads class n is in
      let counted = counted_tables class n is in
      let most = most_tables (is_many (format_of class)) in
      let relocated = few_reloc_heads class n is in
      omega (arith, a, b, c, d, groups, members, heads, few, sections, relocs, symtab, lines, strtab, shstrtab, tables, counted, most, text, names, all, relocated)

  -- and the file
  pub file_size : length (elf_file class n)
      ≤ 2600 + 300 * length n.sections + 200 * length n.groups + stored_sum n.sections + 30 * length n.symbols + 2 * symbol_text + 3 * section_text + key_text + 24 * sum_by length n.relocs
  unfolding parts_of
  file_size =
      let long = length-elf_file class n in
      let end = end_low (part_begin class) (part_size class n) 16 0 (parts_of n) (λ p x. gap_low (part_align class x) p (align_low class x)) in
      let a = sum_by-cons size_of FileHead (map Body (heads_of n) ++ HeadTable ∷ []) in
      let b = sum_by-append size_of (map Body (heads_of n)) (HeadTable ∷ []) in
      let c = sum_map size_of Body (heads_of n) in
      let d = sum_by-cons size_of HeadTable [] in
      let heads = heads_size in
      let head = ehdr_low (word_of class) in
      let table = shdr_low (word_of class) (length (heads_of n)) in
      let all = length-heads class n is in
      let tables = few_reloc_heads class n is in
      let counted = counted_tables class n is in
      let most = most_tables (is_many (format_of class)) in
      omega (arith, long, end, a, b, c, d, heads, head, table, all, tables, counted, most)

  pub small_file : length (elf_file class n) < 2 ^ 32
  small_file =
      let size = file_size in
      let few = few_sections class n is in
      let bounds = is.meets.bounds in
      omega (arith, size, few, bounds.stored, bounds.symbols, bounds.texts, bounds.fields)
