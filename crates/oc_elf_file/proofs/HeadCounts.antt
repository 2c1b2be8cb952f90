-- How many section headers there are: as many as are counted, and (where sections are few) fewer than gABI's reserved numbers.
use Rattle.std.proofs.Common.{◌≡◌, ℕ, ◌+◌, ◌<◌, ◌≤◌, Bool, true, false, cond, eqb, List, [], ◌∷◌, ◌++◌, length, Some, None, refl, sym, ◌∙◌, ap, arith, length-append}
use Rattle.std.specs.{Prelude.{slice_get, filter_map, not}, List.{count_by, enumerate_from, range_with_len, list_any, cons_option}}
use Rattle.std.proofs.lemmas.{Bool.{true≢false, or_left}, List.{length-map}, List.FromFn.{length-enumerate_from, length-range_with_len}}
use Rattle.std.proofs.lemmas.List.Sums.{sum_by-cons, count_by-le-length}
use Rattle.oc_chains.specs.declared.field.Field as chains
use Rattle.oc_chains.specs.Lists.{list_of}
use Rattle.oc_neutral.specs.{declared.reloc.Reloc.{Reloc}, declared.section.Section.{Section}, Families.{is_many}, Objects.{Object, reloc_at}}
use Rattle.oc_neutral.specs.Relocated.{is_relocated, stays}
use Rattle.oc_elf.specs.{declared.class.ElfClass.{ElfClass}, Classes.{format_of, is_big}}
use Rattle.oc_elf_file.specs.Heads.{RelocHead, placed_sections, group_head, section_head, reloc_head, group_heads, section_heads, reloc_heads, table_heads_by, table_heads, heads_of}
use Rattle.oc_elf_file.proofs.{CodedLaws.{IsForElf, most_low, most_plain}, RelocLaws.{meets}}
use Rattle.oc_shows.proofs.FoundLaws.{found_in}

pub most_tables : (b : Bool) → cond {A = ℕ} b 5 4 ≤ 5
most_tables b = grind arith

module _ (class : ElfClass) (n : Object) (is : IsForElf class n) where
  -- a section with relocations in the list has some in the output
  relocated : (k : ℕ) → eqb (length (list_of n.relocs k)) 0 ≡ false → is_relocated (format_of class) n k ≡ true
  unfolding is_relocated
  relocated k some = by (list_of n.relocs k) refl some
    where
      by : (xs : List (chains.Field Reloc)) → list_of n.relocs k ≡ xs → eqb (length xs) 0 ≡ false → list_any (stays (format_of class) k) (list_of n.relocs k) ≡ true
      by [] e some = absurd (true≢false some)
      by (x ∷ xs) e some =
          let here : reloc_at n k x.at ≡ Some x.item = (found_in 0 (list_of n.relocs k) (is.object.built.fields.apart k) 0 x (ap (λ ys. slice_get ys 0) e)).1 in
          let own : stays (format_of class) k x ≡ true = ap not (meets class n is k x.at x.item here).stays in
          ap (list_any (stays (format_of class) k)) e ∙ or_left (stays (format_of class) k x) (list_any (stays (format_of class) k) xs) own

  tables_counted : (i : ℕ) (xs : List Section) → length (filter_map (reloc_head n) (enumerate_from i xs)) ≤ count_by (is_relocated (format_of class) n) (range_with_len i (length xs))
  tables_counted i [] = omega arith
  tables_counted i (s ∷ xs) = by (eqb (length (list_of n.relocs i)) 0) refl (is_relocated (format_of class) n i) refl (tables_counted (i + 1) xs) (sum_by-cons (λ k. cond (is_relocated (format_of class) n k) 1 0) i (range_with_len (i + 1) (length xs)))
    where
      by : (b : Bool) → eqb (length (list_of n.relocs i)) 0 ≡ b → (c : Bool) → is_relocated (format_of class) n i ≡ c
          → length (filter_map (reloc_head n) (enumerate_from (i + 1) xs)) ≤ count_by (is_relocated (format_of class) n) (range_with_len (i + 1) (length xs))
          → count_by (is_relocated (format_of class) n) (i ∷ range_with_len (i + 1) (length xs)) ≡ cond (is_relocated (format_of class) n i) 1 0 + count_by (is_relocated (format_of class) n) (range_with_len (i + 1) (length xs))
          → length (cons_option (cond (eqb (length (list_of n.relocs i)) 0) None (Some (RelocHead i s))) (filter_map (reloc_head n) (enumerate_from (i + 1) xs)))
          ≤ count_by (is_relocated (format_of class) n) (i ∷ range_with_len (i + 1) (length xs))
      by true e c g rest sum = rw e (omega (arith, rest, sum))
      by false e true g rest sum = let one : cond {A = ℕ} (is_relocated (format_of class) n i) 1 0 ≡ 1 = ap (λ b. cond {A = ℕ} b 1 0) g in rw e (omega (arith, rest, sum, one))
      by false e false g rest sum = absurd (true≢false (sym (relocated i e) ∙ g))

  pub length-heads : length (heads_of n) ≡ 1 + length n.groups + length n.sections + length (reloc_heads n) + length (table_heads n)
  unfolding heads_of
  length-heads =
      let a = length-append (group_heads n) (section_heads n ++ (reloc_heads n ++ (table_heads n))) in
      let b = length-append (section_heads n) (reloc_heads n ++ (table_heads n)) in
      let c = length-append (reloc_heads n) (table_heads n) in
      let d : length (group_heads n) ≡ length n.groups = length-map (enumerate_from 0 n.groups) group_head ∙ length-enumerate_from 0 n.groups in
      let e : length (section_heads n) ≡ length n.sections = length-map (placed_sections n) section_head ∙ length-enumerate_from 0 n.sections in
      omega (arith, a, b, c, d, e)

  -- as many tables of the whole file as are counted
  pub counted_tables : length (table_heads n) + 1 ≡ cond {A = ℕ} (is_many (format_of class)) 5 4
  counted_tables = by (is_many n.format) ∙ ap (λ f. cond {A = ℕ} (is_many f) 5 4) is.format
    where
      by : (b : Bool) → length (table_heads_by b) + 1 ≡ cond {A = ℕ} b 5 4
      by b = grind arith

  pub few_heads : length (heads_of n) ≤ 4194304
  few_heads =
      let a = length-heads in
      let b = tables_counted 0 n.sections in
      let c = counted_tables in
      let few = is.meets.headers in
      let most = most_low class in
      omega (arith, a, b, c, few, most)

  -- fewer than the reserved numbers where sections are few
  pub plain_heads : is_big class ≡ false → length (heads_of n) < 0xFF00
  plain_heads plain =
      let a = length-heads in
      let b = tables_counted 0 n.sections in
      let c = counted_tables in
      let few = is.meets.headers in
      let most = most_plain class plain in
      omega (arith, a, b, c, few, most)

  -- at most one of relocations for each section
  pub few_reloc_heads : length (reloc_heads n) ≤ length n.sections
  few_reloc_heads =
      let tables = tables_counted 0 n.sections in
      let counted = count_by-le-length (is_relocated (format_of class) n) (range_with_len 0 (length n.sections)) in
      omega (arith, tables, counted, length-range_with_len 0 (length n.sections))
