-- The sizes of a canonical file are numbers of 32 bits.
use Rattle.oc_coff_file.proofs.{StructureLaws.{header_most, symbols_most}, CodedLaws.{IsForCoff, fewest}, LineLaws.{counted_line, lines_counted}}
use Rattle.oc_coff_file.proofs.PartLaws.{length-coff_file, table_place, front_parts}
use Rattle.std.proofs.Common.{◌≡◌, ℕ, suc, ◌+◌, ◌*◌, ◌^◌, ◌<◌, ◌≤◌, Bool, cond, List, [], ◌∷◌, length, map, get_or, refl, sym, ◌∙◌, ap, arith}
use Rattle.std.specs.{Prelude.{flat_map}, List.{sum_by, enumerate_from, AllByRecursion}}
use Rattle.std.proofs.lemmas.{List.Sums.{sum_by-cons}, List.{length-map}}
use Rattle.oc_coff.specs.{declared.form.CoffForm.{CoffForm}, declared.relocation.Relocation.{Relocation}, Forms.{format_of, shape_of}}
use Rattle.oc_coff.specs.Flags.{is_crowded, count_entry}
use Rattle.oc_chains.specs.Lists.{list_of}
use Rattle.oc_neutral.specs.{declared.reloc.Reloc.{Reloc}, declared.section.Section.{Section}, Objects.{Object}, Building.{stored_size, stored_sum}}
use Rattle.oc_neutral.specs.Invariants.{HasItsBytes}
use Rattle.oc_target.specs.CoffMeets.{strings_of}
use Rattle.oc_shows.specs.SymbolLines.{coff_lines}
use Rattle.oc_shows.proofs.SeenFamilies.{coff_table}
use Rattle.oc_shelf.specs.Writing.Parts.{laid_end, behind}
use Rattle.oc_coff_file.specs.{Lines.{Line, lines_of, line_size, numbered_lines, entry_count}, Bodies.{relocs_of}}
use Rattle.oc_coff_file.specs.{Layout.{Part, FileHead, SectionHeads, Raw, Relocs, section_parts, text_of, reloc_entries, part_size}, Canonical.{coff_file}}
use Rattle.oc_chains.specs.declared.field.Field as chains
use Rattle.oc_shows.specs.SymbolLines as table
use Rattle.oc_shows.proofs.SeenTables as counts
use Rattle.oc_shelf.proofs.WritingLaws.SizeLemmas.{table_size}

-- ... sums

-- things behind one another end where their sizes say
pub end_is : {X : Type 0} (size : X → ℕ) (at : ℕ) (xs : List X) → laid_end behind size at xs ≡ at + sum_by size xs
end_is size at [] = omega arith
end_is size at (x ∷ xs) = let a = sum_by-cons size x xs in let b = end_is size (at + size x) xs in omega (arith, a, b)

module _ (w : CoffForm) (n : Object) (is : IsForCoff w n) where
  -- ... the symbol table

  line_sum : (xs : List Line) → sum_by (λ (l : table.Line). l.entries) (map counted_line xs) ≡ sum_by line_size xs
  line_sum [] = refl
  line_sum (x ∷ xs) =
      let a = sum_by-cons (λ (l : table.Line). l.entries) (counted_line x) (map counted_line xs) in
      let b = sum_by-cons line_size x xs in
      let c = line_sum xs in
      omega (arith, a, b, c, one x)
    where
      one : (x : Line) → (counted_line x).entries ≡ line_size x
      one x = grind arith

  pub few_entries : entry_count w n ≤ 2 * length n.sections + 3 * length n.symbols
  few_entries =
      let all : entry_count w n ≡ 0 + sum_by line_size (lines_of w n) = end_is line_size 0 (lines_of w n) in
      let same : counts.entry_count (coff_lines n) ≡ sum_by line_size (lines_of w n)
      = ap (sum_by (λ (l : table.Line). l.entries)) (sym (lines_counted w n is.format)) ∙ line_sum (lines_of w n) in
      let most = (coff_table n).sum in
      omega (arith, all, same, most)

  -- ... the sections

  few_relocs : (k : ℕ) → reloc_entries w n k ≤ length (list_of n.relocs k) + 1
  unfolding relocs_of
  few_relocs k =
      let same : length (relocs_of w (numbered_lines w n) n k) ≡ length (list_of n.relocs k) = length-map (list_of n.relocs k) _ in
      by (relocs_of w (numbered_lines w n) n k) (is_crowded (relocs_of w (numbered_lines w n) n k)) same
    where
      by : (rs : List Relocation) (b : Bool) → length rs ≡ length (list_of n.relocs k) → length (cond b (count_entry rs ∷ rs) rs) ≤ length (list_of n.relocs k) + 1
      by rs b e = grind arith

  abbrev section_size : ℕ × Section → ℕ
  section_size x = length x.1.bytes + 10 * reloc_entries w n x.0

  parts_sum : (ys : List (ℕ × Section)) → sum_by (part_size w n) (flat_map section_parts ys) ≡ sum_by section_size ys
  parts_sum [] = refl
  parts_sum (y ∷ ys) =
      let raw : Part = Raw y.0 y.1 in
      let relocs : Part = Relocs y.0 y.1 in
      let a = sum_by-cons (part_size w n) raw (relocs ∷ flat_map section_parts ys) in
      let b = sum_by-cons (part_size w n) relocs (flat_map section_parts ys) in
      let c = sum_by-cons section_size y ys in
      let d = parts_sum ys in
      omega (arith, a, b, c, d)

  sections_sum : (i : ℕ) (xs : List Section) (ls : List (List (chains.Field Reloc))) → length ls ≡ length xs → ((j : ℕ) → list_of n.relocs (i + j) ≡ get_or ls j []) → AllByRecursion HasItsBytes xs
      → sum_by section_size (enumerate_from i xs) ≤ stored_sum xs + 10 * (sum_by length ls + length xs)
  sections_sum i [] ls e same bytes = omega arith
  sections_sum i (x ∷ xs) [] e same bytes = absurd (omega (arith, e))
  sections_sum i (x ∷ xs) (l ∷ ls) e same bytes =
      let at : i ≡ i + 0 = omega arith in
      let own : list_of n.relocs i ≡ l = ap (list_of n.relocs) at ∙ same 0 in
      let few = few_relocs i in
      let long : length (list_of n.relocs i) ≡ length l = ap length own in
      let first = bytes.0 in
      let later = sections_sum (i + 1) xs ls (omega (arith, e)) (λ j. let next : i + 1 + j ≡ i + suc j = omega arith in ap (list_of n.relocs) next ∙ same (suc j)) bytes.1 in
      let a = sum_by-cons section_size (i, x) (enumerate_from (i + 1) xs) in
      let b = sum_by-cons stored_size x xs in
      let c = sum_by-cons length l ls in
      omega (arith, few, long, first, later, a, b, c)

  pub small_file : length (coff_file w n) < 2 ^ 32
  unfolding text_of
  small_file =
      let long = length-coff_file w n in
      let front : table_place w n ≡ 0 + sum_by (part_size w n) (front_parts n) = end_is (part_size w n) 0 (front_parts n) in
      let rest : List Part = flat_map section_parts (enumerate_from 0 n.sections) in
      let a = sum_by-cons (part_size w n) FileHead (SectionHeads ∷ rest) in
      let b = sum_by-cons (part_size w n) SectionHeads rest in
      let c = parts_sum (enumerate_from 0 n.sections) in
      let d = sections_sum 0 n.sections n.relocs is.object.built.fields.counted (λ j. let e : 0 + j ≡ j = omega arith in ap (list_of n.relocs) e) is.object.built.bytes in
      let entries = few_entries in
      let texts = table_size (strings_of (format_of w) n) in
      let names = is.meets.strings in
      let few = fewest w n is in
      let symbols = is.meets.bounds.symbols in
      let stored = is.meets.bounds.stored in
      let fields = is.meets.bounds.fields in
      let head = header_most (shape_of w) in
      let table = symbols_most (shape_of w) (entry_count w n) in
      omega (arith, long, front, a, b, c, d, entries, texts, names, few, symbols, stored, fields, head, table)
