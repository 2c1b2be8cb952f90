-- The symbol table of each family shows each symbol once and every nonlocal, and has a bounded number of entries.
use Rattle.std.proofs.Common.{◌≡◌, ℕ, zero, suc, ◌+◌, ◌*◌, ◌<◌, ◌≤◌, Bool, true, false, ◌&&◌, ◌||◌, cond, not, List, [], ◌∷◌, ◌++◌, length, map, Option, Some, None, refl, sym, ◌∙◌, ap, arith}
use Rattle.std.specs.{Prelude.{slice_get, nat_eq, filter, flat_map}, List.{enumerate_from, list_any, range_with_len}, Option.{option_map_or, option_and_then}}
use Rattle.std.proofs.lemmas.{Bool.{true≢false}, Option.{none-some, same_Some}, List.Sums.{count_by-le-length, length-filter}}
use Rattle.std.proofs.lemmas.List.FromFn.{length-range_with_len}
use Rattle.oc_base.specs.{declared.format.Word.{Word}, declared.format.Word.TheVariants.{W32, W64}}
use Rattle.oc_linking.specs.declared.terms.Fallback.TheVariants as fallback
use Rattle.oc_linking.specs.{declared.terms.Binding.{Binding}, Parts.{is_local}}
use Rattle.oc_neutral.specs.{Bindings.{is_zero}, declared.group.Group.{Group}, declared.section.Section.{Section}, declared.symbol.Symbol.{Symbol}}
use Rattle.oc_neutral.specs.{Objects.{Object}, Dressing.{is_common}, Normal.{Place}, KeySymbols.{global_place, group_at, is_key_name, is_key_at, is_key}}
use Rattle.oc_neutral.specs.{WrittenSymbols.{is_written}, Mach.SectionSymbols.{needed_sections, needs_section_symbol}}
use Rattle.oc_shows.specs.SymbolLines.{Line, silent, one, lines_where, lines_of, local_lines, is_outer, is_global, is_undefined, is_weak_with, is_defined, needs_signature, needs_default, coff_entries, coff_section_lines, elf_lines, coff_lines, mach_lines, omf_lines}
use Rattle.oc_shows.proofs.SeenLines.{IsTable}
use Rattle.oc_shows.proofs.SeenTables.{IsPart, shown_count, entry_count, part_table, part_empty, part_more, part_silent, part_behind, part_repeated, part_join, part_where}

-- the lines show each symbol once and every nonlocal, and have so many entries at most beside one or two for each symbol
pub record HasTable (n : Object) (extra : ℕ) (lines : List Line) : Type 0 where
  pub table : IsTable n lines
  pub count : shown_count lines ≤ length n.symbols
  pub sum : entry_count lines ≤ extra + 2 * length n.symbols

-- by the part that they are
has_table : (n : Object) (test : Symbol → Bool) (extra most : ℕ) (lines : List Line) → IsPart n test extra lines → extra ≤ most
    → ((k : ℕ) (s : Symbol) → slice_get n.symbols k ≡ Some s → is_local s.binding ≡ false → test s ≡ true) → HasTable n most lines
has_table n test extra most lines is le covers = record {
  table = part_table n test extra lines is covers;
  count = let e = is.count in let f = count_by-le-length test n.symbols in omega (arith, e, f);
  sum = let e = is.sum in let f = count_by-le-length test n.symbols in omega (arith, e, f, le);
}

one_few : (s : Symbol) → (0 < one s) × (one s ≤ 2)
one_few s = (omega arith, omega arith)

module _ (n : Object) where
  -- a Local that is written
  abbrev is_kept : Symbol → Bool
  is_kept s = is_local s.binding && is_written n.format s

  locals : IsPart n is_kept 0 (local_lines n)
  locals = part_where is_kept one one_few n

  of : (test : Binding → Bool) → IsPart n (λ s. test s.binding) 0 (lines_of test n)
  of test = part_where (λ s. test s.binding) one one_few n

  -- a Local has no other line
  local_apart : (test : Binding → Bool) → ((b : Binding) → test b ≡ true → is_local b ≡ false) → (s : Symbol) → is_kept s ≡ true → test s.binding ≡ true → ⊥
  local_apart test outer s kept passes = absurd (true≢false (sym kept ∙ ap (λ b. b && is_written n.format s) (outer s.binding passes)))

  -- ... ELF

  outer_is : (b : Binding) → is_outer b ≡ true → is_local b ≡ false
  outer_is b e = grind arith

  elf_covers : (s : Symbol) → is_local s.binding ≡ false → (is_kept s || is_outer s.binding) ≡ true
  elf_covers s outer = ap (λ b. (b && is_written n.format s) || not b) outer

  pub elf_table : HasTable n (1 + length n.sections + length n.groups) (elf_lines n)
  elf_table =
      let signed : List Group = filter (needs_signature n.symbols) n.groups in
      let few : length signed ≤ length n.groups = (let e = length-filter (needs_signature n.symbols) n.groups in let f = count_by-le-length (needs_signature n.symbols) n.groups in omega (arith, e, f)) in
      let test : Symbol → Bool = λ s. is_kept s || is_outer s.binding in
      let symbols : IsPart n test (0 + 0) (local_lines n ++ lines_of is_outer n)
      = part_join n is_kept (λ s. is_outer s.binding) 0 0 (local_lines n) (lines_of is_outer n) locals (of is_outer) (local_apart is_outer outer_is) in
      let all = part_silent n test (length n.sections + (length signed + (0 + 0))) 1 _ (part_repeated n test (length signed + (0 + 0)) _ (length n.sections) (part_behind n test (0 + 0) _ signed symbols)) in
      has_table n test (1 + (length n.sections + (length signed + (0 + 0)))) (1 + length n.sections + length n.groups) (elf_lines n) all (omega (arith, few)) (λ k s here outer. elf_covers s outer)

  -- ... COFF

  -- a key symbol is one of one section, that of its place
  key_place : (k : ℕ) (s : Symbol) (o : Option Place) (b : Bool) → (option_map_or (λ (place : Place). nat_eq place.0 k) o false && b) ≡ true → (place : Place) × (o ≡ Some place) × (place.0 ≡ k)
  key_place k s None b e = absurd (true≢false (sym e))
  key_place k s (Some place) b e = by (nat_eq place.0 k) refl e
    where
      by : (c : Bool) → nat_eq place.0 k ≡ c → (c && b) ≡ true → (q : Place) × (Some place ≡ Some q) × (q.0 ≡ k)
      by c h e = grind arith

  key_at : (k : ℕ) (s : Symbol) → is_key_at n k s ≡ true → (place : Place) × (global_place s.binding ≡ Some place) × (place.0 ≡ k)
  key_at k s e = key_place k s (global_place s.binding) (option_map_or (is_key_name n s.name) (group_at n k) false) e

  one_section : (j k : ℕ) (s : Symbol) → is_key_at n j s ≡ true → is_key_at n k s ≡ true → j ≡ k
  one_section j k s e f =
      let a = key_at j s e in
      let b = key_at k s f in
      sym a.2 ∙ ap (λ (q : Place). q.0) (same_Some a.0 b.0 (sym a.1 ∙ b.1)) ∙ b.2

  key_is : (k : ℕ) (s : Symbol) → is_key_at n k s ≡ true → is_key n s ≡ true
  key_is k s e =
      let a = key_at k s e in
      ap (λ o. option_map_or (λ (place : Place). is_key_at n place.0 s) o false) a.1 ∙ ap (λ j. is_key_at n j s) a.2 ∙ e

  key_outer : (b : Binding) (place : Place) → global_place b ≡ Some place → is_local b ≡ false
  key_outer b place e = grind arith

  -- it is the key symbol of some section from position i on
  abbrev any_key : ℕ → List Section → Symbol → Bool
  any_key i sections s = list_any (λ (x : ℕ × Section). is_key_at n x.0 s) (enumerate_from i sections)

  some_key : (i : ℕ) (sections : List Section) (s : Symbol) → any_key i sections s ≡ true → (k : ℕ) × (i ≤ k) × (is_key_at n k s ≡ true)
  some_key i [] s e = absurd (true≢false (sym e))
  some_key i (x ∷ sections) s e = elim (is_key_at n i s) as (λ b. is_key_at n i s ≡ b → (b || any_key (i + 1) sections s) ≡ true → (k : ℕ) × (i ≤ k) × (is_key_at n k s ≡ true)) [
    | true ↦ λ h e. (i, omega arith, h)
    | false ↦ λ h e. let k = some_key (i + 1) sections s e in (k.0, (let l = k.1 in omega (arith, l)), k.2)
  ] refl e

  key_among : (i j : ℕ) (sections : List Section) (x : Section) (s : Symbol) → slice_get sections j ≡ Some x → is_key_at n (i + j) s ≡ true → any_key i sections s ≡ true
  key_among i j [] x s here e = absurd (none-some x here)
  key_among i zero (y ∷ sections) x s here e = let at : i + 0 ≡ i = omega arith in ap (λ b. b || any_key (i + 1) sections s) (sym (ap (λ k. is_key_at n k s) at) ∙ e)
  key_among i (suc j) (y ∷ sections) x s here e =
      by (is_key_at n i s) (let at : i + 1 + j ≡ i + suc j = omega arith in key_among (i + 1) j sections x s here (ap (λ k. is_key_at n k s) at ∙ e))
    where
      by : (b : Bool) → any_key (i + 1) sections s ≡ true → (b || any_key (i + 1) sections s) ≡ true
      by b e = grind arith

  keys : (i : ℕ) (sections : List Section) → IsPart n (any_key i sections) (2 * length sections) (flat_map (coff_section_lines n) (enumerate_from i sections))
  keys i [] = part_empty n
  keys i (x ∷ sections) =
      part_more n (any_key i (x ∷ sections)) (2 + 0 + 2 * length sections) (2 * length (x ∷ sections)) (flat_map (coff_section_lines n) (enumerate_from i (x ∷ sections)))
      (part_join n (is_key_at n i) (any_key (i + 1) sections) (2 + 0) (2 * length sections) (coff_section_lines n (i, x)) (flat_map (coff_section_lines n) (enumerate_from (i + 1) sections))
      (part_silent n (is_key_at n i) 0 2 (lines_where (is_key_at n i) one n.symbols) (part_where (is_key_at n i) one one_few n))
      (keys (i + 1) sections)
      (λ s e f. let k = some_key (i + 1) sections s f in let same = one_section i k.0 s e k.2 in let l = k.1 in omega (arith, same, l)))
      (omega arith)

  -- every key symbol is one of a section that is there
  grouped_there : (k : ℕ) (s : Symbol) → is_key_at n k s ≡ true → (x : Section) × (slice_get n.sections k ≡ Some x)
  grouped_there k s e = by (slice_get n.sections k) refl (both (option_map_or (λ (place : Place). nat_eq place.0 k) (global_place s.binding) false) e)
    where
      both : (a : Bool) → (a && option_map_or (is_key_name n s.name) (group_at n k) false) ≡ true → option_map_or (is_key_name n s.name) (group_at n k) false ≡ true
      both a e = grind arith

      by : (o : Option Section) → slice_get n.sections k ≡ o → option_map_or (is_key_name n s.name) (option_and_then (λ (y : Section). y.group) o) false ≡ true → (x : Section) × (o ≡ Some x)
      by o h e = grind arith

  key_any : (s : Symbol) → is_key n s ≡ true → any_key 0 n.sections s ≡ true
  key_any s e = by (global_place s.binding) e
    where
      by : (o : Option Place) → option_map_or (λ (place : Place). is_key_at n place.0 s) o false ≡ true → any_key 0 n.sections s ≡ true
      by None e = absurd (true≢false (sym e))
      by (Some place) e =
          let x = grouped_there place.0 s e in
          let at : 0 + place.0 ≡ place.0 = omega arith in
          key_among 0 place.0 n.sections x.0 s x.1 (ap (λ k. is_key_at n k s) at ∙ e)

  -- the other nonlocals
  abbrev is_rest : Symbol → Bool
  is_rest s = is_outer s.binding && not (is_key n s)

  rest_few : (s : Symbol) → (0 < coff_entries s) × (coff_entries s ≤ 2)
  rest_few s = by (is_weak_with (λ f. true) s.binding)
    where
      by : (b : Bool) → (0 < cond b 2 1) × (cond b 2 1 ≤ 2)
      by b = grind arith

  rest_is : (b c : Bool) → (not b && not c) ≡ true → (b ≡ false) × (c ≡ false)
  rest_is b c e = grind arith

  kept_apart : (s : Symbol) → is_kept s ≡ true → is_rest s ≡ true → ⊥
  kept_apart s kept e = absurd (true≢false (sym kept ∙ ap (λ b. b && is_written n.format s) (rest_is (is_local s.binding) (is_key n s) e).0))

  keys_apart : (s : Symbol) → any_key 0 n.sections s ≡ true → (is_kept s || is_rest s) ≡ true → ⊥
  keys_apart s any other =
      let k = some_key 0 n.sections s any in
      let a = key_at k.0 s k.2 in
      let outer : is_local s.binding ≡ false = key_outer s.binding a.0 a.1 in
      let key : is_key n s ≡ true = key_is k.0 s k.2 in
      true≢false (sym other ∙ ap (λ b. (b && is_written n.format s) || (not b && not (is_key n s))) outer ∙ ap not key)

  coff_covers : (s : Symbol) → is_local s.binding ≡ false → (any_key 0 n.sections s || (is_kept s || is_rest s)) ≡ true
  coff_covers s outer = by (is_key n s) refl
    where
      or_true : (a : Bool) → (a || true) ≡ true
      or_true a = grind arith

      by : (b : Bool) → is_key n s ≡ b → (any_key 0 n.sections s || (is_kept s || is_rest s)) ≡ true
      by true e = ap (λ a. a || (is_kept s || is_rest s)) (key_any s e)
      by false e = ap (λ b. any_key 0 n.sections s || ((b && is_written n.format s) || (not b && not (is_key n s)))) outer
          ∙ ap (λ c. any_key 0 n.sections s || not c) e ∙ or_true (any_key 0 n.sections s)

  pub coff_table : HasTable n (2 * length n.sections + length n.symbols) (coff_lines n)
  coff_table =
      let defaults : List Symbol = filter needs_default n.symbols in
      let few : length defaults ≤ length n.symbols = (let e = length-filter needs_default n.symbols in let f = count_by-le-length needs_default n.symbols in omega (arith, e, f)) in
      let others : List Line = lines_where is_rest coff_entries n.symbols in
      let behind : IsPart n is_rest (length defaults + 0) (map (λ (s : Symbol). silent 1) defaults ++ others) = part_behind n is_rest 0 others defaults (part_where is_rest coff_entries rest_few n) in
      let symbols = part_join n is_kept is_rest 0 (length defaults + 0) (local_lines n) (map (λ (s : Symbol). silent 1) defaults ++ others) locals behind kept_apart in
      let all = part_join n (any_key 0 n.sections) (λ s. is_kept s || is_rest s) (2 * length n.sections) (0 + (length defaults + 0)) (flat_map (coff_section_lines n) (enumerate_from 0 n.sections))
      (local_lines n ++ (map (λ (s : Symbol). silent 1) defaults ++ others)) (keys 0 n.sections) symbols keys_apart in
      has_table n (λ s. any_key 0 n.sections s || (is_kept s || is_rest s)) (2 * length n.sections + (0 + (length defaults + 0))) (2 * length n.sections + length n.symbols) (coff_lines n) all (omega (arith, few)) (λ k s here outer. coff_covers s outer)

  -- ... Mach-O and OMF

  abbrev is_open : Binding → Bool
  is_open b = is_common b || is_weak_with is_zero b

  common_apart : (b : Binding) → is_common b ≡ true → is_weak_with is_zero b ≡ true → ⊥
  common_apart b e f = grind arith

  undefined_apart : (b : Binding) → is_undefined b ≡ true → is_open b ≡ true → ⊥
  undefined_apart b e f = grind arith

  defined_apart : (b : Binding) → is_defined b ≡ true → (is_undefined b || is_open b) ≡ true → ⊥
  defined_apart b e f = grind arith

  mach_outer : (b : Binding) → (is_defined b || (is_undefined b || is_open b)) ≡ true → is_local b ≡ false
  mach_outer b e = grind arith

  mach_binding : (b : Binding) (w : Bool) → is_local b ≡ false → ((is_local b && w) || (is_defined b || (is_undefined b || is_open b))) ≡ true
  mach_binding b w e = grind arith

  abbrev mach_test : Symbol → Bool
  mach_test s = is_kept s || (is_defined s.binding || (is_undefined s.binding || is_open s.binding))

  mach_symbols : IsPart n mach_test (0 + (0 + (0 + (0 + 0)))) (local_lines n ++ (lines_of is_defined n ++ (lines_of is_undefined n ++ (lines_of is_common n ++ lines_of (is_weak_with is_zero) n))))
  mach_symbols =
      let others = part_join n (λ s. is_common s.binding) (λ s. is_weak_with is_zero s.binding) 0 0 (lines_of is_common n) (lines_of (is_weak_with is_zero) n) (of is_common) (of (is_weak_with is_zero)) (λ s. common_apart s.binding) in
      let outer = part_join n (λ s. is_undefined s.binding) (λ s. is_open s.binding) 0 (0 + 0) (lines_of is_undefined n) _ (of is_undefined) others (λ s. undefined_apart s.binding) in
      let shared = part_join n (λ s. is_defined s.binding) (λ s. is_undefined s.binding || is_open s.binding) 0 (0 + (0 + 0)) (lines_of is_defined n) _ (of is_defined) outer (λ s. defined_apart s.binding) in
      part_join n is_kept (λ s. is_defined s.binding || (is_undefined s.binding || is_open s.binding)) 0 (0 + (0 + (0 + 0))) (local_lines n) _ locals shared
      (local_apart (λ b. is_defined b || (is_undefined b || is_open b)) mach_outer)

  needed_few : length (needed_sections n) ≤ length n.sections
  unfolding needed_sections
  needed_few =
      let e = length-filter (needs_section_symbol n) (range_with_len 0 (length n.sections)) in
      let f = count_by-le-length (needs_section_symbol n) (range_with_len 0 (length n.sections)) in
      let g = length-range_with_len 0 (length n.sections) in
      omega (arith, e, f, g)

  pub mach_table : (w : Word) → HasTable n (length n.sections) (mach_lines w n)
  mach_table W32 = has_table n mach_test (0 + (0 + (0 + (0 + 0)))) (length n.sections) (mach_lines W32 n) mach_symbols (omega arith) (λ k s here outer. mach_binding s.binding (is_written n.format s) outer)
  mach_table W64 =
      let few = needed_few in
      has_table n mach_test (length (needed_sections n) + (0 + (0 + (0 + (0 + 0))))) (length n.sections) (mach_lines W64 n) (part_behind n mach_test (0 + (0 + (0 + (0 + 0)))) _ (needed_sections n) mach_symbols)
      (omega (arith, few)) (λ k s here outer. mach_binding s.binding (is_written n.format s) outer)

  -- where there are no Weaks
  common_global : (b : Binding) → is_common b ≡ true → is_global b ≡ true → ⊥
  common_global b e f = grind arith

  undefined_global : (b : Binding) → is_undefined b ≡ true → (is_common b || is_global b) ≡ true → ⊥
  undefined_global b e f = grind arith

  abbrev omf_test : Symbol → Bool
  omf_test s = is_undefined s.binding || (is_common s.binding || is_global s.binding)

  omf_binding : (b : Binding) → is_local b ≡ false → is_weak_with (λ f. true) b ≡ false → (is_undefined b || (is_common b || is_global b)) ≡ true
  omf_binding b e f = grind arith

  pub omf_table : ((k : ℕ) (s : Symbol) → slice_get n.symbols k ≡ Some s → is_weak_with (λ f. true) s.binding ≡ false) → HasTable n 0 (omf_lines n)
  omf_table strong =
      let others = part_join n (λ s. is_common s.binding) (λ s. is_global s.binding) 0 0 (lines_of is_common n) (lines_of is_global n) (of is_common) (of is_global) (λ s. common_global s.binding) in
      let all = part_join n (λ s. is_undefined s.binding) (λ s. is_common s.binding || is_global s.binding) 0 (0 + 0) (lines_of is_undefined n) _ (of is_undefined) others (λ s. undefined_global s.binding) in
      has_table n omf_test (0 + (0 + 0)) 0 (omf_lines n) all (omega arith) (λ k s here outer. omf_binding s.binding outer (strong k s here))
