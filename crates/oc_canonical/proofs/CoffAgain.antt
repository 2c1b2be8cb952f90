-- The canonical COFF file of what is seen of an object is that of the object.
use Rattle.std.proofs.Common.{◌≡◌, ◌≢◌, ℕ, zero, suc, ◌+◌, ◌*◌, ◌<◌, ◌≤◌, Bool, true, false, cond, not, ◌&&◌, List, [], ◌∷◌, ◌++◌, length, map, min, Option, Some, None, inl, inr, refl, sym, ◌∙◌, ap, arith, append-nil}
use mathlib.Core.Path.{fun_ext}
use Rattle.std.specs.{Prelude.{slice_get, filter, flat_map, nat_eq, decimal}, List.{AllByRecursion, enumerate_from, range_with_len}}
use Rattle.std.specs.Option.{option_map, option_map_or, option_and_then, unwrap_or}
use Rattle.std.proofs.lemmas.{Bool.{true≢false, cases_lt, and_parts, false_from_ne_true}, List.{length-map}, List.FromFn.{length-enumerate_from}}
use Rattle.std.proofs.lemmas.Option.{none-some, same_Some, slice_get_within}
use Rattle.oc_base.specs.{Numbers.{bytes_of_number}, Strings.{table_place, table_text}}
use Rattle.oc_linking.specs.{declared.terms.Mark.{Mark}, declared.terms.Mark.TheVariants.{Object as ObjectMark}, declared.terms.Hint.TheVariants.{Call}}
use Rattle.oc_linking.specs.{declared.terms.Value.{Value}, declared.terms.Fallback.{Fallback}, declared.terms.Binding.{Binding}}
use Rattle.oc_linking.specs.{declared.terms.Binding.TheVariants.{Local, Global, Undefined, Common, Weak}, declared.terms.Patch.{Patch}, Images.{overlay}}
use Rattle.oc_linking.specs.Parts.{is_local}
use Rattle.oc_linking.specs.declared.terms.Fallback.TheVariants as fallback
use Rattle.oc_algebra.specs.Fields.{to_field_of}
use Rattle.oc_chains.specs.declared.field.Field as chains
use Rattle.oc_chains.specs.Lists.{list_of}
use Rattle.oc_neutral.specs.{declared.section.Section.{Section}, declared.symbol.Symbol.{Symbol}, declared.reloc.Reloc.{Reloc}, declared.reloc.Target.{Target}}
use Rattle.oc_neutral.specs.{declared.coff.TheConstants.{STRINGS_HEAD}, Objects.{Object, reloc_at}, Faces.{key_of}}
use Rattle.oc_neutral.specs.Coff.Strings.{is_long, is_tabled, has_default, default_name, defaults_of, names_where, symbol_names, key_strings, coff_strings, string_offset}
use Rattle.oc_neutral.specs.{Families.{family_of}, HomeNames.{output_names}, KeySymbols.{global_place, group_at, is_key_name, is_key_at, is_key}}
use Rattle.oc_neutral.specs.{Normal.{Place}, Rows.{Row, shift_of, same_hint}, RelocTables.{rows_of}, Spelling.{written_row}, WrittenSymbols.{is_written}}
use Rattle.oc_neutral.specs.Bindings.{is_written_by}
use Rattle.oc_neutral.specs.declared.reloc.Target.TheVariants as target
use Rattle.oc_target.specs.{CoffMeets.{strings_of, offset_of}, Meets.{HasKeySymbol}}
use Rattle.oc_shows.specs.Manners.{coff_manner, coff_mark}
use Rattle.oc_shows.specs.Seen.{new_position, seen, seen_section, seen_symbol, seen_binding, seen_fallback, seen_field, seen_reloc, seen_target}
use Rattle.oc_shows.specs.SymbolLines.{silent, one, coff_lines, coff_section_lines, coff_entries, needs_default, is_weak_with, is_outer, local_lines}
use Rattle.oc_shows.specs.SymbolLines as table
use Rattle.oc_target.proofs.{MeetsConditions.{own_names}, MeetsRelocs.{normal_of}, SeenReady.{IsReady, coff_ready}}
use Rattle.oc_shows.proofs.{SeenAlike.{relocs_same, seen_local, stands}, SeenLines.{IsShown}, FoundLaws.{found_in}}
use Rattle.oc_shelf.specs.Writing.Parts.{Laid, laid, laid_end, behind, joined, place_where}
use Rattle.oc_shelf.proofs.WritingLaws.MemberLemmas.{map-map, map-alike}
use Rattle.oc_coff.specs.declared.constants.TheConstants.{IMAGE_SYM_CLASS_STATIC, IMAGE_COMDAT_SELECT_ANY, IMAGE_COMDAT_SELECT_ASSOCIATIVE, IMAGE_WEAK_EXTERN_SEARCH_ALIAS, OVERFLOWED_COUNT, IMAGE_REL_I386_ABSOLUTE}
use Rattle.oc_coff.specs.{declared.section_header.TheConstants.{SECTION_HEADER_SIZE}, declared.relocation.TheConstants.{RELOCATION_SIZE}}
use Rattle.oc_coff.specs.{declared.file_header.FileHeader.{FileHeader}, declared.section_header.SectionHeader.{SectionHeader}}
use Rattle.oc_coff.specs.{declared.section_aux.SectionAux.{SectionAux}, declared.weak_aux.WeakAux.{WeakAux}, declared.relocation.Relocation.{Relocation}}
use Rattle.oc_coff.specs.{FileHeader.{file_header_bytes}, SectionHeader.{section_header_bytes}, SymbolEntry.{symbol_bytes}, SectionAux.{section_aux_bytes}}
use Rattle.oc_coff.specs.{WeakAux.{weak_aux_bytes}, Relocation.{relocation_bytes}, declared.form.CoffForm.{CoffForm}}
use Rattle.oc_coff.specs.{Forms.{format_of, word_of, shape_of, symbol_size}, Names.{padded}}
use Rattle.oc_coff.specs.Flags.{with_count, pointer_to, section_flags, machine_of, version_of}
use Rattle.oc_coff.specs.Values.{numbers_by, default_numbers, type_by, class_by, aux_by}
use Rattle.oc_coff_file.specs.Lines.{Line, SectionLine, LocalLine, DefaultLine, OuterLine, lines_where, section_lines, is_written_local, is_free, lines_of, line_size, numbered_lines, entry_count, is_section_line, is_default_line, is_outer_line, section_number, default_number, outer_number}
use Rattle.oc_coff_file.specs.Bodies.{number_or, field_number, field_patch, field_patches, raw_of, target_number, type_of, relocation_of, relocs_of}
use Rattle.oc_coff_file.specs.Layout.{Part, FileHead, SectionHeads, Raw, Relocs, SymbolTable, StringTable, section_parts, parts_of, text_of, part_size, laid_parts, is_raw, is_relocs, is_symbol_table}
use Rattle.oc_coff_file.specs.Canonical.{symbol_field, section_field, leader_number, leads, selection_of, kept_with, header_at, headers_of, entry, line_entry, tag_of, outer_aux, line_aux, line_rows, entry_rows, file_header, part_bytes, coff_file}
use Rattle.oc_coff_file.proofs.{CodedLaws.{IsForCoff}, GroupLaws.{key_is, leader_of, first_passing}, LineLaws.{IsLineOf, numbered_is_of}}
use Rattle.oc_coff_file.proofs.SeenLaws.{shown, again, again_is, are_shown}
use Rattle.oc_canonical.proofs.MapLemmas.{enumerate_map, filter-append, filter-within, filter-apart, flat_map-mapped, lists_map, map_append, filter-flat_map, flat_map-none, flat_map-filter, map-flat_map, laid_as, laid_map, laid_end_map, place_map, place_map_in, joined_map}
use Rattle.oc_canonical.proofs.SeenSymbols.{shown_ones, gathered, ones_gathered, gathered_append, gathered_silent, gathered_where, moved, all_moved, any_same, outer_tell, listed, listed_flat}
use Rattle.oc_canonical.proofs.StaysLemmas.{sections_long, plain_row}
use Rattle.oc_linking.proofs.LawProofs.{not-true}

-- ... what a symbol says

place_same : (n : Object) (shown : List (ℕ × ℕ)) (b : Binding) → global_place (seen_binding coff_manner n shown b) ≡ global_place b
place_same n shown b = grind arith

default_same : (n : Object) (shown : List (ℕ × ℕ)) (b : Binding) → is_weak_with has_default (seen_binding coff_manner n shown b) ≡ is_weak_with has_default b
default_same n shown b = grind arith

weak_same : (n : Object) (shown : List (ℕ × ℕ)) (b : Binding) → is_weak_with (λ f. true) (seen_binding coff_manner n shown b) ≡ is_weak_with (λ f. true) b
weak_same n shown b = grind arith

written_same : (writes : List ℕ → Value → Bool) (n : Object) (shown : List (ℕ × ℕ)) (name : List ℕ) (b : Binding) → is_written_by writes name (seen_binding coff_manner n shown b) ≡ is_written_by writes name b
written_same writes n shown name b = grind arith

defaults_same : (n : Object) (shown : List (ℕ × ℕ)) (name : List ℕ) (b : Binding) → defaults_of name (seen_binding coff_manner n shown b) ≡ defaults_of name b
defaults_same n shown name b = grind arith

no_defaults : (name : List ℕ) (b : Binding) → is_weak_with has_default b ≡ false → defaults_of name b ≡ []
no_defaults name b e = grind arith

numbers_same : (n : Object) (shown : List (ℕ × ℕ)) (b : Binding) → numbers_by (seen_binding coff_manner n shown b) ≡ numbers_by b
numbers_same n shown b = grind arith

default_numbers_same : (n : Object) (shown : List (ℕ × ℕ)) (b : Binding) → default_numbers (seen_binding coff_manner n shown b) ≡ default_numbers b
default_numbers_same n shown b = grind arith

class_same : (n : Object) (shown : List (ℕ × ℕ)) (b : Binding) → class_by (seen_binding coff_manner n shown b) ≡ class_by b
class_same n shown b = grind arith

aux_same : (n : Object) (shown : List (ℕ × ℕ)) (b : Binding) → aux_by (seen_binding coff_manner n shown b) ≡ aux_by b
aux_same n shown b = grind arith

mark_same : (mark : Mark) → type_by (coff_mark mark) ≡ type_by mark
mark_same mark = grind arith

-- an object of COFF has no types for calls
pub plain_rows : (w : CoffForm) → AllByRecursion (λ (r : Row). same_hint r.hint Call ≡ false) (rows_of (format_of w))
plain_rows w = grind arith

module _ (w : CoffForm) (n : Object) (is : IsForCoff w n) where
  abbrev shows : IsShown n (shown n)
  shows = are_shown w n is.format

  abbrev a : Object
  a = again n

  abbrev placed : List (ℕ × Symbol)
  placed = enumerate_from 0 n.symbols

  abbrev move : ℕ × Symbol → ℕ × Symbol
  move = moved coff_manner n (shown n) shows

  ready : IsReady coff_manner n
  ready = coff_ready (format_of w) n is.object is.meets

  -- ... groups and keys

  group_same : (k : ℕ) → group_at a k ≡ group_at n k
  group_same k = by 0 n.sections k
    where
      by : (i : ℕ) (xs : List Section) (k : ℕ) → option_and_then (λ (x : Section). x.group) (slice_get (map (seen_section coff_manner n) (enumerate_from i xs)) k) ≡ option_and_then (λ (x : Section). x.group) (slice_get xs k)
      by i [] k = refl
      by i (x ∷ xs) zero = refl
      by i (x ∷ xs) (suc k) = by (i + 1) xs k

  key_same : (k number : ℕ) (s : Symbol) → is_key_at a k (seen_symbol coff_manner n (shown n) number s) ≡ is_key_at n k s
  key_same k number s =
      ap (λ o. option_map_or (λ (place : Place). nat_eq place.0 k) o false && option_map_or (is_key_name n s.name) (group_at a k) false) (place_same n (shown n) s.binding)
      ∙ ap (λ o. option_map_or (λ (place : Place). nat_eq place.0 k) (global_place s.binding) false && option_map_or (is_key_name n s.name) o false) (group_same k)

  own_key_same : (number : ℕ) (s : Symbol) → is_key a (seen_symbol coff_manner n (shown n) number s) ≡ is_key n s
  own_key_same number s = ap (λ o. option_map_or (λ (place : Place). is_key_at a place.0 (seen_symbol coff_manner n (shown n) number s)) o false) (place_same n (shown n) s.binding) ∙ by (global_place s.binding)
    where
      by : (o : Option Place) → option_map_or (λ (place : Place). is_key_at a place.0 (seen_symbol coff_manner n (shown n) number s)) o false ≡ option_map_or (λ (place : Place). is_key_at n place.0 s) o false
      by None = refl
      by (Some place) = key_same place.0 number s

  key_outer : (k : ℕ) (s : Symbol) → is_key_at n k s ≡ true → is_local s.binding ≡ false
  key_outer k s e = ap is_local (key_is n k s e).binding

  key_own : (k : ℕ) (s : Symbol) → is_key_at n k s ≡ true → is_key n s ≡ true
  key_own k s e = ap (λ b. option_map_or (λ (place : Place). is_key_at n place.0 s) (global_place b) false) (key_is n k s e).binding ∙ e

  key_place : (j k : ℕ) (s : Symbol) → is_key_at n j s ≡ true → is_key_at n k s ≡ true → j ≡ k
  key_place j k s e f =
      let x : (numbers_by s.binding).1 ≡ j + 1 = ap (λ b. (numbers_by b).1) (key_is n j s e).binding in
      let y : (numbers_by s.binding).1 ≡ k + 1 = ap (λ b. (numbers_by b).1) (key_is n k s f).binding in
      omega (arith, x, y)

  -- ... symbols: those of keys by their sections, Locals, and the others

  abbrev kept : Symbol → Bool
  kept s = is_local s.binding && is_written n.format s

  abbrev rest : Symbol → Bool
  rest s = is_outer s.binding && not (is_key n s)

  abbrev keyed : ℕ × Section → List (ℕ × Symbol)
  keyed x = filter (λ (y : ℕ × Symbol). is_key_at n x.0 y.1) placed

  keys_gathered : (i : ℕ) (xs : List Section) → gathered n (flat_map (coff_section_lines n) (enumerate_from i xs)) ≡ flat_map keyed (enumerate_from i xs)
  keys_gathered i [] = refl
  keys_gathered i (x ∷ xs) =
      gathered_append n (coff_section_lines n (i, x)) (flat_map (coff_section_lines n) (enumerate_from (i + 1) xs))
      ∙ ap (λ ys. ys ++ gathered n (flat_map (coff_section_lines n) (enumerate_from (i + 1) xs))) (gathered_where n (is_key_at n i) one)
      ∙ ap (λ ys. keyed (i, x) ++ ys) (keys_gathered (i + 1) xs)

  abbrev keys : List (ℕ × Symbol)
  keys = flat_map keyed (enumerate_from 0 n.sections)

  ones_are : shown_ones n (shown n) ≡ keys ++ (filter (λ (x : ℕ × Symbol). kept x.1) placed ++ filter (λ (x : ℕ × Symbol). rest x.1) placed)
  ones_are =
      let first : List table.Line = flat_map (coff_section_lines n) (enumerate_from 0 n.sections) in
      let defaults : List table.Line = map (λ (s : Symbol). silent 1) (filter needs_default n.symbols) in
      let others : List table.Line = table.lines_where rest coff_entries n.symbols in
      ones_gathered n 0 (coff_lines n)
      ∙ gathered_append n first (local_lines n ++ (defaults ++ others))
      ∙ ap (λ xs. xs ++ gathered n (local_lines n ++ (defaults ++ others))) (keys_gathered 0 n.sections)
      ∙ ap (λ xs. keys ++ xs) (
      gathered_append n (local_lines n) (defaults ++ others)
      ∙ ap (λ xs. xs ++ gathered n (defaults ++ others)) (gathered_where n kept one)
      ∙ ap (λ xs. filter (λ (x : ℕ × Symbol). kept x.1) placed ++ xs) (
      gathered_append n defaults others
      ∙ ap (λ xs. xs ++ gathered n others) (gathered_silent n (λ (s : Symbol). 1) (filter needs_default n.symbols))
      ∙ gathered_where n rest coff_entries))

  -- the parts that a test leaves of these
  split : (test : Symbol → Bool) → filter (λ (x : ℕ × Symbol). test x.1) (shown_ones n (shown n))
      ≡ flat_map (λ x. filter (λ (y : ℕ × Symbol). test y.1) (keyed x)) (enumerate_from 0 n.sections)
      ++ (filter (λ (x : ℕ × Symbol). test x.1) (filter (λ (x : ℕ × Symbol). kept x.1) placed) ++ filter (λ (x : ℕ × Symbol). test x.1) (filter (λ (x : ℕ × Symbol). rest x.1) placed))
  split test =
      let passes : ℕ × Symbol → Bool = λ x. test x.1 in
      let locals : List (ℕ × Symbol) = filter (λ (x : ℕ × Symbol). kept x.1) placed in
      let others : List (ℕ × Symbol) = filter (λ (x : ℕ × Symbol). rest x.1) placed in
      ap (filter passes) ones_are ∙ filter-append passes keys (locals ++ others)
      ∙ ap (λ xs. xs ++ filter passes (locals ++ others)) (filter-flat_map passes keyed (enumerate_from 0 n.sections))
      ∙ ap (λ xs. flat_map (λ x. filter passes (keyed x)) (enumerate_from 0 n.sections) ++ xs) (filter-append passes locals others)

  -- a test that no key symbol passes
  no_keys : (test : Symbol → Bool) → ((k : ℕ) (s : Symbol) → is_key_at n k s ≡ true → test s ≡ false)
      → flat_map (λ x. filter (λ (y : ℕ × Symbol). test y.1) (keyed x)) (enumerate_from 0 n.sections) ≡ []
  no_keys test other = flat_map-none (λ x. filter (λ (y : ℕ × Symbol). test y.1) (keyed x)) (enumerate_from 0 n.sections)
      (λ x. filter-apart (λ (y : ℕ × Symbol). test y.1) (λ (y : ℕ × Symbol). is_key_at n x.0 y.1) placed (λ y e. other x.0 y.1 e))

  kept_local : (s : Symbol) → kept s ≡ true → is_local s.binding ≡ true
  kept_local s e = (and_parts (is_local s.binding) (is_written n.format s) e).0

  rest_outer : (s : Symbol) → rest s ≡ true → is_local s.binding ≡ false
  rest_outer s e = not-true (is_local s.binding) (and_parts (is_outer s.binding) (not (is_key n s)) e).0

  -- a test of Locals that are written
  locals_all : (test : Symbol → Bool) → ((s : Symbol) → test s ≡ true → kept s ≡ true) → filter (λ (x : ℕ × Symbol). test x.1) (shown_ones n (shown n)) ≡ filter (λ (x : ℕ × Symbol). test x.1) placed
  locals_all test within =
      let passes : ℕ × Symbol → Bool = λ x. test x.1 in
      split test
      ∙ ap (λ xs. xs ++ (filter passes (filter (λ (x : ℕ × Symbol). kept x.1) placed) ++ filter passes (filter (λ (x : ℕ × Symbol). rest x.1) placed)))
      (no_keys test (λ k s e. false_from_ne_true (test s) (λ t. true≢false (sym (kept_local s (within s t)) ∙ key_outer k s e))))
      ∙ ap (λ xs. xs ++ filter passes (filter (λ (x : ℕ × Symbol). rest x.1) placed)) (filter-within passes (λ (x : ℕ × Symbol). kept x.1) placed (λ x e. within x.1 e))
      ∙ ap (λ xs. filter passes placed ++ xs)
      (filter-apart passes (λ (x : ℕ × Symbol). rest x.1) placed (λ x e. false_from_ne_true (test x.1) (λ t. true≢false (sym (kept_local x.1 (within x.1 t)) ∙ rest_outer x.1 e))))
      ∙ append-nil (filter passes placed)

  -- a test of those that are neither
  others_all : (test : Symbol → Bool) → ((s : Symbol) → test s ≡ true → rest s ≡ true) → filter (λ (x : ℕ × Symbol). test x.1) (shown_ones n (shown n)) ≡ filter (λ (x : ℕ × Symbol). test x.1) placed
  others_all test within =
      let passes : ℕ × Symbol → Bool = λ x. test x.1 in
      split test
      ∙ ap (λ xs. xs ++ (filter passes (filter (λ (x : ℕ × Symbol). kept x.1) placed) ++ filter passes (filter (λ (x : ℕ × Symbol). rest x.1) placed)))
      (no_keys test (λ k s e. false_from_ne_true (test s) (λ t.
      true≢false (sym (key_own k s e) ∙ not-true (is_key n s) (and_parts (is_outer s.binding) (not (is_key n s)) (within s t)).1))))
      ∙ ap (λ xs. xs ++ filter passes (filter (λ (x : ℕ × Symbol). rest x.1) placed))
      (filter-apart passes (λ (x : ℕ × Symbol). kept x.1) placed (λ x e. false_from_ne_true (test x.1) (λ t. true≢false (sym (kept_local x.1 e) ∙ rest_outer x.1 (within x.1 t)))))
      ∙ filter-within passes (λ (x : ℕ × Symbol). rest x.1) placed (λ x e. within x.1 e)

  -- the key symbols of one section
  abbrev tested : ℕ → ℕ × Section → List (ℕ × Symbol)
  tested k x = filter (λ (y : ℕ × Symbol). is_key_at n k y.1) (keyed x)

  other_keys : (k j : ℕ) (x : Section) → j ≢ k → tested k (j, x) ≡ []
  other_keys k j x differ = filter-apart (λ (y : ℕ × Symbol). is_key_at n k y.1) (λ (y : ℕ × Symbol). is_key_at n j y.1) placed (λ y e. false_from_ne_true (is_key_at n k y.1) (λ f. differ (key_place j k y.1 e f)))

  keys_behind : (k i : ℕ) (xs : List Section) → k < i → flat_map (tested k) (enumerate_from i xs) ≡ []
  keys_behind k i [] low = refl
  keys_behind k i (x ∷ xs) low =
      ap (λ ys. ys ++ flat_map (tested k) (enumerate_from (i + 1) xs)) (other_keys k i x (λ e. omega (arith, e, low))) ∙ keys_behind k (i + 1) xs (omega (arith, low))

  keys_of : (k i : ℕ) (xs : List Section) → i ≤ k → k < i + length xs → flat_map (tested k) (enumerate_from i xs) ≡ filter (λ (y : ℕ × Symbol). is_key_at n k y.1) placed
  keys_of k i [] low high = absurd (omega (arith, low, high))
  keys_of k i (x ∷ xs) low high = elim (cases_lt i k) [
    | inl l ↦
        ap (λ ys. ys ++ flat_map (tested k) (enumerate_from (i + 1) xs)) (other_keys k i x (λ e. omega (arith, e, l)))
        ∙ keys_of k (i + 1) xs (omega (arith, l)) (omega (arith, high))
    | inr ge ↦
        let same : i ≡ k = omega (arith, ge, low) in
        ap (λ (j : ℕ). filter (λ (y : ℕ × Symbol). is_key_at n k y.1) (filter (λ (y : ℕ × Symbol). is_key_at n j y.1) placed) ++ flat_map (tested k) (enumerate_from (i + 1) xs)) same
        ∙ ap (λ ys. ys ++ flat_map (tested k) (enumerate_from (i + 1) xs)) (filter-within (λ (y : ℕ × Symbol). is_key_at n k y.1) (λ (y : ℕ × Symbol). is_key_at n k y.1) placed (λ y e. e))
        ∙ ap (λ ys. filter (λ (y : ℕ × Symbol). is_key_at n k y.1) placed ++ ys) (keys_behind k (i + 1) xs (omega (arith, same)))
        ∙ append-nil (filter (λ (y : ℕ × Symbol). is_key_at n k y.1) placed)
  ]

  keys_all : (k : ℕ) → k < length n.sections → filter (λ (x : ℕ × Symbol). is_key_at n k x.1) (shown_ones n (shown n)) ≡ filter (λ (x : ℕ × Symbol). is_key_at n k x.1) placed
  keys_all k low =
      let passes : ℕ × Symbol → Bool = λ x. is_key_at n k x.1 in
      split (is_key_at n k)
      ∙ ap (λ xs. xs ++ (filter passes (filter (λ (x : ℕ × Symbol). kept x.1) placed) ++ filter passes (filter (λ (x : ℕ × Symbol). rest x.1) placed))) (keys_of k 0 n.sections (omega arith) (omega (arith, low)))
      ∙ ap (λ xs. filter passes placed ++ (xs ++ filter passes (filter (λ (x : ℕ × Symbol). rest x.1) placed)))
      (filter-apart passes (λ (x : ℕ × Symbol). kept x.1) placed (λ x e. false_from_ne_true (is_key_at n k x.1) (λ t. true≢false (sym (kept_local x.1 e) ∙ key_outer k x.1 t))))
      ∙ ap (λ xs. filter passes placed ++ xs)
      (filter-apart passes (λ (x : ℕ × Symbol). rest x.1) placed (λ x e. false_from_ne_true (is_key_at n k x.1) (λ t.
      true≢false (sym (key_own k x.1 t) ∙ not-true (is_key n x.1) (and_parts (is_outer x.1.binding) (not (is_key n x.1)) e).1))))
      ∙ append-nil (filter passes placed)

  -- ... tests

  local_same : (number : ℕ) (s : Symbol) → is_local (seen_symbol coff_manner n (shown n) number s).binding ≡ is_local s.binding
  local_same number s = seen_local coff_manner n (shown n) shows s.binding

  written_local_same : (k number : ℕ) (s : Symbol) → slice_get n.symbols k ≡ Some s → is_written_local w (seen_symbol coff_manner n (shown n) number s) ≡ is_written_local w s
  written_local_same k number s here =
      ap (λ b. b && is_written (format_of w) (seen_symbol coff_manner n (shown n) number s)) (local_same number s)
      ∙ ap (λ b. is_local s.binding && b) (written_same (family_of (format_of w)).writes_local n (shown n) s.name s.binding)

  needs_default_same : (k number : ℕ) (s : Symbol) → slice_get n.symbols k ≡ Some s → needs_default (seen_symbol coff_manner n (shown n) number s) ≡ needs_default s
  needs_default_same k number s here = default_same n (shown n) s.binding

  free_same : (k number : ℕ) (s : Symbol) → slice_get n.symbols k ≡ Some s → is_free a (seen_symbol coff_manner n (shown n) number s) ≡ is_free n s
  free_same k number s here =
      ap (λ b. not b && not (is_key a (seen_symbol coff_manner n (shown n) number s))) (local_same number s) ∙ ap (λ b. not (is_local s.binding) && not b) (own_key_same number s)

  written_kept : (s : Symbol) → is_written_local w s ≡ true → kept s ≡ true
  written_kept s e = ap (λ f. is_local s.binding && is_written f s) is.format ∙ e

  default_rest : (s : Symbol) → needs_default s ≡ true → rest s ≡ true
  default_rest s e =
      ap (λ b. b && not (is_key n s)) (outer s.binding e)
      ∙ ap not (false_from_ne_true (is_key n s) (λ t. not_key s.binding refl e t))
    where
      outer : (b : Binding) → is_weak_with has_default b ≡ true → is_outer b ≡ true
      outer b e = grind arith

      not_key : (b : Binding) → s.binding ≡ b → is_weak_with has_default b ≡ true → is_key n s ≡ true → ⊥
      not_key b own e t = grind arith

  -- ... names

  names_same : output_names (format_of w) a ≡ output_names (format_of w) n
  names_same =
      own_names (format_of w) a is.format
      ∙ by 0 n.sections
      ∙ sym (own_names (format_of w) n is.format)
    where
      by : (i : ℕ) (xs : List Section) → map (λ (s : Section). s.name) (map (seen_section coff_manner n) (enumerate_from i xs)) ≡ map (λ (s : Section). s.name) xs
      by i [] = refl
      by i (x ∷ xs) = ap (λ ys. x.name ∷ ys) (by (i + 1) xs)

  key_strings_same : (i count : ℕ) → i + count ≤ length n.sections → flat_map (key_strings a) (range_with_len i count) ≡ flat_map (key_strings n) (range_with_len i count)
  key_strings_same i zero low = refl
  key_strings_same i (suc count) low =
      let low_here : i < length n.sections = omega (arith, low) in
      ap (λ ks. filter is_long ks ++ flat_map (key_strings a) (range_with_len (i + 1) count))
      (listed coff_manner n (shown n) shows (is_key_at n i) (is_key_at a i) (λ k number s h. key_same i number s) (keys_all i low_here) (λ (s : Symbol). s.name) (λ (s : Symbol). s.name) (λ k number s h. refl))
      ∙ ap (λ xs. key_strings n i ++ xs) (key_strings_same (i + 1) count (omega (arith, low)))

  abbrev writes : List ℕ → Value → Bool
  writes = (family_of (format_of w)).writes_local

  symbol_names_same : symbol_names writes a ≡ symbol_names writes n
  symbol_names_same =
      let locals = listed coff_manner n (shown n) shows (is_written_local w) (is_written_local w) written_local_same (locals_all (is_written_local w) written_kept) (λ (s : Symbol). s.name) (λ (s : Symbol). s.name) (λ k number s h. refl) in
      let others = listed coff_manner n (shown n) shows (is_free n) (is_free a) free_same (others_all (is_free n) (λ s e. e)) (λ (s : Symbol). s.name) (λ (s : Symbol). s.name) (λ k number s h. refl) in
      let defaults : flat_map (λ (s : Symbol). defaults_of s.name s.binding) a.symbols ≡ flat_map (λ (s : Symbol). defaults_of s.name s.binding) n.symbols
      = sym (flat_map-filter needs_default (λ (s : Symbol). defaults_of s.name s.binding) a.symbols (λ s e. no_defaults s.name s.binding e))
      ∙ listed_flat coff_manner n (shown n) shows needs_default needs_default needs_default_same (others_all needs_default default_rest) (λ (s : Symbol). defaults_of s.name s.binding) (λ (s : Symbol). defaults_of s.name s.binding)
      (λ k number s h. defaults_same n (shown n) s.name s.binding)
      ∙ flat_map-filter needs_default (λ (s : Symbol). defaults_of s.name s.binding) n.symbols (λ s e. no_defaults s.name s.binding e) in
      ap (λ xs. xs ++ flat_map (λ (s : Symbol). defaults_of s.name s.binding) a.symbols ++ names_where (is_free a) a) locals
      ∙ ap (λ xs. names_where (is_written_local w) n ++ xs ++ names_where (is_free a) a) defaults
      ∙ ap (λ xs. names_where (is_written_local w) n ++ flat_map (λ (s : Symbol). defaults_of s.name s.binding) n.symbols ++ xs) others

  strings_same : strings_of (format_of w) a ≡ strings_of (format_of w) n
  unfolding coff_strings
  strings_same =
      let names : List (List ℕ) = output_names (format_of w) n in
      let count : ℕ = length n.sections in
      let as_many : length a.sections ≡ count = length-map (enumerate_from 0 n.sections) (seen_section coff_manner n) ∙ length-enumerate_from 0 n.sections in
      ap (λ xs. filter is_tabled xs ++ (flat_map (key_strings a) (range_with_len 0 (length a.sections)) ++ filter is_long (symbol_names writes a))) names_same
      ∙ ap (λ m. filter is_tabled names ++ (flat_map (key_strings a) (range_with_len 0 m) ++ filter is_long (symbol_names writes a))) as_many
      ∙ ap (λ xs. filter is_tabled names ++ (xs ++ filter is_long (symbol_names writes a))) (key_strings_same 0 count (omega arith))
      ∙ ap (λ xs. filter is_tabled names ++ (flat_map (key_strings n) (range_with_len 0 count) ++ filter is_long xs)) symbol_names_same

  pub offset_same : (name : List ℕ) → offset_of (format_of w) a name ≡ offset_of (format_of w) n name
  unfolding string_offset
  offset_same name = ap (λ names. unwrap_or (table_place STRINGS_HEAD names name) 0) strings_same

  symbol_field_same : (name : List ℕ) → symbol_field w a name ≡ symbol_field w n name
  unfolding symbol_field
  symbol_field_same name = ap (λ k. cond (is_long name) (bytes_of_number 4 0 ++ bytes_of_number 4 k) (padded name)) (offset_same name)

  section_field_same : (name : List ℕ) → section_field w a name ≡ section_field w n name
  unfolding section_field
  section_field_same name = ap (λ k. cond (is_tabled name) (padded (47 ∷ decimal k)) (padded name)) (offset_same name)

  text_same : text_of w a ≡ text_of w n
  unfolding text_of
  text_same = ap table_text strings_same

  -- ... lines

  abbrev pub line_again : Line → Line
  line_again (SectionLine k s) = SectionLine k (seen_section coff_manner n (k, s))
  line_again (LocalLine k s) = LocalLine (move (k, s)).0 (move (k, s)).1
  line_again (DefaultLine k s) = DefaultLine (move (k, s)).0 (move (k, s)).1
  line_again (OuterLine k s) = OuterLine (move (k, s)).0 (move (k, s)).1

  where_again : (line : ℕ → Symbol → Line) → ((k : ℕ) (s : Symbol) → line (move (k, s)).0 (move (k, s)).1 ≡ line_again (line k s)) → (test tests : Symbol → Bool)
      → ((k number : ℕ) (s : Symbol) → slice_get n.symbols k ≡ Some s → tests (seen_symbol coff_manner n (shown n) number s) ≡ test s)
      → filter (λ (x : ℕ × Symbol). test x.1) (shown_ones n (shown n)) ≡ filter (λ (x : ℕ × Symbol). test x.1) placed
      → lines_where line tests a ≡ map line_again (lines_where line test n)
  where_again line image test tests same all =
      let passed : List (ℕ × Symbol) = filter (λ (x : ℕ × Symbol). test x.1) placed in
      ap (map (λ (x : ℕ × Symbol). line x.0 x.1)) (all_moved coff_manner n (shown n) shows test tests same all)
      ∙ map-map (λ (x : ℕ × Symbol). line x.0 x.1) move passed
      ∙ map-alike (λ (x : ℕ × Symbol). line (move x).0 (move x).1) (λ (x : ℕ × Symbol). line_again (line x.0 x.1)) passed (λ k x h. image x.0 x.1)
      ∙ sym (map-map line_again (λ (x : ℕ × Symbol). line x.0 x.1) passed)

  abbrev again_at : ℕ × Section → ℕ × Section
  again_at x = (x.0, seen_section coff_manner n x)

  sections_placed : enumerate_from 0 a.sections ≡ map again_at (enumerate_from 0 n.sections)
  sections_placed = enumerate_map (seen_section coff_manner n) 0 n.sections

  -- the section at a place of an enumeration is there
  enumerated_low : (i : ℕ) (xs : List Section) (k : ℕ) (x : ℕ × Section) → slice_get (enumerate_from i xs) k ≡ Some x → x.0 < i + length xs
  enumerated_low i [] k x here = absurd (none-some x here)
  enumerated_low i (y ∷ xs) zero x here = let e = ap (λ (z : ℕ × Section). z.0) (same_Some (i, y) x here) in omega (arith, e)
  enumerated_low i (y ∷ xs) (suc k) x here = let l = enumerated_low (i + 1) xs k x here in omega (arith, l)

  first_again : flat_map (section_lines a) (enumerate_from 0 a.sections) ≡ map line_again (flat_map (section_lines n) (enumerate_from 0 n.sections))
  first_again =
      ap (flat_map (section_lines a)) sections_placed
      ∙ flat_map-mapped again_at (λ x. map line_again (section_lines n x)) (section_lines a) (enumerate_from 0 n.sections) (λ i x h.
      ap (λ ls. SectionLine x.0 (seen_section coff_manner n x) ∷ ls)
      (where_again OuterLine (λ k s. refl) (is_key_at n x.0) (is_key_at a x.0) (λ k number s h. key_same x.0 number s)
      (keys_all x.0 (let l = enumerated_low 0 n.sections i x h in omega (arith, l)))))
      ∙ sym (map-flat_map line_again (section_lines n) (enumerate_from 0 n.sections))

  lines_again : lines_of w a ≡ map line_again (lines_of w n)
  unfolding lines_of
  lines_again =
      let first : List Line = flat_map (section_lines n) (enumerate_from 0 n.sections) in
      let locals : List Line = lines_where LocalLine (is_written_local w) n in
      let defaults : List Line = lines_where DefaultLine needs_default n in
      let others : List Line = lines_where OuterLine (is_free n) n in
      ap (λ ls. ls ++ (lines_where LocalLine (is_written_local w) a ++ (lines_where DefaultLine needs_default a ++ lines_where OuterLine (is_free a) a))) first_again
      ∙ ap (λ ls. map line_again first ++ (ls ++ (lines_where DefaultLine needs_default a ++ lines_where OuterLine (is_free a) a)))
      (where_again LocalLine (λ k s. refl) (is_written_local w) (is_written_local w) written_local_same (locals_all (is_written_local w) written_kept))
      ∙ ap (λ ls. map line_again first ++ (map line_again locals ++ (ls ++ lines_where OuterLine (is_free a) a)))
      (where_again DefaultLine (λ k s. refl) needs_default needs_default needs_default_same (others_all needs_default default_rest))
      ∙ ap (λ ls. map line_again first ++ (map line_again locals ++ (map line_again defaults ++ ls)))
      (where_again OuterLine (λ k s. refl) (is_free n) (is_free a) free_same (others_all (is_free n) (λ s e. e)))
      ∙ ap (λ ls. map line_again first ++ (map line_again locals ++ ls)) (sym (map_append line_again defaults others))
      ∙ ap (λ ls. map line_again first ++ ls) (sym (map_append line_again locals (defaults ++ others)))
      ∙ sym (map_append line_again first (locals ++ (defaults ++ others)))

  size_again : (x : Line) → line_size (line_again x) ≡ line_size x
  size_again x = grind arith

  numbered_again : numbered_lines w a ≡ map (laid_as line_again) (numbered_lines w n)
  numbered_again = ap (laid behind line_size 0) lines_again ∙ laid_map line_again behind behind line_size line_size 0 (lines_of w n) (λ k x h p. refl) (λ k x h. size_again x)

  count_again : entry_count w a ≡ entry_count w n
  count_again = ap (laid_end behind line_size 0) lines_again ∙ laid_end_map line_again behind behind line_size line_size 0 (lines_of w n) (λ x p. refl) size_again

  -- ... numbers of symbols

  section_number_again : (k : ℕ) → section_number (numbered_lines w a) k ≡ section_number (numbered_lines w n) k
  section_number_again k = ap (place_where (is_section_line k)) numbered_again ∙ place_map line_again (is_section_line k) (is_section_line k) (numbered_lines w n) same
    where
      same : (x : Line) → is_section_line k (line_again x) ≡ is_section_line k x
      same x = grind arith

  needs_outer : (b : Binding) → is_weak_with has_default b ≡ true → is_local b ≡ false
  needs_outer b e = grind arith

  module _ (k : ℕ) (s : Symbol) (here : slice_get n.symbols k ≡ Some s) (outer : is_local s.binding ≡ false) where
    default_number_again : default_number (numbered_lines w a) (new_position (shown n) k) ≡ default_number (numbered_lines w n) k
    default_number_again =
        ap (place_where (is_default_line (new_position (shown n) k))) numbered_again
        ∙ place_map_in line_again (is_default_line k) (is_default_line (new_position (shown n) k)) (numbered_lines w n) (λ i l h. same l.part (numbered_is_of w n i l h))
      where
        same : (x : Line) → IsLineOf w n x → is_default_line (new_position (shown n) k) (line_again x) ≡ is_default_line k x
        same (SectionLine j t) of = refl
        same (LocalLine j t) of = refl
        same (DefaultLine j t) of = outer_tell coff_manner n (shown n) shows j k t s of.0 here (needs_outer t.binding of.1) outer
        same (OuterLine j t) of = refl

    outer_number_again : outer_number (numbered_lines w a) (new_position (shown n) k) ≡ outer_number (numbered_lines w n) k
    outer_number_again =
        ap (place_where (is_outer_line (new_position (shown n) k))) numbered_again
        ∙ place_map_in line_again (is_outer_line k) (is_outer_line (new_position (shown n) k)) (numbered_lines w n) (λ i l h. same l.part (numbered_is_of w n i l h))
      where
        same : (x : Line) → IsLineOf w n x → is_outer_line (new_position (shown n) k) (line_again x) ≡ is_outer_line k x
        same (SectionLine j t) of = refl
        same (LocalLine j t) of = refl
        same (DefaultLine j t) of = refl
        same (OuterLine j t) of = outer_tell coff_manner n (shown n) shows j k t s of.0 here of.1 outer

  -- ... relocations

  fields_again : (k : ℕ) → list_of a.relocs k ≡ map (seen_field coff_manner n (shown n)) (list_of n.relocs k)
  fields_again k = lists_map (seen_field coff_manner n (shown n)) n.relocs k

  module _ (k at : ℕ) (r : Reloc) (here : reloc_at n k at ≡ Some r) where
    reduced : (seen_reloc coff_manner n (shown n) r).addend ≡ r.addend
    reduced = (normal_of n is.object k at r here).reduced

    target_again : (t : Target) → r.target ≡ t → target_number (numbered_lines w a) (seen_target (shown n) t) ≡ target_number (numbered_lines w n) t
    target_again (target.Section j) own = section_number_again j
    target_again (target.Symbol j) own = let y = ready.targets k at r j here own in outer_number_again j y.0 y.1 y.2

    type_again : type_of w (seen_reloc coff_manner n (shown n) r) ≡ type_of w r
    unfolding type_of
    type_again = ap (λ o. option_map_or (λ (row : Row). row.number) o IMAGE_REL_I386_ABSOLUTE) (plain_row (format_of w) (plain_rows w) r.form r.hint)

    number_again : field_number w (seen_reloc coff_manner n (shown n) r) ≡ field_number w r
    unfolding field_number
    number_again =
        ap (λ o. option_map_or (λ (row : Row). number_or (to_field_of (word_of w) r.form.width (shift_of row) (seen_reloc coff_manner n (shown n) r).addend)) o 0) (plain_row (format_of w) (plain_rows w) r.form r.hint)
        ∙ ap (λ x. option_map_or (λ (row : Row). number_or (to_field_of (word_of w) r.form.width (shift_of row) x)) (written_row (format_of w) r.form r.hint) 0) reduced

    patch_again : field_patch w (seen_reloc coff_manner n (shown n) r) ≡ field_patch w r
    patch_again = ap patch number_again
      where
        patch : ℕ → Patch
        patch number = record { width = r.form.width; check = r.form.check; residue = number }

  abbrev relocation_as : ℕ → ℕ → ℕ → Relocation
  relocation_as at number type = record { VirtualAddress = at; SymbolTableIndex = number; «Type» = type }

  relocation_again : (k : ℕ) (x : chains.Field Reloc) → reloc_at n k x.at ≡ Some x.item → relocation_of w (numbered_lines w a) (seen_field coff_manner n (shown n) x) ≡ relocation_of w (numbered_lines w n) x
  relocation_again k x here =
      let r : Reloc = x.item in
      ap (λ (number : ℕ). relocation_as x.at number (type_of w (seen_reloc coff_manner n (shown n) r))) (target_again k x.at r here r.target refl)
      ∙ ap (λ (type : ℕ). relocation_as x.at (target_number (numbered_lines w n) r.target) type) (type_again k x.at r here)

  relocs_again : (k : ℕ) → relocs_of w (numbered_lines w a) a k ≡ relocs_of w (numbered_lines w n) n k
  unfolding relocs_of
  relocs_again k =
      let xs : List (chains.Field Reloc) = list_of n.relocs k in
      ap (map (relocation_of w (numbered_lines w a))) (fields_again k)
      ∙ map-map (relocation_of w (numbered_lines w a)) (seen_field coff_manner n (shown n)) xs
      ∙ map-alike (λ x. relocation_of w (numbered_lines w a) (seen_field coff_manner n (shown n) x)) (relocation_of w (numbered_lines w n)) xs
      (λ i x h. relocation_again k x (found_in 0 xs (is.object.built.fields.apart k) i x h).1)

  patches_again : (k at : ℕ) → field_patches w a k at ≡ field_patches w n k at
  patches_again k at = ap (option_map (field_patch w)) (relocs_same coff_manner n (shown n) shows n.relocs k at) ∙ by (reloc_at n k at) refl
    where
      by : (o : Option Reloc) → reloc_at n k at ≡ o → option_map (field_patch w) (option_map (seen_reloc coff_manner n (shown n)) o) ≡ option_map (field_patch w) o
      by None e = refl
      by (Some r) e = ap Some (patch_again k at r e)

  raw_again : (k : ℕ) (s : Section) → raw_of w a k (seen_section coff_manner n (k, s)) ≡ raw_of w n k s
  unfolding raw_of
  raw_again k s = ap (λ o. overlay o 0 s.bytes) (fun_ext (λ at. patches_again k at))

  -- ... groups

  leads_again : (k : ℕ) → k < length n.sections → leads a k ≡ leads n k
  leads_again k low = any_same coff_manner n (shown n) shows (is_key_at n k) (is_key_at a k) (λ j number s h. key_same k number s) (keys_all k low)

  -- the key symbol of a group stands among what is seen
  pub key_again : (g : ℕ) → HasKeySymbol n g → HasKeySymbol a g
  key_again g has =
      let outer : is_local has.symbol.binding ≡ false = strong has.symbol.binding has.place has.placed in
      let t = stands coff_manner n (shown n) shows has.position has.symbol has.there outer in
      record {
        position = new_position (shown n) has.position;
        symbol = seen_symbol coff_manner n (shown n) t.0 has.symbol;
        there = t.1;
        place = has.place;
        placed = place_same n (shown n) has.symbol.binding ∙ has.placed;
        member = group_same has.place.0 ∙ has.member;
        key = has.key;
      }
    where
      strong : (b : Binding) (place : Place) → global_place b ≡ Some place → is_local b ≡ false
      strong b place e = grind arith

  -- a group has one leader
  one_leader : (j k g : ℕ) → group_at n j ≡ Some g → group_at n k ≡ Some g → leads n j ≡ true → leads n k ≡ true → j ≡ k
  one_leader j k g of also first second =
      let x = first_passing (is_key_at n j) n.symbols first in
      let y = first_passing (is_key_at n k) n.symbols second in
      let p = key_is n j x.one x.passes in
      let q = key_is n k y.one y.passes in
      let groups : p.group ≡ q.group = same_Some p.group q.group (sym p.member ∙ of ∙ sym also ∙ q.member) in
      let names : x.one.name ≡ y.one.name = same_Some x.one.name y.one.name (sym p.key ∙ ap (key_of n.groups) groups ∙ q.key) in
      let here = key_outer j x.one x.passes in
      let there = key_outer k y.one y.passes in
      elim (cases_lt x.index y.index) [
        | inl l ↦ absurd (is.object.built.distinct x.index y.index x.one y.one l x.here y.here here there names)
        | inr ge ↦ elim (cases_lt y.index x.index) [
          | inl l ↦ absurd (is.object.built.distinct y.index x.index y.one x.one l y.here x.here there here (sym names))
          | inr le ↦
              let at : x.index ≡ y.index = omega (arith, ge, le) in
              let own : x.one ≡ y.one = same_Some x.one y.one (sym x.here ∙ ap (slice_get n.symbols) at ∙ y.here) in
              key_place j k y.one (ap (is_key_at n j) (sym own) ∙ x.passes) y.passes
        ]
      ]

  leader_again : (g : ℕ) → HasKeySymbol n g → leader_number a g ≡ leader_number n g
  leader_again g has =
      let x = leader_of a g (key_again g has) in
      let y = leader_of n g has in
      let low : x.position < length n.sections = (let l = slice_get_within a.sections x.position x.section x.here in let e = sections_long coff_manner n (shown n) shows in omega (arith, l, e)) in
      let of : group_at n x.position ≡ Some g = sym (group_same x.position) ∙ ap (option_and_then (λ (s : Section). s.group)) x.here ∙ x.group in
      let also : group_at n y.position ≡ Some g = ap (option_and_then (λ (s : Section). s.group)) y.here ∙ y.group in
      let same : x.position ≡ y.position = one_leader x.position y.position g of also (sym (leads_again x.position low) ∙ x.leads) y.leads in
      x.number ∙ ap (λ k. k + 1) same ∙ sym y.number

  module _ (k : ℕ) (s : Section) (here : slice_get n.sections k ≡ Some s) where
    low_here : k < length n.sections
    low_here = slice_get_within n.sections k s here

    selection_again : selection_of a k s.group ≡ selection_of n k s.group
    selection_again = ap (λ b. option_map_or (λ (g : ℕ). cond b IMAGE_COMDAT_SELECT_ANY IMAGE_COMDAT_SELECT_ASSOCIATIVE) s.group 0) (leads_again k low_here)

    with_again : kept_with a k s.group ≡ kept_with n k s.group
    with_again = ap (λ b. option_map_or (λ (g : ℕ). cond b 0 (leader_number a g)) s.group 0) (leads_again k low_here) ∙ by s.group refl
      where
        by : (o : Option ℕ) → s.group ≡ o → option_map_or (λ (g : ℕ). cond (leads n k) 0 (leader_number a g)) o 0 ≡ option_map_or (λ (g : ℕ). cond (leads n k) 0 (leader_number n g)) o 0
        by None e = refl
        by (Some g) e = ap (λ (x : ℕ). cond (leads n k) 0 x) (leader_again g ((is.meets.sections k s here).led g e))

  -- ... entries

  entry_again : (x : Line) → line_entry w a (line_again x) ≡ line_entry w n x
  entry_again (SectionLine k s) = ap (λ field. entry field (0, k + 1) 0 IMAGE_SYM_CLASS_STATIC 1) (symbol_field_same s.name)
  entry_again (LocalLine k s) =
      let c : Binding = seen_binding coff_manner n (shown n) s.binding in
      ap (λ field. entry field (numbers_by c) (type_by (coff_mark s.mark)) IMAGE_SYM_CLASS_STATIC 0) (symbol_field_same s.name)
      ∙ ap (λ numbers. entry (symbol_field w n s.name) numbers (type_by (coff_mark s.mark)) IMAGE_SYM_CLASS_STATIC 0) (numbers_same n (shown n) s.binding)
      ∙ ap (λ (type : ℕ). entry (symbol_field w n s.name) (numbers_by s.binding) type IMAGE_SYM_CLASS_STATIC 0) (mark_same s.mark)
  entry_again (DefaultLine k s) =
      ap (λ field. entry field (default_numbers (seen_binding coff_manner n (shown n) s.binding)) 0 IMAGE_SYM_CLASS_STATIC 0) (symbol_field_same (default_name s.name))
      ∙ ap (λ numbers. entry (symbol_field w n (default_name s.name)) numbers 0 IMAGE_SYM_CLASS_STATIC 0) (default_numbers_same n (shown n) s.binding)
  entry_again (OuterLine k s) =
      let c : Binding = seen_binding coff_manner n (shown n) s.binding in
      ap (λ field. entry field (numbers_by c) (type_by (coff_mark s.mark)) (class_by c) (aux_by c)) (symbol_field_same s.name)
      ∙ ap (λ numbers. entry (symbol_field w n s.name) numbers (type_by (coff_mark s.mark)) (class_by c) (aux_by c)) (numbers_same n (shown n) s.binding)
      ∙ ap (λ (type : ℕ). entry (symbol_field w n s.name) (numbers_by s.binding) type (class_by c) (aux_by c)) (mark_same s.mark)
      ∙ ap (λ (class : ℕ). entry (symbol_field w n s.name) (numbers_by s.binding) (type_by s.mark) class (aux_by c)) (class_same n (shown n) s.binding)
      ∙ ap (λ (count : ℕ). entry (symbol_field w n s.name) (numbers_by s.binding) (type_by s.mark) (class_by s.binding) count) (aux_same n (shown n) s.binding)

  abbrev aux_as : ℕ → ℕ → ℕ → ℕ → SectionAux
  aux_as size count number selection = record { Length = size; NumberOfRelocations = count; NumberOfLinenumbers = 0; CheckSum = 0; Number = number; Selection = selection }

  abbrev weak_as : ℕ → WeakAux
  weak_as tag = record { TagIndex = tag; Characteristics = IMAGE_WEAK_EXTERN_SEARCH_ALIAS }

  tag_again : (k : ℕ) (s : Symbol) → slice_get n.symbols k ≡ Some s → (f : Fallback) → s.binding ≡ Weak f
      → tag_of (numbered_lines w a) (new_position (shown n) k) (seen_fallback coff_manner n (shown n) f) ≡ tag_of (numbered_lines w n) k f
  tag_again k s here (fallback.Place j offset) own = default_number_again k s here (ap is_local own)
  tag_again k s here fallback.Zero own = default_number_again k s here (ap is_local own)
  tag_again k s here (fallback.Name j) own = let y = ready.names k j s here own in outer_number_again j y.symbol y.there y.outer

  outer_aux_again : (k : ℕ) (s : Symbol) → slice_get n.symbols k ≡ Some s → (b : Binding) → s.binding ≡ b
      → outer_aux (shape_of w) (numbered_lines w a) (new_position (shown n) k) (seen_binding coff_manner n (shown n) b) ≡ outer_aux (shape_of w) (numbered_lines w n) k b
  outer_aux_again k s here (Local v) own = refl
  outer_aux_again k s here (Global v) own = refl
  outer_aux_again k s here Undefined own = refl
  outer_aux_again k s here (Common size align) own = refl
  outer_aux_again k s here (Weak f) own = ap (λ (tag : ℕ). weak_aux_bytes (shape_of w) (weak_as tag) ∷ []) (tag_again k s here f own)

  aux_again : (x : Line) → IsLineOf w n x → line_aux w a (line_again x) ≡ line_aux w n x
  aux_again (SectionLine k s) of =
      ap (λ rs. section_aux_bytes (shape_of w) (aux_as s.size (min (length rs) OVERFLOWED_COUNT) (kept_with a k s.group) (selection_of a k s.group)) ∷ []) (relocs_again k)
      ∙ ap (λ (x : ℕ). section_aux_bytes (shape_of w) (aux_as s.size (min (length (relocs_of w (numbered_lines w n) n k)) OVERFLOWED_COUNT) x (selection_of a k s.group)) ∷ []) (with_again k s of)
      ∙ ap (λ (x : ℕ). section_aux_bytes (shape_of w) (aux_as s.size (min (length (relocs_of w (numbered_lines w n) n k)) OVERFLOWED_COUNT) (kept_with n k s.group) x) ∷ []) (selection_again k s of)
  aux_again (LocalLine k s) of = refl
  aux_again (DefaultLine k s) of = refl
  aux_again (OuterLine k s) of = outer_aux_again k s of.0 s.binding refl

  rows_again : (x : Line) → IsLineOf w n x → line_rows w a (line_again x) ≡ line_rows w n x
  unfolding line_rows
  rows_again x of = ap (λ e. symbol_bytes (shape_of w) e ∷ line_aux w a (line_again x)) (entry_again x) ∙ ap (λ xs. symbol_bytes (shape_of w) (line_entry w n x) ∷ xs) (aux_again x of)

  entries_again : entry_rows w a ≡ entry_rows w n
  entries_again =
      ap (flat_map (λ (l : Laid Line). line_rows w a l.part)) numbered_again
      ∙ flat_map-mapped (laid_as line_again) (λ (l : Laid Line). line_rows w n l.part) (λ (l : Laid Line). line_rows w a l.part) (numbered_lines w n)
      (λ i l h. rows_again l.part (numbered_is_of w n i l h))

  -- ... parts

  abbrev pub part_again : Part → Part
  part_again FileHead = FileHead
  part_again SectionHeads = SectionHeads
  part_again (Raw k s) = Raw k (seen_section coff_manner n (k, s))
  part_again (Relocs k s) = Relocs k (seen_section coff_manner n (k, s))
  part_again SymbolTable = SymbolTable
  part_again StringTable = StringTable

  parts_again : parts_of a ≡ map part_again (parts_of n)
  unfolding parts_of
  parts_again =
      let parts : List Part = flat_map section_parts (enumerate_from 0 n.sections) in
      ap (λ ps. FileHead ∷ SectionHeads ∷ ps) (
      ap (λ xs. flat_map section_parts xs ++ SymbolTable ∷ StringTable ∷ []) sections_placed
      ∙ ap (λ ps. ps ++ SymbolTable ∷ StringTable ∷ [])
      (flat_map-mapped again_at (λ x. map part_again (section_parts x)) section_parts (enumerate_from 0 n.sections) (λ i x h. refl)
      ∙ sym (map-flat_map part_again section_parts (enumerate_from 0 n.sections)))
      ∙ sym (map_append part_again parts (SymbolTable ∷ StringTable ∷ [])))

  part_size_again : (x : Part) → part_size w a (part_again x) ≡ part_size w n x
  part_size_again FileHead = refl
  part_size_again SectionHeads = ap (λ count. SECTION_HEADER_SIZE * count) (sections_long coff_manner n (shown n) shows)
  part_size_again (Raw k s) = refl
  part_size_again (Relocs k s) = ap (λ rs. RELOCATION_SIZE * length (with_count rs)) (relocs_again k)
  part_size_again SymbolTable = ap (λ count. symbol_size (shape_of w) * count) count_again
  part_size_again StringTable = ap (λ text. STRINGS_HEAD + length text) text_same

  laid_again : laid_parts w a ≡ map (laid_as part_again) (laid_parts w n)
  laid_again =
      ap (laid behind (part_size w a) 0) parts_again
      ∙ laid_map part_again behind behind (part_size w n) (part_size w a) 0 (parts_of n) (λ k x h p. refl) (λ k x h. part_size_again x)

  raw_place_again : (k : ℕ) → place_where (is_raw k) (laid_parts w a) ≡ place_where (is_raw k) (laid_parts w n)
  raw_place_again k = ap (place_where (is_raw k)) laid_again ∙ place_map part_again (is_raw k) (is_raw k) (laid_parts w n) same
    where
      same : (x : Part) → is_raw k (part_again x) ≡ is_raw k x
      same x = grind arith

  relocs_place_again : (k : ℕ) → place_where (is_relocs k) (laid_parts w a) ≡ place_where (is_relocs k) (laid_parts w n)
  relocs_place_again k = ap (place_where (is_relocs k)) laid_again ∙ place_map part_again (is_relocs k) (is_relocs k) (laid_parts w n) same
    where
      same : (x : Part) → is_relocs k (part_again x) ≡ is_relocs k x
      same x = grind arith

  table_place_again : place_where is_symbol_table (laid_parts w a) ≡ place_where is_symbol_table (laid_parts w n)
  table_place_again = ap (place_where is_symbol_table) laid_again ∙ place_map part_again is_symbol_table is_symbol_table (laid_parts w n) same
    where
      same : (x : Part) → is_symbol_table (part_again x) ≡ is_symbol_table x
      same x = grind arith

  -- ... section headers

  abbrev header_as : Section → List ℕ → List Relocation → ℕ → ℕ → SectionHeader
  header_as s field relocs raw_at relocs_at = record {
    Name = field;
    VirtualSize = 0;
    VirtualAddress = 0;
    SizeOfRawData = s.size;
    PointerToRawData = pointer_to raw_at (length s.bytes);
    PointerToRelocations = pointer_to relocs_at (length relocs);
    PointerToLinenumbers = 0;
    NumberOfRelocations = min (length relocs) OVERFLOWED_COUNT;
    NumberOfLinenumbers = 0;
    Characteristics = section_flags s relocs;
  }

  header_again : (x : ℕ × Section) → header_at w a (again_at x) ≡ header_at w n x
  unfolding header_at
  header_again x =
      let s : Section = x.1 in
      ap (λ field. header_as s field (relocs_of w (numbered_lines w a) a x.0) (place_where (is_raw x.0) (laid_parts w a)) (place_where (is_relocs x.0) (laid_parts w a))) (section_field_same s.name)
      ∙ ap (λ rs. header_as s (section_field w n s.name) rs (place_where (is_raw x.0) (laid_parts w a)) (place_where (is_relocs x.0) (laid_parts w a))) (relocs_again x.0)
      ∙ ap (λ (p : ℕ). header_as s (section_field w n s.name) (relocs_of w (numbered_lines w n) n x.0) p (place_where (is_relocs x.0) (laid_parts w a))) (raw_place_again x.0)
      ∙ ap (λ (p : ℕ). header_as s (section_field w n s.name) (relocs_of w (numbered_lines w n) n x.0) (place_where (is_raw x.0) (laid_parts w n)) p) (relocs_place_again x.0)

  headers_again : headers_of w a ≡ headers_of w n
  headers_again =
      ap (map (header_at w a)) sections_placed
      ∙ map-map (header_at w a) again_at (enumerate_from 0 n.sections)
      ∙ map-alike (λ x. header_at w a (again_at x)) (header_at w n) (enumerate_from 0 n.sections) (λ k x h. header_again x)

  file_header_again : file_header w a ≡ file_header w n
  unfolding file_header
  file_header_again =
      ap (λ (k : ℕ). head k (place_where is_symbol_table (laid_parts w a)) (entry_count w a)) (sections_long coff_manner n (shown n) shows)
      ∙ ap (λ (k : ℕ). head (length n.sections) k (entry_count w a)) table_place_again
      ∙ ap (λ (k : ℕ). head (length n.sections) (place_where is_symbol_table (laid_parts w n)) k) count_again
    where
      head : ℕ → ℕ → ℕ → FileHeader
      head sections place symbols = record {
        Machine = machine_of (word_of w);
        NumberOfSections = sections;
        TimeDateStamp = 0;
        PointerToSymbolTable = place;
        NumberOfSymbols = symbols;
        SizeOfOptionalHeader = 0;
        Characteristics = 0;
        Version = version_of (shape_of w);
      }

  -- ... the file

  bytes_again : (x : Part) → part_bytes w a (part_again x) ≡ part_bytes w n x
  unfolding part_bytes
  bytes_again FileHead = ap (file_header_bytes (shape_of w)) file_header_again
  bytes_again SectionHeads = ap (flat_map section_header_bytes) headers_again
  bytes_again (Raw k s) = raw_again k s
  bytes_again (Relocs k s) = ap (λ rs. flat_map relocation_bytes (with_count rs)) (relocs_again k)
  bytes_again SymbolTable = ap (flat_map (λ (row : List ℕ). row)) entries_again
  bytes_again StringTable = ap (λ text. bytes_of_number STRINGS_HEAD (STRINGS_HEAD + length text) ++ text) text_same

  pub coff_file_again : coff_file w (seen n) ≡ coff_file w n
  unfolding coff_file
  coff_file_again =
      ap (λ m. joined (part_bytes w m) 0 (laid_parts w m)) (again_is w n is.format)
      ∙ ap (joined (part_bytes w a) 0) laid_again
      ∙ joined_map part_again (part_bytes w n) (part_bytes w a) 0 (laid_parts w n) (λ k l h. bytes_again l.part)
