-- The canonical Mach-O file of what is seen of an object is that of the object.
use Rattle.std.proofs.Common.{◌≡◌, ◌≢◌, ℕ, ◌+◌, ◌-◌, ◌*◌, ◌%◌, Bool, true, false, cond, not, ◌&&◌, ◌||◌, List, [], ◌∷◌, ◌++◌, length, map, Option, Some, None, ℤ, pos, inl, inr, ◌⊎◌, refl, sym, ◌∙◌, ap, arith, append-nil}
use mathlib.Core.Path.{fun_ext}
use Rattle.std.specs.Prelude.{slice_get, filter, flat_map, replicate, nat_eq, neg_ℤ, ◌-ℤ◌, ◌+ℤ◌}
use Rattle.std.specs.{List.{AllByRecursion, enumerate_from, list_any, range_with_len}, Option.{option_map, option_map_or, option_and_then}}
use Rattle.std.proofs.lemmas.{Bool.{true≢false, and_parts, false_from_ne_true}, Int.{ints}, List.{length-map}, Option.{none-some}}
use Rattle.oc_base.specs.{declared.format.Word.{Word}, declared.format.Word.TheVariants.{W32, W64}, Formats.{word_for}}
use Rattle.oc_linking.specs.{declared.terms.Hint.{Hint}, declared.terms.Hint.TheVariants.{Call}, declared.terms.Less.{Less}}
use Rattle.oc_linking.specs.{declared.terms.Visibility.{Visibility}, declared.terms.Visibility.TheVariants.{Default}, declared.terms.Value.{Value}}
use Rattle.oc_linking.specs.{declared.terms.Fallback.{Fallback}, declared.terms.Binding.{Binding}}
use Rattle.oc_linking.specs.{declared.terms.Binding.TheVariants.{Local, Global, Undefined, Common, Weak}, declared.terms.Patch.{Patch}, Images.{overlay}}
use Rattle.oc_linking.specs.{Parts.{is_local}, Numbers.{modulus}}
use Rattle.oc_linking.specs.declared.terms.Less.TheVariants as less
use Rattle.oc_linking.specs.declared.terms.Value.TheVariants as value
use Rattle.oc_linking.specs.declared.terms.Fallback.TheVariants as fallback
use Rattle.oc_linking.specs.declared.terms.Base.TheVariants as base
use Rattle.oc_algebra.specs.{declared.form.Form.{Form}, Fields.{field_for, to_field_of}, Residues.{residue_of, reduced_number}}
use Rattle.oc_algebra.proofs.Laws.{residue_add, residue_reduced, reduced_same}
use Rattle.oc_chains.specs.declared.field.Field as chains
use Rattle.oc_chains.specs.Lists.{list_of}
use Rattle.oc_neutral.specs.{declared.section.Section.{Section}, declared.symbol.Symbol.{Symbol}, declared.reloc.Reloc.{Reloc}, declared.reloc.Target.{Target}}
use Rattle.oc_neutral.specs.{Bindings.{is_written_by}, Dressing.{is_common}, Families.{family_of}, KeySymbols.{global_place}}
use Rattle.oc_neutral.specs.Mach.SectionSymbols.{section_symbol_name, names_section, any_names, needs_section_symbol, needed_sections}
use Rattle.oc_neutral.specs.{Mach.SelfReferences.{is_section, is_long_distance, is_self_reference}, Normal.{Place, moved_addend, at_section, takes_section}}
use Rattle.oc_neutral.specs.{Objects.{Object, reloc_at}, RelocTables.{rows_of}, Rows.{Row, TakesPlace, TakesSection, same_taken, taken_of, same_hint}}
use Rattle.oc_neutral.specs.{Shifts.{Sectional, entry_target_shift, sectdiff_shift, written_shift}, Spelling.{written_row}, TargetRelocations.{section_taken}}
use Rattle.oc_neutral.specs.{WrittenSymbols.{is_written}, Mach.Kinds.{segment_of, section_of}}
use Rattle.oc_neutral.specs.declared.reloc.Target.TheVariants as target
use Rattle.oc_neutral.specs.Bindings as weak
use Rattle.oc_shows.specs.Manners.{mach_manner, mach_vis, mach_hint, mach_by_section, hidden, is_of_section, Manner}
use Rattle.oc_shows.specs.Seen.{place_at, target_place, section_place, new_position, seen, seen_section, seen_symbol, seen_binding, seen_fallback, seen_field, seen_reloc, seen_target}
use Rattle.oc_shows.specs.SymbolLines.{one, is_defined, is_undefined, is_weak_with, mach_lines}
use Rattle.oc_shows.specs.SymbolLines as table
use Rattle.oc_target.proofs.{MeetsRelocs.{normal_of}, SeenReady.{IsReady, mach_ready}}
use Rattle.oc_shows.proofs.{SeenAlike.{relocs_same, seen_local, stands}, SeenLines.{IsShown}, FoundLaws.{found_in}}
use Rattle.oc_shelf.specs.{Writing.Packed.{packed}, Writing.Parts.{Laid, laid, laid_end, behind, joined, place_where}}
use Rattle.oc_shelf.proofs.{WritingLaws.MemberLemmas.{map-map, map-alike, of_enumerated}, WritingLaws.PartLemmas.{laid_part}}
use Rattle.oc_macho.specs.{declared.constants.TheConstants.{MH_OBJECT, LC_DYSYMTAB, N_SECT}, declared.load_command.TheConstants.{DYSYMTAB_COMMAND_SIZE}}
use Rattle.oc_macho.specs.{declared.symtab_command.TheConstants.{SYMTAB_COMMAND_SIZE}, declared.names.TheConstants.{NAME_SIZE}}
use Rattle.oc_macho.specs.{SegmentCommand.{segment_number, segment_command_size}, declared.relocation_info.RelocationInfo.{RelocationInfo}}
use Rattle.oc_macho.specs.{declared.mach_header.MachHeader.{MachHeader}, declared.section_header.SectionHeader.{SectionHeader}}
use Rattle.oc_macho.specs.{declared.symtab_command.SymtabCommand.{SymtabCommand}, declared.nlist.Nlist.{Nlist}}
use Rattle.oc_macho.specs.{MachHeader.{address_size, cpu_type, mach_format, mach_header_size}, SectionHeader.{section_header_size}}
use Rattle.oc_macho.specs.declared.constants.TheConstants.{COMMAND_COUNT, CPU_SUBTYPE_ALL, VM_PROT_ALL}
use Rattle.oc_macho.specs.Structures.{magic_of, padded, mach_header_bytes, symtab_bytes, section_bytes, nlist_bytes, relocation_bytes}
use Rattle.oc_macho.specs.declared.relocation_info.Reference.TheVariants as reference
use Rattle.oc_macho_file.specs.Addresses.{Numbered, is_blank, stored_sections, blank_sections, section_begin, size_of, mapped, is_at, address_of, memory_end, stored_end}
use Rattle.oc_macho_file.specs.Lines.{Line, OwnLine, LocalLine, OuterLine, own_lines, lines_where, local_lines, inner_lines, defined_lines, undefined_lines, lines_of, line_size, numbered_lines, is_own_line, is_symbol_line, own_number, symbol_number, line_name}
use Rattle.oc_macho_file.specs.Bodies.{WrittenReloc, taken_section, end_address, end_section_address, entry_target_of, alone_shift, pair_shift, field_shift, number_or, field_number, written_reloc_at, field_patch, field_patches, raw_of, reference_to, plain_entry, scattered_entry, pair_entries, standing_entries, entries_at, entries_of}
use Rattle.oc_macho_file.specs.Layout.{Part, FileHead, SegmentHead, SectionHeads, SymtabHead, DysymtabHead, Raw, Relocs, SymbolTable, StringTable, raw_part, relocs_part, head_parts, table_parts, parts_of, commands_length, contents_begin, relocs_of, line_names, offset_in, strings_of, filled, string_table, part_size, part_begin, laid_parts, part_where, is_raw, is_relocs, is_symbol_table, is_string_table}
use Rattle.oc_macho_file.specs.Symbols.{exponent_of, ValueFields, value_fields_at, value_fields_by, value_fields_for, value_fields_of, external_flag, private_flag, desc_by, symbol_entry, line_entry}
use Rattle.oc_macho_file.specs.Canonical.{file_header, segment_numbers, pointer_to, section_header, section_headers, symtab_command, words, dysymtab_numbers, part_bytes, mach_file}
use Rattle.oc_macho_file.proofs.{CodedLaws.{IsForMach, IsPlaced, word_back, fallback_is}, LineLaws.{IsLine, line_at}, RowLaws.{IsKnown, KnownAlone, KnownPair}}
use Rattle.oc_macho_file.proofs.EntryLaws.{mach_reloc, meets, entry, row_is, known, standing, standing_is, pair_second}
use Rattle.oc_macho_file.proofs.SeenLaws.{shown, again, again_is, are_shown}
use Rattle.oc_canonical.proofs.MapLemmas.{enumerate_map, filter-append, filter-mapped, filter-within, filter-apart, filter-same, flat_map-mapped, lists_map, map_append, any_mapped, laid_as, laid_map, laid_end_map, place_map, place_map_in, joined_map}
use Rattle.oc_canonical.proofs.SeenSymbols.{shown_ones, gathered, ones_gathered, gathered_append, gathered_silent, gathered_where, moved, all_moved, outer_tell}
use Rattle.oc_canonical.proofs.StaysLemmas.{sections_long, plain_row}

-- ... parts of a list by tests, of which no two hold of one

abbrev passes : (Symbol → Bool) → ℕ × Symbol → Bool
passes test x = test x.1

abbrev picked : List (ℕ × Symbol) → List (Symbol → Bool) → List (ℕ × Symbol)
picked xs tests = flat_map (λ test. filter (passes test) xs) tests

abbrev IsApart : (Symbol → Bool) → (Symbol → Bool) → Type 0
IsApart test u = (s : Symbol) → u s ≡ true → test s ≡ false

none_picked : (xs : List (ℕ × Symbol)) (test : Symbol → Bool) (us : List (Symbol → Bool)) → AllByRecursion (IsApart test) us → filter (passes test) (picked xs us) ≡ []
none_picked xs test [] apart = refl
none_picked xs test (u ∷ us) apart =
    filter-append (passes test) (filter (passes u) xs) (picked xs us)
    ∙ ap (λ ys. ys ++ filter (passes test) (picked xs us)) (filter-apart (passes test) (passes u) xs (λ x e. apart.0 x.1 e))
    ∙ none_picked xs test us apart.1

one_picked : (xs : List (ℕ × Symbol)) (test : Symbol → Bool) (us vs : List (Symbol → Bool)) → AllByRecursion (IsApart test) us → AllByRecursion (IsApart test) vs
    → filter (passes test) (picked xs (us ++ test ∷ vs)) ≡ filter (passes test) xs
one_picked xs test [] vs before after =
    filter-append (passes test) (filter (passes test) xs) (picked xs vs)
    ∙ ap (λ ys. ys ++ filter (passes test) (picked xs vs)) (filter-within (passes test) (passes test) xs (λ x e. e))
    ∙ ap (λ ys. filter (passes test) xs ++ ys) (none_picked xs test vs after)
    ∙ append-nil (filter (passes test) xs)
one_picked xs test (u ∷ us) vs before after =
    filter-append (passes test) (filter (passes u) xs) (picked xs (us ++ test ∷ vs))
    ∙ ap (λ ys. ys ++ filter (passes test) (picked xs (us ++ test ∷ vs))) (filter-apart (passes test) (passes u) xs (λ x e. before.0 x.1 e))
    ∙ one_picked xs test us vs before.1 after

-- ... bindings by their part of the table

abbrev rank : Binding → ℕ
rank (Local v) = 0
rank (Global v) = 1
rank Undefined = 2
rank (Common size align) = 3
rank (Weak f) = cond (weak.is_zero f) 4 1

local_rank : (b : Binding) → is_local b ≡ true → rank b ≡ 0
local_rank b e = grind arith

defined_rank : (b : Binding) → is_defined b ≡ true → rank b ≡ 1
defined_rank b e = grind arith

undefined_rank : (b : Binding) → is_undefined b ≡ true → rank b ≡ 2
undefined_rank b e = grind arith

common_rank : (b : Binding) → is_common b ≡ true → rank b ≡ 3
common_rank b e = grind arith

weak_rank : (b : Binding) → is_weak_with weak.is_zero b ≡ true → rank b ≡ 4
weak_rank b e = grind arith

-- a test of symbols of one rank
abbrev IsRanked : (Symbol → Bool) → ℕ → Type 0
IsRanked test k = (s : Symbol) → test s ≡ true → rank s.binding ≡ k

apart_by : (test u : Symbol → Bool) (i j : ℕ) → IsRanked test i → IsRanked u j → i ≢ j → IsApart test u
apart_by test u i j first second differ s e = false_from_ne_true (test s) (λ t. differ (sym (first s t) ∙ second s e))

-- ... what a symbol says

module _ (w : Word) (n : Object) (sh : List (ℕ × ℕ)) where
  abbrev bound : Binding → Binding
  bound b = seen_binding (mach_manner w) n sh b

  zero_same : (f : Fallback) → weak.is_zero (seen_fallback (mach_manner w) n sh f) ≡ weak.is_zero f
  zero_same (fallback.Place k offset) = refl
  zero_same fallback.Zero = refl
  zero_same (fallback.Name k) = by (place_at n k)
    where
      by : (o : Option Place) → weak.is_zero (option_map_or (λ (place : Place). fallback.Place place.0 place.1) o (fallback.Name (new_position sh k))) ≡ false
      by o = grind arith

  place_same : (b : Binding) → global_place (bound b) ≡ global_place b
  place_same b = grind arith

  defined_same : (b : Binding) → is_defined (bound b) ≡ is_defined b
  defined_same b = grind arith

  undefined_same : (b : Binding) → is_undefined (bound b) ≡ is_undefined b
  undefined_same b = grind arith

  common_same : (b : Binding) → is_common (bound b) ≡ is_common b
  common_same b = grind arith

  weak_same : (b : Binding) → is_weak_with weak.is_zero (bound b) ≡ is_weak_with weak.is_zero b
  weak_same b = grind arith

  pub written_same : (writes : List ℕ → Value → Bool) (name : List ℕ) (b : Binding) → is_written_by writes name (bound b) ≡ is_written_by writes name b
  written_same writes name b = grind arith

  external_same : (b : Binding) → external_flag (bound b) ≡ external_flag b
  external_same b = grind arith

  desc_same : (b : Binding) → desc_by (bound b) ≡ desc_by b
  desc_same b = grind arith

  vis_same : (b : Binding) (own : Visibility) → mach_vis (bound b) (mach_vis b own) ≡ mach_vis b own
  vis_same b own = ap (λ c. cond c (hidden (mach_vis b own)) Default) (defined_same b) ∙ by (is_defined b)
    where
      twice : (v : Visibility) → hidden (hidden v) ≡ hidden v
      twice v = grind arith

      by : (c : Bool) → cond c (hidden (cond c (hidden own) Default)) Default ≡ cond c (hidden own) Default
      by c = grind arith

-- ... rows

plain_rows : AllByRecursion (λ (r : Row). same_hint r.hint Call ≡ false) (rows_of (mach_format W32))
plain_rows = (refl, (refl, (refl, (refl, tt))))

pub row_same : (w : Word) (form : Form) (hint : Hint) → written_row (mach_format w) form (mach_hint w hint) ≡ written_row (mach_format w) form hint
row_same W32 form hint = plain_row (mach_format W32) plain_rows form hint
row_same W64 form hint = refl

-- ... a Global that is read as its section

pub record IsMoved (w : Word) (n : Object) (r : Reloc) (p : Place) : Type 0 where
  pub short : w ≡ W32
  pub section : is_of_section r.form.less ≡ true
  pub number : ℕ
  pub target : r.target ≡ target.Symbol number
  pub place : place_at n number ≡ Some p

pub is_moved : (w : Word) (n : Object) (r : Reloc) (p : Place) → section_place (mach_manner w) n r ≡ Some p → IsMoved w n r p
is_moved w n r p own = by w r.target refl refl own
  where
    none : (b : Bool) → cond {A = Option Place} b None None ≡ Some p → ⊥
    none b h = grind arith

    kept : (z : Place) (c : Bool) → cond c None (Some z) ≡ Some p → Some z ≡ Some p
    kept z c h = grind arith

    pick : (b : Bool) (o : Option Place) → cond b (option_and_then (λ (place : Place). cond (takes_section place.0 r.form.less) None (Some place)) o) None ≡ Some p → (b ≡ true) × (o ≡ Some p)
    pick b o h = grind arith

    by : (v : Word) (t : Target) → w ≡ v → r.target ≡ t → cond (mach_by_section v r.form.less) (target_place n r.form.less t) None ≡ Some p → IsMoved w n r p
    by v t e f h = grind arith

section_takes : (l : Less) → is_of_section l ≡ true → same_taken (taken_of l) TakesSection ≡ true
section_takes l e = grind arith

-- the same number, by the section and by the place in it
moved_number : (A i : ℤ) (T P offset : ℕ) → i ≡ pos T -ℤ pos P → A +ℤ pos offset +ℤ neg_ℤ i ≡ A -ℤ (pos T -ℤ pos (P + offset))
moved_number A i T P offset e = omega (arith, ints, e)

less_is : (A i : ℤ) → A -ℤ i ≡ A +ℤ neg_ℤ i
less_is A i = omega (arith, ints)

module _ (w : Word) (n : Object) (is : IsForMach w n) where
  abbrev m : Manner
  m = mach_manner w

  abbrev sh : List (ℕ × ℕ)
  sh = shown w n

  abbrev shows : IsShown n sh
  shows = are_shown w n

  abbrev a : Object
  a = again w n

  abbrev placed : List (ℕ × Symbol)
  placed = enumerate_from 0 n.symbols

  abbrev move : ℕ × Symbol → ℕ × Symbol
  move = moved m n sh shows

  pub ready : IsReady m n
  ready = mach_ready (mach_format w) w n is.object is.meets (all w)
    where
      all : (v : Word) → v ≡ W32 → AllByRecursion (λ (r : Row). r.base ≡ base.Address) (rows_of (mach_format v))
      all v e = grind arith

  -- ... sections and their addresses

  abbrev again_at : ℕ × Section → ℕ × Section
  again_at x = (x.0, seen_section m n x)

  sections_placed : enumerate_from 0 a.sections ≡ map again_at (enumerate_from 0 n.sections)
  sections_placed = enumerate_map (seen_section m n) 0 n.sections

  blank_same : (k : ℕ) (x : Numbered) → slice_get (enumerate_from 0 n.sections) k ≡ Some x → is_blank (again_at x) ≡ is_blank x
  blank_same k x here = let y = of_enumerated 0 n.sections k x here in ready.kinds k x.1 y.1

  stored_again : stored_sections a ≡ map again_at (stored_sections n)
  stored_again =
      ap (filter (λ (x : Numbered). not (is_blank x))) sections_placed
      ∙ filter-mapped again_at (λ (x : Numbered). not (is_blank x)) (λ (x : Numbered). not (is_blank x)) (enumerate_from 0 n.sections) (λ k x h. ap not (blank_same k x h))

  blank_again : blank_sections a ≡ map again_at (blank_sections n)
  blank_again = ap (filter is_blank) sections_placed ∙ filter-mapped again_at is_blank is_blank (enumerate_from 0 n.sections) blank_same

  abbrev ordered : List Numbered
  ordered = stored_sections n ++ blank_sections n

  ordered_again : stored_sections a ++ blank_sections a ≡ map again_at ordered
  ordered_again =
      ap (λ xs. xs ++ blank_sections a) stored_again ∙ ap (λ xs. map again_at (stored_sections n) ++ xs) blank_again ∙ sym (map_append again_at (stored_sections n) (blank_sections n))

  mapped_again : mapped a ≡ map (laid_as again_at) (mapped n)
  mapped_again = ap (laid section_begin size_of 0) ordered_again ∙ laid_map again_at section_begin section_begin size_of size_of 0 ordered (λ k x h p. refl) (λ k x h. refl)

  pub address_again : (k : ℕ) → address_of a k ≡ address_of n k
  unfolding address_of
  address_again k = ap (place_where (is_at k)) mapped_again ∙ place_map again_at (is_at k) (is_at k) (mapped n) (λ x. refl)

  memory_again : memory_end a ≡ memory_end n
  memory_again = ap (laid_end section_begin size_of 0) ordered_again ∙ laid_end_map again_at section_begin section_begin size_of size_of 0 ordered (λ x p. refl) (λ x. refl)

  stored_end_again : stored_end a ≡ stored_end n
  stored_end_again = ap (laid_end section_begin size_of 0) stored_again ∙ laid_end_map again_at section_begin section_begin size_of size_of 0 (stored_sections n) (λ x p. refl) (λ x. refl)

  count_same : length a.sections ≡ length n.sections
  count_same = sections_long m n sh shows

  -- ... relocations as they are seen

  abbrev q : Reloc → Reloc
  q r = seen_reloc m n sh r

  pub form_same : (r : Reloc) → (q r).form ≡ r.form
  form_same r = by (section_place m n r)
    where
      by : (o : Option Place) → (at_section (word_for n.format) r o).form ≡ r.form
      by o = grind arith

  pub hint_same : (r : Reloc) → (q r).hint ≡ mach_hint w r.hint
  hint_same r = by (section_place m n r)
    where
      by : (o : Option Place) → mach_hint w (at_section (word_for n.format) r o).hint ≡ mach_hint w r.hint
      by o = grind arith

  pub target_same : (r : Reloc) → section_place m n r ≡ None → (q r).target ≡ seen_target sh r.target
  target_same r none = ap (λ o. seen_target sh (at_section (word_for n.format) r o).target) none

  pub long_place : w ≡ W64 → (r : Reloc) → section_place m n r ≡ None
  long_place long r = ap (λ v. cond (mach_by_section v r.form.less) (target_place n r.form.less r.target) None) long

  -- ... the sections whose symbols are needed

  section_same : (k : ℕ) (t : Target) → is_section k (seen_target sh t) ≡ is_section k t
  section_same k t = grind arith

  pub self_same : w ≡ W64 → (s : ℕ) (r : Reloc) → is_self_reference s (q r) ≡ is_self_reference s r
  self_same long s r =
      ap (λ f. is_long_distance f && is_section s (q r).target) (form_same r)
      ∙ ap (λ t. is_long_distance r.form && is_section s t) (target_same r (long_place long r))
      ∙ ap (λ b. is_long_distance r.form && b) (section_same s r.target)

  names_same : w ≡ W64 → (k s : ℕ) (r : Reloc) → names_section k s (q r) ≡ names_section k s r
  names_same long k s r =
      ap (λ t. is_section k t || takes_section k (q r).form.less || (nat_eq s k && is_long_distance (q r).form)) (target_same r (long_place long r))
      ∙ ap (λ b. b || takes_section k (q r).form.less || (nat_eq s k && is_long_distance (q r).form)) (section_same k r.target)
      ∙ ap (λ (f : Form). is_section k r.target || takes_section k f.less || (nat_eq s k && is_long_distance f)) (form_same r)

  needs_same : w ≡ W64 → (k : ℕ) → needs_section_symbol a k ≡ needs_section_symbol n k
  unfolding needs_section_symbol
  needs_same long k = by 0 n.relocs
    where
      row : (s : ℕ) (xs : List (chains.Field Reloc)) → any_names k s (map (seen_field m n sh) xs) ≡ any_names k s xs
      row s xs = any_mapped (seen_field m n sh) (λ (x : chains.Field Reloc). not (is_self_reference s x.item) && names_section k s x.item) (λ (x : chains.Field Reloc). not (is_self_reference s x.item) && names_section k s x.item) xs
          (λ x. ap (λ b. not b && names_section k s (q x.item)) (self_same long s x.item) ∙ ap (λ b. not (is_self_reference s x.item) && b) (names_same long k s x.item))

      by : (i : ℕ) (lists : List (List (chains.Field Reloc)))
          → list_any (λ (x : ℕ × List (chains.Field Reloc)). any_names k x.0 x.1) (enumerate_from i (map (map (seen_field m n sh)) lists))
          ≡ list_any (λ (x : ℕ × List (chains.Field Reloc)). any_names k x.0 x.1) (enumerate_from i lists)
      by i [] = refl
      by i (xs ∷ lists) = rw (row i xs, by (i + 1) lists) refl

  pub needed_again : w ≡ W64 → needed_sections a ≡ needed_sections n
  unfolding needed_sections
  needed_again long =
      ap (λ (k : ℕ). filter (needs_section_symbol a) (range_with_len 0 k)) count_same
      ∙ filter-same (needs_section_symbol a) (needs_section_symbol n) (range_with_len 0 (length n.sections)) (needs_same long)

  -- ... symbols: Locals, what is defined, Undefined, Common, Weak Zero

  abbrev kept : Symbol → Bool
  kept s = is_local s.binding && is_written n.format s

  abbrev defines : Symbol → Bool
  defines s = is_defined s.binding

  abbrev undefines : Symbol → Bool
  undefines s = is_undefined s.binding

  abbrev commons : Symbol → Bool
  commons s = is_common s.binding

  abbrev weaks : Symbol → Bool
  weaks s = is_weak_with weak.is_zero s.binding

  kept_ranked : IsRanked kept 0
  kept_ranked s e = local_rank s.binding (and_parts (is_local s.binding) (is_written n.format s) e).0

  defines_ranked : IsRanked defines 1
  defines_ranked s e = defined_rank s.binding e

  undefines_ranked : IsRanked undefines 2
  undefines_ranked s e = undefined_rank s.binding e

  commons_ranked : IsRanked commons 3
  commons_ranked s e = common_rank s.binding e

  weaks_ranked : IsRanked weaks 4
  weaks_ranked s e = weak_rank s.binding e

  own_gathered : (v : Word) → gathered n (table.own_lines v n) ≡ []
  own_gathered W32 = refl
  own_gathered W64 = gathered_silent n (λ (k : ℕ). 1) (needed_sections n)

  abbrev tests : List (Symbol → Bool)
  tests = kept ∷ defines ∷ undefines ∷ commons ∷ weaks ∷ []

  ones_are : shown_ones n sh ≡ picked placed tests
  ones_are =
      let locals : List table.Line = table.local_lines n in
      let defined : List table.Line = table.lines_of is_defined n in
      let undefined : List table.Line = table.lines_of is_undefined n in
      let common : List table.Line = table.lines_of is_common n in
      let zeros : List table.Line = table.lines_of (is_weak_with weak.is_zero) n in
      ones_gathered n 0 (mach_lines w n)
      ∙ gathered_append n (table.own_lines w n) (locals ++ (defined ++ (undefined ++ (common ++ zeros))))
      ∙ ap (λ xs. xs ++ gathered n (locals ++ (defined ++ (undefined ++ (common ++ zeros))))) (own_gathered w)
      ∙ gathered_append n locals (defined ++ (undefined ++ (common ++ zeros)))
      ∙ ap (λ xs. xs ++ gathered n (defined ++ (undefined ++ (common ++ zeros)))) (gathered_where n kept one)
      ∙ ap (λ xs. filter (passes kept) placed ++ xs) (
      gathered_append n defined (undefined ++ (common ++ zeros))
      ∙ ap (λ xs. xs ++ gathered n (undefined ++ (common ++ zeros))) (gathered_where n defines one)
      ∙ ap (λ xs. filter (passes defines) placed ++ xs) (
      gathered_append n undefined (common ++ zeros)
      ∙ ap (λ xs. xs ++ gathered n (common ++ zeros)) (gathered_where n undefines one)
      ∙ ap (λ xs. filter (passes undefines) placed ++ xs) (
      gathered_append n common zeros
      ∙ ap (λ xs. xs ++ gathered n zeros) (gathered_where n commons one)
      ∙ ap (λ xs. filter (passes commons) placed ++ xs) (gathered_where n weaks one ∙ sym (append-nil (filter (passes weaks) placed))))))

  kept_all : filter (passes kept) (shown_ones n sh) ≡ filter (passes kept) placed
  kept_all = ap (filter (passes kept)) ones_are ∙ one_picked placed kept [] (defines ∷ undefines ∷ commons ∷ weaks ∷ []) tt
      (apart_by kept defines 0 1 kept_ranked defines_ranked (λ e. omega (arith, e)), (apart_by kept undefines 0 2 kept_ranked undefines_ranked (λ e. omega (arith, e)), (apart_by kept commons 0 3 kept_ranked commons_ranked (λ e. omega (arith, e)), (apart_by kept weaks 0 4 kept_ranked weaks_ranked (λ e. omega (arith, e)), tt))))

  defines_all : filter (passes defines) (shown_ones n sh) ≡ filter (passes defines) placed
  defines_all = ap (filter (passes defines)) ones_are ∙ one_picked placed defines (kept ∷ []) (undefines ∷ commons ∷ weaks ∷ [])
      (apart_by defines kept 1 0 defines_ranked kept_ranked (λ e. omega (arith, e)), tt)
      (apart_by defines undefines 1 2 defines_ranked undefines_ranked (λ e. omega (arith, e)), (apart_by defines commons 1 3 defines_ranked commons_ranked (λ e. omega (arith, e)), (apart_by defines weaks 1 4 defines_ranked weaks_ranked (λ e. omega (arith, e)), tt)))

  undefines_all : filter (passes undefines) (shown_ones n sh) ≡ filter (passes undefines) placed
  undefines_all = ap (filter (passes undefines)) ones_are ∙ one_picked placed undefines (kept ∷ defines ∷ []) (commons ∷ weaks ∷ [])
      (apart_by undefines kept 2 0 undefines_ranked kept_ranked (λ e. omega (arith, e)), (apart_by undefines defines 2 1 undefines_ranked defines_ranked (λ e. omega (arith, e)), tt))
      (apart_by undefines commons 2 3 undefines_ranked commons_ranked (λ e. omega (arith, e)), (apart_by undefines weaks 2 4 undefines_ranked weaks_ranked (λ e. omega (arith, e)), tt))

  commons_all : filter (passes commons) (shown_ones n sh) ≡ filter (passes commons) placed
  commons_all = ap (filter (passes commons)) ones_are ∙ one_picked placed commons (kept ∷ defines ∷ undefines ∷ []) (weaks ∷ [])
      (apart_by commons kept 3 0 commons_ranked kept_ranked (λ e. omega (arith, e)), (apart_by commons defines 3 1 commons_ranked defines_ranked (λ e. omega (arith, e)), (apart_by commons undefines 3 2 commons_ranked undefines_ranked (λ e. omega (arith, e)), tt)))
      (apart_by commons weaks 3 4 commons_ranked weaks_ranked (λ e. omega (arith, e)), tt)

  weaks_all : filter (passes weaks) (shown_ones n sh) ≡ filter (passes weaks) placed
  weaks_all = ap (filter (passes weaks)) ones_are ∙ one_picked placed weaks (kept ∷ defines ∷ undefines ∷ commons ∷ []) []
      (apart_by weaks kept 4 0 weaks_ranked kept_ranked (λ e. omega (arith, e)), (apart_by weaks defines 4 1 weaks_ranked defines_ranked (λ e. omega (arith, e)), (apart_by weaks undefines 4 2 weaks_ranked undefines_ranked (λ e. omega (arith, e)), (apart_by weaks commons 4 3 weaks_ranked commons_ranked (λ e. omega (arith, e)), tt))))
      tt

  kept_same : (k number : ℕ) (s : Symbol) → slice_get n.symbols k ≡ Some s → kept (seen_symbol m n sh number s) ≡ kept s
  kept_same k number s here =
      ap (λ b. b && is_written n.format (seen_symbol m n sh number s)) (seen_local m n sh shows s.binding)
      ∙ ap (λ b. is_local s.binding && b) (written_same w n sh (family_of n.format).writes_local s.name s.binding)

  -- ... lines

  abbrev pub line_again : Line → Line
  line_again (OwnLine k) = OwnLine k
  line_again (LocalLine k s) = LocalLine (move (k, s)).0 (move (k, s)).1
  line_again (OuterLine k s) = OuterLine (move (k, s)).0 (move (k, s)).1

  where_again : (line : ℕ → Symbol → Line) → ((k : ℕ) (s : Symbol) → line (move (k, s)).0 (move (k, s)).1 ≡ line_again (line k s)) → (test : Symbol → Bool)
      → ((k number : ℕ) (s : Symbol) → slice_get n.symbols k ≡ Some s → test (seen_symbol m n sh number s) ≡ test s)
      → filter (passes test) (shown_ones n sh) ≡ filter (passes test) placed
      → lines_where line test a ≡ map line_again (lines_where line test n)
  where_again line image test same all =
      let passed : List (ℕ × Symbol) = filter (passes test) placed in
      ap (map (λ (x : ℕ × Symbol). line x.0 x.1)) (all_moved m n sh shows test test same all)
      ∙ map-map (λ (x : ℕ × Symbol). line x.0 x.1) move passed
      ∙ map-alike (λ (x : ℕ × Symbol). line (move x).0 (move x).1) (λ (x : ℕ × Symbol). line_again (line x.0 x.1)) passed (λ k x h. image x.0 x.1)
      ∙ sym (map-map line_again (λ (x : ℕ × Symbol). line x.0 x.1) passed)

  own_again : (v : Word) → w ≡ v → own_lines v a ≡ map line_again (own_lines v n)
  own_again W32 e = refl
  own_again W64 e = ap (map OwnLine) (needed_again e) ∙ sym (map-map line_again OwnLine (needed_sections n))

  inner_again : inner_lines w a ≡ map line_again (inner_lines w n)
  inner_again =
      ap (λ xs. xs ++ local_lines a) (own_again w refl)
      ∙ ap (λ xs. map line_again (own_lines w n) ++ xs) (where_again LocalLine (λ k s. refl) kept kept_same kept_all)
      ∙ sym (map_append line_again (own_lines w n) (local_lines n))

  defined_again : defined_lines a ≡ map line_again (defined_lines n)
  defined_again = where_again OuterLine (λ k s. refl) defines (λ k number s h. defined_same w n sh s.binding) defines_all

  undefined_again : undefined_lines a ≡ map line_again (undefined_lines n)
  undefined_again =
      let first : List Line = lines_where OuterLine undefines n in
      let second : List Line = lines_where OuterLine commons n in
      let third : List Line = lines_where OuterLine weaks n in
      ap (λ xs. xs ++ (lines_where OuterLine commons a ++ lines_where OuterLine weaks a)) (where_again OuterLine (λ k s. refl) undefines (λ k number s h. undefined_same w n sh s.binding) undefines_all)
      ∙ ap (λ xs. map line_again first ++ (xs ++ lines_where OuterLine weaks a)) (where_again OuterLine (λ k s. refl) commons (λ k number s h. common_same w n sh s.binding) commons_all)
      ∙ ap (λ xs. map line_again first ++ (map line_again second ++ xs)) (where_again OuterLine (λ k s. refl) weaks (λ k number s h. weak_same w n sh s.binding) weaks_all)
      ∙ ap (λ xs. map line_again first ++ xs) (sym (map_append line_again second third))
      ∙ sym (map_append line_again first (second ++ third))

  lines_again : lines_of w a ≡ map line_again (lines_of w n)
  unfolding lines_of
  lines_again =
      ap (λ xs. xs ++ (defined_lines a ++ undefined_lines a)) inner_again
      ∙ ap (λ xs. map line_again (inner_lines w n) ++ (xs ++ undefined_lines a)) defined_again
      ∙ ap (λ xs. map line_again (inner_lines w n) ++ (map line_again (defined_lines n) ++ xs)) undefined_again
      ∙ ap (λ xs. map line_again (inner_lines w n) ++ xs) (sym (map_append line_again (defined_lines n) (undefined_lines n)))
      ∙ sym (map_append line_again (inner_lines w n) (defined_lines n ++ undefined_lines n))

  numbered_again : numbered_lines w a ≡ map (laid_as line_again) (numbered_lines w n)
  numbered_again = ap (laid behind line_size 0) lines_again ∙ laid_map line_again behind behind line_size line_size 0 (lines_of w n) (λ k x h p. refl) (λ k x h. refl)

  line_is : (i : ℕ) (l : Laid Line) → slice_get (numbered_lines w n) i ≡ Some l → IsLine w n l.part
  line_is i l here = line_at w n i l.part (laid_part behind line_size (λ p x. omega arith) 0 (lines_of w n) i l here)

  own_number_again : (k : ℕ) → own_number (numbered_lines w a) k ≡ own_number (numbered_lines w n) k
  own_number_again k = ap (place_where (is_own_line k)) numbered_again ∙ place_map line_again (is_own_line k) (is_own_line k) (numbered_lines w n) same
    where
      same : (x : Line) → is_own_line k (line_again x) ≡ is_own_line k x
      same x = grind arith

  symbol_number_again : (k : ℕ) (s : Symbol) → slice_get n.symbols k ≡ Some s → is_local s.binding ≡ false → symbol_number (numbered_lines w a) (new_position sh k) ≡ symbol_number (numbered_lines w n) k
  symbol_number_again k s here outer =
      ap (place_where (is_symbol_line (new_position sh k))) numbered_again
      ∙ place_map_in line_again (is_symbol_line k) (is_symbol_line (new_position sh k)) (numbered_lines w n) (λ i l h. same l.part (line_is i l h))
    where
      same : (x : Line) → IsLine w n x → is_symbol_line (new_position sh k) (line_again x) ≡ is_symbol_line k x
      same (OwnLine j) of = refl
      same (LocalLine j t) of = refl
      same (OuterLine j t) of = outer_tell m n sh shows j k t s of.0 here of.1 outer

  -- ... names

  line_names_again : line_names w a ≡ line_names w n
  unfolding line_names
  line_names_again = ap (map line_name) lines_again ∙ map-map line_name line_again (lines_of w n) ∙ map-alike (λ x. line_name (line_again x)) line_name (lines_of w n) (λ k x h. same x)
    where
      same : (x : Line) → line_name (line_again x) ≡ line_name x
      same x = grind arith

  strings_again : string_table w a ≡ string_table w n
  unfolding string_table
  strings_again = ap (λ names. filled (address_size w) (strings_of names)) line_names_again

  -- ... entries of symbols

  abbrev stand : ℕ → ℕ → ℕ → ValueFields
  stand k address offset = record { type = N_SECT; n_sect = k + 1; n_value = address + offset }

  stood_at_again : (k offset : ℕ) → value_fields_at a k offset ≡ value_fields_at n k offset
  stood_at_again k offset = ap (λ (address : ℕ). stand k address offset) (address_again k)

  stood_by_again : (v : Value) → value_fields_by a v ≡ value_fields_by n v
  stood_by_again (value.Place k offset) = stood_at_again k offset
  stood_by_again (value.Absolute x) = refl

  stood_again : (k : ℕ) (s : Symbol) → slice_get n.symbols k ≡ Some s → (b : Binding) → s.binding ≡ b → value_fields_of a (bound w n sh b) ≡ value_fields_of n b
  stood_again k s here (Local v) own = stood_by_again v
  stood_again k s here (Global v) own = stood_by_again v
  stood_again k s here Undefined own = refl
  stood_again k s here (Common size align) own = refl
  stood_again k s here (Weak f) own = by (fallback_is w n is k s here f own)
    where
      by : (f ≡ fallback.Zero) ⊎ IsPlaced w n f → value_fields_for a (seen_fallback m n sh f) ≡ value_fields_for n f
      by (inl z) = ap (λ g. value_fields_for a (seen_fallback m n sh g)) z ∙ sym (ap (value_fields_for n) z)
      by (inr p) = ap (value_fields_for a) (p.seen sh) ∙ stood_at_again p.place.0 p.place.1 ∙ sym p.stood

  abbrev entry_as : ℕ → ValueFields → ℕ → ℕ → ℕ → Nlist
  entry_as strx stood external private desc = record { n_strx = strx; n_type = stood.type + external + private; n_sect = stood.n_sect; n_desc = desc; n_value = stood.n_value }

  symbol_entry_again : (k number : ℕ) (s : Symbol) → slice_get n.symbols k ≡ Some s → symbol_entry w a (seen_symbol m n sh number s) ≡ symbol_entry w n s
  symbol_entry_again k number s here =
      let c : Binding = bound w n sh s.binding in
      let vis : Visibility = mach_vis c (mach_vis s.binding s.vis) in
      ap (λ names. entry_as (offset_in names s.name) (value_fields_of a c) (external_flag c) (private_flag vis) (desc_by c)) line_names_again
      ∙ ap (λ stood. entry_as (offset_in (line_names w n) s.name) stood (external_flag c) (private_flag vis) (desc_by c)) (stood_again k s here s.binding refl)
      ∙ ap (λ (x : ℕ). entry_as (offset_in (line_names w n) s.name) (value_fields_of n s.binding) x (private_flag vis) (desc_by c)) (external_same w n sh s.binding)
      ∙ ap (λ v. entry_as (offset_in (line_names w n) s.name) (value_fields_of n s.binding) (external_flag s.binding) (private_flag v) (desc_by c)) (vis_same w n sh s.binding s.vis)
      ∙ ap (λ (x : ℕ). entry_as (offset_in (line_names w n) s.name) (value_fields_of n s.binding) (external_flag s.binding) (private_flag (mach_vis s.binding s.vis)) x) (desc_same w n sh s.binding)

  abbrev own_as : ℕ → ℕ → ℕ → Nlist
  own_as k strx address = record { n_strx = strx; n_type = N_SECT; n_sect = k + 1; n_desc = 0; n_value = address }

  entry_again : (x : Line) → IsLine w n x → line_entry w a (line_again x) ≡ line_entry w n x
  unfolding line_entry
  entry_again (OwnLine k) of =
      ap (λ names. own_as k (offset_in names (section_symbol_name (k + 1))) (address_of a k)) line_names_again
      ∙ ap (λ (address : ℕ). own_as k (offset_in (line_names w n) (section_symbol_name (k + 1))) address) (address_again k)
  entry_again (LocalLine k s) of = symbol_entry_again k (moved_number_of k s) s of.0
    where
      moved_number_of : ℕ → Symbol → ℕ
      moved_number_of k s = (move (k, s)).1.number
  entry_again (OuterLine k s) of = symbol_entry_again k (moved_number_of k s) s of.0
    where
      moved_number_of : ℕ → Symbol → ℕ
      moved_number_of k s = (move (k, s)).1.number

  -- ... relocations

  fields_again : (k : ℕ) → list_of a.relocs k ≡ map (seen_field m n sh) (list_of n.relocs k)
  fields_again k = lists_map (seen_field m n sh) n.relocs k

  abbrev la : List (Laid Line)
  la = numbered_lines w a

  abbrev ln : List (Laid Line)
  ln = numbered_lines w n

  -- the entries of a relocation, by its second type
  abbrev entries_with : Word → Object → List (Laid Line) → WrittenReloc → Option ℕ → List RelocationInfo
  entries_with v o lines z second = elim second [ None ↦ plain_entry z z.row.number (reference_to v lines z.reloc.target) ∷ [] | Some second ↦ pair_entries v o lines z second ]

  module _ (k at : ℕ) (r : Reloc) (here : reloc_at n k at ≡ Some r) where
    abbrev x : WrittenReloc
    x = standing w n is k at r here

    abbrev y : WrittenReloc
    y = record { section = k; at = at; reloc = q r; row = x.row }

    abbrev place : Option Place
    place = section_place m n r

    written : written_reloc_at w k at (q r) ≡ Some y
    written =
        ap (λ (f : Form). option_map stood (written_row (mach_format w) f (q r).hint)) (form_same r)
        ∙ ap (λ h. option_map stood (written_row (mach_format w) r.form h)) (hint_same r)
        ∙ ap (option_map stood) (row_same w r.form r.hint ∙ (meets w n is k at r here).is.written)
      where
        stood : Row → WrittenReloc
        stood row = record { section = k; at = at; reloc = q r; row = row }

    -- what stands alone is of no section
    alone_none : x.row.second ≡ None → place ≡ None
    alone_none none = by place refl
      where
        lone : IsKnown w (entry w n is k at r here) → same_taken x.row.taken TakesSection ≡ false
        lone (KnownAlone second alone lacks) = sym (row_is w n is k at r here (λ y. same_taken y.taken TakesSection)) ∙ lacks
        lone (KnownPair p taken d) =
            let s = pair_second w (entry w n is k at r here) p in
            absurd (none-some s.0 (sym none ∙ sym (row_is w n is k at r here (λ y. y.second)) ∙ s.1))

        by : (o : Option Place) → place ≡ o → place ≡ None
        by None e = e
        by (Some p) e =
            let t = is_moved w n r p e in
            let taken : x.row.taken ≡ taken_of r.form.less = (mach_reloc w n is k at r here).taken (ap mach_format t.short) in
            absurd (true≢false (sym (section_takes r.form.less t.section) ∙ ap (λ z. same_taken z TakesSection) (sym taken) ∙ lone (known w n is k at r here).known))

    same_place : (j : ℕ) → r.target ≡ target.Symbol j → place_at a (new_position sh j) ≡ place_at n j
    same_place j e =
        let y = ready.targets k at r j here e in
        let z = stands m n sh shows j y.0 y.1 y.2 in
        ap (option_and_then (λ (s : Symbol). global_place s.binding)) z.1 ∙ place_same w n sh y.0.binding ∙ sym (ap (option_and_then (λ (s : Symbol). global_place s.binding)) y.1)

    reference_again : (v : Word) (t : Target) → r.target ≡ t → reference_to v la (seen_target sh t) ≡ reference_to v ln t
    reference_again W32 (target.Section j) e = refl
    reference_again W64 (target.Section j) e = ap (λ (i : ℕ). reference.Symbol i) (own_number_again j)
    reference_again W32 (target.Symbol j) e = let y = ready.targets k at r j here e in ap (λ (i : ℕ). reference.Symbol i) (symbol_number_again j y.0 y.1 y.2)
    reference_again W64 (target.Symbol j) e = let y = ready.targets k at r j here e in ap (λ (i : ℕ). reference.Symbol i) (symbol_number_again j y.0 y.1 y.2)

    reference_same : (v : Word) → place ≡ None → reference_to v la (q r).target ≡ reference_to v ln r.target
    reference_same v none = ap (reference_to v la) (target_same r none) ∙ reference_again v r.target refl

    section_address_again : (t : Target) → r.target ≡ t → end_section_address a (seen_target sh t) ≡ end_section_address n t
    section_address_again (target.Section j) e = address_again j
    section_address_again (target.Symbol j) e = ap (λ o. option_map_or (λ (p : Place). address_of a p.0) o 0) (same_place j e) ∙ by (place_at n j)
      where
        by : (o : Option Place) → option_map_or (λ (p : Place). address_of a p.0) o 0 ≡ option_map_or (λ (p : Place). address_of n p.0) o 0
        by None = refl
        by (Some p) = address_again p.0

    address_same : (t : Target) → r.target ≡ t → end_address a (seen_target sh t) ≡ end_address n t
    address_same (target.Section j) e = ap (λ (i : ℕ). i + 0) (address_again j)
    address_same (target.Symbol j) e = ap (λ o. option_map_or (λ (p : Place). address_of a p.0 + p.1) o 0) (same_place j e) ∙ by (place_at n j)
      where
        by : (o : Option Place) → option_map_or (λ (p : Place). address_of a p.0 + p.1) o 0 ≡ option_map_or (λ (p : Place). address_of n p.0 + p.1) o 0
        by None = refl
        by (Some p) = ap (λ (i : ℕ). i + p.1) (address_again p.0)

    said_again : (t : Target) → entry_target_of a (seen_target sh t) ≡ entry_target_of n t
    said_again (target.Section j) = ap Sectional (address_again j)
    said_again (target.Symbol j) = refl

    taken_again : taken_section y ≡ taken_section x
    taken_again = ap (λ (f : Form). option_map_or (λ (i : ℕ). i) (section_taken f.less) k) (form_same r)

    -- the address of the section of the target
    target_section_again : end_section_address a (q r).target ≡ end_section_address n r.target
    target_section_again = by place refl
      where
        by : (o : Option Place) → place ≡ o → end_section_address a (q r).target ≡ end_section_address n r.target
        by None e = ap (end_section_address a) (target_same r e) ∙ section_address_again r.target refl
        by (Some p) e =
            let t = is_moved w n r p e in
            ap (λ o. end_section_address a (seen_target sh (at_section (word_for n.format) r o).target)) e
            ∙ address_again p.0
            ∙ sym (ap (end_section_address n) t.target ∙ ap (λ o. option_map_or (λ (p : Place). address_of n p.0) o 0) t.place)

    pair_again : (v : Word) → w ≡ v → (second : ℕ) → pair_entries v a la y second ≡ pair_entries v n ln x second
    pair_again W32 e second =
        ap (λ (i : ℕ). scattered_entry at x.row.number i ∷ scattered_entry 0 second (address_of a (taken_section y)) ∷ []) target_section_again
        ∙ ap (λ (i : ℕ). scattered_entry at x.row.number (end_section_address n r.target) ∷ scattered_entry 0 second i ∷ []) (ap (address_of a) taken_again ∙ address_again (taken_section x))
    pair_again W64 e second =
        ap (λ (i : ℕ). plain_entry x x.row.number (reference.Symbol i) ∷ plain_entry x second (reference_to W64 la (q r).target) ∷ []) (ap (own_number la) taken_again ∙ own_number_again (taken_section x))
        ∙ ap (λ f. plain_entry x x.row.number (reference.Symbol (own_number ln (taken_section x))) ∷ plain_entry x second f ∷ []) (reference_same W64 (long_place e r))

    entries_same : standing_entries w a la y ≡ standing_entries w n ln x
    unfolding standing_entries
    entries_same = by x.row.second refl
      where
        by : (o : Option ℕ) → x.row.second ≡ o → entries_with w a la y o ≡ entries_with w n ln x o
        by None e = ap (λ f. plain_entry x x.row.number f ∷ []) (reference_same w (alone_none e))
        by (Some second) e = pair_again w refl second

    -- ... the number in the field

    pub addend_same : place ≡ None → (q r).addend ≡ r.addend
    addend_same none = ap (λ o. (at_section (word_for n.format) r o).addend) none ∙ (normal_of n is.object k at r here).reduced

    alone_again : place ≡ None → alone_shift a y ≡ alone_shift n x
    alone_again none =
        ap (λ (i : ℕ). (cond (same_taken x.row.taken TakesPlace) (pos (i + at)) (pos 0)) +ℤ entry_target_shift (entry_target_of a (q r).target)) (address_again k)
        ∙ ap (λ s. (cond (same_taken x.row.taken TakesPlace) (pos (address_of n k + at)) (pos 0)) +ℤ entry_target_shift s) (ap (entry_target_of a) (target_same r none) ∙ said_again r.target)

    taken_address : address_of a (taken_section y) ≡ address_of n (taken_section x)
    taken_address = ap (address_of a) taken_again ∙ address_again (taken_section x)

    pair_shift_again : place ≡ None → pair_shift a y ≡ pair_shift n x
    pair_shift_again none =
        ap (λ (i : ℕ). sectdiff_shift i (address_of a (taken_section y))) (ap (end_address a) (target_same r none) ∙ address_same r.target refl)
        ∙ ap (sectdiff_shift (end_address n r.target)) taken_address

    shift_again : (v : Word) → place ≡ None → field_shift v a y ≡ field_shift v n x
    shift_again W32 none =
        ap (λ (s : ℤ). option_map_or (λ (second : ℕ). s) x.row.second (alone_shift a y)) (pair_shift_again none)
        ∙ ap (λ (s : ℤ). option_map_or (λ (second : ℕ). pair_shift n x) x.row.second s) (alone_again none)
    shift_again W64 none = ap (λ (f : Form). written_shift at f.less x.row) (form_same r)

    abbrev number_with : Form → ℤ → ℤ → ℕ
    number_with f shift addend = number_or (to_field_of w f.width shift addend)

    same_number : (p : Place) → place ≡ Some p → to_field_of w r.form.width (field_shift w a y) (q r).addend ≡ to_field_of w r.form.width (field_shift w n x) r.addend
    unfolding to_field_of
    same_number p e =
        let t = is_moved w n r p e in
        let base_is = (ready.sectional k at r p here e).base in
        let T : ℕ = address_of n (taken_section x) in
        let P : ℕ = address_of n p.0 in
        let i : ℤ = pos T -ℤ pos P in
        let addend : (q r).addend ≡ reduced_number w (r.addend +ℤ pos p.1)
        = ap (λ o. (at_section (word_for n.format) r o).addend) e
        ∙ ap (λ b. reduced_number (word_for n.format) (moved_addend b r.addend p.1)) base_is
        ∙ ap (λ v. reduced_number v (r.addend +ℤ pos p.1)) (ap word_for is.format ∙ word_back w) in
        let before : field_shift w a y ≡ i
        = paired a y t.short e refl
        ∙ ap (λ (j : ℕ). pos j -ℤ pos (end_address a (q r).target)) taken_address
        ∙ ap (λ o. pos T -ℤ pos (end_address a (seen_target sh (at_section (word_for n.format) r o).target))) e
        ∙ ap (λ (j : ℕ). pos T -ℤ pos j) (more (address_of a p.0) ∙ address_again p.0) in
        let after : field_shift w n x ≡ pos T -ℤ pos (P + p.1)
        = paired n x t.short e refl
        ∙ ap (λ (j : ℕ). pos T -ℤ pos j) (ap (end_address n) t.target ∙ ap (λ o. option_map_or (λ (p : Place). address_of n p.0 + p.1) o 0) t.place) in
        ap (field_for r.form.width) (reduced_same w ((q r).addend -ℤ field_shift w a y) (r.addend -ℤ field_shift w n x)
        (ap (λ (z : ℤ). residue_of w (z -ℤ field_shift w a y)) addend
        ∙ ap (λ (z : ℤ). residue_of w (reduced_number w (r.addend +ℤ pos p.1) -ℤ z)) before
        ∙ ap (residue_of w) (less_is (reduced_number w (r.addend +ℤ pos p.1)) i)
        ∙ residue_add w (reduced_number w (r.addend +ℤ pos p.1)) (neg_ℤ i)
        ∙ ap (λ (z : ℕ). (z + residue_of w (neg_ℤ i)) % modulus w) (residue_reduced w (r.addend +ℤ pos p.1))
        ∙ sym (residue_add w (r.addend +ℤ pos p.1) (neg_ℤ i))
        ∙ ap (residue_of w) (moved_number r.addend i T P p.1 refl)
        ∙ ap (λ (z : ℤ). residue_of w (r.addend -ℤ z)) (sym after)))
      where
        more : (j : ℕ) → j + 0 ≡ j
        more j = omega arith

        paired : (o : Object) (z : WrittenReloc) → w ≡ W32 → place ≡ Some p → z.row ≡ x.row → field_shift w o z ≡ pair_shift o z
        paired o z short e same = ap (λ v. field_shift v o z) short ∙ ap (λ (row : Row). option_map_or (λ (second : ℕ). pair_shift o z) row.second (alone_shift o z)) same ∙ by x.row.second refl
          where
            by : (second : Option ℕ) → x.row.second ≡ second → option_map_or (λ (second : ℕ). pair_shift o z) second (alone_shift o z) ≡ pair_shift o z
            by second h = grind arith

    number_again : field_number w a y ≡ field_number w n x
    unfolding field_number
    number_again = ap (λ f. number_with f (field_shift w a y) (q r).addend) (form_same r) ∙ by place refl
      where
        by : (o : Option Place) → place ≡ o → number_with r.form (field_shift w a y) (q r).addend ≡ number_with r.form (field_shift w n x) r.addend
        by None e = ap (λ (s : ℤ). number_with r.form s (q r).addend) (shift_again w e) ∙ ap (number_with r.form (field_shift w n x)) (addend_same e)
        by (Some p) e = ap number_or (same_number p e)

    patch_again : field_patch w a k at (q r) ≡ field_patch w n k at r
    patch_again =
        ap (λ (f : Form). patch f (option_map_or (field_number w a) (written_reloc_at w k at (q r)) 0)) (form_same r)
        ∙ ap (patch r.form) (ap (λ o. option_map_or (field_number w a) o 0) written ∙ number_again ∙ sym (ap (λ o. option_map_or (field_number w n) o 0) (standing_is w n is k at r here)))
      where
        patch : Form → ℕ → Patch
        patch f number = record { width = f.width; check = f.check; residue = number }

    at_again : option_map_or (standing_entries w a la) (written_reloc_at w k at (q r)) [] ≡ option_map_or (standing_entries w n ln) (written_reloc_at w k at r) []
    at_again = ap (λ o. option_map_or (standing_entries w a la) o []) written ∙ entries_same ∙ sym (ap (λ o. option_map_or (standing_entries w n ln) o []) (standing_is w n is k at r here))

  relocs_again : (k : ℕ) → relocs_of w a k ≡ relocs_of w n k
  unfolding entries_of
  relocs_again k =
      let xs : List (chains.Field Reloc) = list_of n.relocs k in
      ap (flat_map (entries_at w a la k)) (fields_again k)
      ∙ flat_map-mapped (seen_field m n sh) (entries_at w n ln k) (entries_at w a la k) xs
      (λ i x h. at_again k x.at x.item (found_in 0 xs (is.object.built.fields.apart k) i x h).1)

  patches_again : (k at : ℕ) → field_patches w a k at ≡ field_patches w n k at
  patches_again k at = ap (option_map (field_patch w a k at)) (relocs_same m n sh shows n.relocs k at) ∙ by (reloc_at n k at) refl
    where
      by : (o : Option Reloc) → reloc_at n k at ≡ o → option_map (field_patch w a k at) (option_map (seen_reloc m n sh) o) ≡ option_map (field_patch w n k at) o
      by None e = refl
      by (Some r) e = ap Some (patch_again k at r e)

  raw_again : (k : ℕ) (s : Section) → raw_of w a k (seen_section m n (k, s)) ≡ raw_of w n k s
  unfolding raw_of
  raw_again k s = ap (λ o. overlay o 0 s.bytes) (fun_ext (λ at. patches_again k at))

  -- ... parts

  abbrev pub part_again : Part → Part
  part_again FileHead = FileHead
  part_again SegmentHead = SegmentHead
  part_again SectionHeads = SectionHeads
  part_again SymtabHead = SymtabHead
  part_again DysymtabHead = DysymtabHead
  part_again (Raw k s) = Raw k (seen_section m n (k, s))
  part_again (Relocs k s) = Relocs k (seen_section m n (k, s))
  part_again SymbolTable = SymbolTable
  part_again StringTable = StringTable

  parts_again : parts_of a ≡ map part_again (parts_of n)
  unfolding parts_of
  parts_again =
      let raws : List Part = map raw_part (stored_sections n) in
      let rels : List Part = map relocs_part (enumerate_from 0 n.sections) in
      let first : map raw_part (stored_sections a) ≡ map part_again raws
      = ap (map raw_part) stored_again ∙ map-map raw_part again_at (stored_sections n) ∙ sym (map-map part_again raw_part (stored_sections n)) in
      let second : map relocs_part (enumerate_from 0 a.sections) ≡ map part_again rels
      = ap (map relocs_part) sections_placed ∙ map-map relocs_part again_at (enumerate_from 0 n.sections) ∙ sym (map-map part_again relocs_part (enumerate_from 0 n.sections)) in
      ap (λ ps. head_parts ++ ps) (
      ap (λ ps. ps ++ (map relocs_part (enumerate_from 0 a.sections) ++ table_parts)) first
      ∙ ap (λ ps. map part_again raws ++ (ps ++ table_parts)) second
      ∙ ap (λ ps. map part_again raws ++ ps) (sym (map_append part_again rels table_parts))
      ∙ sym (map_append part_again raws (rels ++ table_parts)))

  lines_long : length (lines_of w a) ≡ length (lines_of w n)
  lines_long = ap length lines_again ∙ length-map (lines_of w n) line_again

  part_size_again : (x : Part) → part_size w a (part_again x) ≡ part_size w n x
  part_size_again x = grind (arith, count_same, relocs_again, lines_long, strings_again)

  abbrev commands_by : ℕ → ℕ
  commands_by count = segment_command_size w + section_header_size w * count + SYMTAB_COMMAND_SIZE + DYSYMTAB_COMMAND_SIZE

  commands_same : commands_length w a ≡ commands_length w n
  commands_same = ap commands_by count_same

  begin_same : contents_begin w a ≡ contents_begin w n
  begin_same = ap (λ (size : ℕ). mach_header_size w + size) commands_same

  part_begin_again : (x : Part) (p : ℕ) → part_begin w a p (part_again x) ≡ part_begin w n p x
  part_begin_again x p = grind (arith, begin_same, relocs_again)

  laid_again : laid_parts w a ≡ map (laid_as part_again) (laid_parts w n)
  laid_again =
      ap (laid (part_begin w a) (part_size w a) 0) parts_again
      ∙ laid_map part_again (part_begin w n) (part_begin w a) (part_size w n) (part_size w a) 0 (parts_of n) (λ k x h p. part_begin_again x p) (λ k x h. part_size_again x)

  where_same : (test : Part → Bool) → ((x : Part) → test (part_again x) ≡ test x) → part_where w a test ≡ part_where w n test
  where_same test same = ap (place_where test) laid_again ∙ place_map part_again test test (laid_parts w n) same

  raw_place : (k : ℕ) (x : Part) → is_raw k (part_again x) ≡ is_raw k x
  raw_place k x = grind arith

  relocs_place : (k : ℕ) (x : Part) → is_relocs k (part_again x) ≡ is_relocs k x
  relocs_place k x = grind arith

  table_place : (x : Part) → is_symbol_table (part_again x) ≡ is_symbol_table x
  table_place x = grind arith

  strings_place : (x : Part) → is_string_table (part_again x) ≡ is_string_table x
  strings_place x = grind arith

  -- ... headers

  abbrev header_as : Section → ℕ → ℕ → List RelocationInfo → ℕ → SectionHeader
  header_as s address offset relocs at = record {
    sectname = padded (section_of s.name);
    segname = padded (segment_of s.name);
    addr = address;
    size = s.size;
    offset = offset;
    align = exponent_of s.align;
    reloff = pointer_to at (length relocs);
    nreloc = length relocs;
    flags = s.tag;
  }

  header_again : (x : Numbered) → section_header w a (again_at x) ≡ section_header w n x
  unfolding section_header
  header_again x =
      let s : Section = x.1 in
      let k : ℕ = x.0 in
      ap (λ (p : ℕ). header_as s p (part_where w a (is_raw k)) (relocs_of w a k) (part_where w a (is_relocs k))) (address_again k)
      ∙ ap (λ (p : ℕ). header_as s (address_of n k) p (relocs_of w a k) (part_where w a (is_relocs k))) (where_same (is_raw k) (raw_place k))
      ∙ ap (λ rs. header_as s (address_of n k) (part_where w n (is_raw k)) rs (part_where w a (is_relocs k))) (relocs_again k)
      ∙ ap (λ (p : ℕ). header_as s (address_of n k) (part_where w n (is_raw k)) (relocs_of w n k) p) (where_same (is_relocs k) (relocs_place k))

  headers_again : section_headers w a ≡ section_headers w n
  headers_again =
      ap (map (section_header w a)) sections_placed
      ∙ map-map (section_header w a) again_at (enumerate_from 0 n.sections)
      ∙ map-alike (λ x. section_header w a (again_at x)) (section_header w n) (enumerate_from 0 n.sections) (λ k x h. header_again x)

  file_header_again : file_header w a ≡ file_header w n
  unfolding file_header
  file_header_again = ap head commands_same
    where
      head : ℕ → MachHeader
      head commands = record { magic = magic_of w; cputype = cpu_type w; cpusubtype = CPU_SUBTYPE_ALL; filetype = MH_OBJECT; ncmds = COMMAND_COUNT; sizeofcmds = commands; flags = 0 }

  -- ... the file

  abbrev segment_as : ℕ → ℕ → ℕ → List (ℕ × ℕ)
  segment_as count memory stored =
      (4, segment_number w) ∷ (4, segment_command_size w + section_header_size w * count) ∷ (NAME_SIZE, 0) ∷ (address_size w, 0) ∷ (address_size w, memory)
      ∷ (address_size w, mach_header_size w + commands_by count) ∷ (address_size w, stored) ∷ (4, VM_PROT_ALL) ∷ (4, VM_PROT_ALL) ∷ (4, count) ∷ (4, 0) ∷ []

  segment_again : segment_numbers w a ≡ segment_numbers w n
  unfolding segment_numbers
  segment_again =
      ap (λ (count : ℕ). segment_as count (memory_end a) (stored_end a)) count_same
      ∙ ap (λ (p : ℕ). segment_as (length n.sections) p (stored_end a)) memory_again
      ∙ ap (λ (p : ℕ). segment_as (length n.sections) (memory_end n) p) stored_end_again

  symtab_again : symtab_command w a ≡ symtab_command w n
  unfolding symtab_command
  symtab_again =
      ap (λ (p : ℕ). command p (length (lines_of w a)) (part_where w a is_string_table) (length (string_table w a))) (where_same is_symbol_table table_place)
      ∙ ap (λ (p : ℕ). command (part_where w n is_symbol_table) p (part_where w a is_string_table) (length (string_table w a))) lines_long
      ∙ ap (λ (p : ℕ). command (part_where w n is_symbol_table) (length (lines_of w n)) p (length (string_table w a))) (where_same is_string_table strings_place)
      ∙ ap (λ (p : ℕ). command (part_where w n is_symbol_table) (length (lines_of w n)) (part_where w n is_string_table) p) (ap length strings_again)
    where
      command : ℕ → ℕ → ℕ → ℕ → SymtabCommand
      command symbols count strings size = record { symoff = symbols; nsyms = count; stroff = strings; strsize = size }

  abbrev dysymtab_as : ℕ → ℕ → ℕ → List (ℕ × ℕ)
  dysymtab_as inner defined undefined = words (LC_DYSYMTAB ∷ DYSYMTAB_COMMAND_SIZE ∷ 0 ∷ inner ∷ inner ∷ defined ∷ (inner + defined) ∷ undefined ∷ replicate 12 0)

  dysymtab_again : dysymtab_numbers w a ≡ dysymtab_numbers w n
  unfolding dysymtab_numbers
  dysymtab_again =
      ap (λ (p : ℕ). dysymtab_as p (length (defined_lines a)) (length (undefined_lines a))) (ap length inner_again ∙ length-map (inner_lines w n) line_again)
      ∙ ap (λ (p : ℕ). dysymtab_as (length (inner_lines w n)) p (length (undefined_lines a))) (ap length defined_again ∙ length-map (defined_lines n) line_again)
      ∙ ap (λ (p : ℕ). dysymtab_as (length (inner_lines w n)) (length (defined_lines n)) p) (ap length undefined_again ∙ length-map (undefined_lines n) line_again)

  rows_again : flat_map (λ (line : Line). nlist_bytes w (line_entry w a line)) (lines_of w a) ≡ flat_map (λ (line : Line). nlist_bytes w (line_entry w n line)) (lines_of w n)
  rows_again =
      ap (flat_map (λ (line : Line). nlist_bytes w (line_entry w a line))) lines_again
      ∙ flat_map-mapped line_again (λ (line : Line). nlist_bytes w (line_entry w n line)) (λ (line : Line). nlist_bytes w (line_entry w a line)) (lines_of w n)
      (λ i x h. ap (nlist_bytes w) (entry_again x (line_at w n i x h)))

  bytes_again : (x : Part) → part_bytes w a (part_again x) ≡ part_bytes w n x
  unfolding part_bytes
  bytes_again FileHead = ap (mach_header_bytes w) file_header_again
  bytes_again SegmentHead = ap packed segment_again
  bytes_again SectionHeads = ap (flat_map (section_bytes w)) headers_again
  bytes_again SymtabHead = ap symtab_bytes symtab_again
  bytes_again DysymtabHead = ap packed dysymtab_again
  bytes_again (Raw k s) = raw_again k s
  bytes_again (Relocs k s) = ap (flat_map relocation_bytes) (relocs_again k)
  bytes_again SymbolTable = rows_again
  bytes_again StringTable = strings_again

  pub mach_file_again : mach_file w (seen n) ≡ mach_file w n
  unfolding mach_file
  mach_file_again =
      ap (λ m. joined (part_bytes w m) 0 (laid_parts w m)) (again_is w n is.format)
      ∙ ap (joined (part_bytes w a) 0) laid_again
      ∙ joined_map part_again (part_bytes w n) (part_bytes w a) 0 (laid_parts w n) (λ k l h. bytes_again l.part)
