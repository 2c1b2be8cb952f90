-- The canonical OMF module of what is seen of an object is that of the object.
use Rattle.std.proofs.Common.{◌≡◌, ℕ, suc, ◌+◌, ◌-◌, Bool, true, false, cond, eqb, ◌&&◌, nat_le, nat_lt, List, [], ◌∷◌, ◌++◌, length, map, fold, Option, Some, None, ℤ, refl, sym, ◌∙◌, ap, append-nil, arith}
use mathlib.Core.Path.{fun_ext}
use Rattle.std.specs.Prelude.{slice_get, filter, filter_map, flat_map, bytes_eq, nat_eq, codes, slice_range}
use Rattle.std.specs.{List.{AllByRecursion, enumerate_from, cons_option, position_or_len}, Option.{option_map, option_map_or, option_and_then}}
use Rattle.std.proofs.lemmas.{Bool.{true≢false, false_from_ne_true}, List.{length-map}}
use Rattle.oc_base.specs.{declared.format.Word.TheVariants.{W32}, declared.format.Format.TheVariants.{Omf}, Formats.{word_for}}
use Rattle.oc_linking.specs.{declared.terms.Hint.TheVariants.{Plain, Call}, declared.terms.Binding.{Binding}}
use Rattle.oc_linking.specs.{declared.terms.Binding.TheVariants.{Local, Global, Undefined, Common, Weak}, declared.terms.Patch.{Patch}, Images.{overlay}}
use Rattle.oc_linking.specs.Parts.{is_local}
use Rattle.oc_algebra.specs.{declared.form.Form.{Form}, Fields.{to_field_of}, Residues.{reduced_number}}
use Rattle.oc_chains.specs.declared.field.Field as chains
use Rattle.oc_chains.specs.Lists.{list_of}
use Rattle.oc_neutral.specs.{declared.section.Section.{Section}, declared.symbol.Symbol.{Symbol}, declared.reloc.Reloc.{Reloc}, declared.reloc.Target.{Target}}
use Rattle.oc_neutral.specs.{Objects.{Object, reloc_at}, Dressing.{is_common}, Invariants.{IsObject}, KeySymbols.{global_place}}
use Rattle.oc_neutral.specs.{Normal.{Place, at_section, takes_section}, Omf.Relocs.{BySelf}, Rows.{Row, shift_of, same_hint}, RelocTables.{rows_of}}
use Rattle.oc_neutral.specs.Spelling.{written_row}
use Rattle.oc_neutral.specs.declared.reloc.Target.TheVariants as target
use Rattle.oc_shows.specs.Manners.{omf_manner}
use Rattle.oc_shows.specs.Seen.{place_at, target_place, section_place, new_position, seen, seen_section, seen_binding, seen_field, seen_reloc, seen_target}
use Rattle.oc_shows.specs.SymbolLines.{omf_lines, lines_of, is_undefined, is_global, one}
use Rattle.oc_target.proofs.{MeetsRelocs.{normal_of}, SeenReady.{IsReady, omf_ready}}
use Rattle.oc_shows.proofs.{SeenAlike.{relocs_same, stands}, SeenLines.{IsShown}, FoundLaws.{found_in}}
use Rattle.oc_shelf.proofs.WritingLaws.MemberLemmas.{map-map, map-alike, of_filter}
use Rattle.oc_omf.specs.{declared.structures.Method.{Method}, declared.constants.TheConstants.{METHOD_EXTERNAL}}
use Rattle.oc_omf.specs.Bytes.{entry_bytes, segment_bytes, communal_bytes, data_bytes, fixup_bytes}
use Rattle.oc_omf.specs.declared.structures.Segment as read
use Rattle.oc_omf_file.specs.{Names.{class_of, with_name, names_of, filled_from}, Pieces.{offsets_of, pieces_upto, pieces_of, fields_between}}
use Rattle.oc_omf_file.specs.Outputs.{Output, Header, Names, Segment, Group, External, Communal, Public, Data, Fixups, End, external_by, communal_by, public_by, external_output, communal_output, public_output, symbol_outputs, is_of_symbol, symbol_number, piece_outputs, data_outputs, segment_output, outputs_of}
use Rattle.oc_omf_file.specs.Fixups.{written_reloc, row_by, number_or, number_by, field_number, field_patch, field_patches, raw_of, target_method, is_row, frame_method, fixup_by, field_fixup}
use Rattle.oc_omf_file.specs.Canonical.{attributes_of, size_by, public_at, output_type, output_contents, output_bytes, omf_file}
use Rattle.oc_omf_file.proofs.{CodedLaws.{IsForOmf}, LineLaws.{key_of, listed_at}, SeenLaws.{shown, again, again_is, are_shown}}
use Rattle.oc_canonical.proofs.MapLemmas.{enumerate_map, filter-append, filter-within, filter-apart, filter-mapped, flat_map-mapped, lists_map, map_append, map-flat_map}
use Rattle.oc_canonical.proofs.SeenSymbols.{shown_ones, gathered, ones_gathered, gathered_append, gathered_where, moved, all_moved, outer_tell}
use Rattle.oc_canonical.proofs.StaysLemmas.{plain_row}

-- the first place that passes a test, of items that are changed
position_map : {X Y : Type 0} (f : X → Y) (test : X → Bool) (tests : Y → Bool) (xs : List X) → ((k : ℕ) (x : X) → slice_get xs k ≡ Some x → tests (f x) ≡ test x)
    → position_or_len tests (map f xs) ≡ position_or_len test xs
position_map f test tests [] same = refl
position_map f test tests (x ∷ xs) same = elim (test x) as (λ b. test x ≡ b → position_or_len tests (map f (x ∷ xs)) ≡ position_or_len test (x ∷ xs)) [
  | true ↦ λ e. rw (same 0 x refl, e) refl
  | false ↦ λ e. rw (same 0 x refl, e, position_map f test tests xs (λ k y h. same (suc k) y h)) refl
] refl

pub plain_rows : AllByRecursion (λ (r : Row). same_hint r.hint Call ≡ false) (rows_of Omf)
plain_rows = (refl, (refl, (refl, tt)))

-- ... outputs of symbols, by a test

external_where : (xs : List (ℕ × Symbol)) → filter_map external_output xs ≡ map (λ (x : ℕ × Symbol). External x.0 x.1) (filter (λ (x : ℕ × Symbol). is_undefined x.1.binding) xs)
external_where [] = refl
external_where (x ∷ xs) = by x.1.binding (external_where xs)
  where
    by : (b : Binding) → filter_map external_output xs ≡ map (λ (x : ℕ × Symbol). External x.0 x.1) (filter (λ (x : ℕ × Symbol). is_undefined x.1.binding) xs)
        → cons_option (external_by b x.0 x.1) (filter_map external_output xs)
        ≡ map (λ (x : ℕ × Symbol). External x.0 x.1) (cond (is_undefined b) (x ∷ filter (λ (x : ℕ × Symbol). is_undefined x.1.binding) xs) (filter (λ (x : ℕ × Symbol). is_undefined x.1.binding) xs))
    by Undefined e = ap (λ ys. External x.0 x.1 ∷ ys) e
    by (Local v) e = e
    by (Global v) e = e
    by (Common size align) e = e
    by (Weak f) e = e

communal_where : (xs : List (ℕ × Symbol)) → filter_map communal_output xs ≡ map (λ (x : ℕ × Symbol). Communal x.0 x.1) (filter (λ (x : ℕ × Symbol). is_common x.1.binding) xs)
communal_where [] = refl
communal_where (x ∷ xs) = by x.1.binding (communal_where xs)
  where
    by : (b : Binding) → filter_map communal_output xs ≡ map (λ (x : ℕ × Symbol). Communal x.0 x.1) (filter (λ (x : ℕ × Symbol). is_common x.1.binding) xs)
        → cons_option (communal_by b x.0 x.1) (filter_map communal_output xs)
        ≡ map (λ (x : ℕ × Symbol). Communal x.0 x.1) (cond (is_common b) (x ∷ filter (λ (x : ℕ × Symbol). is_common x.1.binding) xs) (filter (λ (x : ℕ × Symbol). is_common x.1.binding) xs))
    by Undefined e = e
    by (Local v) e = e
    by (Global v) e = e
    by (Common size align) e = ap (λ ys. Communal x.0 x.1 ∷ ys) e
    by (Weak f) e = e

public_where : (xs : List (ℕ × Symbol)) → filter_map public_output xs ≡ map (λ (x : ℕ × Symbol). Public x.0 x.1) (filter (λ (x : ℕ × Symbol). is_global x.1.binding) xs)
public_where [] = refl
public_where (x ∷ xs) = by x.1.binding (public_where xs)
  where
    by : (b : Binding) → filter_map public_output xs ≡ map (λ (x : ℕ × Symbol). Public x.0 x.1) (filter (λ (x : ℕ × Symbol). is_global x.1.binding) xs)
        → cons_option (public_by b x.0 x.1) (filter_map public_output xs)
        ≡ map (λ (x : ℕ × Symbol). Public x.0 x.1) (cond (is_global b) (x ∷ filter (λ (x : ℕ × Symbol). is_global x.1.binding) xs) (filter (λ (x : ℕ × Symbol). is_global x.1.binding) xs))
    by Undefined e = e
    by (Local v) e = e
    by (Global v) e = ap (λ ys. Public x.0 x.1 ∷ ys) e
    by (Common size align) e = e
    by (Weak f) e = e

-- two of these tests do not hold of one binding
undefined_common : (b : Binding) → is_undefined b ≡ true → is_common b ≡ false
undefined_common b e = grind arith

undefined_global : (b : Binding) → is_undefined b ≡ true → is_global b ≡ false
undefined_global b e = grind arith

common_global : (b : Binding) → is_common b ≡ true → is_global b ≡ false
common_global b e = grind arith

-- ... what a symbol says

place_same : (n : Object) (shown : List (ℕ × ℕ)) (b : Binding) → global_place (seen_binding omf_manner n shown b) ≡ global_place b
place_same n shown b = grind arith

size_same : (n : Object) (shown : List (ℕ × ℕ)) (b : Binding) → size_by (seen_binding omf_manner n shown b) ≡ size_by b
size_same n shown b = grind arith

undefined_same : (n : Object) (shown : List (ℕ × ℕ)) (b : Binding) → is_undefined (seen_binding omf_manner n shown b) ≡ is_undefined b
undefined_same n shown b = grind arith

common_same : (n : Object) (shown : List (ℕ × ℕ)) (b : Binding) → is_common (seen_binding omf_manner n shown b) ≡ is_common b
common_same n shown b = grind arith

global_same : (n : Object) (shown : List (ℕ × ℕ)) (b : Binding) → is_global (seen_binding omf_manner n shown b) ≡ is_global b
global_same n shown b = grind arith

module _ (n : Object) (is : IsForOmf n) (object : IsObject (again n)) where
  abbrev shows : IsShown n (shown n)
  shows = are_shown n is

  abbrev a : Object
  a = again n

  abbrev placed : List (ℕ × Symbol)
  placed = enumerate_from 0 n.symbols

  abbrev move : ℕ × Symbol → ℕ × Symbol
  move = moved omf_manner n (shown n) shows

  ready : IsReady omf_manner n
  ready = omf_ready n is.object is.meets

  -- ... symbols: the undefined ones, commons, and Globals

  abbrev those : (Binding → Bool) → List (ℕ × Symbol)
  those test = filter (λ (x : ℕ × Symbol). test x.1.binding) placed

  ones_are : shown_ones n (shown n) ≡ those is_undefined ++ (those is_common ++ those is_global)
  ones_are =
      ones_gathered n 0 (omf_lines n)
      ∙ gathered_append n (lines_of is_undefined n) (lines_of is_common n ++ lines_of is_global n)
      ∙ ap (λ xs. xs ++ gathered n (lines_of is_common n ++ lines_of is_global n)) (gathered_where n (λ s. is_undefined s.binding) one)
      ∙ ap (λ xs. those is_undefined ++ xs) (
      gathered_append n (lines_of is_common n) (lines_of is_global n)
      ∙ ap (λ xs. xs ++ gathered n (lines_of is_global n)) (gathered_where n (λ s. is_common s.binding) one)
      ∙ ap (λ xs. those is_common ++ xs) (gathered_where n (λ s. is_global s.binding) one))

  abbrev passes : (Binding → Bool) → ℕ × Symbol → Bool
  passes test x = test x.1.binding

  split : (test : Binding → Bool) → filter (passes test) (shown_ones n (shown n)) ≡ filter (passes test) (those is_undefined) ++ (filter (passes test) (those is_common) ++ filter (passes test) (those is_global))
  split test =
      ap (filter (passes test)) ones_are ∙ filter-append (passes test) (those is_undefined) (those is_common ++ those is_global)
      ∙ ap (λ xs. filter (passes test) (those is_undefined) ++ xs) (filter-append (passes test) (those is_common) (those is_global))

  none : (test u : Binding → Bool) → ((b : Binding) → u b ≡ true → test b ≡ false) → filter (passes test) (those u) ≡ []
  none test u apart = filter-apart (passes test) (passes u) placed (λ x e. apart x.1.binding e)

  own : (test : Binding → Bool) → filter (passes test) (those test) ≡ those test
  own test = filter-within (passes test) (passes test) placed (λ x e. e)

  undefined_all : filter (passes is_undefined) (shown_ones n (shown n)) ≡ those is_undefined
  undefined_all =
      split is_undefined
      ∙ ap (λ xs. xs ++ (filter (passes is_undefined) (those is_common) ++ filter (passes is_undefined) (those is_global))) (own is_undefined)
      ∙ ap (λ xs. those is_undefined ++ (xs ++ filter (passes is_undefined) (those is_global)))
      (none is_undefined is_common (λ b e. false_from_ne_true (is_undefined b) (λ f. true≢false (sym e ∙ undefined_common b f))))
      ∙ ap (λ xs. those is_undefined ++ xs) (none is_undefined is_global (λ b e. false_from_ne_true (is_undefined b) (λ f. true≢false (sym e ∙ undefined_global b f))))
      ∙ append-nil (those is_undefined)

  common_all : filter (passes is_common) (shown_ones n (shown n)) ≡ those is_common
  common_all =
      split is_common
      ∙ ap (λ xs. xs ++ (filter (passes is_common) (those is_common) ++ filter (passes is_common) (those is_global))) (none is_common is_undefined undefined_common)
      ∙ ap (λ xs. xs ++ filter (passes is_common) (those is_global)) (own is_common)
      ∙ ap (λ xs. those is_common ++ xs) (none is_common is_global (λ b e. false_from_ne_true (is_common b) (λ f. true≢false (sym e ∙ common_global b f))))
      ∙ append-nil (those is_common)

  global_all : filter (passes is_global) (shown_ones n (shown n)) ≡ those is_global
  global_all =
      split is_global
      ∙ ap (λ xs. xs ++ (filter (passes is_global) (those is_common) ++ filter (passes is_global) (those is_global))) (none is_global is_undefined undefined_global)
      ∙ ap (λ xs. xs ++ filter (passes is_global) (those is_global)) (none is_global is_common common_global)
      ∙ own is_global

  -- ... outputs

  abbrev pub output_again : Output → Output
  output_again Header = Header
  output_again (Names names) = Names names
  output_again (Segment k s) = Segment k (seen_section omf_manner n (k, s))
  output_again Group = Group
  output_again (External k s) = External (move (k, s)).0 (move (k, s)).1
  output_again (Communal k s) = Communal (move (k, s)).0 (move (k, s)).1
  output_again (Public k s) = Public (move (k, s)).0 (move (k, s)).1
  output_again (Data k s from to) = Data k (seen_section omf_manner n (k, s)) from to
  output_again (Fixups k s from to) = Fixups k (seen_section omf_manner n (k, s)) from to
  output_again End = End

  where_again : (line : ℕ → Symbol → Output) → ((k : ℕ) (s : Symbol) → line (move (k, s)).0 (move (k, s)).1 ≡ output_again (line k s)) → (test : Binding → Bool)
      → ((b : Binding) → test (seen_binding omf_manner n (shown n) b) ≡ test b) → filter (passes test) (shown_ones n (shown n)) ≡ those test
      → map (λ (x : ℕ × Symbol). line x.0 x.1) (filter (passes test) (enumerate_from 0 a.symbols)) ≡ map output_again (map (λ (x : ℕ × Symbol). line x.0 x.1) (those test))
  where_again line image test same all =
      ap (map (λ (x : ℕ × Symbol). line x.0 x.1)) (all_moved omf_manner n (shown n) shows (λ s. test s.binding) (λ s. test s.binding) (λ k number s h. same s.binding) all)
      ∙ map-map (λ (x : ℕ × Symbol). line x.0 x.1) move (those test)
      ∙ map-alike (λ (x : ℕ × Symbol). line (move x).0 (move x).1) (λ (x : ℕ × Symbol). output_again (line x.0 x.1)) (those test) (λ k x h. image x.0 x.1)
      ∙ sym (map-map output_again (λ (x : ℕ × Symbol). line x.0 x.1) (those test))

  externals_again : filter_map external_output (enumerate_from 0 a.symbols) ≡ map output_again (filter_map external_output placed)
  externals_again =
      external_where (enumerate_from 0 a.symbols) ∙ where_again External (λ k s. refl) is_undefined (undefined_same n (shown n)) undefined_all ∙ sym (ap (map output_again) (external_where placed))

  communals_again : filter_map communal_output (enumerate_from 0 a.symbols) ≡ map output_again (filter_map communal_output placed)
  communals_again =
      communal_where (enumerate_from 0 a.symbols) ∙ where_again Communal (λ k s. refl) is_common (common_same n (shown n)) common_all ∙ sym (ap (map output_again) (communal_where placed))

  publics_again : filter_map public_output (enumerate_from 0 a.symbols) ≡ map output_again (filter_map public_output placed)
  publics_again =
      public_where (enumerate_from 0 a.symbols) ∙ where_again Public (λ k s. refl) is_global (global_same n (shown n)) global_all ∙ sym (ap (map output_again) (public_where placed))

  symbols_again : symbol_outputs a ≡ map output_again (symbol_outputs n)
  unfolding symbol_outputs
  symbols_again =
      let xs : List Output = filter_map external_output placed in
      let ys : List Output = filter_map communal_output placed in
      let zs : List Output = filter_map public_output placed in
      ap (λ os. (os ++ filter_map communal_output (enumerate_from 0 a.symbols)) ++ filter_map public_output (enumerate_from 0 a.symbols)) externals_again
      ∙ ap (λ os. (map output_again xs ++ os) ++ filter_map public_output (enumerate_from 0 a.symbols)) communals_again
      ∙ ap (λ os. (map output_again xs ++ map output_again ys) ++ os) publics_again
      ∙ ap (λ os. os ++ map output_again zs) (sym (map_append output_again xs ys))
      ∙ sym (map_append output_again (xs ++ ys) zs)

  -- ... sections

  abbrev again_at : ℕ × Section → ℕ × Section
  again_at x = (x.0, seen_section omf_manner n x)

  sections_placed : enumerate_from 0 a.sections ≡ map again_at (enumerate_from 0 n.sections)
  sections_placed = enumerate_map (seen_section omf_manner n) 0 n.sections

  names_again : names_of a ≡ names_of n
  unfolding names_of
  names_again = ap (λ names. fold with_name [] ([] ∷ codes "FLAT" ∷ names)) (by 0 n.sections)
    where
      by : (i : ℕ) (xs : List Section) → flat_map (λ (s : Section). s.name ∷ class_of s ∷ []) (map (seen_section omf_manner n) (enumerate_from i xs)) ≡ flat_map (λ (s : Section). s.name ∷ class_of s ∷ []) xs
      by i [] = refl
      by i (x ∷ xs) = ap (λ ys. x.name ∷ class_of x ∷ ys) (by (i + 1) xs)

  fields_again : (k : ℕ) → list_of a.relocs k ≡ map (seen_field omf_manner n (shown n)) (list_of n.relocs k)
  fields_again k = lists_map (seen_field omf_manner n (shown n)) n.relocs k

  offsets_again : (k : ℕ) → offsets_of a k ≡ offsets_of n k
  offsets_again k = ap (map (λ (x : chains.Field Reloc). x.at)) (fields_again k) ∙ map-map (λ (x : chains.Field Reloc). x.at) (seen_field omf_manner n (shown n)) (list_of n.relocs k)

  pieces_again : (k : ℕ) (s : Section) → pieces_of a k (seen_section omf_manner n (k, s)) ≡ pieces_of n k s
  unfolding pieces_of
  pieces_again k s = ap (λ offsets. pieces_upto (length s.bytes) offsets (length s.bytes) 0) (offsets_again k)

  between_again : (k from to : ℕ) → fields_between a k from to ≡ map (seen_field omf_manner n (shown n)) (fields_between n k from to)
  between_again k from to =
      ap (filter (λ (x : chains.Field Reloc). nat_le from x.at && nat_lt x.at to)) (fields_again k)
      ∙ filter-mapped (seen_field omf_manner n (shown n)) (λ (x : chains.Field Reloc). nat_le from x.at && nat_lt x.at to) (λ (x : chains.Field Reloc). nat_le from x.at && nat_lt x.at to) (list_of n.relocs k) (λ i x h. refl)

  piece_again : (k : ℕ) (s : Section) (x : ℕ × ℕ) → piece_outputs a k (seen_section omf_manner n (k, s)) x ≡ map output_again (piece_outputs n k s x)
  piece_again k s x =
      ap (λ (count : ℕ). Data k (seen_section omf_manner n (k, s)) x.0 x.1 ∷ cond (eqb count 0) [] (Fixups k (seen_section omf_manner n (k, s)) x.0 x.1 ∷ []))
      (ap length (between_again k x.0 x.1) ∙ length-map (fields_between n k x.0 x.1) (seen_field omf_manner n (shown n)))
      ∙ by (eqb (length (fields_between n k x.0 x.1)) 0)
    where
      by : (b : Bool) → Data k (seen_section omf_manner n (k, s)) x.0 x.1 ∷ cond b [] (Fixups k (seen_section omf_manner n (k, s)) x.0 x.1 ∷ []) ≡ map output_again (Data k s x.0 x.1 ∷ cond b [] (Fixups k s x.0 x.1 ∷ []))
      by b = grind arith

  data_again : (x : ℕ × Section) → data_outputs a (again_at x) ≡ map output_again (data_outputs n x)
  data_again x =
      ap (flat_map (piece_outputs a x.0 (seen_section omf_manner n x))) (pieces_again x.0 x.1)
      ∙ same (pieces_of n x.0 x.1)
      ∙ sym (map-flat_map output_again (piece_outputs n x.0 x.1) (pieces_of n x.0 x.1))
    where
      same : (ps : List (ℕ × ℕ)) → flat_map (piece_outputs a x.0 (seen_section omf_manner n x)) ps ≡ flat_map (λ p. map output_again (piece_outputs n x.0 x.1 p)) ps
      same [] = refl
      same (p ∷ ps) = ap (λ ys. ys ++ flat_map (piece_outputs a x.0 (seen_section omf_manner n x)) ps) (piece_again x.0 x.1 p) ∙ ap (λ ys. map output_again (piece_outputs n x.0 x.1 p) ++ ys) (same ps)

  outputs_again : outputs_of a ≡ map output_again (outputs_of n)
  unfolding outputs_of
  outputs_again =
      let names : List Output = map Names (filled_from [] (names_of n)) in
      let segments : List Output = map segment_output (enumerate_from 0 n.sections) in
      let data_of : List Output = flat_map (data_outputs n) (enumerate_from 0 n.sections) in
      let first : map Names (filled_from [] (names_of a)) ≡ map output_again names
      = ap (λ xs. map Names (filled_from [] xs)) names_again ∙ sym (map-map output_again Names (filled_from [] (names_of n))) in
      let second : map segment_output (enumerate_from 0 a.sections) ≡ map output_again segments
      = ap (map segment_output) sections_placed ∙ map-map segment_output again_at (enumerate_from 0 n.sections) ∙ sym (map-map output_again segment_output (enumerate_from 0 n.sections)) in
      let third : flat_map (data_outputs a) (enumerate_from 0 a.sections) ≡ map output_again data_of
      = ap (flat_map (data_outputs a)) sections_placed
      ∙ flat_map-mapped again_at (λ x. map output_again (data_outputs n x)) (data_outputs a) (enumerate_from 0 n.sections) (λ k x h. data_again x)
      ∙ sym (map-flat_map output_again (data_outputs n) (enumerate_from 0 n.sections)) in
      ap (λ os. Header ∷ os) (
      ap (λ os. os ++ (map segment_output (enumerate_from 0 a.sections) ++ (Group ∷ symbol_outputs a ++ (flat_map (data_outputs a) (enumerate_from 0 a.sections) ++ End ∷ [])))) first
      ∙ ap (λ os. map output_again names ++ (os ++ (Group ∷ symbol_outputs a ++ (flat_map (data_outputs a) (enumerate_from 0 a.sections) ++ End ∷ [])))) second
      ∙ ap (λ os. map output_again names ++ (map output_again segments ++ (Group ∷ os ++ (flat_map (data_outputs a) (enumerate_from 0 a.sections) ++ End ∷ [])))) symbols_again
      ∙ ap (λ os. map output_again names ++ (map output_again segments ++ (Group ∷ map output_again (symbol_outputs n) ++ (os ++ End ∷ [])))) third
      ∙ ap (λ os. map output_again names ++ (map output_again segments ++ (Group ∷ map output_again (symbol_outputs n) ++ os))) (sym (map_append output_again data_of (End ∷ [])))
      ∙ ap (λ os. map output_again names ++ (map output_again segments ++ (Group ∷ os))) (sym (map_append output_again (symbol_outputs n) (data_of ++ End ∷ [])))
      ∙ ap (λ os. map output_again names ++ os) (sym (map_append output_again segments (Group ∷ symbol_outputs n ++ (data_of ++ End ∷ []))))
      ∙ sym (map_append output_again names (segments ++ (Group ∷ symbol_outputs n ++ (data_of ++ End ∷ [])))))

  -- ... relocations

  number_again : (j : ℕ) (t : Symbol) → slice_get n.symbols j ≡ Some t → is_local t.binding ≡ false → symbol_number a (new_position (shown n) j) ≡ symbol_number n j
  number_again j t here outer =
      ap (position_or_len (is_of_symbol (new_position (shown n) j))) symbols_again
      ∙ position_map output_again (is_of_symbol j) (is_of_symbol (new_position (shown n) j)) (symbol_outputs n) (λ i o h.
      let l = listed_at n is i o h in
      moved_key o (l.found 0) ∙ outer_tell omf_manner n (shown n) shows (key_of o) j l.symbol t l.there here l.outer outer ∙ sym (l.found j))
    where
      moved_key : (o : Output) → is_of_symbol 0 o ≡ nat_eq (key_of o) 0 → is_of_symbol (new_position (shown n) j) (output_again o) ≡ nat_eq (new_position (shown n) (key_of o)) (new_position (shown n) j)
      moved_key o f = grind arith

  module _ (k at : ℕ) (r : Reloc) (here : reloc_at n k at ≡ Some r) where
    abbrev q : Reloc
    q = seen_reloc omf_manner n (shown n) r

    abbrev place : Option Place
    place = section_place omf_manner n r

    pub form_same : q.form ≡ r.form
    form_same = by place
      where
        by : (o : Option Place) → (at_section (word_for n.format) r o).form ≡ r.form
        by o = grind arith

    q_there : reloc_at a k at ≡ Some q
    q_there = relocs_same omf_manner n (shown n) shows n.relocs k at ∙ ap (option_map (seen_reloc omf_manner n (shown n))) here

    word_is : word_for n.format ≡ W32
    word_is = ap word_for is.format

    -- what is seen is against no Global
    no_place : section_place omf_manner a q ≡ None
    no_place = ap (λ (f : Form). target_place a f.less q.target) form_same ∙ by place refl
      where
        same_place : (j : ℕ) → r.target ≡ target.Symbol j → place_at a (new_position (shown n) j) ≡ place_at n j
        same_place j e =
            let y = ready.targets k at r j here e in
            let z = stands omf_manner n (shown n) shows j y.0 y.1 y.2 in
            ap (option_and_then (λ (s : Symbol). global_place s.binding)) z.1 ∙ place_same n (shown n) y.0.binding ∙ sym (ap (option_and_then (λ (s : Symbol). global_place s.binding)) y.1)

        of : (t : Target) → r.target ≡ t → target_place n r.form.less t ≡ None → target_place a r.form.less (seen_target (shown n) t) ≡ None
        of (target.Section j) e left = refl
        of (target.Symbol j) e left = ap (option_and_then (λ (p : Place). cond (takes_section p.0 r.form.less) None (Some p))) (same_place j e) ∙ left

        by : (o : Option Place) → section_place omf_manner n r ≡ o → target_place a r.form.less (seen_target (shown n) (at_section (word_for n.format) r o).target) ≡ None
        by None e = of r.target refl e
        by (Some p) e = refl

    -- and has the target and the addend of what is written
    method_same : target_method a q.target ≡ target_method n (written_reloc n r).target
    method_same = by place
      where
        of : (t : Target) → r.target ≡ t → target_method a (seen_target (shown n) t) ≡ target_method n t
        of (target.Section j) e = refl
        of (target.Symbol j) e = let y = ready.targets k at r j here e in ap (λ (i : ℕ). method (i + 1)) (number_again j y.0 y.1 y.2)
          where
            method : ℕ → Method
            method index = record { number = METHOD_EXTERNAL; index = index }

        by : (o : Option Place) → target_method a (seen_target (shown n) (at_section (word_for n.format) r o).target) ≡ target_method n (at_section W32 r o).target
        by None = of r.target refl
        by (Some p) = refl

    written_again : written_reloc a q ≡ at_section W32 q None
    written_again = ap (at_section W32 q) no_place

    addend_same : (written_reloc a q).addend ≡ (written_reloc n r).addend
    addend_same =
        let normal = normal_of a object k at q q_there in
        ap (λ (x : Reloc). x.addend) written_again
        ∙ ap (λ word. reduced_number word q.addend) (sym word_is)
        ∙ normal.reduced
        ∙ ap (λ word. (at_section word r place).addend) word_is

    row_same : row_by q ≡ row_by r
    row_same = ap (λ f. written_row Omf f Plain) form_same ∙ plain_row Omf plain_rows r.form r.hint

    written_form : (m : Object) (x : Reloc) → (written_reloc m x).form ≡ x.form
    written_form m x = by (section_place omf_manner m x)
      where
        by : (o : Option Place) → (at_section W32 x o).form ≡ x.form
        by o = grind arith

    abbrev number_with : Row → Form → ℤ → ℕ
    number_with row form addend = number_or (to_field_of W32 form.width (shift_of row) addend)

    number_same : field_number a q ≡ field_number n r
    unfolding field_number
    number_same =
        ap (option_map_or_number (λ row. number_by (written_reloc a q) row)) row_same
        ∙ ap (λ f. option_map_or_number f (row_by r)) (fun_ext (λ row.
        ap (λ form. number_with row form (written_reloc a q).addend) (written_form a q ∙ form_same ∙ sym (written_form n r)) ∙ ap (number_with row (written_reloc n r).form) addend_same))
      where
        option_map_or_number : (Row → ℕ) → Option Row → ℕ
        option_map_or_number f o = option_map_or f o 0

    patch_same : field_patch a q ≡ field_patch n r
    patch_same = ap (λ (f : Form). patch f (field_number a q)) form_same ∙ ap (patch r.form) number_same
      where
        patch : Form → ℕ → Patch
        patch form number = record { width = form.width; check = form.check; residue = number }

    fixup_same : (from : ℕ) (width : ℕ) → field_fixup a from (record { at = at; width = width; item = q }) ≡ field_fixup n from (record { at = at; width = width; item = r })
    fixup_same from width =
        ap (λ o. option_map_or (fixup_by a (at - from) q) o []) row_same
        ∙ ap (λ f. option_map_or f (row_by r) []) (fun_ext (λ row.
        ap (λ t. fixup_bytes (is_row BySelf row) (at - from) (frame_method row) (target_method a t)) (ap (λ (x : Reloc). x.target) written_again)
        ∙ ap (fixup_bytes (is_row BySelf row) (at - from) (frame_method row)) method_same))

  patches_again : (k at : ℕ) → field_patches a k at ≡ field_patches n k at
  patches_again k at = ap (option_map (field_patch a)) (relocs_same omf_manner n (shown n) shows n.relocs k at) ∙ by (reloc_at n k at) refl
    where
      by : (o : Option Reloc) → reloc_at n k at ≡ o → option_map (field_patch a) (option_map (seen_reloc omf_manner n (shown n)) o) ≡ option_map (field_patch n) o
      by None e = refl
      by (Some r) e = ap Some (patch_same k at r e)

  raw_again : (k : ℕ) (s : Section) → raw_of a k (seen_section omf_manner n (k, s)) ≡ raw_of n k s
  unfolding raw_of
  raw_again k s = ap (λ o. overlay o 0 s.bytes) (fun_ext (λ at. patches_again k at))

  fixups_again : (k from to : ℕ) → flat_map (field_fixup a from) (fields_between a k from to) ≡ flat_map (field_fixup n from) (fields_between n k from to)
  fixups_again k from to =
      ap (flat_map (field_fixup a from)) (between_again k from to)
      ∙ flat_map-mapped (seen_field omf_manner n (shown n)) (field_fixup n from) (field_fixup a from) (fields_between n k from to) (λ i x h.
      let t = of_filter (λ (y : chains.Field Reloc). nat_le from y.at && nat_lt y.at to) (list_of n.relocs k) i x h in
      fixup_same k x.at x.item (found_in 0 (list_of n.relocs k) (is.object.built.fields.apart k) t.0 x t.1).1 from x.width)

  -- ... the file

  contents_again : (o : Output) → output_contents a (output_again o) ≡ output_contents n o
  unfolding output_contents
  contents_again Header = refl
  contents_again (Names names) = refl
  contents_again (Segment k s) = ap (λ names. segment_bytes (segment (position_or_len (bytes_eq s.name) names + 1) (position_or_len (bytes_eq (class_of s)) names + 1))) names_again
    where
      segment : ℕ → ℕ → read.Segment
      segment name class = record { wide = true; attributes = attributes_of s; length = s.size; name = name; class = class; overlay = 1 }
  contents_again Group = refl
  contents_again (External k s) = refl
  contents_again (Communal k s) = ap (communal_bytes s.name) (size_same n (shown n) s.binding)
  contents_again (Public k s) = ap (λ o. option_map_or (public_at s.name) o []) (place_same n (shown n) s.binding)
  contents_again (Data k s from to) = ap (λ bytes. data_bytes (k + 1) from (slice_range bytes from to)) (raw_again k s)
  contents_again (Fixups k s from to) = fixups_again k from to
  contents_again End = refl

  type_again : (o : Output) → output_type (output_again o) ≡ output_type o
  type_again o = grind arith

  pub omf_file_again : omf_file (seen n) ≡ omf_file n
  unfolding omf_file
  omf_file_again =
      ap (λ m. flat_map (output_bytes m) (outputs_of m)) (again_is n is.format)
      ∙ ap (flat_map (output_bytes a)) outputs_again
      ∙ flat_map-mapped output_again (output_bytes n) (output_bytes a) (outputs_of n) (λ k o h.
      ap (λ (type : ℕ). entry_bytes type (output_contents a (output_again o))) (type_again o) ∙ ap (entry_bytes (output_type o)) (contents_again o))
