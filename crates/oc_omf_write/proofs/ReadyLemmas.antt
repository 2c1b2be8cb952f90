-- What is made of an object is ready to be laid out.
use Rattle.std.proofs.Common.{◌≡◌, ℕ, zero, suc, ◌+◌, ◌*◌, ◌^◌, ◌<◌, ◌≤◌, Bool, true, false, cond, nat_eq, nat_lt, List, [], ◌∷◌, ◌++◌, length, map, Option, Some, None, refl, sym, ◌∙◌, ap, subst, arith, length-append, Vec, Global}
use Rattle.std.specs.{Prelude.{slice_get, flat_map, filter_map}, List.{AllByRecursion, enumerate_from, range_with_len, cons_option}}
use Rattle.std.proofs.lemmas.{List.{length-map}, List.FromFn.{length-enumerate_from, length-range_with_len}, Option.{same_Some, slice_get_within}}
use Rattle.oc_neutral.specs.{declared.section.Section.{Section}, declared.symbol.Symbol.{Symbol}, Constants.{with_contents}, Objects.{Object}}
use Rattle.oc_neutral.specs.{Building.{is_zero}, Invariants.{HasItsBytes}}
use Rattle.oc_neutral.proofs.Positions.{each_at, there_at}
use Rattle.oc_omf_file.specs.{Fixups.{raw_of}, Names.{names_of, filled_from, names_size}}
use Rattle.oc_omf_file.specs.{Outputs.{Output, symbol_outputs, external_output, communal_output, public_output}, Pieces.{pieces_upto, piece_end}}
use Rattle.oc_omf_file.specs.Outputs as output
use Rattle.oc_omf_file.proofs.{BehindLaws.{OfSymbol, symbols_are}, CodedLaws.{IsForOmf, short_names, few_names, size_low}, SmallLaws.{length-raw}}
use Rattle.oc_omf_write.specs.{declared.entries.Entry.{Entry}, declared.fixups.Fixup.{Fixup}, declared.tables.WrittenTables.{WrittenTables}, Entries.{entry_for}}
use Rattle.oc_omf_write.specs.{Made.{IsMade}, Names.{IsNameOf, IsSegment, names_entry, texts_in, names_for, segment_in}, Numbers.{HasPlace, AreNumbers}}
use Rattle.oc_omf_write.specs.{Pieces.{AreInSections, FollowWithin, fixups_at, piece_entries, section_entries, data_entries, places_of}, Plans.{AreEntries}}
use Rattle.oc_omf_write.specs.{Raws.{addend_in, sections_in}, Tables.{AreSound, texts_of, fixups_of}}
use Rattle.oc_omf_write.specs.declared.entries.Entry.TheVariants as entry
use Rattle.oc_plans.specs.Numbered.{section_with_numbers}
use Rattle.oc_omf_write.specs.Written as written
use Rattle.oc_omf_write.proofs.{EntryLemmas.{section_there, fixups_here, fixups_follow}, PieceLemmas.{follow_from}, PlannedLemmas.{fixups_counted, names_same}}
use Rattle.oc_omf_write.proofs.SegmentLemmas.{are_segments}
use Rattle.oc_shelf.proofs.WritingLaws.MemberLemmas.{all_members}

-- ... the entries of symbols

has_place : (n : Object) (o : Output) → OfSymbol n o → HasPlace (length n.symbols) (entry_for o)
has_place n output.Header of = absurd of
has_place n (output.Names names) of = absurd of
has_place n (output.Segment k s) of = absurd of
has_place n output.Group of = absurd of
has_place n (output.External k s) of = slice_get_within n.symbols k s of.0
has_place n (output.Communal k s) of = slice_get_within n.symbols k s of.0
has_place n (output.Public k s) of = slice_get_within n.symbols k s of.0
has_place n (output.Data k s from to) of = absurd of
has_place n (output.Fixups k s from to) of = absurd of
has_place n output.End of = absurd of

places_from : (n : Object) (os : List Output) → ((i : ℕ) (o : Output) → slice_get os i ≡ Some o → OfSymbol n o) → AllByRecursion (HasPlace (length n.symbols)) (map entry_for os)
places_from n [] each = tt
places_from n (o ∷ os) each = (has_place n o (each 0 o refl), places_from n os (λ i p h. each (suc i) p h))

-- each is that of a symbol
pub all_places : (n : Object) → AllByRecursion (HasPlace (length n.symbols)) (map entry_for (symbol_outputs n))
all_places n = places_from n (symbol_outputs n) (symbols_are n)

filter_map_long : {X Y : Type 0} (f : X → Option Y) (xs : List X) → length (filter_map f xs) ≤ length xs
filter_map_long f [] = omega arith
filter_map_long {X} {Y} f (x ∷ xs) = by (f x) (filter_map_long f xs)
  where
    by : (o : Option Y) → length (filter_map f xs) ≤ length xs → length (cons_option o (filter_map f xs)) ≤ suc (length xs)
    by None low = omega (arith, low)
    by (Some y) low = omega (arith, low)

-- there are no more than three for each symbol
pub few_entries : (n : Object) → length (symbol_outputs n) ≤ 3 * length n.symbols
unfolding symbol_outputs
few_entries n =
    let xs : List (ℕ × Symbol) = enumerate_from 0 n.symbols in
    let long = length-enumerate_from 0 n.symbols in
    let external = filter_map_long external_output xs in
    let communal = filter_map_long communal_output xs in
    let public = filter_map_long public_output xs in
    let first = length-append (filter_map external_output xs) (filter_map communal_output xs) in
    let both = length-append (filter_map external_output xs ++ filter_map communal_output xs) (filter_map public_output xs) in
    omega (arith, long, external, communal, public, first, both)

-- ... how many entries there are

-- a section has no more bytes than its size
bytes_low : (n : Object) → IsForOmf n → (k : ℕ) (s : Section) → slice_get n.sections k ≡ Some s → length s.bytes ≤ 2147483647
bytes_low n is k s here = by (is_zero s.kind) (each_at HasItsBytes n.sections k s is.object.built.bytes here) (size_low n is k s here)
  where
    by : (b : Bool) → length s.bytes ≡ cond b 0 s.size → s.size ≤ 2147483647 → length s.bytes ≤ 2147483647
    by true e low = omega (arith, e)
    by false e low = omega (arith, e, low)

pieces_few : (m : ℕ) (offsets : List ℕ) (size from : ℕ) → length (pieces_upto m offsets size from) ≤ m
pieces_few zero offsets size from = omega arith
pieces_few (suc m) offsets size from = by (nat_lt from size) (pieces_few m offsets size (piece_end offsets size from))
  where
    by : (b : Bool) → length (pieces_upto m offsets size (piece_end offsets size from)) ≤ m
        → length (cond b ((from, piece_end offsets size from) ∷ pieces_upto m offsets size (piece_end offsets size from)) []) ≤ suc m
    by true low = omega (arith, low)
    by false low = omega arith

piece_few : (k : ℕ) (fixups : List Fixup) (x : ℕ × ℕ) → length (piece_entries k fixups x) ≤ 2
piece_few k fixups x = by (nat_eq (length (written.between x.0 x.1 fixups)) 0)
  where
    by : (b : Bool) → length (entry.Data k x.0 x.1 ∷ cond b [] (entry.Fixups k x.0 x.1 ∷ [])) ≤ 2
    by true = omega arith
    by false = omega arith

flat_few : {X Y : Type 0} (f : X → List Y) (m : ℕ) (xs : List X) → ((x : X) → length (f x) ≤ m) → length (flat_map f xs) ≤ m * length xs
flat_few f m [] each = omega arith
flat_few f m (x ∷ xs) each =
    let more : m * suc (length xs) ≡ m + m * length xs = omega arith in
    omega (arith, more, each x, length-append (f x) (flat_map f xs), flat_few f m xs each)

section_few : (k : ℕ) (fixups : List Fixup) (size : ℕ) → length (section_entries k fixups size) ≤ 2 * size
section_few k fixups size =
    omega (arith, flat_few (piece_entries k fixups) 2 (pieces_upto size (places_of fixups) size 0) (piece_few k fixups), pieces_few size (places_of fixups) size 0)

data_few : (fixups : List (List Fixup)) (k : ℕ) (ss : List Section) → ((j : ℕ) (s : Section) → slice_get ss j ≡ Some s → length s.bytes < 2 ^ 31)
    → length (flat_map (λ (x : ℕ × Section). section_entries x.0 (fixups_at fixups x.0) (length x.1.bytes)) (enumerate_from k ss)) ≤ 4294967296 * length ss
data_few fixups k [] small = omega arith
data_few fixups k (s ∷ ss) small =
    let own = small 0 s refl in
    let few = section_few k (fixups_at fixups k) (length s.bytes) in
    let rest = data_few fixups (k + 1) ss (λ j x h. small (suc j) x h) in
    let both = length-append (section_entries k (fixups_at fixups k) (length s.bytes)) (flat_map (λ (x : ℕ × Section). section_entries x.0 (fixups_at fixups x.0) (length x.1.bytes)) (enumerate_from (k + 1) ss)) in
    omega (arith, own, few, rest, both)

filled_few : (held names : List (List ℕ)) → length (filled_from held names) ≤ 1 + length names
filled_few held [] = omega arith
filled_few held (name ∷ names) = by (nat_lt 1024 (names_size held + 1 + length name)) (filled_few (name ∷ []) names) (filled_few (held ++ name ∷ []) names)
  where
    by : (b : Bool) → length (filled_from (name ∷ []) names) ≤ 1 + length names → length (filled_from (held ++ name ∷ []) names) ≤ 1 + length names
        → length (cond b (held ∷ filled_from (name ∷ []) names) (filled_from (held ++ name ∷ []) names)) ≤ 1 + suc (length names)
    by true new more = omega (arith, new)
    by false new more = omega (arith, more)

-- ... what is made

-- there are as many sections with numbers
pub sections_in_counted : (n : Object) → length (sections_in n) ≡ length n.sections
sections_in_counted n = length-map (enumerate_from 0 n.sections) (section_with_numbers (addend_in n) n.relocs) ∙ length-enumerate_from 0 n.sections

module _ (n : Object) (is : IsForOmf n) (t : WrittenTables) (numbers : List ℕ) (made : IsMade n t numbers) where
  pub sections_counted : length t.sections.items ≡ length n.sections
  sections_counted = ap length made.sections ∙ sections_in_counted n

  all_counted : length (fixups_of t) ≡ length n.sections
  all_counted = ap length made.fixups ∙ fixups_counted n numbers

  -- the section at a position in the object
  own : (k : ℕ) → k < length n.sections → (s : Section) × (slice_get n.sections k ≡ Some s)
  own k low = there_at n.sections k low

  -- the fixups stand in it, in order
  pub follow_here : (k : ℕ) (s : Section) → slice_get n.sections k ≡ Some s → FollowWithin 0 (length s.bytes) (fixups_at (fixups_of t) k)
  follow_here k s here = subst (FollowWithin 0 (length s.bytes)) (sym (fixups_here n is t numbers made k s here)) (fixups_follow n is t numbers made k s here)

  pub sound : AllByRecursion (IsNameOf (length t.sections.items)) t.names.items → AreSound t
  sound named = record {
    segments = subst (AllByRecursion IsSegment) (sym made.sections) (are_segments n is);
    named = named;
    short = subst (AllByRecursion (λ (text : List ℕ). length text ≤ 255)) (sym made.texts) (all_members (λ (text : List ℕ). length text ≤ 255) (names_of n) (short_names n is));
    order = λ k low.
        let mapped = length-map t.fixups.items (λ (v : Vec Fixup Global). v.items) in
        let all = all_counted in
        let s = own k (omega (arith, low, mapped, all)) in
        follow_from 0 (length s.0.bytes) (fixups_at (fixups_of t) k) (follow_here k s.0 s.1);
  }

  -- the section at a position with its numbers
  numbered : (k : ℕ) (x : Section) → slice_get t.sections.items k ≡ Some x → (s : Section) × (slice_get n.sections k ≡ Some s) × (length x.bytes ≡ length s.bytes)
  numbered k x there =
      let low = slice_get_within t.sections.items k x there in
      let count = sections_counted in
      let s = own k (omega (arith, low, count)) in
      let same : with_contents (raw_of n k s.0) s.0 ≡ x = same_Some (with_contents (raw_of n k s.0) s.0) x (sym (section_there n is t numbers made k s.0 s.1) ∙ there) in
      (s.0, s.1, sym (ap (λ (y : Section). length y.bytes) same) ∙ length-raw n k s.0)

  pub in_sections : AreInSections t.sections.items (fixups_of t)
  in_sections = record {
    counted = all_counted ∙ sym sections_counted;
    small = λ k x there. let m = numbered k x there in let long = m.2 in let low = bytes_low n is k m.0 m.1 in omega (arith, long, low);
    each = λ k x there. let m = numbered k x there in subst (λ size. FollowWithin 0 size (fixups_at (fixups_of t) k)) (sym m.2) (follow_here k m.0 m.1);
  }

  -- there are few entries
  pub few : (symbols entries : List Entry) → symbols ≡ map entry_for (symbol_outputs n) → length n.symbols ≤ 2 ^ 24 → AreEntries t symbols entries → length entries < 2 ^ 50
  few symbols entries of low are =
      let sections = is.meets.few in
      let count = sections_counted in
      let names = few_names n is in
      let texts = ap length made.texts in
      let ranges : length are.ranges ≤ 1 + length (texts_of t) = (let long = ap length are.filled in let mapped = length-map are.ranges (texts_in (texts_of t)) in let all = filled_few [] (texts_of t) in omega (arith, long, mapped, all)) in
      let given : length symbols ≤ 3 * length n.symbols = (let long = ap length of in let mapped = length-map (symbol_outputs n) entry_for in let all = few_entries n in omega (arith, long, mapped, all)) in
      let bytes = data_few (fixups_of t) 0 t.sections.items in_sections.small in
      let last = length-append (data_entries (fixups_of t) t.sections.items) (entry.End ∷ []) in
      let behind = length-append symbols (data_entries (fixups_of t) t.sections.items ++ entry.End ∷ []) in
      let segments = length-append (map entry.Segment (range_with_len 0 (length t.sections.items))) (entry.Group ∷ symbols ++ (data_entries (fixups_of t) t.sections.items ++ entry.End ∷ [])) in
      let segments_long = length-map (range_with_len 0 (length t.sections.items)) entry.Segment in
      let range = length-range_with_len 0 (length t.sections.items) in
      let front = length-append (map names_entry are.ranges) (map entry.Segment (range_with_len 0 (length t.sections.items)) ++ (entry.Group ∷ symbols ++ (data_entries (fixups_of t) t.sections.items ++ entry.End ∷ []))) in
      let front_long = length-map are.ranges names_entry in
      let all = ap length are.are in
      omega (arith, sections, count, names, texts, ranges, given, low, bytes, last, behind, segments, segments_long, range, front, front_long, all)

-- what is made of the parts
pub are_made : (n : Object) (t : WrittenTables) (numbers : List ℕ) → t.sections.items ≡ sections_in n → t.segments.items ≡ map (segment_in t.sections.items) t.sections.items → texts_of t ≡ names_for t.sections.items
    → t.symbols.items ≡ n.symbols → fixups_of t ≡ written.fixups_in numbers n → AreNumbers n numbers → IsMade n t numbers
are_made n t numbers sections segments texts symbols fixups numbered = record {
  sections = sections;
  segments = segments ∙ ap (λ ss. map (segment_in ss) ss) sections;
  texts = texts ∙ ap names_for sections ∙ names_same n;
  symbols = symbols;
  fixups = fixups;
  numbered = numbered;
}
