-- No entry of the canonical file has a fault in its names, its segment, its group or its data.
use Rattle.std.proofs.Common.{◌≡◌, ℕ, zero, suc, ◌+◌, ◌-◌, ◌*◌, ◌<◌, ◌≤◌, inl, inr, Bool, true, false, not, ◌&&◌, ◌||◌, nat_le, nat_lt, nat_eq, cond, if◌then◌else◌, List, [], ◌∷◌, ◌++◌, length, map, min, take, drop, Option, Some, None, refl, sym, ◌∙◌, ap, subst, arith}
use Rattle.std.specs.{Prelude.{flat_map, slice_get, slice_range}, List.{enumerate_from, list_any, sum_by}, Option.{option_map_or}}
use Rattle.std.proofs.lemmas.{Bool.{eqb-true}, Bool.Decides.{nat_tests}, List.{length-map, length-take}, List.Sums.{sum_by-cons, sum_by-append}}
use Rattle.std.proofs.lemmas.Option.{none-some, same_Some, slice_get_within}
use Rattle.oc_linking.specs.{declared.terms.Kind.{Kind}, declared.terms.Kind.TheVariants.{Data, Zero}}
use Rattle.oc_neutral.specs.{declared.section.Section.{Section}, Building.{is_zero, size_sum, stored_size, stored_sum}, KeySymbols.{global_place}}
use Rattle.oc_neutral.specs.{KindRules.{same_kind}, Normal.{Place}, Objects.{Object}}
use Rattle.oc_shelf.proofs.ReadingLaws.StageLemmas.{Unbroken, IsUnbroken, unbroken_append}
use Rattle.oc_shelf.proofs.WritingLaws.MemberLemmas.{each_flat_map, member_enumerated, member_first, none_passes, of_filter}
use Rattle.oc_neutral.proofs.Positions.{there_at}
use Rattle.oc_omf.specs.{Structures.{Piece}, Entries.{Entry, says_nothing, in_file}, Tables.{Tables, tables_of, is_indexed}}
use Rattle.oc_omf.specs.Sections.{segment_size, size_at, piece_size}
use Rattle.oc_omf.specs.SectionFaults.{name_conditions, is_combination, is_named, form_conditions, size_conditions, segment_conditions, group_conditions, pieces_meet, piece_conditions, bytes_size, all_bytes, end_conditions, conditions_on, section_conditions, section_stage}
use Rattle.oc_omf.specs.Bytes.{name_bytes}
use Rattle.oc_omf.specs.Sections as read
use Rattle.oc_omf_file.specs.{Names.{names_of, class_of, name_index}, Outputs.{Output, outputs_of}, Fixups.{raw_of}, Canonical.{segment_of}}
use Rattle.oc_omf_file.specs.Outputs as output
use Rattle.oc_omf_file.proofs.{CursorLaws.{placed}, MadeLaw.{made, made_public}}
use Rattle.oc_omf_file.proofs.GivenLaws.{window_piece, names_by, pieces_by, given, tables_before, entry_made}
use Rattle.oc_omf_file.proofs.{NameLaws.{name_within, section_named, section_classed, names_begin}, PieceLaws.{length-window}}
use Rattle.oc_omf_file.proofs.{BehindLaws.{Behind, EndsBy, IsSegmentAt, IsDataAt, made_tables}, CodedLaws.{IsForOmf, size_low}}
use Rattle.oc_omf_file.proofs.{SmallLaws.{behind, length-raw, segment_there}, SectionLaws.{IsFramed, frame_is, has_bytes, kind_made, size_made}}
use Rattle.oc_omf_file.proofs.FixedLaws.{entries}

-- ... names

-- names that are read are whole
names_clean : (x : ℕ × ℕ) (place at : ℕ) (names : List (List ℕ)) → name_conditions x (in_file place (placed name_bytes (λ name. name) at names)) ≡ []
names_clean x place at [] = refl
names_clean x place at (name ∷ names) = names_clean x place (at + length (name_bytes name)) names

-- ... kinds

zero_kind : (k : Kind) → same_kind k Zero ≡ is_zero k
zero_kind k = grind arith

-- the bytes of segments are those of sections
bytes_from : (n : Object) (t : Tables) (a : ℕ) (ss : List Section) → ((j : ℕ) (s : Section) → slice_get ss j ≡ Some s → bytes_size t (a + j, segment_of n s) ≡ stored_size s)
    → sum_by (bytes_size t) (enumerate_from a (map (segment_of n) ss)) ≡ stored_sum ss
bytes_from n t a [] each = refl
bytes_from n t a (s ∷ ss) each =
    let z : a + 0 ≡ a = omega arith in
    let own : bytes_size t (a, segment_of n s) ≡ stored_size s = subst (λ i. bytes_size t (i, segment_of n s) ≡ stored_size s) z (each 0 s refl) in
    sum_by-cons (bytes_size t) (a, segment_of n s) (enumerate_from (a + 1) (map (segment_of n) ss))
    ∙ ap (λ m. m + sum_by (bytes_size t) (enumerate_from (a + 1) (map (segment_of n) ss))) own
    ∙ ap (λ m. stored_size s + m) (bytes_from n t (a + 1) ss (λ j x h. let e : a + suc j ≡ a + 1 + j = omega arith in subst (λ i. bytes_size t (i, segment_of n x) ≡ stored_size x) e (each (suc j) x h)))
    ∙ sym (sum_by-cons stored_size s ss)

-- ... the entry of a defined symbol says nothing here

public_clean : (before : Tables) (x : ℕ × ℕ) (at : ℕ) (name : List ℕ) (place : Option Place) → Unbroken (conditions_on before x (option_map_or (made_public at name) place (says_nothing at)))
unfolding conditions_on
public_clean before x at name None = (refl, tt)
public_clean before x at name (Some place) = (refl, tt)

-- ... data

-- a piece of an output
piece_of : (n : Object) (o : Output) (m : ℕ) (y : Piece) (k from : ℕ) → slice_get (pieces_by n o) m ≡ Some y → EndsBy k from o → (y.segment ≡ k + 1)
    → (a : ℕ) × (b : ℕ) × (y.offset ≡ a) × (b ≤ from) × (piece_size y ≤ b - a)
piece_of n output.Header m y k from h e same = absurd (none-some y h)
piece_of n (output.Names names) m y k from h e same = absurd (none-some y h)
piece_of n (output.Segment j s) m y k from h e same = absurd (none-some y h)
piece_of n output.Group m y k from h e same = absurd (none-some y h)
piece_of n (output.External j s) m y k from h e same = absurd (none-some y h)
piece_of n (output.Communal j s) m y k from h e same = absurd (none-some y h)
piece_of n (output.Public j s) m y k from h e same = absurd (none-some y h)
piece_of n (output.Data j s a b) (suc m) y k from h e same = absurd (none-some y h)
piece_of n (output.Data j s a b) zero y k from h e same =
    let own : window_piece j (raw_of n j s) (a, b) ≡ y = same_Some _ y h in
    let segment : j + 1 ≡ k + 1 = ap (λ (z : Piece). z.segment) own ∙ same in
    let long : length (slice_range (raw_of n j s) a b) ≡ min (b - a) (length (drop a (raw_of n j s))) = length-take (b - a) (drop a (raw_of n j s)) in
    let size : piece_size y ≡ 1 * length (slice_range (raw_of n j s) a b) + 0 = ap piece_size (sym own) in
    (a, b, ap (λ (z : Piece). z.offset) (sym own), elim e [ inl l ↦ absurd (omega (arith, l, segment)) | inr r ↦ r.1 ], omega (arith, size, long))
piece_of n (output.Fixups j s a b) m y k from h e same = absurd (none-some y h)
piece_of n output.End m y k from h e same = absurd (none-some y h)

and_false : (a q r : Bool) → (a && false && q && r) ≡ false
and_false a q r = grind arith

and_later : (a r : Bool) → (a && true && false && r) ≡ false
and_later a r = grind arith

module _ (n : Object) (is : IsForOmf n) where
  -- a segment
  segment_clean : (front : List Output) (x : ℕ × ℕ) (k : ℕ) (s : Section) → IsSegmentAt n front k s → Unbroken (segment_conditions (given n front) x (segment_of n s))
  unfolding form_conditions size_conditions
  segment_clean front x k s b =
      let here = segment_there n is front k s b in
      let f : IsFramed n s = frame_is n is k s here in
      let name = name_within n s.name (section_named n k s here) in
      let class = name_within n (class_of s) (section_classed n k s here) in
      let names : length (given n front).names ≡ length (names_of n) = ap length b.defines.names in
      let begin = names_begin n in
      let many : length (names_of n) ≡ suc (suc (length begin.0)) = ap length begin.1 in
      let a : nat_le (name_index n s.name) (length (given n front).names) ≡ true = grind (arith, nat_tests) in
      let c : nat_le (name_index n (class_of s)) (length (given n front).names) ≡ true = grind (arith, nat_tests) in
      let d : nat_le 1 (length (given n front).names) ≡ true = grind (arith, nat_tests) in
      let named : is_named (length (given n front).names) (segment_of n s) ≡ true = rw (a, c, d) refl in
      let low = size_low n is k s here in
      let size = f.size in
      let each : nat_lt 2147483647 (segment_size (segment_of n s)) ≡ false = grind (arith, nat_tests) in
      let done : sum_by segment_size (given n front).segments ≡ size_sum b.done
      = ap (sum_by segment_size) b.defines.segments_are ∙ sizes b.done (λ j t g. (frame_is n is j t (before b.done (s ∷ b.rest) b.sections j t g)).size) in
      let all : size_sum n.sections ≡ size_sum b.done + (s.size + size_sum b.rest) = ap size_sum b.sections ∙ sum_by-append (λ (t : Section). t.size) b.done (s ∷ b.rest) ∙ ap (λ m. size_sum b.done + m) (sum_by-cons (λ (t : Section). t.size) s b.rest) in
      let most = is.meets.bounds.sizes in
      let total : nat_lt 2147483648 (sum_by segment_size (given n front).segments + segment_size (segment_of n s)) ≡ false = grind (arith, nat_tests) in
      (ap not f.use32, (ap (λ m. not (is_combination m)) f.combined, (f.some, (f.known, (ap not named, (each, (total, tt)))))))
    where
      sizes : (ss : List Section) → ((j : ℕ) (t : Section) → slice_get ss j ≡ Some t → segment_size (segment_of n t) ≡ t.size) → sum_by segment_size (map (segment_of n) ss) ≡ size_sum ss
      sizes [] each = refl
      sizes (t ∷ ss) each =
          sum_by-cons segment_size (segment_of n t) (map (segment_of n) ss) ∙ ap (λ m. m + sum_by segment_size (map (segment_of n) ss)) (each 0 t refl)
          ∙ ap (λ m. t.size + m) (sizes ss (λ j u h. each (suc j) u h)) ∙ sym (sum_by-cons (λ (u : Section). u.size) t ss)

      before : (done rest : List Section) → n.sections ≡ done ++ rest → (j : ℕ) (t : Section) → slice_get done j ≡ Some t → slice_get n.sections j ≡ Some t
      before done rest all j t h = ap (λ xs. slice_get xs j) all ∙ member_first done rest j t h

  -- the group
  group_clean : (front : List Output) (x : ℕ × ℕ) → flat_map names_by front ≡ names_of n
      → Unbroken (group_conditions (length (given n front).names) (length (given n front).segments) x (record { name = 2; members = [] }))
  unfolding group_conditions
  group_clean front x names =
      let same : length (given n front).names ≡ length (names_of n) = ap length names in
      let begin = names_begin n in
      let many : length (names_of n) ≡ suc (suc (length begin.0)) = ap length begin.1 in
      let low : nat_lt (length (given n front).names) 2 ≡ false = grind (arith, nat_tests) in
      (refl, (refl, (ap (λ b. b || false) low, tt)))

  -- data
  data_clean : (front : List Output) (x : ℕ × ℕ) (k : ℕ) (s : Section) (from to : ℕ) → IsDataAt n front k s from to
      → Unbroken (piece_conditions (given n front) x (window_piece k (raw_of n k s) (from, to)))
  unfolding piece_conditions
  data_clean front x k s from to d =
      let low = slice_get_within n.sections k s d.section in
      let many : length (given n front).segments ≡ length n.sections = ap length d.ready.segments_are ∙ length-map n.sections (segment_of n) in
      let indexed : is_indexed (given n front).segments (k + 1) ≡ true = grind (arith, nat_tests) in
      let size = size_made n is (given n front) d.ready.segments_are k s d.section in
      let raw = length-raw n k s in
      let some = d.some in
      let inside = d.inside in
      let long : length (slice_range (raw_of n k s) from to) ≡ to - from = length-window from to (raw_of n k s) (omega (arith, some)) (omega (arith, inside, raw)) in
      let bytes = stored k s d.section in
      let within : nat_lt (size_at (given n front) (k + 1)) (from + (1 * length (slice_range (raw_of n k s) from to) + 0)) ≡ false = grind (arith, nat_tests) in
      (refl, (ap not indexed, (refl, (within, (apart, tt)))))
    where
      stored : (k : ℕ) (s : Section) → slice_get n.sections k ≡ Some s → length s.bytes ≤ s.size
      stored k s here = by (is_zero s.kind) (has_bytes n is k s here)
        where
          by : (b : Bool) → length s.bytes ≡ cond b 0 s.size → length s.bytes ≤ s.size
          by b e = grind arith

      OfPiece : Piece → Type 0
      OfPiece y = y.segment ≡ k + 1 → (a : ℕ) × (b : ℕ) × (y.offset ≡ a) × (b ≤ from) × (piece_size y ≤ b - a)

      earlier : (i : ℕ) (y : Piece) → slice_get (given n front).pieces i ≡ Some y → OfPiece y
      earlier = each_flat_map OfPiece (pieces_by n) front (λ j o h m y g same. piece_of n o m y k from g (d.earlier j o h) same)

      apart : list_any (pieces_meet (window_piece k (raw_of n k s) (from, to))) (read.pieces_of (given n front) (k + 1)) ≡ false
      apart =
          none_passes (pieces_meet (window_piece k (raw_of n k s) (from, to))) (read.pieces_of (given n front) (k + 1)) (λ j y h.
          let f = of_filter (λ (z : Piece). nat_eq z.segment (k + 1)) (given n front).pieces j y h in
          let e = earlier f.0 y f.1 (eqb-true y.segment (k + 1) f.2) in
          misses y e.0 e.1 e.2 e.3 e.4)
        where
          misses : (y : Piece) (a b : ℕ) → y.offset ≡ a → b ≤ from → piece_size y ≤ b - a → pieces_meet (window_piece k (raw_of n k s) (from, to)) y ≡ false
          misses y a b at low short = by (nat_lt 0 (piece_size y)) refl (nat_lt from (y.offset + piece_size y)) refl
            where
              d0 : Piece
              d0 = window_piece k (raw_of n k s) (from, to)

              by : (p : Bool) → nat_lt 0 (piece_size y) ≡ p → (q : Bool) → nat_lt from (y.offset + piece_size y) ≡ q
                  → (nat_lt 0 (piece_size d0) && p && q && nat_lt y.offset (from + piece_size d0)) ≡ false
              by false e q f = and_false (nat_lt 0 (piece_size d0)) q (nat_lt y.offset (from + piece_size d0))
              by true e false f = and_later (nat_lt 0 (piece_size d0)) (nat_lt y.offset (from + piece_size d0))
              by true e true f =
                  let some : 0 < piece_size y = grind (arith, nat_tests) in
                  let past : from < y.offset + piece_size y = grind (arith, nat_tests) in
                  absurd (omega (arith, some, past, at, low, short))

  -- the end
  end_clean : (front : List Output) (x : ℕ × ℕ) → given n front ≡ made_tables n → nat_lt 67108864 (all_bytes (given n front)) ≡ false
  unfolding all_bytes
  end_clean front x same =
      let sum : sum_by (bytes_size (made_tables n)) (enumerate_from 1 (map (segment_of n) n.sections)) ≡ stored_sum n.sections
      = bytes_from n (made_tables n) 1 n.sections (λ j s h. let e : j + 1 ≡ 1 + j = omega arith in subst (λ i. bytes_size (made_tables n) (i, segment_of n s) ≡ stored_size s) e (one j s h)) in
      let most = is.meets.bounds.stored in
      let low : nat_lt 67108864 (stored_sum n.sections) ≡ false = grind (arith, nat_tests) in
      ap (λ t. nat_lt 67108864 (sum_by (bytes_size t) (enumerate_from 1 t.segments))) same ∙ ap (nat_lt 67108864) sum ∙ low
    where
      one : (k : ℕ) (s : Section) → slice_get n.sections k ≡ Some s → bytes_size (made_tables n) (k + 1, segment_of n s) ≡ stored_size s
      one k s here =
          ap (λ kind. if same_kind kind Zero then 0 else segment_size (segment_of n s)) (kind_made n is k s here)
          ∙ ap (λ b. if b then 0 else segment_size (segment_of n s)) (zero_kind s.kind)
          ∙ ap (λ m. if is_zero s.kind then 0 else m) (frame_is n is k s here).size

  -- ... an entry

  entry_clean : (front : List Output) (x : ℕ × ℕ) (place : ℕ) (o : Output) → Behind n front o → Unbroken (conditions_on (given n front) x (made n place o))
  unfolding conditions_on
  entry_clean front x place output.Header b = (refl, tt)
  entry_clean front x place (output.Names names) b = subst (λ cs. Unbroken (cs ++ end_conditions (given n front) x false)) (sym (names_clean x place 0 names)) (refl, tt)
  entry_clean front x place (output.Segment k s) b =
      unbroken_append (segment_conditions (given n front) x (segment_of n s) ++ []) _ (unbroken_append (segment_conditions (given n front) x (segment_of n s)) [] (segment_clean front x k s b) tt) (refl, tt)
  entry_clean front x place output.Group b =
      unbroken_append (group_conditions (length (given n front).names) (length (given n front).segments) x (record { name = 2; members = [] }) ++ []) _
      (unbroken_append (group_conditions (length (given n front).names) (length (given n front).segments) x (record { name = 2; members = [] })) [] (group_clean front x b.names) tt) (refl, tt)
  entry_clean front x place (output.External k s) b = (refl, tt)
  entry_clean front x place (output.Communal k s) b = (refl, tt)
  entry_clean front x place (output.Public k s) b = public_clean (given n front) x place s.name (global_place s.binding)
  entry_clean front x place (output.Data k s from to) b =
      unbroken_append (piece_conditions (given n front) x (window_piece k (raw_of n k s) (from, to)) ++ []) _
      (unbroken_append (piece_conditions (given n front) x (window_piece k (raw_of n k s) (from, to))) [] (data_clean front x k s from to b) tt) (refl, tt)
  entry_clean front x place (output.Fixups k s from to) b = (refl, tt)
  entry_clean front x place output.End b = (end_clean front x b, tt)

  pub sections_clean : IsUnbroken (section_stage (entries n is))
  sections_clean i low =
      let e = there_at (entries n is) i low in
      let o = entry_made n 0 i (outputs_of n) e.0 e.1 in
      let z : 0 + i ≡ i = omega arith in
      let found : slice_get (enumerate_from 0 (entries n is)) i ≡ Some (i, e.0) = member_enumerated 0 (entries n is) i e.0 e.1 ∙ ap (λ j. Some (j, e.0)) z in
      subst Unbroken (sym (ap (λ x. option_map_or (section_conditions (tables_of (take i (entries n is)))) x []) found))
      (subst (λ t. Unbroken (conditions_on t (i, e.0.place) e.0)) (sym (tables_before n i (outputs_of n)))
      (subst (λ (y : Entry). Unbroken (conditions_on (given n (take i (outputs_of n))) (i, e.0.place) y)) o.3
      (entry_clean (take i (outputs_of n)) (i, e.0.place) o.1 o.0 (behind n is i o.0 o.2))))
