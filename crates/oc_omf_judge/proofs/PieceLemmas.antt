-- Data, judged behind what is kept.
use Rattle.std.proofs.Common.{◌≡◌, ℕ, zero, suc, ◌+◌, ◌-◌, ◌<◌, ◌≤◌, Bool, true, false, cond, inl, inr, ◌&&◌, ◌||◌, not, nat_eq, nat_le, nat_lt, List, [], ◌∷◌, ◌++◌, length, min, Option, Some, None, Ok, Err, refl, sym, ◌∙◌, ap, arith}
use Rattle.std.specs.{Prelude.{◌≢◌, drop, get_or, slice_get}, List.{list_any}, Option.{option_map_or}}
use Rattle.std.proofs.Math.ListN.{set}
use Rattle.std.proofs.lemmas.{Bool.{cases_eq}, Bool.Decides.{nat_tests}, List.{get_or-set_other, get_or-set_same, length-set}}
use Rattle.std.proofs.lemmas.Option.{none-some, same_Some, slice_get_within}
use Rattle.oc_base.specs.declared.code.Code.TheVariants.{BadIndex, TooDeep, DataPastEnd, DataOverlap}
use Rattle.oc_linking.specs.FirstFault.{first_broken}
use Rattle.oc_shelf.specs.{Reading.Firsts.{any_upto}, Reading.Spans.{AreSpansOf, IsMet, end_at, meets}}
use Rattle.oc_shelf.proofs.ReadingLaws.SpanLemmas.{met_upto, spans_more, spans_same}
use Rattle.oc_omf_records.specs.declared.faults.BlockFault.TheVariants as block
use Rattle.oc_omf_records.specs.Blocks.{Blocks, size_of}
use Rattle.oc_omf_judge.specs.{declared.defined.Defined.{Defined}, Defined.{IsDefined, IsSmall, piece_span, piece_with, place_in, span_among}}
use Rattle.oc_omf.specs.{declared.structures.DataHead.{DataHead}, declared.structures.Segment.{Segment}, Cursor.{Reading, index_read, next, number_read}}
use Rattle.oc_omf.specs.{Structures.{Piece, blocks_by, head_read, long_size, piece_read}, Tables.{Tables, indexed, is_indexed}}
use Rattle.oc_omf.specs.{Sections.{piece_size, pieces_of, segment_size, size_at}, SectionFaults.{own_fault, piece_conditions, pieces_meet}}
use Rattle.oc_omf_judge.proofs.{DefinedLemmas.{last_span, piece_taken, spans_among}, SpanQuestions.{met_among}}

-- data, by their head
abbrev pub headed : Bool → Bool → List ℕ → Reading DataHead → Reading Piece
headed wide iterated b (Ok r) = Ok (piece_with r.0 (blocks_by wide iterated (drop r.1 b)), length b)
headed wide iterated b (Err c) = Err c

pub piece_headed : (wide iterated : Bool) (b : List ℕ) → piece_read wide iterated b 0 ≡ headed wide iterated b (head_read wide b 0)
unfolding piece_read head_read
piece_headed wide iterated b = by (index_read b 0)
  where
    behind : (segment : ℕ) (r : Reading ℕ) → next r (λ offset at. Ok (record { segment = segment; offset = offset; blocks = blocks_by wide iterated (drop at b) }, length b))
        ≡ headed wide iterated b (next r (λ offset at. Ok (record { segment = segment; offset = offset }, at)))
    behind segment (Ok r) = refl
    behind segment (Err c) = refl

    by : (r : Reading ℕ) → next r (λ segment at. next (number_read (long_size wide) b at) (λ offset at. Ok (record { segment = segment; offset = offset; blocks = blocks_by wide iterated (drop at b) }, length b)))
        ≡ headed wide iterated b (next r (λ segment at. next (number_read (long_size wide) b at) (λ offset at. Ok (record { segment = segment; offset = offset }, at))))
    by (Ok r) = behind r.0 (number_read (long_size wide) b r.1)
    by (Err c) = refl

-- an index is one of a thing exactly where there is one
pub indexed_is : {X : Type 0} (xs : List X) (index : ℕ) (x : X) → indexed xs index ≡ Some x → is_indexed xs index ≡ true
indexed_is xs index x = by (nat_eq index 0) refl
  where
    by : (b : Bool) → nat_eq index 0 ≡ b → cond b None (slice_get xs (index - 1)) ≡ Some x → (nat_le 1 index && nat_le index (length xs)) ≡ true
    by true e h = absurd (none-some x h)
    by false e h = let low = slice_get_within xs (index - 1) x h in grind (arith, nat_tests)

past_end : {X : Type 0} (xs : List X) (i : ℕ) → slice_get xs i ≡ None → length xs ≤ i
past_end [] i e = omega arith
past_end {X} (x ∷ xs) zero e = absurd (none-some x (sym e))
past_end (x ∷ xs) (suc i) e = let behind = past_end xs i e in omega (arith, behind)

pub indexed_not : {X : Type 0} (xs : List X) (index : ℕ) → indexed xs index ≡ None → is_indexed xs index ≡ false
indexed_not {X} xs index none = by (nat_eq index 0) refl none
  where
    by : (b : Bool) → nat_eq index 0 ≡ b → cond b None (slice_get xs (index - 1)) ≡ None → (nat_le 1 index && nat_le index (length xs)) ≡ false
    by true e h = let first : nat_le 1 index ≡ false = grind (arith, nat_tests) in rw first refl
    by false e h = let behind = past_end xs (index - 1) h in
        let some : nat_eq index 0 ≡ false = e in
        let last : nat_le index (length xs) ≡ false = grind (arith, nat_tests) in
        let first : nat_le 1 index ≡ true = grind (arith, nat_tests) in rw (first, last) refl

-- ... the conditions, one after another

-- the segment is not there
pub lost_piece : (t : Tables) (x : ℕ × ℕ) (h : DataHead) (row : Blocks) → indexed t.segments h.segment ≡ None → first_broken (piece_conditions t x (piece_with h (Ok row))) ≡ Some (own_fault x BadIndex)
unfolding piece_conditions
lost_piece t x h row none = rw (indexed_not t.segments h.segment none) refl

-- nor is that of data nested too deep
pub deep_lost : (t : Tables) (x : ℕ × ℕ) (h : DataHead) → indexed t.segments h.segment ≡ None → first_broken (piece_conditions t x (piece_with h (Err block.TooDeep))) ≡ Some (own_fault x BadIndex)
unfolding piece_conditions
deep_lost t x h none = rw (indexed_not t.segments h.segment none) refl

pub deep_piece : (t : Tables) (x : ℕ × ℕ) (h : DataHead) (s : Segment) → indexed t.segments h.segment ≡ Some s
    → first_broken (piece_conditions t x (piece_with h (Err block.TooDeep))) ≡ Some (own_fault x TooDeep)
unfolding piece_conditions
deep_piece t x h s there = rw (indexed_is t.segments h.segment s there) refl

-- of data that are read and whose segment is there, two are left
pub there_piece : (t : Tables) (x : ℕ × ℕ) (h : DataHead) (row : Blocks) (s : Segment) → indexed t.segments h.segment ≡ Some s
    → first_broken (piece_conditions t x (piece_with h (Ok row)))
    ≡ cond (nat_lt (segment_size s) (h.offset + size_of row)) (Some (own_fault x DataPastEnd))
    (cond (list_any (pieces_meet (piece_with h (Ok row))) (pieces_of t h.segment)) (Some (own_fault x DataOverlap)) None)
unfolding piece_conditions
there_piece t x h row s there =
    ap (λ b. cond (not b) (Some (own_fault x BadIndex)) (cond (nat_lt (size_at t h.segment) (h.offset + size_of row)) (Some (own_fault x DataPastEnd))
    (cond (list_any (pieces_meet (piece_with h (Ok row))) (pieces_of t h.segment)) (Some (own_fault x DataOverlap)) None))) (indexed_is t.segments h.segment s there)
    ∙ ap (λ o. cond (nat_lt (option_map_or segment_size o 0) (h.offset + size_of row)) (Some (own_fault x DataPastEnd))
    (cond (list_any (pieces_meet (piece_with h (Ok row))) (pieces_of t h.segment)) (Some (own_fault x DataOverlap)) None)) there

-- ... what is known of data whose segment is there

-- the segment of an index, as the list has it
pub indexed_at : {X : Type 0} (xs : List X) (index : ℕ) (x : X) → indexed xs index ≡ Some x → (1 ≤ index) × (index ≤ length xs) × (slice_get xs (index - 1) ≡ Some x)
indexed_at xs index x = by (nat_eq index 0) refl
  where
    by : (b : Bool) → nat_eq index 0 ≡ b → cond b None (slice_get xs (index - 1)) ≡ Some x → (1 ≤ index) × (index ≤ length xs) × (slice_get xs (index - 1) ≡ Some x)
    by true e h = absurd (none-some x h)
    by false e h =
        let low = slice_get_within xs (index - 1) x h in
        let some : 1 ≤ index = grind (arith, nat_tests) in
        (some, omega (arith, low, some), h)

-- it lies in its segment
pub record IsInside (t : Tables) (h : DataHead) (row : Blocks) (size : ℕ) : Type 0 where
  pub exact : size_of row ≡ size
  pub small : IsSmall (piece_with h (Ok row))
  pub some : 1 ≤ h.segment
  pub there : h.segment ≤ length t.segments

pub piece_inside : (t : Tables) (old : Defined) (h : DataHead) (row : Blocks) (s : Segment) (size : ℕ) → IsDefined t old → indexed t.segments h.segment ≡ Some s → size ≡ min (size_of row) 4294967296
    → h.offset + size ≤ segment_size s → IsInside t h row size
piece_inside t old h row s size is there least inside =
    let at = indexed_at t.segments h.segment s there in
    let few = is.each_few (h.segment - 1) s at.2 in
    let exact : size_of row ≡ size = omega (arith, least, inside, few) in
    record { exact = exact; small = omega (arith, exact, inside, few); some = at.0; there = at.1 }

-- empty data meet none
none_met : (d : Piece) (xs : List Piece) → nat_lt 0 (piece_size d) ≡ false → list_any (pieces_meet d) xs ≡ false
none_met d [] empty = refl
none_met d (e ∷ xs) empty = rw empty (none_met d xs empty)

-- the conditions, where it lies in its segment
pub inside_clean : (t : Tables) (x : ℕ × ℕ) (h : DataHead) (row : Blocks) (s : Segment) → indexed t.segments h.segment ≡ Some s → h.offset + size_of row ≤ segment_size s
    → first_broken (piece_conditions t x (piece_with h (Ok row))) ≡ cond (list_any (pieces_meet (piece_with h (Ok row))) (pieces_of t h.segment)) (Some (own_fault x DataOverlap)) None
inside_clean t x h row s there inside =
    let kept : nat_lt (segment_size s) (h.offset + size_of row) ≡ false = grind (arith, nat_tests) in
    there_piece t x h row s there
    ∙ ap (λ b. cond b (Some (own_fault x DataPastEnd)) (cond (list_any (pieces_meet (piece_with h (Ok row))) (pieces_of t h.segment)) (Some (own_fault x DataOverlap)) None)) kept

pub outside_stops : (t : Tables) (x : ℕ × ℕ) (h : DataHead) (row : Blocks) (s : Segment) (size : ℕ) → indexed t.segments h.segment ≡ Some s → size ≡ min (size_of row) 4294967296
    → segment_size s < h.offset + size → first_broken (piece_conditions t x (piece_with h (Ok row))) ≡ Some (own_fault x DataPastEnd)
outside_stops t x h row s size there least over =
    let past : nat_lt (segment_size s) (h.offset + size_of row) ≡ true = let more : size ≤ size_of row = omega (arith, least) in grind (arith, nat_tests) in
    there_piece t x h row s there
    ∙ ap (λ b. cond b (Some (own_fault x DataPastEnd)) (cond (list_any (pieces_meet (piece_with h (Ok row))) (pieces_of t h.segment)) (Some (own_fault x DataOverlap)) None)) past

-- empty data are taken up, and nothing changes
pub empty_taken : (t : Tables) (old : Defined) (x : ℕ × ℕ) (h : DataHead) (row : Blocks) (s : Segment) → IsDefined t old → indexed t.segments h.segment ≡ Some s → IsInside t h row 0 → h.offset ≤ segment_size s
    → (first_broken (piece_conditions t x (piece_with h (Ok row))) ≡ None) × IsDefined (record t { pieces = t.pieces ++ piece_with h (Ok row) ∷ [] }) old
empty_taken t old x h row s is there inside low =
    let d = piece_with h (Ok row) in
    let exact : size_of row ≡ 0 = inside.exact in
    let empty : nat_lt 0 (size_of row) ≡ false = rw exact refl in (
      inside_clean t x h row s there (omega (arith, exact, low)) ∙ ap (λ b. cond b (Some (own_fault x DataOverlap)) None) (none_met d (pieces_of t h.segment) empty),
      piece_taken t old old d is inside.small (inside.some, inside.there) refl refl refl refl refl
          (λ k low. sym (ap (λ b. get_or old.covered.items k false || (nat_eq h.segment (k + 1) && b)) empty ∙ none (get_or old.covered.items k false) (nat_eq h.segment (k + 1))))
          (spans_same (span_among (t.pieces ++ d ∷ [])) (length t.pieces) old.spans (spans_among t.pieces d old.spans is.spans_are)
          (last_span t.pieces d ∙ ap (λ b. cond b (Some (place_in h.segment h.offset, place_in h.segment h.offset + size_of row)) None) empty)),
    )
  where
    none : (a b : Bool) → (a || (b && false)) ≡ a
    none true true = refl
    none true false = refl
    none false true = refl
    none false false = refl

-- whether data that have a byte meet others is whether their span does
pub meets_spans : (t : Tables) (old : Defined) (h : DataHead) (row : Blocks) (size begin : ℕ) (met : Bool) → IsDefined t old → IsInside t h row size → 1 ≤ size → begin ≡ place_in h.segment h.offset
    → (met ≡ true → IsMet old.spans begin (begin + size)) → (met ≡ false → IsMet old.spans begin (begin + size) → ⊥)
    → list_any (pieces_meet (piece_with h (Ok row))) (pieces_of t h.segment) ≡ met
meets_spans t old h row size begin met is inside some begins hits misses =
    let exact : size_of row ≡ size = inside.exact in
    let full : nat_lt 0 (size_of row) ≡ true = grind (arith, nat_tests) in
    met_among t.pieces (piece_with h (Ok row)) full inside.small is.pieces_small
    ∙ ap (λ (n : ℕ). any_upto (λ j. option_map_or (meets (place_in h.segment h.offset, place_in h.segment h.offset + n)) (span_among t.pieces j) false) (length t.pieces)) exact
    ∙ ap (λ (b : ℕ). any_upto (λ j. option_map_or (meets (b, b + size)) (span_among t.pieces j) false) (length t.pieces)) (sym begins)
    ∙ sym (met_upto (span_among t.pieces) (length t.pieces) begin (begin + size) old.spans met is.spans_are hits misses)

-- each span has a byte
wide_span : (d : Piece) (q e : ℕ) → piece_span d ≡ Some (q, e) → q < e
wide_span d q e = by (nat_lt 0 (piece_size d)) refl
  where
    by : (b : Bool) → nat_lt 0 (piece_size d) ≡ b → cond {A = Option (ℕ × ℕ)} b (Some (place_in d.segment d.offset, place_in d.segment d.offset + piece_size d)) None ≡ Some (q, e) → q < e
    by false h i = absurd (none-some (q, e) i)
    by true h i =
        let from : ℕ × ℕ = (place_in d.segment d.offset, place_in d.segment d.offset + piece_size d) in
        let to : ℕ × ℕ = (q, e) in
        let same : from ≡ to = same_Some from to i in
        let begins : place_in d.segment d.offset ≡ q = ap (λ (p : ℕ × ℕ). p.0) same in
        let ends : place_in d.segment d.offset + piece_size d ≡ e = ap (λ (p : ℕ × ℕ). p.1) same in
        let some : 0 < piece_size d = grind (arith, nat_tests) in omega (arith, begins, ends, some)

wide_among : (pieces : List Piece) (j q e : ℕ) → span_among pieces j ≡ Some (q, e) → q < e
wide_among [] j q e h = absurd (none-some (q, e) h)
wide_among (d ∷ pieces) zero q e h = wide_span d q e h
wide_among (d ∷ pieces) (suc j) q e h = wide_among pieces j q e h

-- where a span begins that none meets, there is none yet
new_begin : (pieces : List Piece) (n begin end : ℕ) (spans : List (ℕ × ℕ)) → AreSpansOf (span_among pieces) n spans → begin < end → (IsMet spans begin end → ⊥) → end_at spans begin ≡ None
new_begin pieces n begin end spans are some free = by (end_at spans begin) refl
  where
    by : (o : Option ℕ) → end_at spans begin ≡ o → end_at spans begin ≡ None
    by None e = e
    by (Some f) e = absurd (free (record { start = begin; stop = f; there = e; before = some; behind = let m = are.from begin f e in wide_among pieces m.0 begin f m.2 }))

-- data that have a byte and meet no others are taken up
pub full_taken : (t : Tables) (old new : Defined) (h : DataHead) (row : Blocks) (size begin : ℕ) → IsDefined t old → IsInside t h row size → 1 ≤ size → begin ≡ place_in h.segment h.offset
    → (IsMet old.spans begin (begin + size) → ⊥) → ((q : ℕ) → end_at new.spans q ≡ cond (nat_eq q begin) (Some (begin + size)) (end_at old.spans q))
    → new.names ≡ old.names → new.segments ≡ old.segments → new.groups ≡ old.groups → new.sizes ≡ old.sizes → new.covered.items ≡ set old.covered.items (h.segment - 1) true
    → IsDefined (record t { pieces = t.pieces ++ piece_with h (Ok row) ∷ [] }) new
full_taken t old new h row size begin is inside some begins free taken n s g z c =
    let d = piece_with h (Ok row) in
    let exact : size_of row ≡ size = inside.exact in
    let full : nat_lt 0 (size_of row) ≡ true = grind (arith, nat_tests) in
    piece_taken t old new d is inside.small (inside.some, inside.there) n s g z (ap length c ∙ length-set old.covered.items (h.segment - 1) true)
    (λ k low. ap (λ xs. get_or xs k false) c ∙ covers k low full)
    (spans_more (span_among (t.pieces ++ d ∷ [])) (length t.pieces) begin (begin + size) old.spans new.spans (spans_among t.pieces d old.spans is.spans_are)
    (last_span t.pieces d ∙ ap (λ b. cond b (Some (place_in h.segment h.offset, place_in h.segment h.offset + size_of row)) None) full
    ∙ ap (λ (n : ℕ). Some (place_in h.segment h.offset, place_in h.segment h.offset + n)) exact ∙ ap (λ (b : ℕ). Some (b, b + size)) (sym begins))
    (new_begin t.pieces (length t.pieces) begin (begin + size) old.spans is.spans_are (omega (arith, some)) free) taken)
  where
    covers : (k : ℕ) → k < length t.segments → nat_lt 0 (size_of row) ≡ true
        → get_or (set old.covered.items (h.segment - 1) true) k false ≡ (get_or old.covered.items k false || (nat_eq h.segment (k + 1) && nat_lt 0 (size_of row)))
    covers k low full = elim (cases_eq (k + 1) h.segment) [
      | inl same ↦
          let here : h.segment - 1 ≡ k = omega (arith, same) in
          let tie : nat_eq h.segment (k + 1) ≡ true = grind (arith, nat_tests) in
          let within : k < length old.covered.items = let long = is.covered_long in omega (arith, low, long) in
          ap (λ (j : ℕ). get_or (set old.covered.items j true) k false) here ∙ get_or-set_same old.covered.items k true false within
          ∙ sym (ap (λ b. get_or old.covered.items k false || (b && nat_lt 0 (size_of row))) tie ∙ ap (λ b. get_or old.covered.items k false || b) full ∙ right (get_or old.covered.items k false))
      | inr other ↦
          let tie : nat_eq h.segment (k + 1) ≡ false = grind (arith, nat_tests) in
          let apart : k ≢ h.segment - 1 = λ e. other (let some = inside.some in omega (arith, e, some)) in
          get_or-set_other old.covered.items (h.segment - 1) k true false apart
          ∙ sym (ap (λ b. get_or old.covered.items k false || (b && nat_lt 0 (size_of row))) tie ∙ left (get_or old.covered.items k false))
    ]
      where
        right : (a : Bool) → (a || true) ≡ true
        right true = refl
        right false = refl

        left : (a : Bool) → (a || false) ≡ a
        left true = refl
        left false = refl
