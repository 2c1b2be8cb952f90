-- What is kept while names, segments, groups and data are judged.
use Rattle.std.proofs.Common.{◌≡◌, ℕ, zero, suc, ◌+◌, ◌<◌, ◌≤◌, ◌⊎◌, inl, inr, Bool, true, false, cond, ◌&&◌, ◌||◌, nat_eq, nat_lt, List, [], ◌∷◌, ◌++◌, length, map, Option, Some, refl, sym, ◌∙◌, ap, subst, arith}
use Rattle.std.specs.{Prelude.{get_or, slice_get, filter}, List.{list_any, sum_by}}
use Rattle.std.proofs.lemmas.{Bool.{cases_lt}, Bool.Decides.{nat_tests}, List.{get_or_append_left, length-append, map-append}, List.Elements.{filter-append}}
use Rattle.std.proofs.lemmas.{List.Folds.{list_any-append}, List.Sums.{sum_by-append}, Option.{none-some, same_Some}}
use Rattle.std.proofs.Math.Seq.{get_or-append_seam}
use Rattle.oc_shelf.specs.Reading.Spans.{AreSpansOf}
use Rattle.oc_shelf.proofs.ReadingLaws.SpanLemmas.{spans_none}
use Rattle.oc_omf_judge.specs.{declared.defined.Defined.{Defined}, Defined.{IsDefined, IsSmall, piece_span, span_among}}
use Rattle.oc_omf.specs.{declared.structures.Segment.{Segment}, Structures.{Group, Piece}, Tables.{Tables, indexed, tables_of}}
use Rattle.oc_omf.specs.{Sections.{is_covered, piece_size, pieces_of, segment_size}, Known.{names_of}}

-- ... tables

-- what is kept speaks of names, segments, groups and data alone
pub same_defined : (t u : Tables) (d : Defined) → IsDefined t d → u.names ≡ t.names → u.segments ≡ t.segments → u.groups ≡ t.groups → u.pieces ≡ t.pieces → IsDefined u d
same_defined t u d is n s g p = record {
  names_are = is.names_are ∙ sym n;
  segments_are = is.segments_are ∙ sym s;
  groups_are = is.groups_are ∙ ap (map (λ (x : Group). x.name)) (sym g);
  covered_long = is.covered_long ∙ ap length (sym s);
  covered_are = λ k low. is.covered_are k (subst (λ xs. k < length xs) s low) ∙ covers k;
  each_few = λ k x here. is.each_few k x (ap (λ xs. slice_get xs k) (sym s) ∙ here);
  sizes_are = is.sizes_are ∙ ap (sum_by segment_size) (sym s);
  sizes_few = is.sizes_few;
  spans_are = subst (λ ps. AreSpansOf (span_among ps) (length ps) d.spans) (sym p) is.spans_are;
  pieces_small = λ j x here. is.pieces_small j x (ap (λ ps. slice_get ps j) (sym p) ∙ here);
  pieces_there = λ j x here. let there = is.pieces_there j x (ap (λ ps. slice_get ps j) (sym p) ∙ here) in (there.0, subst (λ xs. x.segment ≤ length xs) (sym s) there.1);
}
  where
    covers : (k : ℕ) → is_covered t (k + 1) ≡ is_covered u (k + 1)
    covers k = ap (λ ps. list_any (λ d. nat_lt 0 (piece_size d)) (filter (λ (d : Piece). nat_eq d.segment (k + 1)) ps)) (sym p)

-- nothing is defined at first
pub nothing_defined : (d : Defined) → d.names.items ≡ [] → d.segments.items ≡ [] → d.covered.items ≡ [] → d.groups.items ≡ [] → d.sizes ≡ 0 → d.spans ≡ [] → IsDefined (tables_of []) d
unfolding tables_of
nothing_defined d n s c g z p = record {
  names_are = ap names_of n;
  segments_are = s;
  groups_are = g;
  covered_long = ap length c;
  covered_are = λ k low. absurd (omega (arith, low));
  each_few = λ k x here. absurd (none-some x here);
  sizes_are = z;
  sizes_few = omega (arith, z);
  spans_are = subst (λ spans. AreSpansOf (span_among []) 0 spans) (sym p) (spans_none (span_among []));
  pieces_small = λ j x here. absurd (none-some x here);
  pieces_there = λ j x here. absurd (none-some x here);
}

-- ... names

pub names_taken : (t : Tables) (old new : Defined) (names : List (List ℕ)) → IsDefined t old → names_of new.names.items ≡ names_of old.names.items ++ names → new.segments ≡ old.segments
    → new.groups ≡ old.groups → new.covered ≡ old.covered → new.sizes ≡ old.sizes → new.spans ≡ old.spans → IsDefined (record t { names = t.names ++ names }) new
names_taken t old new names is n s g c z p = record {
  names_are = n ∙ ap (λ xs. xs ++ names) is.names_are;
  segments_are = ap (λ v. v.items) s ∙ is.segments_are;
  groups_are = ap (λ v. v.items) g ∙ is.groups_are;
  covered_long = ap (λ v. length v.items) c ∙ is.covered_long;
  covered_are = λ k low. ap (λ v. get_or v.items k false) c ∙ is.covered_are k low;
  each_few = is.each_few;
  sizes_are = z ∙ is.sizes_are;
  sizes_few = let few = is.sizes_few in omega (arith, few, z);
  spans_are = subst (λ spans. AreSpansOf (span_among t.pieces) (length t.pieces) spans) (sym p) is.spans_are;
  pieces_small = is.pieces_small;
  pieces_there = is.pieces_there;
}

-- ... segments

-- an index of a list with one more at its end
pub at_end : {X : Type 0} (xs : List X) (x : X) (k : ℕ) → k < length (xs ++ x ∷ []) → (k < length xs) ⊎ (k ≡ length xs)
at_end xs x k low = let long = length-append xs (x ∷ []) in elim (cases_lt k (length xs)) [
  | inl less ↦ inl less
  | inr more ↦ inr (omega (arith, low, long, more))
]

pub got_end : {X : Type 0} (xs : List X) (x y : X) (k : ℕ) → slice_get (xs ++ x ∷ []) k ≡ Some y → (slice_get xs k ≡ Some y) ⊎ (x ≡ y)
got_end [] x y zero h = inr (same_Some x y h)
got_end [] x y (suc k) h = absurd (none-some y h)
got_end (z ∷ xs) x y zero h = inl h
got_end (z ∷ xs) x y (suc k) h = got_end xs x y k h

-- data are of no segment behind those that are there
pub no_data : (pieces : List Piece) (index : ℕ) → ((j : ℕ) (p : Piece) → slice_get pieces j ≡ Some p → p.segment < index)
    → list_any (λ d. nat_lt 0 (piece_size d)) (filter (λ (d : Piece). nat_eq d.segment index) pieces) ≡ false
no_data [] index before = refl
no_data (d ∷ pieces) index before =
    let low = before 0 d refl in
    let other : nat_eq d.segment index ≡ false = grind (arith, nat_tests) in
    rw other (no_data pieces index (λ j p here. before (suc j) p here))

pub segment_taken : (t : Tables) (old new : Defined) (s : Segment) → IsDefined t old → segment_size s ≤ 2147483647 → old.sizes + segment_size s ≤ 2147483648
    → new.names ≡ old.names → new.segments.items ≡ old.segments.items ++ s ∷ [] → new.groups ≡ old.groups → new.covered.items ≡ old.covered.items ++ false ∷ []
    → new.sizes ≡ old.sizes + segment_size s → new.spans ≡ old.spans → IsDefined (record t { segments = t.segments ++ s ∷ [] }) new
segment_taken t old new s is small few n e g c z p = record {
  names_are = ap (λ v. names_of v.items) n ∙ is.names_are;
  segments_are = e ∙ ap (λ xs. xs ++ s ∷ []) is.segments_are;
  groups_are = ap (λ v. v.items) g ∙ is.groups_are;
  covered_long = ap length c ∙ length-append old.covered.items (false ∷ []) ∙ ap (λ k. k + 1) is.covered_long ∙ sym (length-append t.segments (s ∷ []));
  covered_are = λ k low. ap (λ xs. get_or xs k false) c ∙ covers k (at_end t.segments s k low);
  each_few = λ k x here. elim (got_end t.segments s x k here) [
    | inl was ↦ is.each_few k x was
    | inr own ↦ subst (λ y. segment_size y ≤ 2147483647) own small
  ];
  sizes_are = z ∙ ap (λ n. n + segment_size s) is.sizes_are ∙ sum_end;
  sizes_few = omega (arith, few, z);
  spans_are = subst (λ spans. AreSpansOf (span_among t.pieces) (length t.pieces) spans) (sym p) is.spans_are;
  pieces_small = is.pieces_small;
  pieces_there = λ j x here. let there = is.pieces_there j x here in let long = length-append t.segments (s ∷ []) in (there.0, omega (arith, there.1, long));
}
  where
    sum_end : sum_by segment_size t.segments + segment_size s ≡ sum_by segment_size (t.segments ++ s ∷ [])
    sum_end = let e = sum_by-append segment_size t.segments (s ∷ []) in omega (arith, e)

    covers : (k : ℕ) → (k < length t.segments) ⊎ (k ≡ length t.segments) → get_or (old.covered.items ++ false ∷ []) k false ≡ is_covered t (k + 1)
    covers k (inl low) = get_or_append_left old.covered.items (false ∷ []) false k (let long = is.covered_long in omega (arith, low, long)) ∙ is.covered_are k low
    covers k (inr last) =
        ap (λ (j : ℕ). get_or (old.covered.items ++ false ∷ []) j false) (last ∙ sym is.covered_long) ∙ get_or-append_seam old.covered.items false [] false
        ∙ sym (no_data t.pieces (k + 1) (λ j q here. let there = is.pieces_there j q here in omega (arith, there.1, last)))

-- ... groups

pub group_taken : (t : Tables) (old new : Defined) (g : Group) → IsDefined t old → new.names ≡ old.names → new.segments ≡ old.segments → new.groups.items ≡ old.groups.items ++ g.name ∷ []
    → new.covered ≡ old.covered → new.sizes ≡ old.sizes → new.spans ≡ old.spans → IsDefined (record t { groups = t.groups ++ g ∷ [] }) new
group_taken t old new g is n s e c z p = record {
  names_are = ap (λ v. names_of v.items) n ∙ is.names_are;
  segments_are = ap (λ v. v.items) s ∙ is.segments_are;
  groups_are = e ∙ ap (λ xs. xs ++ g.name ∷ []) is.groups_are ∙ sym (map-append (λ (x : Group). x.name) t.groups (g ∷ []));
  covered_long = ap (λ v. length v.items) c ∙ is.covered_long;
  covered_are = λ k low. ap (λ v. get_or v.items k false) c ∙ is.covered_are k low;
  each_few = is.each_few;
  sizes_are = z ∙ is.sizes_are;
  sizes_few = let few = is.sizes_few in omega (arith, few, z);
  spans_are = subst (λ spans. AreSpansOf (span_among t.pieces) (length t.pieces) spans) (sym p) is.spans_are;
  pieces_small = is.pieces_small;
  pieces_there = is.pieces_there;
}

-- ... data

-- spans of more data, where no byte is new, or where they are taken
front_same : (pieces : List Piece) (d : Piece) (j : ℕ) → j < length pieces → span_among pieces j ≡ span_among (pieces ++ d ∷ []) j
front_same [] d j low = absurd (omega (arith, low))
front_same (p ∷ pieces) d zero low = refl
front_same (p ∷ pieces) d (suc j) low = front_same pieces d j (omega (arith, low))

pub last_span : (pieces : List Piece) (d : Piece) → span_among (pieces ++ d ∷ []) (length pieces) ≡ piece_span d
last_span [] d = refl
last_span (p ∷ pieces) d = last_span pieces d

other_spans : (f g : ℕ → Option (ℕ × ℕ)) (n : ℕ) (spans : List (ℕ × ℕ)) → ((j : ℕ) → j < n → f j ≡ g j) → AreSpansOf f n spans → AreSpansOf g n spans
other_spans f g n spans same are = record {
  from = λ q e h. let m = are.from q e h in (m.0, m.1, sym (same m.0 m.1) ∙ m.2);
  there = λ j q e low is. are.there j q e low (same j low ∙ is);
}

pub spans_among : (pieces : List Piece) (d : Piece) (spans : List (ℕ × ℕ)) → AreSpansOf (span_among pieces) (length pieces) spans → AreSpansOf (span_among (pieces ++ d ∷ [])) (length pieces) spans
spans_among pieces d spans are = other_spans (span_among pieces) (span_among (pieces ++ d ∷ [])) (length pieces) spans (front_same pieces d) are

-- a segment is covered by the data before, or by these
pub covered_more : (t : Tables) (d : Piece) (index : ℕ) → is_covered (record t { pieces = t.pieces ++ d ∷ [] }) index ≡ (is_covered t index || (nat_eq d.segment index && nat_lt 0 (piece_size d)))
covered_more t d index =
    ap (list_any (λ p. nat_lt 0 (piece_size p))) (filter-append (λ (p : Piece). nat_eq p.segment index) t.pieces (d ∷ []))
    ∙ list_any-append (λ p. nat_lt 0 (piece_size p)) (pieces_of t index) (filter (λ (p : Piece). nat_eq p.segment index) (d ∷ []))
    ∙ ap (λ b. is_covered t index || b) (one (nat_eq d.segment index))
  where
    one : (b : Bool) → list_any (λ p. nat_lt 0 (piece_size p)) (cond b (d ∷ []) []) ≡ (b && nat_lt 0 (piece_size d))
    one true = last (nat_lt 0 (piece_size d))
      where
        last : (c : Bool) → (c || false) ≡ c
        last true = refl
        last false = refl
    one false = refl

-- data are taken up behind the others: `spans` and `covered` are those with them
pub piece_taken : (t : Tables) (old new : Defined) (d : Piece) → IsDefined t old → IsSmall d → (1 ≤ d.segment) × (d.segment ≤ length t.segments)
    → new.names ≡ old.names → new.segments ≡ old.segments → new.groups ≡ old.groups → new.sizes ≡ old.sizes
    → length new.covered.items ≡ length old.covered.items
    → ((k : ℕ) → k < length t.segments → get_or new.covered.items k false ≡ (get_or old.covered.items k false || (nat_eq d.segment (k + 1) && nat_lt 0 (piece_size d))))
    → AreSpansOf (span_among (t.pieces ++ d ∷ [])) (length t.pieces + 1) new.spans
    → IsDefined (record t { pieces = t.pieces ++ d ∷ [] }) new
piece_taken t old new d is small there n s g z l c p = record {
  names_are = ap (λ v. names_of v.items) n ∙ is.names_are;
  segments_are = ap (λ v. v.items) s ∙ is.segments_are;
  groups_are = ap (λ v. v.items) g ∙ is.groups_are;
  covered_long = l ∙ is.covered_long;
  covered_are = λ k low. c k low ∙ ap (λ b. b || (nat_eq d.segment (k + 1) && nat_lt 0 (piece_size d))) (is.covered_are k low) ∙ sym (covered_more t d (k + 1));
  each_few = is.each_few;
  sizes_are = z ∙ is.sizes_are;
  sizes_few = let few = is.sizes_few in omega (arith, few, z);
  spans_are = subst (λ (n : ℕ). AreSpansOf (span_among (t.pieces ++ d ∷ [])) n new.spans) (sym (length-append t.pieces (d ∷ []))) p;
  pieces_small = λ j x here. elim (got_end t.pieces d x j here) [
    | inl was ↦ is.pieces_small j x was
    | inr own ↦ subst IsSmall own small
  ];
  pieces_there = λ j x here. elim (got_end t.pieces d x j here) [
    | inl was ↦ is.pieces_there j x was
    | inr own ↦ subst (λ (y : Piece). (1 ≤ y.segment) × (y.segment ≤ length t.segments)) own there
  ];
}

-- what is looked up among the segments that are kept
pub looked_up : (t : Tables) (d : Defined) (xs : List Segment) (index : ℕ) (o r : Option Segment) → IsDefined t d → xs ≡ d.segments.items → o ≡ indexed xs index → o ≡ r
    → indexed t.segments index ≡ r
looked_up t d xs index o r is same look found = ap (λ ys. indexed ys index) (sym (same ∙ is.segments_are)) ∙ sym look ∙ found
