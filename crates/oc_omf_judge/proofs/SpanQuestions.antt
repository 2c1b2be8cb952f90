-- Whether data meet those before, asked of their spans.
use Rattle.std.proofs.Common.{◌≡◌, ℕ, zero, suc, ◌+◌, Bool, true, false, cond, ◌&&◌, ◌||◌, nat_eq, nat_lt, List, [], ◌∷◌, length, Some, refl, sym, ◌∙◌, ap, arith}
use Rattle.std.specs.{Prelude.{slice_get, filter}, List.{list_any}, Option.{option_map_or}}
use Rattle.std.proofs.lemmas.Bool.Decides.{nat_tests}
use Rattle.oc_shelf.specs.{Reading.Firsts.{any_upto}, Reading.Spans.{meets}}
use Rattle.oc_omf.specs.{Structures.{Piece}, Sections.{piece_size}, SectionFaults.{pieces_meet}}
use Rattle.oc_omf_judge.specs.Defined.{IsSmall, piece_span, place_in, span_among}

-- a test of the first of some positions, and of those behind it
any_head : (test : ℕ → Bool) (n : ℕ) → any_upto test (suc n) ≡ (test 0 || any_upto (λ j. test (suc j)) n)
any_head test zero = last (test 0)
  where
    last : (b : Bool) → (false || b) ≡ (b || false)
    last true = refl
    last false = refl
any_head test (suc n) = ap (λ b. b || test (suc n)) (any_head test n) ∙ assoc (test 0) (any_upto (λ j. test (suc j)) n) (test (suc n))
  where
    assoc : (a b c : Bool) → ((a || b) || c) ≡ (a || (b || c))
    assoc true b c = refl
    assoc false b c = refl

-- a piece meets another exactly where their spans do
spans_meet : (d e : Piece) → nat_lt 0 (piece_size d) ≡ true → IsSmall d → IsSmall e
    → (nat_eq e.segment d.segment && pieces_meet d e) ≡ option_map_or (meets (place_in d.segment d.offset, place_in d.segment d.offset + piece_size d)) (piece_span e) false
spans_meet d e some small other = by (nat_eq e.segment d.segment) (nat_lt 0 (piece_size e)) refl refl
  where
    three : (a b c d : Bool) → (((a && b) && c) && d) ≡ cond b ((a && c) && d) false
    three true true c d = refl
    three true false c d = refl
    three false true c d = refl
    three false false c d = refl

    by : (same has : Bool) → nat_eq e.segment d.segment ≡ same → nat_lt 0 (piece_size e) ≡ has
        → (nat_eq e.segment d.segment && pieces_meet d e) ≡ option_map_or (meets (place_in d.segment d.offset, place_in d.segment d.offset + piece_size d)) (piece_span e) false
    by true true s h =
        rw (s, some, h) (two (nat_lt d.offset (e.offset + piece_size e)) (nat_lt e.offset (d.offset + piece_size d))
        (nat_lt (place_in d.segment d.offset) (place_in e.segment e.offset + piece_size e)) (nat_lt (place_in e.segment e.offset) (place_in d.segment d.offset + piece_size d))
        (grind (arith, nat_tests)) (grind (arith, nat_tests)))
      where
        two : (a b x y : Bool) → a ≡ x → b ≡ y → (a && b) ≡ (x && y)
        two a b x y p q = rw (p, q) refl
    by true false s h = rw (s, some, h) refl
    by false true s h =
        let apart : (nat_lt (place_in d.segment d.offset) (place_in e.segment e.offset + piece_size e) && nat_lt (place_in e.segment e.offset) (place_in d.segment d.offset + piece_size d)) ≡ false = grind (arith, nat_tests) in
        rw (s, h) (sym apart)
    by false false s h = rw (s, h) refl

-- among the data of its segment is one that meets a piece, exactly where a span meets its own
pub met_among : (pieces : List Piece) (d : Piece) → nat_lt 0 (piece_size d) ≡ true → IsSmall d → ((j : ℕ) (p : Piece) → slice_get pieces j ≡ Some p → IsSmall p)
    → list_any (pieces_meet d) (filter (λ (e : Piece). nat_eq e.segment d.segment) pieces)
    ≡ any_upto (λ j. option_map_or (meets (place_in d.segment d.offset, place_in d.segment d.offset + piece_size d)) (span_among pieces j) false) (length pieces)
met_among [] d some small each = refl
met_among (e ∷ pieces) d some small each =
    one (nat_eq e.segment d.segment)
    ∙ ap (λ b. b || list_any (pieces_meet d) (filter (λ (e : Piece). nat_eq e.segment d.segment) pieces)) (spans_meet d e some small (each 0 e refl))
    ∙ ap (λ b. option_map_or (meets (place_in d.segment d.offset, place_in d.segment d.offset + piece_size d)) (piece_span e) false || b) (met_among pieces d some small (λ j p here. each (suc j) p here))
    ∙ sym (any_head (λ j. option_map_or (meets (place_in d.segment d.offset, place_in d.segment d.offset + piece_size d)) (span_among (e ∷ pieces) j) false) (length pieces))
  where
    one : (b : Bool) → list_any (pieces_meet d) (cond b (e ∷ filter (λ (e : Piece). nat_eq e.segment d.segment) pieces) (filter (λ (e : Piece). nat_eq e.segment d.segment) pieces))
        ≡ ((b && pieces_meet d e) || list_any (pieces_meet d) (filter (λ (e : Piece). nat_eq e.segment d.segment) pieces))
    one true = refl
    one false = refl
