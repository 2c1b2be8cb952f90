-- Fields meet exactly where one begins near another.
use Rattle.std.proofs.Common.{◌≡◌, ℕ, zero, suc, ◌+◌, ◌*◌, ◌<◌, Bool, true, false, cond, List, [], ◌∷◌, ◌++◌, length, take, get_or, Option, None, Some, refl, sym, ◌∙◌, ap, subst, arith}
use Rattle.std.specs.{Prelude.{◌&&◌, ◌||◌, ◌⊎◌, is_some, nat_eq, nat_lt, slice_get}, Ordering.{is_eq, nat_cmp}, List.{list_any}}
use Rattle.std.specs.Option.{option_map_or, unwrap_or}
use Rattle.std.proofs.lemmas.{Bool.{true≢false, and_parts, and_from}, Bool.Decides.{nat_tests}, Option.{none-some, same_Some, slice_get-get_or}}
use Rattle.std.proofs.lemmas.{List.Folds.{list_any-append}, Map.Keys.{any_passes_from_place}}
use Rattle.oc_neutral.proofs.FieldLists.{take_here}
use Rattle.oc_linking.proofs.Testing.{any_passes}
use Rattle.oc_shelf.proofs.WritingLaws.MemberLemmas.{each_append, member_map, of_map}
use Rattle.oc_omf_records.specs.Blocks.{moved}
use Rattle.oc_omf.specs.{Structures.{Piece}, Fixups.{Fixed, are_near, copies_for, field_offsets, is_of_segment, meet}, RelocationFaults.{is_kept}}
use Rattle.oc_omf_judge.specs.{Defined.{place_in}, declared.starts.Starts.{Starts}, declared.whole.Whole.{Whole}, Lying.{base, lying_of}}
use Rattle.oc_omf_judge.specs.{Starts.{AreStarts, IsLowField, IsMet, is_among, is_start, starts_at}, Whole.{is_judged, tables}}

-- ... places

-- those that are near are of one segment, and of offsets that are near
near_places : (s t a b : ℕ) → a < 2147483648 → b < 2147483648 → are_near (place_in s a) (place_in t b) ≡ true → (s ≡ t) × (are_near a b ≡ true)
near_places s t a b low less near =
    let both = and_parts (nat_lt (place_in s a) (place_in t b + 4)) (nat_lt (place_in t b) (place_in s a + 4)) near in
    let e = both.0 in
    let f = both.1 in
    let left : s * 4294967296 + a < t * 4294967296 + b + 4 = grind (arith, nat_tests) in
    let right : t * 4294967296 + b < s * 4294967296 + a + 4 = grind (arith, nat_tests) in
    let same : s ≡ t = omega (arith, left, right, low, less) in
    let one : nat_lt a (b + 4) ≡ true = let l : a < b + 4 = omega (arith, left, same) in grind (arith, nat_tests) in
    let other : nat_lt b (a + 4) ≡ true = let l : b < a + 4 = omega (arith, right, same) in grind (arith, nat_tests) in
    (same, and_from (nat_lt a (b + 4)) (nat_lt b (a + 4)) one other)

-- and the other way round
near_offsets : (s a b : ℕ) → are_near a b ≡ true → are_near (place_in s a) (place_in s b) ≡ true
near_offsets s a b near =
    let both = and_parts (nat_lt a (b + 4)) (nat_lt b (a + 4)) near in
    let e = both.0 in
    let f = both.1 in
    let left : a < b + 4 = grind (arith, nat_tests) in
    let right : b < a + 4 = grind (arith, nat_tests) in
    let one : nat_lt (place_in s a) (place_in s b + 4) ≡ true = let l : s * 4294967296 + a < s * 4294967296 + b + 4 = omega (arith, left) in grind (arith, nat_tests) in
    let other : nat_lt (place_in s b) (place_in s a + 4) ≡ true = let l : s * 4294967296 + b < s * 4294967296 + a + 4 = omega (arith, right) in grind (arith, nat_tests) in
    and_from (nat_lt (place_in s a) (place_in s b + 4)) (nat_lt (place_in s b) (place_in s a + 4)) one other

-- an offset of data, told from their first byte
from_base : (d : Piece) (p : ℕ) → base (lying_of d) + p ≡ place_in d.segment (d.offset + p)
from_base d p = omega arith

equal : (a b : ℕ) → nat_eq a b ≡ true → a ≡ b
equal a b e = grind (arith, nat_tests)

equal_self : (a : ℕ) → nat_eq a a ≡ true
equal_self a = grind (arith, nat_tests)

-- ... a fixup with data, and copies in these

module _ (w : Whole) (fixed : List Fixed) (s : Starts) (are : AreStarts w fixed s) (f : Fixed) (d : Piece) (ps : List ℕ) (piece : f.piece ≡ Some d) (copies : copies_for f ≡ Some ps) (low : IsLowField f) where
  -- where its fields are
  offsets : field_offsets f ≡ moved d.offset ps
  offsets = ap (λ o. option_map_or (λ (d : Piece). moved d.offset (unwrap_or (copies_for f) [])) o []) piece ∙ ap (λ o. moved d.offset (unwrap_or o [])) copies

  low_offset : (j p : ℕ) → slice_get ps j ≡ Some p → d.offset + p < 2147483648
  low_offset j p here = low j (d.offset + p) (ap (λ xs. slice_get xs j) offsets ∙ member_map (λ p. d.offset + p) ps j p here)

  -- one that has a field near another meets it
  meets_one : (i : ℕ) (y : Fixed) → slice_get fixed i ≡ Some y → (p : ℕ) (j : ℕ) → slice_get ps j ≡ Some p → (k : ℕ) → starts_at w k y ≡ true → are_near (base (lying_of d) + p) k ≡ true → meet f y ≡ true
  meets_one i y here p j there k starts near = by y.piece refl (and_parts (is_judged w y) (option_map_or (λ (e : Piece). list_any (λ at. nat_eq k (place_in e.segment at)) (field_offsets y)) y.piece false) starts).1
    where
      by : (o : Option Piece) → y.piece ≡ o → option_map_or (λ (e : Piece). list_any (λ at. nat_eq k (place_in e.segment at)) (field_offsets y)) o false ≡ true → meet f y ≡ true
      by None e begins = absurd (true≢false (sym begins))
      by (Some e) own begins =
          let m = any_passes (λ at. nat_eq k (place_in e.segment at)) (field_offsets y) begins in
          let same : k ≡ place_in e.segment m.1 = equal k (place_in e.segment m.1) m.3 in
          let close : are_near (place_in d.segment (d.offset + p)) (place_in e.segment m.1) ≡ true = ap (λ (q : ℕ). are_near q (place_in e.segment m.1)) (sym (from_base d p)) ∙ ap (are_near (base (lying_of d) + p)) (sym same) ∙ near in
          let one = near_places d.segment e.segment (d.offset + p) m.1 (low_offset j p there) (are.low i y here m.0 m.1 m.2) close in
          and_from (option_map_or (λ (d : Piece). is_of_segment y d.segment) f.piece false) (list_any (λ at. list_any (are_near at) (field_offsets y)) (field_offsets f))
          (ap (λ o. option_map_or (λ (d : Piece). is_of_segment y d.segment) o false) piece ∙ ap (λ o. option_map_or (λ (e : Piece). nat_eq e.segment d.segment) o false) own ∙ ap (λ (k : ℕ). nat_eq k d.segment) (sym one.0) ∙ equal_self d.segment)
          (ap (list_any (λ at. list_any (are_near at) (field_offsets y))) offsets
          ∙ any_passes_from_place (λ at. list_any (are_near at) (field_offsets y)) (moved d.offset ps) j (d.offset + p) (member_map (λ p. d.offset + p) ps j p there)
          (any_passes_from_place (are_near (d.offset + p)) (field_offsets y) m.0 m.1 m.2 one.1))

  pub met_meets : IsMet s (base (lying_of d)) ps → list_any (meet f) fixed ≡ true
  met_meets met =
      let own = any_passes (nat_eq met.0) ps met.1 in
      let same : met.0 ≡ own.1 = equal met.0 own.1 own.3 in
      let near = met.2 in
      let other = any_passes (starts_at w near.0) fixed (sym (are.are near.0) ∙ near.1) in
      any_passes_from_place (meet f) fixed other.0 other.1 other.2
      (meets_one other.0 other.1 other.2 own.1 own.0 own.2 near.0 other.3 (ap (λ (p : ℕ). are_near (base (lying_of d) + p) near.0) (sym same) ∙ near.2))

  -- one that it meets has a field near it
  near_one : is_judged w f ≡ true → (i : ℕ) (y : Fixed) → slice_get fixed i ≡ Some y → meet f y ≡ true → IsMet s (base (lying_of d)) ps
  near_one judged i y here meets = by y.piece refl (ap (λ o. option_map_or (λ (d : Piece). is_of_segment y d.segment) o false) (sym piece) ∙ both.0)
    where
      both : (option_map_or (λ (d : Piece). is_of_segment y d.segment) f.piece false ≡ true) × (list_any (λ at. list_any (are_near at) (field_offsets y)) (field_offsets f) ≡ true)
      both = and_parts (option_map_or (λ (d : Piece). is_of_segment y d.segment) f.piece false) (list_any (λ at. list_any (are_near at) (field_offsets y)) (field_offsets f)) meets

      by : (o : Option Piece) → y.piece ≡ o → option_map_or (λ (e : Piece). nat_eq e.segment d.segment) y.piece false ≡ true → IsMet s (base (lying_of d)) ps
      by None own of = absurd (true≢false (sym (ap (λ o. option_map_or (λ (e : Piece). nat_eq e.segment d.segment) o false) (sym own) ∙ of)))
      by (Some e) own of =
          let segment : e.segment ≡ d.segment = equal e.segment d.segment (ap (λ o. option_map_or (λ (e : Piece). nat_eq e.segment d.segment) o false) (sym own) ∙ of) in
          let m = any_passes (λ at. list_any (are_near at) (field_offsets y)) (moved d.offset ps) (ap (list_any (λ at. list_any (are_near at) (field_offsets y))) (sym offsets) ∙ both.1) in
          let q = of_map (λ p. d.offset + p) ps m.0 m.1 m.2 in
          let n = any_passes (are_near m.1) (field_offsets y) m.3 in
          let k : ℕ = place_in d.segment n.1 in
          let kept : is_judged w y ≡ true
          = ap (λ o. option_map_or (is_kept (tables w) w.keep) o true) own ∙ ap (λ (g : ℕ). is_kept (tables w) w.keep (record e { segment = g })) segment
          ∙ ap (λ o. option_map_or (is_kept (tables w) w.keep) o true) (sym piece) ∙ judged in
          let begins : starts_at w k y ≡ true
          = and_from (is_judged w y) (option_map_or (λ (e : Piece). list_any (λ at. nat_eq k (place_in e.segment at)) (field_offsets y)) y.piece false) kept
          (ap (λ o. option_map_or (λ (e : Piece). list_any (λ at. nat_eq k (place_in e.segment at)) (field_offsets y)) o false) own
          ∙ any_passes_from_place (λ at. nat_eq k (place_in e.segment at)) (field_offsets y) n.0 n.1 n.2 (ap (λ (g : ℕ). nat_eq k (place_in g n.1)) segment ∙ equal_self k)) in (
            q.0,
            any_passes_from_place (nat_eq q.0) ps m.0 q.0 q.1 (equal_self q.0),
            (k, are.are k ∙ any_passes_from_place (starts_at w k) fixed i y here begins, ap (λ (g : ℕ). are_near g k) (from_base d q.0 ∙ ap (place_in d.segment) q.2) ∙ near_offsets d.segment m.1 n.1 n.3),
          )

  pub free_meets : is_judged w f ≡ true → (IsMet s (base (lying_of d)) ps → ⊥) → list_any (meet f) fixed ≡ false
  free_meets judged free = by (list_any (meet f) fixed) refl
    where
      by : (b : Bool) → list_any (meet f) fixed ≡ b → b ≡ false
      by false e = refl
      by true e = let m = any_passes (meet f) fixed e in absurd (free (near_one judged m.0 m.1 m.2 m.3))

  -- where its fields begin
  pub begins_among : is_judged w f ≡ true → (k : ℕ) → starts_at w k f ≡ is_among (base (lying_of d)) ps k
  begins_among judged k =
      ap (λ b. b && option_map_or (λ (d : Piece). list_any (λ at. nat_eq k (place_in d.segment at)) (field_offsets f)) f.piece false) judged
      ∙ ap (λ o. option_map_or (λ (d : Piece). list_any (λ at. nat_eq k (place_in d.segment at)) (field_offsets f)) o false) piece
      ∙ ap (list_any (λ at. nat_eq k (place_in d.segment at))) offsets ∙ by ps
    where
      by : (ps : List ℕ) → list_any (λ at. nat_eq k (place_in d.segment at)) (moved d.offset ps) ≡ is_among (base (lying_of d)) ps k
      by [] = refl
      by (p ∷ ps) = ap (λ (q : ℕ). nat_eq k q || list_any (λ at. nat_eq k (place_in d.segment at)) (moved d.offset ps)) (sym (from_base d p)) ∙ ap (λ b. nat_eq k (base (lying_of d) + p) || b) (by ps)

-- ... one fixup more

or_false : (a b : Bool) → (a || (b || false)) ≡ (a || b)
or_false true b = refl
or_false false true = refl
or_false false false = refl

pub starts_more : (w : Whole) (fixed : List Fixed) (old new : Starts) (f : Fixed) → AreStarts w fixed old → IsLowField f → ((k : ℕ) → is_start new k ≡ (is_start old k || starts_at w k f)) → AreStarts w (fixed ++ f ∷ []) new
starts_more w fixed old new f are low taken = record {
  are = λ k. taken k ∙ ap (λ b. b || starts_at w k f) (are.are k) ∙ sym (or_false (list_any (starts_at w k) fixed) (starts_at w k f)) ∙ sym (list_any-append (starts_at w k) fixed (f ∷ []));
  low = each_append IsLowField fixed (f ∷ []) are.low one;
}
  where
    one : (k : ℕ) (x : Fixed) → slice_get (f ∷ []) k ≡ Some x → IsLowField x
    one zero x here = subst IsLowField (same_Some f x here) low
    one (suc k) x here = absurd (none-some x here)

-- one that is not judged
pub starts_stay : (w : Whole) (fixed : List Fixed) (s : Starts) (f : Fixed) → AreStarts w fixed s → IsLowField f → is_judged w f ≡ false → AreStarts w (fixed ++ f ∷ []) s
starts_stay w fixed s f are low other =
    starts_more w fixed s s f are low (λ k. sym (ap (λ b. is_start s k || (b && option_map_or (λ (d : Piece). list_any (λ at. nat_eq k (place_in d.segment at)) (field_offsets f)) f.piece false)) other ∙ same (is_start s k)))
  where
    same : (a : Bool) → (a || false) ≡ a
    same true = refl
    same false = refl

-- ... places one after another

pub one_more : (xs : List ℕ) (i x : ℕ) → i < length xs → x ≡ get_or xs i 0 → take (i + 1) xs ≡ take i xs ++ x ∷ []
one_more xs i x low is = take_here xs i x (slice_get-get_or xs i 0 low ∙ ap (λ (y : ℕ). Some y) (sym is))

pub any_more : (test : ℕ → Bool) (xs : List ℕ) (i x : ℕ) → i < length xs → x ≡ get_or xs i 0 → list_any test (take (i + 1) xs) ≡ (list_any test (take i xs) || test x)
any_more test xs i x low is = ap (list_any test) (one_more xs i x low is) ∙ list_any-append test (take i xs) (x ∷ []) ∙ or_false (list_any test (take i xs)) (test x)

pub equal_places : (p x : ℕ) → nat_eq p x ≡ true → p ≡ x
equal_places p x = equal p x

pub place_there : (xs : List ℕ) (i x : ℕ) → i < length xs → x ≡ get_or xs i 0 → list_any (nat_eq x) xs ≡ true
place_there xs i x low is = any_passes_from_place (nat_eq x) xs i x (slice_get-get_or xs i 0 low ∙ ap (λ (y : ℕ). Some y) (sym is)) (equal_self x)

-- a start that is taken up
pub start_taken : (k at : ℕ) (o : Option ℕ) (v : ℕ) → is_some (cond (is_eq (nat_cmp at k)) (Some v) o) ≡ (is_some o || nat_eq k at)
start_taken k at o v = ap (λ b. is_some (cond b (Some v) o)) test ∙ by (nat_eq k at) o
  where
    test : is_eq (nat_cmp at k) ≡ nat_eq k at
    test = grind (arith, nat_tests)

    by : (b : Bool) (o : Option ℕ) → is_some (cond b (Some v) o) ≡ (is_some o || b)
    by true None = refl
    by true (Some u) = refl
    by false None = refl
    by false (Some u) = refl
