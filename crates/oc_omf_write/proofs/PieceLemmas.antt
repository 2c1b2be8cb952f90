-- Fixups in order: how many stand below an offset, which stand between two, and where a piece ends.
use Rattle.std.proofs.Common.{◌≡◌, ℕ, zero, suc, ◌+◌, ◌*◌, ◌-◌, ◌<◌, ◌≤◌, Bool, true, false, cond, ◌&&◌, nat_le, nat_lt, List, [], ◌∷◌, ◌++◌, length, take, drop, get_or, Option, Some, None, refl, sym, ◌∙◌, ap, subst, arith}
use Rattle.std.specs.{Prelude.{slice_get, find, flat_map, max}, List.Sorted.{IsPartitionedBy}}
use Rattle.std.proofs.lemmas.{Bool.Decides.{nat_tests}, Option.{none-some, same_Some}}
use Rattle.oc_omf_file.specs.Pieces.{cuts, piece_end, pieces_upto}
use Rattle.oc_omf_file.proofs.PieceLaws.{AreApart}
use Rattle.oc_omf_file.proofs.PieceLaws as laws
use Rattle.oc_omf_write.specs.{declared.entries.Entry.{Entry}, declared.fixups.Fixup.{Fixup}}
use Rattle.oc_omf_write.specs.{Pieces.{places_of, below, Follow, FollowWithin, AreInOrder, piece_entries}, Written.{between}}

-- ... order

pub follow_from : (from size : ℕ) (fixups : List Fixup) → FollowWithin from size fixups → Follow from fixups
follow_from from size [] f = tt
follow_from from size (x ∷ fixups) f = (f.0, follow_from (x.at + 4) size fixups f.2)

-- none stands below where they begin
none_below : (from to : ℕ) (fixups : List Fixup) → Follow from fixups → to ≤ from → below to fixups ≡ []
none_below from to [] f low = refl
none_below from to (x ∷ fixups) f low =
    let first = f.0 in
    let out : nat_lt x.at to ≡ false = grind (arith, nat_tests, first, low) in
    ap (λ b. cond b (x ∷ below to fixups) (below to fixups)) out ∙ none_below (x.at + 4) to fixups f.1 (omega (arith, first, low))

-- no more stand below a lower offset
pub below_rises : (from to : ℕ) (fixups : List Fixup) → from ≤ to → length (below from fixups) ≤ length (below to fixups)
below_rises from to [] range = omega arith
below_rises from to (x ∷ fixups) range = by (nat_lt x.at from) refl (nat_lt x.at to) refl (below_rises from to fixups range)
  where
    by : (a : Bool) → nat_lt x.at from ≡ a → (b : Bool) → nat_lt x.at to ≡ b → length (below from fixups) ≤ length (below to fixups)
        → length (cond a (x ∷ below from fixups) (below from fixups)) ≤ length (cond b (x ∷ below to fixups) (below to fixups))
    by true e true g later = omega (arith, later)
    by true e false g later = absurd (grind (arith, nat_tests, range))
    by false e true g later = omega (arith, later)
    by false e false g later = later

-- those between two offsets stand behind those below the first
pub between_is : (p from to : ℕ) (fixups : List Fixup) → Follow p fixups → from ≤ to
    → take (length (below to fixups) - length (below from fixups)) (drop (length (below from fixups)) fixups) ≡ between from to fixups
between_is p from to [] f range = refl
between_is p from to (x ∷ fixups) f range = by (nat_lt x.at from) refl (nat_lt x.at to) refl (between_is (x.at + 4) from to fixups f.1 range)
  where
    rest : List Fixup
    rest = between from to fixups

    low : List Fixup
    low = below from fixups

    high : List Fixup
    high = below to fixups

    by : (a : Bool) → nat_lt x.at from ≡ a → (b : Bool) → nat_lt x.at to ≡ b → take (length high - length low) (drop (length low) fixups) ≡ rest
        → take (length (cond b (x ∷ high) high) - length (cond a (x ∷ low) low)) (drop (length (cond a (x ∷ low) low)) (x ∷ fixups)) ≡ cond (nat_le from x.at && b) (x ∷ rest) rest
    by true e true g later =
        let out : nat_le from x.at ≡ false = grind (arith, nat_tests) in
        let same : suc (length high) - suc (length low) ≡ length high - length low = omega arith in
        ap (λ m. take m (drop (length low) fixups)) same ∙ later ∙ ap (λ b. cond (b && true) (x ∷ rest) rest) (sym out)
    by true e false g later = absurd (grind (arith, nat_tests, range))
    by false e true g later =
        let in_range : nat_le from x.at ≡ true = grind (arith, nat_tests) in
        let past : from ≤ x.at = grind (arith, nat_tests) in
        let none : low ≡ [] = none_below (x.at + 4) from fixups f.1 (omega (arith, past)) in
        let more : suc (length high) - 0 ≡ suc (length high) = omega arith in
        let same : length high - 0 ≡ length high = omega arith in
        let start : take (length high) fixups ≡ rest
        = sym (ap (λ (xs : List Fixup). take (length high - length xs) (drop (length xs) fixups)) none ∙ ap (λ m. take m fixups) same) ∙ later in
        ap (λ (xs : List Fixup). take (suc (length high) - length xs) (drop (length xs) (x ∷ fixups))) none
        ∙ ap (λ m. take m (x ∷ fixups)) more
        ∙ ap (λ xs. x ∷ xs) start
        ∙ ap (λ b. cond (b && true) (x ∷ rest) rest) (sym in_range)
    by false e false g later =
        let far : to ≤ x.at = grind (arith, nat_tests) in
        let in_range : nat_le from x.at ≡ true = grind (arith, nat_tests) in
        let nothing : length high ≡ 0 = ap length (none_below (x.at + 4) to fixups f.1 (omega (arith, far))) in
        let zeros : length high - length low ≡ 0 = omega (arith, nothing) in
        ap (λ m. take m (drop (length low) (x ∷ fixups))) zeros
        ∙ sym (ap (λ m. take m (drop (length low) fixups)) zeros)
        ∙ later
        ∙ ap (λ b. cond (b && false) (x ∷ rest) rest) (sym in_range)

-- of four bytes each, no more than have room
few_from : (p from to : ℕ) (fixups : List Fixup) → Follow p fixups → 4 * length (between from to fixups) + max from p ≤ max (to + 3) (max from p)
few_from p from to [] f = omega arith
few_from p from to (x ∷ fixups) f = by (nat_le from x.at && nat_lt x.at to) refl (few_from (x.at + 4) from to fixups f.1)
  where
    rest : List Fixup
    rest = between from to fixups

    by : (b : Bool) → (nat_le from x.at && nat_lt x.at to) ≡ b → 4 * length rest + max from (x.at + 4) ≤ max (to + 3) (max from (x.at + 4))
        → 4 * length (cond b (x ∷ rest) rest) + max from p ≤ max (to + 3) (max from p)
    by true e later =
        let low : from ≤ x.at = grind (arith, nat_tests) in
        let high : x.at < to = grind (arith, nat_tests) in
        let first = f.0 in
        omega (arith, low, high, first, later)
    by false e later = let first = f.0 in omega (arith, first, later)

pub few_between : (p from to : ℕ) (fixups : List Fixup) → Follow p fixups → to ≤ from + 1024 → length (between from to fixups) ≤ 256
few_between p from to fixups f near = let few = few_from p from to fixups f in omega (arith, few, near)

-- ... by index

low_at : (p : ℕ) (fixups : List Fixup) → Follow p fixups → (k : ℕ) (d : Fixup) → k < length fixups → p ≤ (get_or fixups k d).at
low_at p [] f k d l = absurd (omega (arith, l))
low_at p (x ∷ fixups) f zero d l = f.0
low_at p (x ∷ fixups) f (suc k) d l = let first = f.0 in let rest = low_at (x.at + 4) fixups f.1 k d (omega (arith, l)) in omega (arith, first, rest)

rises : (p : ℕ) (fixups : List Fixup) → Follow p fixups → (i j : ℕ) (d : Fixup) → i ≤ j → j < length fixups → (get_or fixups i d).at ≤ (get_or fixups j d).at
rises p [] f i j d le l = absurd (omega (arith, l))
rises p (x ∷ fixups) f zero zero d le l = omega arith
rises p (x ∷ fixups) f zero (suc j) d le l = let rest = low_at (x.at + 4) fixups f.1 j d (omega (arith, l)) in omega (arith, rest)
rises p (x ∷ fixups) f (suc i) zero d le l = absurd (omega (arith, le))
rises p (x ∷ fixups) f (suc i) (suc j) d le l = rises (x.at + 4) fixups f.1 i j d (omega (arith, le)) (omega (arith, l))

-- those below an offset come first
pub below_parted : (to : ℕ) (fixups : List Fixup) → AreInOrder fixups → IsPartitionedBy (λ (f : Fixup). nat_lt f.at to) fixups
below_parted to fixups f i j d le l e = let up = rises 0 fixups f i j d le l in grind (arith, nat_tests, up, e)

-- so many are below, where those before a place are and the others are not
pub point_is : (to : ℕ) (fixups : List Fixup) (i : ℕ) → i ≤ length fixups → ((k : ℕ) (d : Fixup) → k < i → nat_lt (get_or fixups k d).at to ≡ true)
    → ((k : ℕ) (d : Fixup) → i ≤ k → k < length fixups → nat_lt (get_or fixups k d).at to ≡ false) → length (below to fixups) ≡ i
point_is to [] i l low high = omega (arith, l)
point_is to (x ∷ fixups) zero l low high =
    ap (λ b. length (cond b (x ∷ below to fixups) (below to fixups))) (high 0 x (omega arith) (omega arith))
    ∙ point_is to fixups zero (omega arith) (λ k d h. absurd (omega (arith, h))) (λ k d h g. high (suc k) d (omega arith) (omega (arith, g)))
point_is to (x ∷ fixups) (suc i) l low high =
    ap (λ b. length (cond b (x ∷ below to fixups) (below to fixups))) (low 0 x (omega arith))
    ∙ ap suc (point_is to fixups i (omega (arith, l)) (λ k d h. low (suc k) d (omega (arith, h))) (λ k d h g. high (suc k) d (omega (arith, h)) (omega (arith, g))))

-- the last of them is below
pub below_at : (p to : ℕ) (fixups : List Fixup) (k : ℕ) (d : Fixup) → Follow p fixups → k < length (below to fixups) → (get_or fixups k d).at < to
below_at p to [] k d f l = absurd (omega (arith, l))
below_at p to (x ∷ fixups) k d f l = by (nat_lt x.at to) refl k l (λ j low. below_at (x.at + 4) to fixups j d f.1 low)
  where
    by : (b : Bool) → nat_lt x.at to ≡ b → (k : ℕ) → k < length (cond b (x ∷ below to fixups) (below to fixups)) → ((j : ℕ) → j < length (below to fixups) → (get_or fixups j d).at < to)
        → (get_or (x ∷ fixups) k d).at < to
    by true e zero l later = grind (arith, nat_tests)
    by true e (suc k) l later = later k (omega (arith, l))
    by false e k l later =
        let past : to ≤ x.at = grind (arith, nat_tests) in
        let none : length (below to fixups) ≡ 0 = ap length (none_below (x.at + 4) to fixups f.1 (omega (arith, past))) in
        absurd (omega (arith, none, l))

-- ... where a piece ends

-- where no field stands below an offset, none is cut there
pub uncut_none : (p to : ℕ) (fixups : List Fixup) → Follow p fixups → length (below to fixups) ≡ 0 → find (cuts to) (places_of fixups) ≡ None
uncut_none p to [] f none = refl
uncut_none p to (x ∷ fixups) f none = by (nat_lt x.at to) refl none (uncut_none (x.at + 4) to fixups f.1)
  where
    by : (b : Bool) → nat_lt x.at to ≡ b → length (cond b (x ∷ below to fixups) (below to fixups)) ≡ 0 → (length (below to fixups) ≡ 0 → find (cuts to) (places_of fixups) ≡ None)
        → find (cuts to) (places_of (x ∷ fixups)) ≡ None
    by true e h later = absurd (omega (arith, h))
    by false e h later =
        let out : cuts to x.at ≡ false = ap (λ b. b && nat_lt to (x.at + 4)) e in
        ap (λ b. cond b (Some x.at) (find (cuts to) (places_of fixups))) out ∙ later h

-- the last below an offset is cut there, or none is
pub uncut_last : (p to : ℕ) (fixups : List Fixup) (k : ℕ) (x : Fixup) → Follow p fixups → length (below to fixups) ≡ suc k → slice_get fixups k ≡ Some x
    → find (cuts to) (places_of fixups) ≡ cond (nat_lt to (x.at + 4)) (Some x.at) None
uncut_last p to [] k x f count here = absurd (none-some x here)
uncut_last p to (y ∷ fixups) k x f count here = by (nat_lt y.at to) refl k count here (λ j more there. uncut_last (y.at + 4) to fixups j x f.1 more there)
  where
    rest : Option ℕ
    rest = find (cuts to) (places_of fixups)

    -- y itself is the last
    only : nat_lt y.at to ≡ true → length (below to fixups) ≡ 0 → cond (nat_lt y.at to && nat_lt to (y.at + 4)) (Some y.at) rest ≡ cond (nat_lt to (y.at + 4)) (Some y.at) None
    only e none = ap (λ b. cond (b && nat_lt to (y.at + 4)) (Some y.at) rest) e ∙ ap (λ o. cond (nat_lt to (y.at + 4)) (Some y.at) o) (uncut_none (y.at + 4) to fixups f.1 none)

    -- one behind y stands below the offset, so that y is not cut
    passed : (j : ℕ) → length (below to fixups) ≡ suc j → nat_lt to (y.at + 4) ≡ false
    passed j e = by (nat_lt to (y.at + 4)) refl
      where
        by : (b : Bool) → nat_lt to (y.at + 4) ≡ b → b ≡ false
        by true g =
            let low : to < y.at + 4 = grind (arith, nat_tests) in
            let none : length (below to fixups) ≡ 0 = ap length (none_below (y.at + 4) to fixups f.1 (omega (arith, low))) in
            absurd (omega (arith, none, e))
        by false g = refl

    by : (b : Bool) → nat_lt y.at to ≡ b → (k : ℕ) → length (cond b (y ∷ below to fixups) (below to fixups)) ≡ suc k → slice_get (y ∷ fixups) k ≡ Some x
        → ((j : ℕ) → length (below to fixups) ≡ suc j → slice_get fixups j ≡ Some x → rest ≡ cond (nat_lt to (x.at + 4)) (Some x.at) None)
        → cond (nat_lt y.at to && nat_lt to (y.at + 4)) (Some y.at) rest ≡ cond (nat_lt to (x.at + 4)) (Some x.at) None
    by true e zero count here later =
        only e (omega (arith, count)) ∙ ap (λ (z : Fixup). cond (nat_lt to (z.at + 4)) (Some z.at) None) (same_Some y x here)
    by true e (suc j) count here later =
        let more : length (below to fixups) ≡ suc j = omega (arith, count) in
        ap (λ b. cond (nat_lt y.at to && b) (Some y.at) rest) (passed j more)
        ∙ ap (λ b. cond (b && false) (Some y.at) rest) e
        ∙ later j more here
    by false e j count here later =
        let past : to ≤ y.at = grind (arith, nat_tests) in
        let none : length (below to fixups) ≡ 0 = ap length (none_below (y.at + 4) to fixups f.1 (omega (arith, past))) in
        absurd (omega (arith, none, count))

-- ... pieces

-- the fields of fixups in order are apart
inside_within : (from size : ℕ) (fixups : List Fixup) → FollowWithin from size fixups → (k at : ℕ) → slice_get (places_of fixups) k ≡ Some at → (from ≤ at) × (at + 4 ≤ size)
inside_within from size [] f k at h = absurd (none-some at h)
inside_within from size (x ∷ fixups) f zero at h = subst (λ a. (from ≤ a) × (a + 4 ≤ size)) (same_Some x.at at h) (f.0, f.1)
inside_within from size (x ∷ fixups) f (suc k) at h =
    let r = inside_within (x.at + 4) size fixups f.2 k at h in
    let low = r.0 in
    let first = f.0 in
    (omega (arith, low, first), r.1)

apart_within : (from size : ℕ) (fixups : List Fixup) → FollowWithin from size fixups → (i j a b : ℕ) → slice_get (places_of fixups) i ≡ Some a → slice_get (places_of fixups) j ≡ Some b → a < b → a + 4 ≤ b
apart_within from size [] f i j a b g h l = absurd (none-some a g)
apart_within from size (x ∷ fixups) f zero zero a b g h l =
    let ea = same_Some x.at a g in
    let eb = same_Some x.at b h in
    absurd (omega (arith, ea, eb, l))
apart_within from size (x ∷ fixups) f zero (suc j) a b g h l =
    let ea = same_Some x.at a g in
    let r = inside_within (x.at + 4) size fixups f.2 j b h in
    let low = r.0 in
    omega (arith, ea, low)
apart_within from size (x ∷ fixups) f (suc i) zero a b g h l =
    let eb = same_Some x.at b h in
    let r = inside_within (x.at + 4) size fixups f.2 i a g in
    let low = r.0 in
    absurd (omega (arith, eb, low, l))
apart_within from size (x ∷ fixups) f (suc i) (suc j) a b g h l = apart_within (x.at + 4) size fixups f.2 i j a b g h l

pub are_apart : (size : ℕ) (fixups : List Fixup) → FollowWithin 0 size fixups → AreApart (places_of fixups) size
are_apart size fixups f = record { inside = λ k at h. (inside_within 0 size fixups f k at h).1; apart = apart_within 0 size fixups f }

-- where a piece ends
pub ends_behind : (offsets : List ℕ) (size from : ℕ) → AreApart offsets size → from < size → (from < piece_end offsets size from) × (piece_end offsets size from ≤ size)
ends_behind offsets size from apart some = by (nat_lt from size) refl (laws.pieces_follow (suc (size - from)) offsets size from apart (omega (arith, some)) (omega arith))
  where
    by : (b : Bool) → nat_lt from size ≡ b → laws.Follow offsets from size (cond b ((from, piece_end offsets size from) ∷ pieces_upto (size - from) offsets size (piece_end offsets size from)) [])
        → (from < piece_end offsets size from) × (piece_end offsets size from ≤ size)
    by true e f = (f.1, f.2)
    by false e f = absurd (omega (arith, f, some))

-- any enough pieces are all
pub enough_pieces : (offsets : List ℕ) (size : ℕ) → AreApart offsets size → (n m from : ℕ) → from ≤ size → size ≤ from + n → size ≤ from + m → pieces_upto n offsets size from ≡ pieces_upto m offsets size from
enough_pieces offsets size apart zero zero from low a b = refl
enough_pieces offsets size apart zero (suc m) from low a b =
    let done : nat_lt from size ≡ false = grind (arith, nat_tests, a) in
    sym (ap (λ t. cond t ((from, piece_end offsets size from) ∷ pieces_upto m offsets size (piece_end offsets size from)) []) done)
enough_pieces offsets size apart (suc n) zero from low a b =
    let done : nat_lt from size ≡ false = grind (arith, nat_tests, b) in
    ap (λ t. cond t ((from, piece_end offsets size from) ∷ pieces_upto n offsets size (piece_end offsets size from)) []) done
enough_pieces offsets size apart (suc n) (suc m) from low a b = by (nat_lt from size) refl (enough_pieces offsets size apart n m (piece_end offsets size from))
  where
    to : ℕ
    to = piece_end offsets size from

    by : (t : Bool) → nat_lt from size ≡ t → (to ≤ size → size ≤ to + n → size ≤ to + m → pieces_upto n offsets size to ≡ pieces_upto m offsets size to)
        → cond t ((from, to) ∷ pieces_upto n offsets size to) [] ≡ cond t ((from, to) ∷ pieces_upto m offsets size to) []
    by true e later =
        let some : from < size = grind (arith, nat_tests) in
        let ends = ends_behind offsets size from apart some in
        let behind = ends.0 in
        ap (λ xs. (from, to) ∷ xs) (later ends.1 (omega (arith, behind, a)) (omega (arith, behind, b)))
    by false e later = refl

-- the entries of the pieces from a place on
abbrev pub pieces_left : ℕ → List Fixup → ℕ → ℕ → List Entry
pieces_left k fixups size from = flat_map (piece_entries k fixups) (pieces_upto size (places_of fixups) size from)

-- those of one piece, and of those behind it
pub pieces_step : (k : ℕ) (fixups : List Fixup) (size from to : ℕ) → FollowWithin 0 size fixups → from < size → to ≡ piece_end (places_of fixups) size from
    → pieces_left k fixups size from ≡ piece_entries k fixups (from, to) ++ pieces_left k fixups size to
pieces_step k fixups size from to f some is =
    let apart = are_apart size fixups f in
    let offsets = places_of fixups in
    let end = piece_end offsets size from in
    let ends = ends_behind offsets size from apart some in
    let behind = ends.0 in
    let yes : nat_lt from size ≡ true = grind (arith, nat_tests, some) in
    let same : pieces_upto (size - 1) offsets size end ≡ pieces_upto size offsets size end
    = enough_pieces offsets size apart (size - 1) size end ends.1 (omega (arith, behind)) (omega arith) in
    let fuel : size ≡ suc (size - 1) = omega (arith, some) in
    ap (λ m. flat_map (piece_entries k fixups) (pieces_upto m offsets size from)) fuel
    ∙ ap (λ t. flat_map (piece_entries k fixups) (cond t ((from, end) ∷ pieces_upto (size - 1) offsets size end) [])) yes
    ∙ ap (λ xs. piece_entries k fixups (from, end) ++ flat_map (piece_entries k fixups) xs) same
    ∙ ap (λ e. piece_entries k fixups (from, e) ++ pieces_left k fixups size e) (sym is)

-- behind the end there are none
pub pieces_end : (k : ℕ) (fixups : List Fixup) (size from : ℕ) → size ≤ from → pieces_left k fixups size from ≡ []
pieces_end k fixups zero from past = refl
pieces_end k fixups (suc n) from past =
    let no : nat_lt from (suc n) ≡ false = grind (arith, nat_tests, past) in
    ap (λ t. flat_map (piece_entries k fixups) (cond t ((from, piece_end (places_of fixups) (suc n) from) ∷ pieces_upto n (places_of fixups) (suc n) (piece_end (places_of fixups) (suc n) from)) [])) no
