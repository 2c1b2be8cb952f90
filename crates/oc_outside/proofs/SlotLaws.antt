-- Laws of the maps that slots give by their names.
use Rattle.std.proofs.Common.{◌≡◌, ℕ, suc, zero, ◌<◌, Bool, true, false, cond, not, List, [], ◌∷◌, ◌++◌, length, get_or, Option, None, Some, unwrap_or, max, Result, Ok, Err, OnOk, OnErr, refl, sym, ap, ◌∙◌, arith}
use Rattle.std.proofs.Math.ListN.{set}
use Rattle.std.proofs.lemmas.{Bool.{false≢true, ltb-false, not-true, false_from_ne_true}, Option.{none-some}, List.Sums.{prefix_len_passes}}
use Rattle.std.proofs.lemmas.{Slice.Eq.{bytes_eq-Decides}, List.Quantifiers.{position-Some}}
use Rattle.std.specs.{Str.{bytes_eq}, Ordering.{nat_cmp}, Cmp.Lexicographic.{slice_cmp}, FinMap.{empty, get, insert, get-empty}}
use Rattle.oc_outside.specs.{Held.{put, extended}, Slots.{SlotState, map_of, place_of, held_of, rooms_of, with_room}}
use Rattle.oc_outside.proofs.NameLaws.{same_name, same_name-true, same_name-refl, get_put, put_over, put_there, put_swapped}

-- the test of `place_of` decides whether two names are the same
named : (x y : List ℕ) → bytes_eq x y ≡ true → x ≡ y
named x y e = (bytes_eq-Decides x y).0 e

apart : (x y : List ℕ) → bytes_eq x y ≡ false → x ≡ y → ⊥
apart x y e same = false≢true (sym e ∙ (bytes_eq-Decides x y).1 same)

other_name : (x y : List ℕ) → (y ≡ x → ⊥) → same_name x y ≡ false
other_name x y ne = false_from_ne_true (same_name x y) (λ e. ne (sym (same_name-true x y e)))

test-None : {A : Type 0} → (b : Bool) (x : A) → cond b (Some x) None ≡ None → b ≡ false
test-None true x e = absurd (none-some x (sym e))
test-None false x e = refl

position-None : (name : List ℕ) (ss : List SlotState) → place_of name ss ≡ None → (t : SlotState) (k : ℕ) → k < length ss → bytes_eq (get_or ss k t).name name ≡ false
position-None name ss e t k h =
    let long = ltb-false _ _ (test-None _ _ e) in
    not-true _ (prefix_len_passes (λ s. not (bytes_eq s.name name)) ss k t (omega (arith, long)))

module _ {X : Type 0} (value : SlotState → Option X) (name : List ℕ) where
  first_set : (ss : List SlotState) (i : ℕ) (s d : SlotState) → i < length ss → s.name ≡ name → bytes_eq (get_or ss i d).name name ≡ true
      → ((k : ℕ) → k < i → bytes_eq (get_or ss k d).name name ≡ false) → map_of value (set ss i s) ≡ put (value s) name (map_of value ss)
  first_set [] i s d within is here before = absurd (omega arith)
  first_set (t ∷ ss) zero s d within is here before =
      ap (λ n. put (value s) n (map_of value ss)) is
      ∙ sym (put_over (value s) (value t) name (map_of value ss))
      ∙ ap (λ n. put (value s) name (put (value t) n (map_of value ss))) (sym (named t.name name here))
  first_set (t ∷ ss) (suc i) s d within is here before =
      ap (put (value t) t.name) (first_set ss i s d (omega arith) is here (λ k h. before (suc k) (omega arith)))
      ∙ put_swapped (value t) (value s) t.name name (map_of value ss) (apart t.name name (before zero (omega arith)))

  first_at : (ss : List SlotState) (i : ℕ) (d : SlotState) → i < length ss → bytes_eq (get_or ss i d).name name ≡ true
      → ((k : ℕ) → k < i → bytes_eq (get_or ss k d).name name ≡ false) → get (map_of value ss) name ≡ value (get_or ss i d)
  first_at [] i d within here before = absurd (omega arith)
  first_at (t ∷ ss) zero d within here before =
      get_put (value t) t.name (map_of value ss) name
      ∙ ap (λ b. cond b (value t) (get (map_of value ss) name)) (ap (same_name name) (named t.name name here) ∙ same_name-refl name)
  first_at (t ∷ ss) (suc i) d within here before =
      get_put (value t) t.name (map_of value ss) name
      ∙ ap (λ b. cond b (value t) (get (map_of value ss) name)) (other_name name t.name (apart t.name name (before zero (omega arith))))
      ∙ first_at ss i d (omega arith) here (λ k h. before (suc k) (omega arith))

  -- no slot has the name
  absent : (ss : List SlotState) → ((t : SlotState) (k : ℕ) → k < length ss → bytes_eq (get_or ss k t).name name ≡ false) → get (map_of value ss) name ≡ None
  absent [] none = get-empty (slice_cmp nat_cmp) name
  absent (t ∷ ss) none =
      get_put (value t) t.name (map_of value ss) name
      ∙ ap (λ b. cond b (value t) (get (map_of value ss) name)) (other_name name t.name (apart t.name name (none t zero (omega arith))))
      ∙ absent ss (λ d k h. none d (suc k) (omega arith))

  added : (ss : List SlotState) (s : SlotState) → s.name ≡ name → ((t : SlotState) (k : ℕ) → k < length ss → bytes_eq (get_or ss k t).name name ≡ false)
      → map_of value (ss ++ s ∷ []) ≡ put (value s) name (map_of value ss)
  added [] s is none = ap (λ n. put (value s) n empty) is
  added (t ∷ ss) s is none =
      ap (put (value t) t.name) (added ss s is (λ d k h. none d (suc k) (omega arith)))
      ∙ put_swapped (value t) (value s) t.name name (map_of value ss) (apart t.name name (none t zero (omega arith)))

  -- what the maps have at a name, by the place of the first slot of that name
  pub map_at : (ss : List SlotState) (i : ℕ) (d : SlotState) → place_of name ss ≡ Some i → get (map_of value ss) name ≡ value (get_or ss i d)
  map_at ss i d e = let p = position-Some (λ s. bytes_eq s.name name) ss i d e in first_at ss i d p.0 p.1 p.2

  pub map_set : (ss : List SlotState) (i : ℕ) (s d : SlotState) → place_of name ss ≡ Some i → s.name ≡ (get_or ss i d).name
      → map_of value (set ss i s) ≡ put (value s) name (map_of value ss)
  map_set ss i s d e is = let p = position-Some (λ s. bytes_eq s.name name) ss i d e in first_set ss i s d p.0 (is ∙ named _ name p.1) p.1 p.2

  pub map_none : (ss : List SlotState) → place_of name ss ≡ None → get (map_of value ss) name ≡ None
  map_none ss e = absent ss (position-None name ss e)

  pub map_push : (ss : List SlotState) (s : SlotState) → place_of name ss ≡ None → s.name ≡ name → map_of value (ss ++ s ∷ []) ≡ put (value s) name (map_of value ss)
  map_push ss s e is = added ss s is (position-None name ss e)

-- a write to the first slot of a name, whose element was s and is t
module _ (name : List ℕ) (ss : List SlotState) (i : ℕ) (s d : SlotState) (here : place_of name ss ≡ Some i) (is : get_or ss i d ≡ s) where
  pub file_at : get (held_of ss) name ≡ s.file
  file_at = map_at (λ x. x.file) name ss i d here ∙ ap (λ x. x.file) is

  pub room_at : get (rooms_of ss) name ≡ Some s.room
  room_at = map_at (λ x. Some x.room) name ss i d here ∙ ap (λ x. Some x.room) is

  pub held_set : (t : SlotState) → t.name ≡ s.name → held_of (set ss i t) ≡ put t.file name (held_of ss)
  held_set t e = map_set (λ x. x.file) name ss i t d here (e ∙ ap (λ x. x.name) (sym is))

  pub rooms_set : (t : SlotState) → t.name ≡ s.name → rooms_of (set ss i t) ≡ insert (rooms_of ss) name t.room
  rooms_set t e = map_set (λ x. Some x.room) name ss i t d here (e ∙ ap (λ x. x.name) (sym is))

  pub held_kept : (t : SlotState) → t.name ≡ s.name → t.file ≡ s.file → held_of (set ss i t) ≡ held_of ss
  held_kept t e same = held_set t e ∙ put_there t.file name (held_of ss) (file_at ∙ sym same)

  pub rooms_kept : (t : SlotState) → t.name ≡ s.name → t.room ≡ s.room → rooms_of (set ss i t) ≡ rooms_of ss
  rooms_kept t e same = rooms_set t e ∙ put_there (Some t.room) name (rooms_of ss) (room_at ∙ ap Some (sym same))

  -- a file that grew, and all others stay
  pub extended_at : (piece : List ℕ) (t : SlotState) → t ≡ record s { file = Some (unwrap_or s.file [] ++ piece) } → held_of (set ss i t) ≡ extended name piece (held_of ss)
  extended_at piece t e =
      held_set t (ap (λ x. x.name) e)
      ∙ ap (λ o. put o name (held_of ss)) (ap (λ x. x.file) e)
      ∙ ap (λ o. insert (held_of ss) name (unwrap_or o [] ++ piece)) (sym file_at)

  -- a room that was raised, and all others stay
  pub raised_at : (room : ℕ) (t : SlotState) → t.name ≡ s.name → t.room ≡ max s.room room → rooms_of (set ss i t) ≡ with_room name room (rooms_of ss)
  raised_at room t e r =
      rooms_set t e
      ∙ ap (insert (rooms_of ss) name) (r ∙ ap (λ o. max (unwrap_or o 0) room) (sym room_at))

-- what an append leaves of a slot, whatever it answers
module _ {A E : Type 0} (s t : SlotState) (file : Option (List ℕ)) where
  pub name_left : (r : Result A E) → OnOk r (t ≡ record s { file = file }) → OnErr r (t ≡ s) → t.name ≡ s.name
  name_left (Ok x) ok err = ap (λ x. x.name) ok
  name_left (Err e) ok err = ap (λ x. x.name) err

  pub room_left : (r : Result A E) → OnOk r (t ≡ record s { file = file }) → OnErr r (t ≡ s) → t.room ≡ s.room
  room_left (Ok x) ok err = ap (λ x. x.room) ok
  room_left (Err e) ok err = ap (λ x. x.room) err

-- what a raised room leaves of a slot, whatever it answers
module _ {A E : Type 0} (s t : SlotState) (room : ℕ) where
  pub name_left_raised : (r : Result A E) → OnOk r (t ≡ record s { room = room }) → OnErr r (t ≡ s) → t.name ≡ s.name
  name_left_raised (Ok x) ok err = ap (λ x. x.name) ok
  name_left_raised (Err e) ok err = ap (λ x. x.name) err

  pub file_left : (r : Result A E) → OnOk r (t ≡ record s { room = room }) → OnErr r (t ≡ s) → t.file ≡ s.file
  file_left (Ok x) ok err = ap (λ x. x.file) ok
  file_left (Err e) ok err = ap (λ x. x.file) err

-- no slot of a name, and one that is added
module _ (name : List ℕ) (ss : List SlotState) (none : place_of name ss ≡ None) where
  pub file_none : get (held_of ss) name ≡ None
  file_none = map_none (λ x. x.file) name ss none

  pub room_none : get (rooms_of ss) name ≡ None
  room_none = map_none (λ x. Some x.room) name ss none

  pub held_push : (t : SlotState) → t.name ≡ name → held_of (ss ++ t ∷ []) ≡ put t.file name (held_of ss)
  held_push t e = map_push (λ x. x.file) name ss t none e

  pub rooms_push : (t : SlotState) → t.name ≡ name → rooms_of (ss ++ t ∷ []) ≡ insert (rooms_of ss) name t.room
  rooms_push t e = map_push (λ x. Some x.room) name ss t none e

  pub raised_push : (room : ℕ) (t : SlotState) → t.name ≡ name → t.room ≡ max 0 room → rooms_of (ss ++ t ∷ []) ≡ with_room name room (rooms_of ss)
  raised_push room t e r =
      rooms_push t e ∙ ap (insert (rooms_of ss) name) (r ∙ ap (λ o. max (unwrap_or o 0) room) (sym room_none))

  pub held_stays : (t : SlotState) → t.name ≡ name → t.file ≡ None → held_of (ss ++ t ∷ []) ≡ held_of ss
  held_stays t e f = held_push t e ∙ put_there t.file name (held_of ss) (file_none ∙ sym f)
