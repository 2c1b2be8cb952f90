-- Entries that are written as items are read as items.
use Rattle.std.proofs.Common.{◌≡◌, ℕ, zero, suc, ◌+◌, ◌-◌, ◌≤◌, inl, inr, Bool, true, false, not, ◌&&◌, cond, List, [], ◌∷◌, length, take, Option, Some, None, refl, sym, ◌∙◌, ap, arith}
use Rattle.std.specs.{Prelude.{slice_get, flat_map}, List.{AllByRecursion}, Option.{option_map, option_map_or}}
use Rattle.std.proofs.lemmas.{Bool.{cases_lt}, Option.{none-some, same_Some}}
use Rattle.oc_base.specs.declared.format.Word.{Word}
use Rattle.oc_macho.specs.{declared.relocation_info.RelocationInfo.{RelocationInfo}, declared.entries.Item.{Item}}
use Rattle.oc_macho.specs.Entries.{is_first, is_first_at, begins, item_with, item_at}

-- the entries of one item: one, or a pair
pub data Written : Type 0 where
  Alone : RelocationInfo → Written
  Pair : RelocationInfo → RelocationInfo → Written

abbrev pub written_entries : Written → List RelocationInfo
written_entries (Alone e) = e ∷ []
written_entries (Pair e x) = e ∷ x ∷ []

abbrev pub item_of : Written → Item
item_of (Alone e) = record { first = e; second = None }
item_of (Pair e x) = record { first = e; second = Some x }

-- the first entry tells which of the two it is
abbrev pub IsTold : Word → Written → Type 0
IsTold w (Alone e) = is_first w e ≡ false
IsTold w (Pair e x) = is_first w e ≡ true

-- where the entries of item j begin
abbrev pub begin_of : List Written → ℕ → ℕ
begin_of xs j = length (flat_map written_entries (take j xs))

-- the item that stands at an index
pub record IsItem (xs : List Written) (p k : ℕ) (i : Item) : Type 0 where
  pub index : ℕ
  pub one : Written
  pub here : slice_get xs index ≡ Some one
  pub is : i ≡ item_of one
  pub place : k ≡ p + begin_of xs index

module _ (w : Word) (es : List RelocationInfo) where
  -- from an index on there are the entries of these items
  abbrev Follows : ℕ → List Written → Type 0
  Follows p xs = (i : ℕ) → slice_get es (p + i) ≡ slice_get (flat_map written_entries xs) i

  here : (p : ℕ) (e : RelocationInfo) (rest : List RelocationInfo) → ((i : ℕ) → slice_get es (p + i) ≡ slice_get (e ∷ rest) i) → slice_get es p ≡ Some e
  here p e rest follows = let z : p ≡ p + 0 = omega arith in ap (slice_get es) z ∙ follows 0

  tail : (p : ℕ) (e : RelocationInfo) (rest : List RelocationInfo) → ((i : ℕ) → slice_get es (p + i) ≡ slice_get (e ∷ rest) i) → (i : ℕ) → slice_get es (suc p + i) ≡ slice_get rest i
  tail p e rest follows i = let z : suc p + i ≡ p + suc i = omega arith in ap (slice_get es) z ∙ follows (suc i)

  -- an item begins at an index
  begun_item : (p : ℕ) (e : RelocationInfo) → begins w es p ≡ true → slice_get es p ≡ Some e → item_at w es p ≡ Some (record { first = e; second = cond (is_first w e) (slice_get es (p + 1)) None })
  unfolding item_at
  begun_item p e begun there = ap (λ b. cond b (option_map (item_with w es p) (slice_get es p)) None) begun ∙ ap (option_map (item_with w es p)) there

  not_begun : (p : ℕ) → begins w es p ≡ false → item_at w es p ≡ None
  unfolding item_at
  not_begun p other = ap (λ b. cond b (option_map (item_with w es p) (slice_get es p)) None) other

  nothing_there : (p : ℕ) → slice_get es p ≡ None → item_at w es p ≡ None
  unfolding item_at
  nothing_there p none = ap (λ o. cond (begins w es p) (option_map (item_with w es p) o) None) none ∙ by (begins w es p)
    where
      by : (b : Bool) → cond {A = Option Item} b None None ≡ None
      by b = grind arith

  -- whether the next begins an item
  next : (p : ℕ) (e : RelocationInfo) → begins w es p ≡ true → slice_get es p ≡ Some e → begins w es (suc p) ≡ not (is_first w e)
  next p e begun there = ap (λ b. not (b && is_first_at w es p)) begun ∙ ap (λ o. not (option_map_or (is_first w) o false)) there

  after_pair : (p : ℕ) → begins w es (suc p) ≡ false → begins w es (suc (suc p)) ≡ true
  after_pair p other = ap (λ b. not (b && is_first_at w es (suc p))) other

  alone_item : (p : ℕ) (e : RelocationInfo) → begins w es p ≡ true → slice_get es p ≡ Some e → is_first w e ≡ false → item_at w es p ≡ Some (item_of (Alone e))
  alone_item p e begun there told = begun_item p e begun there ∙ ap (λ b. Some (record { first = e; second = cond b (slice_get es (p + 1)) None })) told

  pair_item : (p : ℕ) (e x : RelocationInfo) → begins w es p ≡ true → slice_get es p ≡ Some e → slice_get es (suc p) ≡ Some x → is_first w e ≡ true → item_at w es p ≡ Some (item_of (Pair e x))
  pair_item p e x begun there behind told =
      let z : p + 1 ≡ suc p = omega arith in
      begun_item p e begun there ∙ ap (λ b. Some (record { first = e; second = cond b (slice_get es (p + 1)) None })) told
      ∙ ap (λ k. Some (record { first = e; second = slice_get es k })) z ∙ ap (λ o. Some (record { first = e; second = o })) behind

  there_from : (p : ℕ) (xs : List Written) → Follows p xs → begins w es p ≡ true → AllByRecursion (IsTold w) xs → (j : ℕ) (x : Written) → slice_get xs j ≡ Some x
      → item_at w es (p + begin_of xs j) ≡ Some (item_of x)
  there_from p [] follows begun told j x h = absurd (none-some x h)
  there_from p (Alone e ∷ xs) follows begun told zero x h =
      let z : p + 0 ≡ p = omega arith in
      ap (item_at w es) z ∙ alone_item p e begun (here p e (flat_map written_entries xs) follows) told.0 ∙ ap (λ y. Some (item_of y)) (same_Some (Alone e) x h)
  there_from p (Alone e ∷ xs) follows begun told (suc j) x h =
      let there = here p e (flat_map written_entries xs) follows in
      let z : p + suc (begin_of xs j) ≡ suc p + begin_of xs j = omega arith in
      ap (item_at w es) z ∙ there_from (suc p) xs (tail p e (flat_map written_entries xs) follows) (next p e begun there ∙ ap not told.0) told.1 j x h
  there_from p (Pair e y ∷ xs) follows begun told zero x h =
      let z : p + 0 ≡ p = omega arith in
      let rest = tail p e (y ∷ flat_map written_entries xs) follows in
      ap (item_at w es) z ∙ pair_item p e y begun (here p e (y ∷ flat_map written_entries xs) follows) (here (suc p) y (flat_map written_entries xs) rest) told.0
      ∙ ap (λ y. Some (item_of y)) (same_Some (Pair e y) x h)
  there_from p (Pair e y ∷ xs) follows begun told (suc j) x h =
      let there = here p e (y ∷ flat_map written_entries xs) follows in
      let rest = tail p e (y ∷ flat_map written_entries xs) follows in
      let z : p + suc (suc (begin_of xs j)) ≡ suc (suc p) + begin_of xs j = omega arith in
      ap (item_at w es) z
      ∙ there_from (suc (suc p)) xs (tail (suc p) y (flat_map written_entries xs) rest) (after_pair p (next p e begun there ∙ ap not told.0)) told.1 j x h

  only_from : (p : ℕ) (xs : List Written) → Follows p xs → begins w es p ≡ true → AllByRecursion (IsTold w) xs → (k : ℕ) (i : Item) → p ≤ k → item_at w es k ≡ Some i → IsItem xs p k i
  only_from p [] follows begun told k i le h =
      let e : k ≡ p + (k - p) = omega (arith, le) in
      absurd (none-some i (sym (nothing_there k (ap (slice_get es) e ∙ follows (k - p))) ∙ h))
  only_from p (Alone e ∷ xs) follows begun told k i le h = elim (cases_lt p k) [
    | inl more ↦
        let there = here p e (flat_map written_entries xs) follows in
        let r = only_from (suc p) xs (tail p e (flat_map written_entries xs) follows) (next p e begun there ∙ ap not told.0) told.1 k i (omega (arith, more)) h in
        let place = r.place in
        record { index = suc r.index; one = r.one; here = r.here; is = r.is; place = omega (arith, place) }
    | inr less ↦
        let same : k ≡ p = omega (arith, le, less) in
        record {
          index = 0;
          one = Alone e;
          here = refl;
          is = sym (same_Some (item_of (Alone e)) i (sym (ap (item_at w es) same ∙ alone_item p e begun (here p e (flat_map written_entries xs) follows) told.0) ∙ h));
          place = omega (arith, same);
        }
  ]
  only_from p (Pair e y ∷ xs) follows begun told k i le h =
      let there = here p e (y ∷ flat_map written_entries xs) follows in
      let rest = tail p e (y ∷ flat_map written_entries xs) follows in
      let other : begins w es (suc p) ≡ false = next p e begun there ∙ ap not told.0 in
      elim (cases_lt (suc p) k) [
        | inl more ↦
            let r = only_from (suc (suc p)) xs (tail (suc p) y (flat_map written_entries xs) rest) (after_pair p other) told.1 k i (omega (arith, more)) h in
            let place = r.place in
            record { index = suc r.index; one = r.one; here = r.here; is = r.is; place = omega (arith, place) }
        | inr less ↦ elim (cases_lt p k) [
          | inl one ↦
              let same : k ≡ suc p = omega (arith, one, less) in
              absurd (none-some i (sym (ap (item_at w es) same ∙ not_begun (suc p) other) ∙ h))
          | inr none ↦
              let same : k ≡ p = omega (arith, le, none) in
              record {
                index = 0;
                one = Pair e y;
                here = refl;
                is = sym (same_Some (item_of (Pair e y)) i (sym (ap (item_at w es) same ∙ pair_item p e y begun there (here (suc p) y (flat_map written_entries xs) rest) told.0) ∙ h));
                place = omega (arith, same);
              }
        ]
      ]

-- the items of a whole table
pub item_there : (w : Word) (xs : List Written) → AllByRecursion (IsTold w) xs → (j : ℕ) (x : Written) → slice_get xs j ≡ Some x → item_at w (flat_map written_entries xs) (begin_of xs j) ≡ Some (item_of x)
item_there w xs told j x h =
    let z : 0 + begin_of xs j ≡ begin_of xs j = omega arith in
    ap (item_at w (flat_map written_entries xs)) (sym z)
    ∙ there_from w (flat_map written_entries xs) 0 xs (λ i. let e : 0 + i ≡ i = omega arith in ap (slice_get (flat_map written_entries xs)) e) refl told j x h

pub item_only : (w : Word) (xs : List Written) → AllByRecursion (IsTold w) xs → (k : ℕ) (i : Item) → item_at w (flat_map written_entries xs) k ≡ Some i → IsItem xs 0 k i
item_only w xs told k i h =
    only_from w (flat_map written_entries xs) 0 xs (λ i. let e : 0 + i ≡ i = omega arith in ap (slice_get (flat_map written_entries xs)) e) refl told k i (omega arith) h

-- an item that is there begins with an entry that is there
pub item_inside : (w : Word) (es : List RelocationInfo) (k : ℕ) (i : Item) → item_at w es k ≡ Some i → (e : RelocationInfo) × (slice_get es k ≡ Some e)
unfolding item_at
item_inside w es k i h = by (begins w es k) (slice_get es k) refl h
  where
    by : (b : Bool) (o : Option RelocationInfo) → slice_get es k ≡ o → cond b (option_map (item_with w es k) o) None ≡ Some i → (e : RelocationInfo) × (slice_get es k ≡ Some e)
    by b o h e = grind arith
