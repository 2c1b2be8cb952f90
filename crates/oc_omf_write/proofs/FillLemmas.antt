-- Names that fill one entry after another.
use Rattle.std.proofs.Common.{◌≡◌, ℕ, zero, suc, ◌+◌, ◌-◌, ◌<◌, ◌≤◌, true, false, cond, nat_lt, List, [], ◌∷◌, ◌++◌, length, take, drop, map, Some, sym, ◌∙◌, ap, arith, append_assoc}
use Rattle.std.specs.{Prelude.{slice_get, slice_range}, List.{AllByRecursion}}
use Rattle.std.proofs.lemmas.{Bool.Decides.{nat_tests}, List.{drop_all}, List.Sums.{sum_by-append}, Option.{none-some, same_Some, slice_get_within}}
use Rattle.oc_neutral.proofs.{Positions.{each_at}, FieldLists.{drop_here}}
use Rattle.oc_omf_file.specs.Names.{names_size, filled_from}
use Rattle.oc_omf_file.proofs.ListLemmas.{all_both}
use Rattle.oc_omf_write.specs.{declared.entries.Entry.{Entry}, Names.{names_entry, texts_in, IsRange, AreAdded, AreShort}}
use Rattle.oc_plans.proofs.Turns.{map_append}

-- ... ranges

get_drop : (a j : ℕ) (xs : List (List ℕ)) (x : List ℕ) → slice_get xs (a + j) ≡ Some x → slice_get (drop a xs) j ≡ Some x
get_drop zero j xs x here = let e : 0 + j ≡ j = omega arith in sym (ap (slice_get xs) e) ∙ here
get_drop (suc a) j [] x here = absurd (none-some x here)
get_drop (suc a) j (y ∷ xs) x here = let e : suc a + j ≡ suc (a + j) = omega arith in get_drop a j xs x (sym (ap (slice_get (y ∷ xs)) e) ∙ here)

take_more : (k : ℕ) (xs : List (List ℕ)) (x : List ℕ) → slice_get xs k ≡ Some x → take (suc k) xs ≡ take k xs ++ x ∷ []
take_more k [] x here = absurd (none-some x here)
take_more zero (y ∷ xs) x here = ap (λ z. z ∷ []) (same_Some y x here)
take_more (suc k) (y ∷ xs) x here = ap (λ ys. y ∷ ys) (take_more k xs x here)

-- one text more
range_more : (xs : List (List ℕ)) (from k : ℕ) (x : List ℕ) → from ≤ k → slice_get xs k ≡ Some x → slice_range xs from (k + 1) ≡ slice_range xs from k ++ x ∷ []
range_more xs from k x le here =
    let more : k + 1 - from ≡ suc (k - from) = omega (arith, le) in
    let e : from + (k - from) ≡ k = omega (arith, le) in
    ap (λ m. take m (drop from xs)) more ∙ take_more (k - from) (drop from xs) x (get_drop from (k - from) xs x (ap (slice_get xs) e ∙ here))

-- a range that begins with its one text
range_one : (xs : List (List ℕ)) (k : ℕ) (x : List ℕ) → slice_get xs k ≡ Some x → slice_range xs k (k + 1) ≡ x ∷ []
range_one xs k x here =
    let none : k - k ≡ 0 = omega arith in
    range_more xs k k x (omega arith) here ∙ ap (λ m. take m (drop k xs) ++ x ∷ []) none

-- ... filling

-- entries of the names before position k, of which those from `from` on have `size` bytes and no entry yet
pub record IsFilling (texts : List (List ℕ)) (old now : List Entry) (from k size : ℕ) : Type 0 where
  pub ranges : List (ℕ × ℕ)
  pub added : now ≡ old ++ map names_entry ranges
  pub filled : map (texts_in texts) ranges ++ filled_from (slice_range texts from k) (drop k texts) ≡ filled_from [] texts
  pub inside : AllByRecursion (IsRange (length texts)) ranges
  pub order : from ≤ k
  pub measured : size ≡ names_size (slice_range texts from k)
  pub low : size ≤ 1024

module _ (texts : List (List ℕ)) (short : AreShort texts) (old now : List Entry) (from k size : ℕ) (is : IsFilling texts old now from k size) (x : List ℕ) (here : slice_get texts k ≡ Some x) where
  abbrev held : List (List ℕ)
  held = slice_range texts from k

  small : length x ≤ 255
  small = each_at (λ (text : List ℕ). length text ≤ 255) texts k x short here

  step : map (texts_in texts) is.ranges ++ cond (nat_lt 1024 (names_size held + 1 + length x)) (held ∷ filled_from (x ∷ []) (drop (k + 1) texts)) (filled_from (held ++ x ∷ []) (drop (k + 1) texts)) ≡ filled_from [] texts
  step = ap (λ rest. map (texts_in texts) is.ranges ++ filled_from held rest) (sym (drop_here texts k x here)) ∙ is.filled

  -- the name has room in the entry
  pub filling_fits : size + (1 + length x) ≤ 1024 → IsFilling texts old now from (k + 1) (size + (1 + length x))
  filling_fits room =
      let measured = is.measured in
      let order = is.order in
      let fits : nat_lt 1024 (names_size held + 1 + length x) ≡ false = (let low : names_size held + 1 + length x ≤ 1024 = omega (arith, measured, room) in grind (arith, nat_tests, low)) in
      let more = range_more texts from k x order here in
      record {
        ranges = is.ranges;
        added = is.added;
        filled =
            ap (λ h. map (texts_in texts) is.ranges ++ filled_from h (drop (k + 1) texts)) more
            ∙ sym (ap (λ b. map (texts_in texts) is.ranges ++ cond b (held ∷ filled_from (x ∷ []) (drop (k + 1) texts)) (filled_from (held ++ x ∷ []) (drop (k + 1) texts))) fits)
            ∙ step;
        inside = is.inside;
        order = omega (arith, order);
        measured =
            let all = ap names_size more ∙ sum_by-append (λ (name : List ℕ). 1 + length name) held (x ∷ []) in
            omega (arith, measured, all);
        low = room;
      }

  -- it begins another entry
  pub filling_breaks : 1024 < size + (1 + length x) → (after : List Entry) → after ≡ now ++ names_entry (from, k) ∷ [] → IsFilling texts old after k (k + 1) (0 + (1 + length x))
  filling_breaks full after pushed =
      let measured = is.measured in
      let order = is.order in
      let low = slice_get_within texts k x here in
      let own = small in
      let breaks : nat_lt 1024 (names_size held + 1 + length x) ≡ true = (let high : 1024 < names_size held + 1 + length x = omega (arith, measured, full) in grind (arith, nat_tests, high)) in
      let one = range_one texts k x here in
      record {
        ranges = is.ranges ++ (from, k) ∷ [];
        added = pushed ∙ ap (λ es. es ++ names_entry (from, k) ∷ []) is.added ∙ append_assoc old (map names_entry is.ranges) (names_entry (from, k) ∷ []) ∙ ap (λ es. old ++ es) (sym (map_append names_entry is.ranges ((from, k) ∷ [])));
        filled =
            ap (λ h. map (texts_in texts) (is.ranges ++ (from, k) ∷ []) ++ filled_from h (drop (k + 1) texts)) one
            ∙ ap (λ xs. xs ++ filled_from (x ∷ []) (drop (k + 1) texts)) (map_append (texts_in texts) is.ranges ((from, k) ∷ []))
            ∙ append_assoc (map (texts_in texts) is.ranges) (held ∷ []) (filled_from (x ∷ []) (drop (k + 1) texts))
            ∙ sym (ap (λ b. map (texts_in texts) is.ranges ++ cond b (held ∷ filled_from (x ∷ []) (drop (k + 1) texts)) (filled_from (held ++ x ∷ []) (drop (k + 1) texts))) breaks)
            ∙ step;
        inside = all_both (IsRange (length texts)) is.ranges ((from, k) ∷ []) is.inside ((order, omega (arith, low)), tt);
        order = omega arith;
        measured = let all = ap names_size one in omega (arith, all);
        low = omega (arith, own);
      }

-- behind the last name its entry is added
pub filling_done : (texts : List (List ℕ)) (old now : List Entry) (from k size : ℕ) → IsFilling texts old now from k size → k ≡ length texts → (after : List Entry) → after ≡ now ++ names_entry (from, k) ∷ [] → AreAdded texts old after
filling_done texts old now from k size is end after pushed =
    let order = is.order in
    record {
      ranges = is.ranges ++ (from, k) ∷ [];
      added = pushed ∙ ap (λ es. es ++ names_entry (from, k) ∷ []) is.added ∙ append_assoc old (map names_entry is.ranges) (names_entry (from, k) ∷ []) ∙ ap (λ es. old ++ es) (sym (map_append names_entry is.ranges ((from, k) ∷ [])));
      filled =
          map_append (texts_in texts) is.ranges ((from, k) ∷ [])
          ∙ sym (ap (λ rest. map (texts_in texts) is.ranges ++ filled_from (slice_range texts from k) rest) (drop_all k texts (omega (arith, end))))
          ∙ is.filled;
      inside = all_both (IsRange (length texts)) is.ranges ((from, k) ∷ []) is.inside ((order, omega (arith, end)), tt);
    }
