-- Names among the strings.
use Rattle.std.proofs.Common.{◌≡◌, ℕ, zero, suc, ◌+◌, ◌-◌, ◌<◌, ◌≤◌, Bool, true, false, cond, eqb, List, [], ◌∷◌, length, drop, get_or, Option, None, Some, refl, sym, ◌∙◌, ap, arith, length-drop, Decides}
use Rattle.std.specs.{Prelude.{bytes_eq, is_some, nat_eq, nat_le}, Option.{option_map, unwrap_or}}
use Rattle.std.proofs.lemmas.{Bool.{eq-eqb, ne_eqb, true≢false}, List.{get_or-drop}, Slice.Eq.{bytes_eq-Decides}, Bool.Decides.{nat_tests}, Option.{none-some}}
use Rattle.oc_shelf.specs.Reading.Texts.{text_within, text_at, short}

-- a text of at most so many bytes is that text
pub short_is : (most : ℕ) (o : Option (List ℕ)) (text : List ℕ) → short most o ≡ Some text → o ≡ Some text
short_is most None text e = absurd (none-some text e)
short_is most (Some x) text e = by (nat_le (length x) most) e
  where
    by : (b : Bool) → cond b (Some x) None ≡ Some text → Some x ≡ Some text
    by true e = e
    by false e = absurd (none-some text e)

-- where it is not there, or longer than a name, it is not that name
pub long_differs : (o : Option (List ℕ)) (name : List ℕ) → 1 ≤ length name → short (length name) o ≡ None → bytes_eq (unwrap_or o []) name ≡ false
long_differs None [] some e = absurd (omega (arith, some))
long_differs None (x ∷ name) some e = refl
long_differs (Some text) name some e = by (nat_le (length text) (length name)) refl e
  where
    by : (b : Bool) → nat_le (length text) (length name) ≡ b → cond b (Some text) None ≡ None → bytes_eq text name ≡ false
    by true is e = absurd (none-some text (sym e))
    by false is e = not_same (bytes_eq text name) (bytes_eq-Decides text name) (λ same. let long = ap length same in true≢false (sym (le_same (length text) (length name) long) ∙ is))
      where
        le_same : (a b : ℕ) → a ≡ b → nat_le a b ≡ true
        le_same a b e = grind (arith, nat_tests)

        not_same : (b : Bool) → Decides b (text ≡ name) → (text ≡ name → ⊥) → b ≡ false
        not_same true d absent = absurd (absent (d.0 refl))
        not_same false d absent = refl

-- ... where texts end

-- a text begins before each NUL
within_some : (xs : List ℕ) (i : ℕ) → i < length xs → get_or xs i 0 ≡ 0 → is_some (text_within xs) ≡ true
within_some [] i low is = absurd (omega (arith, low))
within_some (x ∷ xs) zero low is = rw (eq-eqb x 0 is) refl
within_some (x ∷ xs) (suc i) low is = by (eqb x 0) (text_within xs) (within_some xs i (omega (arith, low)) is)
  where
    by : (b : Bool) (o : Option (List ℕ)) → is_some o ≡ true → is_some (cond b (Some []) (option_map (λ text. x ∷ text) o)) ≡ true
    by true o e = refl
    by false (Some y) e = refl
    by false None e = e

within_none : (xs : List ℕ) → ((i : ℕ) → i < length xs → get_or xs i 0 ≡ 0 → ⊥) → text_within xs ≡ None
within_none [] absent = refl
within_none (x ∷ xs) absent = rw (ne_eqb x 0 (absent 0 (omega arith)), within_none xs (λ i low is. absent (suc i) (omega (arith, low)) is)) refl

pub texts_from : (xs : List ℕ) (at last : ℕ) → at ≤ last → last < length xs → get_or xs last 0 ≡ 0 → is_some (text_at xs at) ≡ true
texts_from xs at last le low is =
    let there : last - at < length (drop at xs) = omega (arith, le, low, length-drop at xs) in
    let same : at + (last - at) ≡ last = omega (arith, le) in
    within_some (drop at xs) (last - at) there (get_or-drop at xs (last - at) 0 ∙ ap (λ (k : ℕ). get_or xs k 0) same ∙ is)

pub texts_none : (xs : List ℕ) (at : ℕ) → ((k : ℕ) → at ≤ k → k < length xs → get_or xs k 0 ≡ 0 → ⊥) → text_at xs at ≡ None
texts_none xs at absent = within_none (drop at xs) (λ i low is. absent (at + i) (omega arith) (omega (arith, low, length-drop at xs)) (sym (get_or-drop at xs i 0) ∙ is))

-- a text that is there is empty exactly where its first byte is a NUL
pub empty_at : (xs : List ℕ) (at : ℕ) → is_some (text_at xs at) ≡ true → nat_eq (get_or xs at 0) 0 ≡ bytes_eq (unwrap_or (text_at xs at) []) []
empty_at [] zero is = absurd (true≢false (sym is))
empty_at [] (suc at) is = absurd (true≢false (sym is))
empty_at (x ∷ xs) zero is = by (eqb x 0) (text_within xs) is
  where
    by : (b : Bool) (o : Option (List ℕ)) → is_some (cond b (Some []) (option_map (λ text. x ∷ text) o)) ≡ true → b ≡ bytes_eq (unwrap_or (cond b (Some []) (option_map (λ text. x ∷ text) o)) []) []
    by true o e = refl
    by false (Some y) e = refl
    by false None e = absurd (true≢false (sym e))
empty_at (x ∷ xs) (suc at) is = empty_at xs at is
