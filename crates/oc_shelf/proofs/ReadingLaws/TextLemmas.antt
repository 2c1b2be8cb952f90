-- The text that ends at the first NUL.
use Rattle.std.proofs.Common.{◌≡◌, ℕ, zero, suc, ◌+◌, ◌<◌, ◌≤◌, true, false, cond, eqb, List, [], ◌∷◌, length, get_or, take, drop, Option, Some, None, refl, sym, ◌∙◌, ap, arith, eq-eqb, min, length-take, length-drop, Bool}
use Rattle.std.specs.{Option.{option_map}, Prelude.{nat_le}}
use Rattle.std.proofs.lemmas.{Bool.{eqb-true, le-leb}, Bool.Decides.{nat_tests}, List.{take-take, get_or-take, get_or-drop}, Option.{none-some, same_Some}}
use Rattle.memchr.specs.Find.{is_byte, NoneBefore, Passes}
use Rattle.oc_base.specs.Texts.{HasNoTextAt}
use Rattle.oc_shelf.specs.Reading.Texts.{text_within, text_at, short}

other : (x : ℕ) → (x ≡ 0 → ⊥) → eqb x 0 ≡ false
other x ne = elim (eqb x 0) as (λ b. eqb x 0 ≡ b → eqb x 0 ≡ false) [ true ↦ λ e. absurd (ne (eqb-true x 0 e)) | false ↦ λ e. e ] refl

-- the text ends at the first NUL
pub text_found : (xs : List ℕ) (k : ℕ) → k < length xs → get_or xs k 0 ≡ 0 → ((j : ℕ) → j < k → get_or xs j 0 ≡ 0 → ⊥) → text_within xs ≡ Some (take k xs)
text_found [] k l nul none = absurd (omega arith)
text_found (x ∷ xs) zero l nul none =
    ap (λ b. cond b (Some []) (option_map (λ (text : List ℕ). x ∷ text) (text_within xs))) (eq-eqb x 0 nul)
text_found (x ∷ xs) (suc k) l nul none =
    ap (λ b. cond b (Some []) (option_map (λ (text : List ℕ). x ∷ text) (text_within xs))) (other x (none 0 (omega arith)))
    ∙ ap (option_map (λ (text : List ℕ). x ∷ text)) (text_found xs k (omega arith) nul (λ j low. none (suc j) (omega arith)))

longer : (most : ℕ) (x : ℕ) (o : Option (List ℕ)) → short most o ≡ None → short (suc most) (option_map (λ (text : List ℕ). x ∷ text) o) ≡ None
longer most x None e = refl
longer most x (Some n) e = grind (arith, nat_tests)

alone : (x : ℕ) (o : Option (List ℕ)) → short 0 (option_map (λ (text : List ℕ). x ∷ text) o) ≡ None
alone x None = refl
alone x (Some n) = grind (arith, nat_tests)

-- where no NUL stands among the first bytes, the text is longer, or there is none
pub text_longer : (xs : List ℕ) (most : ℕ) → ((j : ℕ) → j < most + 1 → j < length xs → get_or xs j 0 ≡ 0 → ⊥) → short most (text_within xs) ≡ None
text_longer [] most none = refl
text_longer (x ∷ xs) zero none =
    ap (λ b. short 0 (cond b (Some []) (option_map (λ (text : List ℕ). x ∷ text) (text_within xs)))) (other x (none 0 (omega arith) (omega arith)))
    ∙ alone x (text_within xs)
text_longer (x ∷ xs) (suc most) none =
    ap (λ b. short (suc most) (cond b (Some []) (option_map (λ (text : List ℕ). x ∷ text) (text_within xs)))) (other x (none 0 (omega arith) (omega arith)))
    ∙ longer most x (text_within xs) (text_longer xs most (λ j low high. none (suc j) (omega arith) (omega arith)))

-- the first NUL of a window of the bytes ends the text, where the window is long enough
pub short_found : (xs : List ℕ) (most m end : ℕ) → m ≤ most + 1 → NoneBefore (Passes (is_byte 0) (take m xs)) 0 (length (take m xs)) end → Passes (is_byte 0) (take m xs) end
    → short most (text_within xs) ≡ Some (take end (take m xs))
short_found xs most m end wide first here =
    let size : length (take m xs) ≡ min m (length xs) = length-take m xs in
    let high : end < length (take m xs) = first.high in
    let low : end < m = omega arith in
    let nul : get_or xs end 0 ≡ 0 = sym (get_or-take m xs end 0 low) ∙ eqb-true (get_or (take m xs) end 0) 0 here in
    let none : (j : ℕ) → j < end → get_or xs j 0 ≡ 0 → ⊥
    = λ j below is. first.before j (omega arith) below (eq-eqb (get_or (take m xs) j 0) 0 (get_or-take m xs j 0 (omega arith) ∙ is)) in
    let whole : take end (take m xs) ≡ take end xs = take-take end m xs (omega arith) in
    let fits : length (take end xs) ≤ most = omega (arith, length-take end xs) in
    ap (short most) (text_found xs end (omega arith) nul none)
    ∙ ap (λ b. cond b (Some (take end xs)) None) (le-leb (length (take end xs)) most fits)
    ∙ ap Some (sym whole)

-- where a window has no NUL and is long enough, the text is longer, or there is none
pub short_none : (xs : List ℕ) (most m : ℕ) → min (length xs) (most + 1) ≤ m → ((k : ℕ) → 0 ≤ k → k < length (take m xs) → Passes (is_byte 0) (take m xs) k → ⊥)
    → short most (text_within xs) ≡ None
short_none xs most m wide none =
    text_longer xs most (λ j low high nul.
    let below : j < m = omega arith in
    none j (omega arith) (omega (arith, length-take m xs)) (eq-eqb (get_or (take m xs) j 0) 0 (get_or-take m xs j 0 below ∙ nul)))

-- and where it finds none, there is none
pub view_none : (b : List ℕ) (at : ℕ) → HasNoTextAt b at → text_at b at ≡ None
view_none b at none = by (drop at b) (λ j low e. none (at + j) (omega arith) (let wide = length-drop at b in omega (arith, low, wide)) (sym (get_or-drop at b j 0) ∙ e))
  where
    by : (xs : List ℕ) → ((j : ℕ) → j < length xs → get_or xs j 0 ≡ 0 → ⊥) → text_within xs ≡ None
    by [] free = refl
    by (x ∷ xs) free =
        ap (λ b. cond b (Some []) (option_map (λ (text : List ℕ). x ∷ text) (text_within xs))) (other x (free 0 (omega arith)))
        ∙ ap (option_map (λ (text : List ℕ). x ∷ text)) (by xs (λ j low. free (suc j) (omega (arith, low))))

text_length : (xs text : List ℕ) → text_within xs ≡ Some text → length text ≤ length xs
text_length [] text e = absurd (none-some text e)
text_length (x ∷ xs) text e = by (eqb x 0) (text_within xs) (text_length xs) e
  where
    by : (b : Bool) (o : Option (List ℕ)) → ((rest : List ℕ) → o ≡ Some rest → length rest ≤ length xs) → cond b (Some []) (option_map (λ text. x ∷ text) o) ≡ Some text
        → length text ≤ suc (length xs)
    by true o rest f = let long : 0 ≡ length text = ap length (same_Some [] text f) in omega (arith, long)
    by false None rest f = absurd (none-some text f)
    by false (Some r) rest f = let long : suc (length r) ≡ length text = ap length (same_Some (x ∷ r) text f) in omega (arith, long, rest r refl)

-- no text is too long for the bytes in which it stands
pub whole_text : (bytes : List ℕ) (at : ℕ) → short (length bytes) (text_at bytes at) ≡ text_at bytes at
whole_text bytes at = by (text_at bytes at) refl
  where
    by : (o : Option (List ℕ)) → text_at bytes at ≡ o → short (length bytes) o ≡ o
    by None e = refl
    by (Some text) e =
        let low = text_length (drop at bytes) text e in
        let long : length text ≤ length bytes = omega (arith, low, length-drop at bytes) in
        let le : nat_le (length text) (length bytes) ≡ true = grind (arith, nat_tests) in
        ap (λ b. cond b (Some text) None) le
