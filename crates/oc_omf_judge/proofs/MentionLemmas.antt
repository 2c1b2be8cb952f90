-- The symbols that a module mentions, by their numbers.
use Rattle.std.proofs.Common.{◌≡◌, ℕ, zero, suc, ◌+◌, Bool, true, false, cond, List, [], ◌∷◌, ◌++◌, map, Some, refl, sym, ◌∙◌, ap, subst, arith}
use Rattle.std.specs.{Prelude.{◌&&◌, ◌||◌, eqb, not, bytes_eq, flat_map, fold, nat_eq, slice_get}, List.{enumerate_from, list_any}}
use Rattle.std.proofs.lemmas.{Bool.{true≢false, and_parts}, Bool.Decides.{nat_tests}, Option.{none-some, same_Some}, Slice.Eq.{bytes_eq-Decides}}
use Rattle.std.proofs.lemmas.List.Folds.{list_any-append}
use Rattle.oc_linking.specs.Values.{numbered}
use Rattle.oc_shelf.proofs.WritingLaws.MemberLemmas.{each_flat_map, member_flat_map, member_map, member_second}
use Rattle.oc_omf.specs.{Structures.{External}, Entries.{Entry, all_read}, Tables.{Tables, tables_of}}
use Rattle.oc_omf.specs.Symbols.{Mention, agree, entry_mentions, external_mention, mentions_in, number_of, public_mention, same_symbol, symbol_of, with_new}

-- ... one symbol

agree_is : (a b : Bool) → agree a b ≡ true → a ≡ b
agree_is true true e = refl
agree_is true false e = absurd (true≢false (sym e))
agree_is false true e = absurd (true≢false (sym e))
agree_is false false e = refl

pub agree_self : (a : Bool) → agree a a ≡ true
agree_self true = refl
agree_self false = refl

pub same_is : (x y : Mention) → same_symbol x y ≡ true → x ≡ y
same_is x y e =
    let both = and_parts (agree x.local y.local) (bytes_eq x.name y.name) e in
    ap (λ (l : Bool). record { local = l; name = x.name }) (agree_is x.local y.local both.0) ∙ ap (λ (name : List ℕ). record { local = y.local; name = name }) ((bytes_eq-Decides x.name y.name).0 both.1)

pub same_self : (x : Mention) → same_symbol x x ≡ true
same_self x = ap (λ b. b && bytes_eq x.name x.name) (agree_self x.local) ∙ (bytes_eq-Decides x.name x.name).1 refl

-- ... the symbols of a module

-- a symbol is among these
abbrev pub IsAmong : List Mention → Mention → Type 0
IsAmong ms x = list_any (same_symbol x) ms ≡ true

stays_new : (x y : Mention) (ms : List Mention) → IsAmong ms x → IsAmong (with_new ms y) x
stays_new x y ms there = by (list_any (same_symbol y) ms)
  where
    by : (b : Bool) → list_any (same_symbol x) (cond b ms (ms ++ y ∷ [])) ≡ true
    by true = there
    by false = list_any-append (same_symbol x) ms (y ∷ []) ∙ ap (λ b. b || (same_symbol x y || false)) there

is_new : (x : Mention) (ms : List Mention) → IsAmong (with_new ms x) x
is_new x ms = by (list_any (same_symbol x) ms) refl
  where
    or_true : (a : Bool) → (a || true) ≡ true
    or_true true = refl
    or_true false = refl

    by : (b : Bool) → list_any (same_symbol x) ms ≡ b → list_any (same_symbol x) (cond b ms (ms ++ x ∷ [])) ≡ true
    by true e = e
    by false e = list_any-append (same_symbol x) ms (x ∷ []) ∙ ap (λ b. list_any (same_symbol x) ms || (b || false)) (same_self x) ∙ or_true (list_any (same_symbol x) ms)

stays : (x : Mention) (init ms : List Mention) → IsAmong init x → IsAmong (fold with_new init ms) x
stays x init [] there = there
stays x init (m ∷ ms) there = stays x (with_new init m) ms (stays_new x m init there)

comes : (init ms : List Mention) (k : ℕ) (x : Mention) → slice_get ms k ≡ Some x → IsAmong (fold with_new init ms) x
comes init [] k x here = absurd (none-some x here)
comes init (m ∷ ms) zero x here = stays x (with_new init m) ms (subst (λ (z : Mention). IsAmong (with_new init m) z) (same_Some m x here) (is_new m init))
comes init (m ∷ ms) (suc k) x here = comes (with_new init m) ms k x here

-- each external is among them
pub external_mentioned : (es : List Entry) (k : ℕ) (y : External) → slice_get (tables_of es).externals k ≡ Some y → IsAmong (mentions_in es) (external_mention y)
unfolding tables_of mentions_in
external_mentioned es =
    each_flat_map (λ y. IsAmong (mentions_in es) (external_mention y)) (λ (e : Entry). all_read e.externals) es (λ j e here k y there.
    let m = member_flat_map entry_mentions es j _ e (external_mention y) here
    (member_second (map public_mention (all_read e.publics)) (map external_mention (all_read e.externals)) k (external_mention y) (member_map external_mention (all_read e.externals) k y there)) in
    comes [] (flat_map entry_mentions es) m.0 (external_mention y) m.1)

-- ... numbers

-- the symbol of the number of one that is among them
numbered_from : (t : Tables) (m : ℕ) (ms : List Mention) (x : Mention) → IsAmong ms x → numbered (map (symbol_of t) (enumerate_from m ms)) (m + number_of ms x) ≡ Some (symbol_of t (m + number_of ms x, x))
numbered_from t m [] x there = absurd (true≢false (sym there))
numbered_from t m (y ∷ ms) x there = by (same_symbol x y) refl there (numbered_from t (m + 1) ms x)
  where
    by : (b : Bool) → same_symbol x y ≡ b → (b || list_any (same_symbol x) ms) ≡ true
        → (IsAmong ms x → numbered (map (symbol_of t) (enumerate_from (m + 1) ms)) (m + 1 + number_of ms x) ≡ Some (symbol_of t (m + 1 + number_of ms x, x)))
        → cond (eqb m (m + cond (not b) (1 + number_of ms x) 0)) (Some (symbol_of t (m, y))) (numbered (map (symbol_of t) (enumerate_from (m + 1) ms)) (m + cond (not b) (1 + number_of ms x) 0))
        ≡ Some (symbol_of t (m + cond (not b) (1 + number_of ms x) 0, x))
    by true e f rest =
        let own : m + 0 ≡ m = omega arith in
        let test : eqb m (m + 0) ≡ true = grind (arith, nat_tests) in
        ap (λ b. cond b (Some (symbol_of t (m, y))) (numbered (map (symbol_of t) (enumerate_from (m + 1) ms)) (m + 0))) test
        ∙ ap (λ (z : Mention). Some (symbol_of t (m, z))) (sym (same_is x y e)) ∙ ap (λ (k : ℕ). Some (symbol_of t (k, x))) (sym own)
    by false e f rest =
        let next : m + 1 + number_of ms x ≡ m + (1 + number_of ms x) = omega arith in
        let test : eqb m (m + (1 + number_of ms x)) ≡ false = grind (arith, nat_tests) in
        ap (λ b. cond b (Some (symbol_of t (m, y))) (numbered (map (symbol_of t) (enumerate_from (m + 1) ms)) (m + (1 + number_of ms x)))) test
        ∙ ap (λ (k : ℕ). numbered (map (symbol_of t) (enumerate_from (m + 1) ms)) k) (sym next) ∙ rest f ∙ ap (λ (k : ℕ). Some (symbol_of t (k, x))) next

pub numbered_among : (t : Tables) (ms : List Mention) (x : Mention) → IsAmong ms x → numbered (map (symbol_of t) (enumerate_from 0 ms)) (number_of ms x) ≡ Some (symbol_of t (number_of ms x, x))
numbered_among t ms x there =
    let own : 0 + number_of ms x ≡ number_of ms x = omega arith in
    subst (λ (k : ℕ). numbered (map (symbol_of t) (enumerate_from 0 ms)) k ≡ Some (symbol_of t (k, x))) own (numbered_from t 0 ms x there)

-- two have one number exactly where they are one
pub same_number : (ms : List Mention) (x y : Mention) → IsAmong ms x → IsAmong ms y → nat_eq (number_of ms x) (number_of ms y) ≡ same_symbol x y
same_number [] x y here there = absurd (true≢false (sym here))
same_number (z ∷ ms) x y here there = by (same_symbol x z) (same_symbol y z) refl refl here there (same_number ms x y)
  where
    by : (a b : Bool) → same_symbol x z ≡ a → same_symbol y z ≡ b → (a || list_any (same_symbol x) ms) ≡ true → (b || list_any (same_symbol y) ms) ≡ true
        → (IsAmong ms x → IsAmong ms y → nat_eq (number_of ms x) (number_of ms y) ≡ same_symbol x y)
        → nat_eq (cond (not a) (1 + number_of ms x) 0) (cond (not b) (1 + number_of ms y) 0) ≡ same_symbol x y
    by true true e f g h rest = sym (ap (λ (u : Mention). same_symbol u y) (same_is x z e ∙ sym (same_is y z f)) ∙ same_self y)
    by true false e f g h rest =
        let test : nat_eq 0 (1 + number_of ms y) ≡ false = grind (arith, nat_tests) in
        test ∙ sym (apart (same_symbol x y) refl)
      where
        apart : (s : Bool) → same_symbol x y ≡ s → s ≡ false
        apart false i = refl
        apart true i = absurd (true≢false (sym e ∙ ap (λ (u : Mention). same_symbol u z) (same_is x y i) ∙ f))
    by false true e f g h rest =
        let test : nat_eq (1 + number_of ms x) 0 ≡ false = grind (arith, nat_tests) in
        test ∙ sym (apart (same_symbol x y) refl)
      where
        apart : (s : Bool) → same_symbol x y ≡ s → s ≡ false
        apart false i = refl
        apart true i = absurd (true≢false (sym f ∙ ap (λ (u : Mention). same_symbol u z) (sym (same_is x y i)) ∙ e))
    by false false e f g h rest =
        let test : nat_eq (1 + number_of ms x) (1 + number_of ms y) ≡ nat_eq (number_of ms x) (number_of ms y) = grind (arith, nat_tests) in
        test ∙ rest g h
