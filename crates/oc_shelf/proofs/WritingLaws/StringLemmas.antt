-- Names in string tables, and names that are cut off by NULs.
use Rattle.std.proofs.Common.{◌≡◌, ℕ, zero, suc, ◌-◌, ◌≤◌, Bool, true, false, cond, eqb, List, [], ◌∷◌, ◌++◌, length, Option, Some, None, refl, sym, ◌∙◌, ap, subst, inl, inr, ◌⊎◌, arith, append_assoc}
use Rattle.std.specs.{Prelude.{slice_get, nat_eq, not, ◌||◌}, List.{list_any, filter}, Cmp.Lexicographic.{pointwise}, Option.{is_some, option_map, unwrap_or}}
use Rattle.std.proofs.lemmas.{Bool.{true≢false, or_left, or_right, ne_eqb, eqb-false, or_parts}, Option.{none-some, same_Some}}
use Rattle.oc_base.specs.Strings.{is_given, tops_of, place_from, table_text, table_place}
use Rattle.oc_strings.proofs.{GivenLemmas.{name_itself}, PlaceLaws.{stands, given_place}}
use Rattle.oc_shelf.specs.{Reading.Texts.{text_at, text_within}, Writing.Parts.{Stands}}
use Rattle.oc_shelf.proofs.WritingLaws.StandingLemmas.{stands_drop, stands_second}

-- a NUL is among the bytes
abbrev pub has_nul : List ℕ → Bool
has_nul bytes = list_any (nat_eq 0) bytes

-- a name with a NUL behind it is what stands up to the first NUL
pub text_within-ended : (name rest : List ℕ) → has_nul name ≡ false → text_within (name ++ 0 ∷ rest) ≡ Some name
text_within-ended [] rest none = refl
text_within-ended (c ∷ name) rest none =
    let parts = or_parts (eqb 0 c) (has_nul name) none in
    let here : eqb c 0 ≡ false = ne_eqb c 0 (λ e. eqb-false 0 c parts.0 (sym e)) in
    ap (λ b. cond b (Some []) (option_map (λ (text : List ℕ). c ∷ text) (text_within (name ++ 0 ∷ rest)))) here
    ∙ ap (option_map (λ (text : List ℕ). c ∷ text)) (text_within-ended name rest parts.1)

-- a name that is there is given
pub member_given : (names : List (List ℕ)) (k : ℕ) (name : List ℕ) → slice_get names k ≡ Some name → is_given names name ≡ true
member_given [] k name here = absurd (none-some name here)
member_given (m ∷ names) zero name here = subst (λ x. is_given (m ∷ names) x ≡ true) (same_Some m name here) (or_left (pointwise nat_eq m m) (is_given names m) (name_itself m))
member_given (m ∷ names) (suc k) name here = or_right (pointwise nat_eq name m) (is_given names name) (member_given names k name here)

-- a name that is given and passes a test is among those that do
pub given_filtered : (test : List ℕ → Bool) (names : List (List ℕ)) (k : ℕ) (name : List ℕ) → slice_get names k ≡ Some name → test name ≡ true → is_given (filter test names) name ≡ true
given_filtered test [] k name here passes = absurd (none-some name here)
given_filtered test (m ∷ names) zero name here passes =
    let same : m ≡ name = same_Some m name here in
    let own : test m ≡ true = ap test same ∙ passes in
    rw own (subst (λ x. is_given (m ∷ filter test names) x ≡ true) same (or_left (pointwise nat_eq m m) (is_given (filter test names) m) (name_itself m)))
given_filtered test (m ∷ names) (suc k) name here passes = by (test m) (given_filtered test names k name here passes)
  where
    by : (b : Bool) → is_given (filter test names) name ≡ true → is_given (cond b (m ∷ filter test names) (filter test names)) name ≡ true
    by true g = or_right (pointwise nat_eq name m) (is_given (filter test names) name) g
    by false g = g

-- where a given name stands in the text of a table whose first text stands at `head`
pub record IsInTable (head : ℕ) (given : List (List ℕ)) (name : List ℕ) : Type 0 where
  pub above : head ≤ unwrap_or (table_place head given name) 0
  pub there : Stands (table_text given) (unwrap_or (table_place head given name) 0 - head) (name ++ 0 ∷ [])

pub name_in_table : (head : ℕ) (given : List (List ℕ)) (name : List ℕ) → is_given given name ≡ true → IsInTable head given name
unfolding table_text table_place
name_in_table head given name g =
    let same : table_place head given name ≡ place_from head (tops_of given) name = ap (λ b. cond b (place_from head (tops_of given) name) None) g in
    by (place_from head (tops_of given) name) refl same (given_place head given name g)
  where
    by : (o : Option ℕ) → place_from head (tops_of given) name ≡ o → table_place head given name ≡ place_from head (tops_of given) name
        → is_some (place_from head (tops_of given) name) ≡ true → IsInTable head given name
    by None e same s = absurd (true≢false (sym s ∙ ap is_some e))
    by (Some p) e same s =
        let at = stands head (tops_of given) name p e in
        let own : unwrap_or (table_place head given name) 0 ≡ p = ap (λ o. unwrap_or o 0) (same ∙ e) in
        record {
          above = omega (arith, own, at.above);
          there = record {
            front = at.there.front;
            back = at.there.back;
            is = at.there.is ∙ ap (λ zs. at.there.front ++ zs) (sym (append_assoc name (0 ∷ []) at.there.back));
            place = at.there.place ∙ ap (λ q. q - head) (sym own);
          };
        }

-- a text that stands in a file is read there
pub text_read : (file name : List ℕ) (at : ℕ) → Stands file at (name ++ 0 ∷ []) → has_nul name ≡ false → text_at file at ≡ Some name
text_read file name at s none =
    ap text_within (stands_drop file (name ++ 0 ∷ []) at s ∙ append_assoc name (0 ∷ []) s.back) ∙ text_within-ended name s.back none

-- a given name is read at its place in a string table, behind a head of its own
pub name_read : (head table : List ℕ) (given : List (List ℕ)) (name : List ℕ) → table ≡ head ++ table_text given → is_given given name ≡ true → has_nul name ≡ false
    → text_at table (unwrap_or (table_place (length head) given name) 0) ≡ Some name
name_read head table given name is g none =
    let t = name_in_table (length head) given name g in
    let at : ℕ = unwrap_or (table_place (length head) given name) 0 in
    let there : Stands (head ++ table_text given) at (name ++ 0 ∷ []) = stands_second head (table_text given) (name ++ 0 ∷ []) (at - length head) at t.there (omega (arith, t.above)) in
    ap (λ zs. text_at zs at) is ∙ text_read (head ++ table_text given) name at there none

-- the name has bytes
abbrev pub is_named : List ℕ → Bool
is_named name = not (nat_eq (length name) 0)

-- the empty name is not among those that have bytes
pub empty_not : (names : List (List ℕ)) → is_given (filter is_named names) [] ≡ false
empty_not [] = refl
empty_not ([] ∷ names) = empty_not names
empty_not ((c ∷ name) ∷ names) =
    let some : eqb (suc (length name)) 0 ≡ false = ne_eqb (suc (length name)) 0 (λ e. omega (arith, e)) in
    ap (λ b. is_given (cond (not b) ((c ∷ name) ∷ filter is_named names) (filter is_named names)) []) some ∙ empty_not names

-- a name is given, or is empty and is not given
pub name_given : (names : List (List ℕ)) (k : ℕ) (name : List ℕ) → slice_get names k ≡ Some name
    → (is_given (filter is_named names) name ≡ true) ⊎ ((name ≡ []) × (is_given (filter is_named names) name ≡ false))
name_given names k [] here = inr (refl, empty_not names)
name_given names k (c ∷ name) here =
    let some : eqb (suc (length name)) 0 ≡ false = ne_eqb (suc (length name)) 0 (λ e. omega (arith, e)) in
    inl (given_filtered is_named names k (c ∷ name) here (ap not some))
