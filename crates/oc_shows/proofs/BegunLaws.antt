-- The groups of a file, begun one after the other in the order of their first members.
use Rattle.std.proofs.Common.{◌≡◌, ℕ, zero, suc, ◌+◌, ◌<◌, ◌≤◌, Bool, true, false, cond, List, [], ◌∷◌, ◌++◌, length, map, set, Option, None, Some, refl, sym, ◌∙◌, ap, subst, arith, inl, inr}
use Rattle.std.specs.{Prelude.{◌||◌, bytes_eq, is_some, slice_index_or}, List.{position_or_len}}
use Rattle.std.proofs.lemmas.{Bool.{cases_eq, true≢false}, List.{append-nil, get_or-set_other, get_or-set_same, length-map, map-append}}
use Rattle.std.proofs.lemmas.Slice.Eq.{bytes_eq-Decides}
use Rattle.oc_base.specs.Strings.{is_given}
use Rattle.oc_linking.specs.Parts as parts
use Rattle.oc_shows.specs.Computed.{keys_after}
use Rattle.oc_shows.proofs.{KeyListLemmas.{new_last}, KeysMore.{keys_none, keys_some, position_stays}}
use Rattle.oc_shelf.specs.{Reading.Collected.{collected}, Reading.Slots.{place_in}}
use Rattle.oc_shelf.proofs.ReadingLaws.CollectedLemmas.{collected-none, collected-some, length-collected}

-- ... slots

-- a key that is given has a place, and one that has none is not given
pub placed_given : (keys : List (List ℕ)) (key : List ℕ) (o : Option ℕ) → o ≡ place_in keys key → is_some o ≡ is_given keys key
placed_given keys key o is = ap is_some is ∙ by (is_given keys key)
  where
    by : (b : Bool) → is_some (cond b (Some (position_or_len (bytes_eq key) keys)) None) ≡ b
    by b = grind arith

given_more : (keys : List (List ℕ)) (key other : List ℕ) → is_given (keys ++ key ∷ []) other ≡ (is_given keys other || bytes_eq other key)
given_more [] key other = or_none (bytes_eq other key)
  where
    or_none : (b : Bool) → (b || false) ≡ b
    or_none b = grind arith
given_more (k ∷ keys) key other = ap (λ b. bytes_eq other k || b) (given_more keys key other) ∙ assoc (bytes_eq other k) (is_given keys other) (bytes_eq other key)
  where
    assoc : (a b c : Bool) → (a || (b || c)) ≡ ((a || b) || c)
    assoc a b c = grind arith

pub or_true : (b : Bool) → (b || true) ≡ true
or_true b = grind arith

-- once the key of slot g is begun, each slot has the place of its key
pub slot_begun : (keys : List (List ℕ)) (slots : List (Option ℕ)) (g : ℕ) (key : List ℕ) → g < length slots → is_given keys key ≡ false
    → (h : ℕ) (other : List ℕ) → slice_index_or slots h None ≡ place_in keys other → (g ≡ h → key ≡ other) → (key ≡ other → g ≡ h)
    → slice_index_or (set slots g (Some (length keys))) h None ≡ place_in (keys ++ key ∷ []) other
slot_begun keys slots g key low new h other before there back = elim (cases_eq g h) [
  | inl same ↦
      subst (λ (j : ℕ). slice_index_or (set slots g (Some (length keys))) j None ≡ place_in (keys ++ key ∷ []) other) same
      (get_or-set_same slots g (Some (length keys)) None low
      ∙ ap Some (sym (new_last keys key new))
      ∙ sym (ap (λ b. cond b (Some (position_or_len (bytes_eq key) (keys ++ key ∷ []))) None) (given_more keys key key ∙ ap (λ b. is_given keys key || b) ((bytes_eq-Decides key key).1 refl) ∙ or_true (is_given keys key)))
      ∙ ap (place_in (keys ++ key ∷ [])) (there same))
  | inr ne ↦
      get_or-set_other slots g h (Some (length keys)) None (λ e. ne (sym e)) ∙ before
      ∙ stays (unlike (bytes_eq other key) (λ e. ne (back (sym ((bytes_eq-Decides other key).0 e))))) (is_given keys other) refl
]
  where
    unlike : (b : Bool) → (b ≡ true → ⊥) → b ≡ false
    unlike b unequal = grind arith

    stays : bytes_eq other key ≡ false → (b : Bool) → is_given keys other ≡ b → place_in keys other ≡ place_in (keys ++ key ∷ []) other
    stays apart true e =
        ap (λ b. cond b (Some (position_or_len (bytes_eq other) keys)) None) e
        ∙ ap Some (sym (position_stays keys (key ∷ []) other e))
        ∙ sym (ap (λ b. cond b (Some (position_or_len (bytes_eq other) (keys ++ key ∷ []))) None) (given_more keys key other ∙ ap (λ b. b || bytes_eq other key) e))
    stays apart false e =
        ap (λ b. cond b (Some (position_or_len (bytes_eq other) keys)) None) e
        ∙ sym (ap (λ b. cond b (Some (position_or_len (bytes_eq other) (keys ++ key ∷ []))) None) (given_more keys key other ∙ ap (λ b. b || bytes_eq other key) e ∙ apart))

-- ... keys

-- the keys of the carried ones among the first k sections
abbrev section_keys : (ℕ → Option parts.Section) → ℕ → List (Option (List ℕ))
section_keys section k = map (λ (s : parts.Section). s.group) (collected section k)

-- each once, in the order in which they begin
abbrev keys_upto : (ℕ → Option parts.Section) → ℕ → List (List ℕ)
keys_upto section k = keys_after [] (section_keys section k)

-- there are no more than sections
pub keys_few : (section : ℕ → Option parts.Section) (k : ℕ) → length (keys_upto section k) ≤ k
keys_few section k =
    let few = few_after [] (section_keys section k) in
    let keys = length-map (collected section k) (λ (s : parts.Section). s.group) in
    let count = length-collected section k in
    omega (arith, few, keys, count)
  where
    few_after : (before : List (List ℕ)) (xs : List (Option (List ℕ))) → length (keys_after before xs) ≤ length xs
    few_after before [] = omega arith
    few_after before (None ∷ xs) = let r = few_after before xs in omega (arith, r)
    few_after before (Some k ∷ xs) = by (is_given before k) (few_after before xs) (few_after (before ++ k ∷ []) xs)
      where
        by : (c : Bool) → length (keys_after before xs) ≤ length xs → length (keys_after (before ++ k ∷ []) xs) ≤ length xs
            → length (cond c (keys_after before xs) (k ∷ keys_after (before ++ k ∷ []) xs)) ≤ suc (length xs)
        by true old new = omega (arith, old)
        by false old new = omega (arith, new)

-- a section that is not carried begins none
pub keys_passed : (section : ℕ → Option parts.Section) (k : ℕ) → is_some (section k) ≡ false → keys_upto section (k + 1) ≡ keys_upto section k
keys_passed section k is = ap (λ (xs : List parts.Section). keys_after [] (map (λ (s : parts.Section). s.group) xs)) (collected-none section k (none_of (section k) is))
  where
    none_of : (o : Option parts.Section) → is_some o ≡ false → o ≡ None
    none_of o h = grind arith

module _ (section : ℕ → Option parts.Section) (key_at : ℕ → Option (List ℕ)) (own : (k : ℕ) (s : parts.Section) → section k ≡ Some s → s.group ≡ key_at k) where
  keys_pushed : (k : ℕ) → is_some (section k) ≡ true → section_keys section (k + 1) ≡ section_keys section k ++ key_at k ∷ []
  keys_pushed k is = by (section k) refl is
    where
      by : (o : Option parts.Section) → section k ≡ o → is_some o ≡ true → section_keys section (k + 1) ≡ section_keys section k ++ key_at k ∷ []
      by None e h = absurd (true≢false (sym h))
      by (Some s) e h =
          ap (λ (xs : List parts.Section). map (λ (s : parts.Section). s.group) xs) (collected-some section k s e)
          ∙ map-append (λ (s : parts.Section). s.group) (collected section k) (s ∷ [])
          ∙ ap (λ (g : Option (List ℕ)). section_keys section k ++ g ∷ []) (own k s e)

  -- nor does one without a key
  pub keys_alone : (k : ℕ) → is_some (section k) ≡ true → key_at k ≡ None → keys_upto section (k + 1) ≡ keys_upto section k
  keys_alone k is none =
      ap (keys_after []) (keys_pushed k is ∙ ap (λ (o : Option (List ℕ)). section_keys section k ++ o ∷ []) none) ∙ keys_none [] (section_keys section k)

  keys_with : (k : ℕ) (key : List ℕ) → is_some (section k) ≡ true → key_at k ≡ Some key → keys_upto section (k + 1) ≡ keys_upto section k ++ cond (is_given (keys_upto section k) key) [] (key ∷ [])
  keys_with k key is some =
      ap (keys_after []) (keys_pushed k is ∙ ap (λ (o : Option (List ℕ)). section_keys section k ++ o ∷ []) some) ∙ keys_some [] (section_keys section k) key

  -- or whose key is begun
  pub none_new : (k : ℕ) (key : List ℕ) → is_some (section k) ≡ true → key_at k ≡ Some key → is_given (keys_upto section k) key ≡ true → keys_upto section (k + 1) ≡ keys_upto section k
  none_new k key carried is given = keys_with k key carried is ∙ ap (λ b. keys_upto section k ++ cond b [] (key ∷ [])) given ∙ append-nil (keys_upto section k)

  -- else it begins
  pub one_new : (k : ℕ) (key : List ℕ) → is_some (section k) ≡ true → key_at k ≡ Some key → is_given (keys_upto section k) key ≡ false → keys_upto section (k + 1) ≡ keys_upto section k ++ key ∷ []
  one_new k key carried is new = keys_with k key carried is ∙ ap (λ b. keys_upto section k ++ cond b [] (key ∷ [])) new

  -- a key that is given stays
  given_step : (k : ℕ) (key : List ℕ) → is_given (keys_upto section k) key ≡ true → is_given (keys_upto section (k + 1)) key ≡ true
  given_step k key given = by (is_some (section k)) refl (key_at k) refl
    where
      by : (b : Bool) → is_some (section k) ≡ b → (o : Option (List ℕ)) → key_at k ≡ o → is_given (keys_upto section (k + 1)) key ≡ true
      by false e o g = ap (λ (keys : List (List ℕ)). is_given keys key) (keys_passed section k e) ∙ given
      by true e None g = ap (λ (keys : List (List ℕ)). is_given keys key) (keys_alone k e g) ∙ given
      by true e (Some other) g = ap (λ (keys : List (List ℕ)). is_given keys key) (keys_with k other e g) ∙ more (is_given (keys_upto section k) other)
        where
          more : (c : Bool) → is_given (keys_upto section k ++ cond c [] (other ∷ [])) key ≡ true
          more true = ap (λ (keys : List (List ℕ)). is_given keys key) (append-nil (keys_upto section k)) ∙ given
          more false = given_more (keys_upto section k) other key ∙ ap (λ b. b || bytes_eq key other) given

  given_later : (key : List ℕ) (n k : ℕ) → k ≤ n → is_given (keys_upto section k) key ≡ true → is_given (keys_upto section n) key ≡ true
  given_later key zero k le given = let none : k ≡ 0 = omega (arith, le) in subst (λ (j : ℕ). is_given (keys_upto section j) key ≡ true) none given
  given_later key (suc n) k le given = elim (cases_eq k (suc n)) [
    | inl same ↦ subst (λ (j : ℕ). is_given (keys_upto section j) key ≡ true) same given
    | inr other ↦
        let one : n + 1 ≡ suc n = omega arith in
        subst (λ (j : ℕ). is_given (keys_upto section j) key ≡ true) one (given_step n key (given_later key n k (omega (arith, le, other)) given))
  ]

  given_here : (k : ℕ) (key : List ℕ) → is_some (section k) ≡ true → key_at k ≡ Some key → is_given (keys_upto section (k + 1)) key ≡ true
  given_here k key carried is = ap (λ (keys : List (List ℕ)). is_given keys key) (keys_with k key carried is) ∙ by (is_given (keys_upto section k) key) refl
    where
      by : (c : Bool) → is_given (keys_upto section k) key ≡ c → is_given (keys_upto section k ++ cond c [] (key ∷ [])) key ≡ true
      by true e = ap (λ (keys : List (List ℕ)). is_given keys key) (append-nil (keys_upto section k)) ∙ e
      by false e = given_more (keys_upto section k) key key ∙ ap (λ b. is_given (keys_upto section k) key || b) ((bytes_eq-Decides key key).1 refl) ∙ or_true (is_given (keys_upto section k) key)

  -- so the key of each carried section is among those of all
  pub key_given : (n k : ℕ) (key : List ℕ) → k < n → is_some (section k) ≡ true → key_at k ≡ Some key → is_given (keys_upto section n) key ≡ true
  key_given n k key low carried is = given_later key n (k + 1) (omega (arith, low)) (given_here k key carried is)
