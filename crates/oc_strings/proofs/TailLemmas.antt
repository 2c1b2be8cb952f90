-- The walk from a name to the shorter ones that end it.
use Rattle.std.proofs.Common.{◌≡◌, ℕ, ◌+◌, ◌-◌, ◌<◌, ◌≤◌, true, false, List, length, get_or, set, Option, Some, None, refl, sym, ◌∙◌, ap, subst, arith, ⊎_elim}
use Rattle.std.proofs.lemmas.List.{get_or-set_same, get_or-set_other, length-set}
use Rattle.std.proofs.lemmas.Bool.{and_from, both_ways, cases_Bool, cases_lt, cases_order, false_from_ne_true, cond-false, cond-true, lt-ltb}
use Rattle.std.specs.{Option.{is_none, is_some, option_or}, Prelude.{nat_lt}}
use Rattle.oc_base.specs.Strings.{ends}
use Rattle.oc_strings.specs.{Tables.{capped}, Order.{Ascends, name_at, IsNextTail, ends_next, place_in}}
use Rattle.oc_strings.proofs.{EndLemmas.{ends_self, ends_trans}, OrderLemmas.{tail_back, tail_between}}

-- how many names the walk may still meet
abbrev pub still : Option ℕ → ℕ
still None = 0
still (Some k) = k + 1

-- no name behind the candidate ends the name at k
abbrev pub Beyond : List (List ℕ) → ℕ → Option ℕ → Type 0
Beyond names k None = (i : ℕ) → i < k → ends (name_at names i) (name_at names k) ≡ false
Beyond names k (Some j) = (j < k) × ((i : ℕ) → j < i → i < k → ends (name_at names i) (name_at names k) ≡ false)

-- the names that the walk has met, and those that it has not
abbrev pub Passed : Option ℕ → ℕ → Type 0
Passed None i = Unit {0}
Passed (Some k) i = k < i

abbrev pub Left : Option ℕ → ℕ → Type 0
Left None i = ⊥
Left (Some k) i = i ≤ k

-- the walk stands at a name that ends the name at k
abbrev pub StandsOn : List (List ℕ) → ℕ → Option ℕ → Type 0
StandsOn names k None = Unit {0}
StandsOn names k (Some c) = (c ≤ k) × (ends (name_at names c) (name_at names k) ≡ true)

module _ (names : List (List ℕ)) (up : Ascends names) where
  -- a name between one and its longest tail ends no later name that the one ends
  between_none : (i c k : ℕ) → i < c → c ≤ k → k < length names → ends (name_at names i) (name_at names c) ≡ false → ends (name_at names i) (name_at names k) ≡ false
  between_none i c k l m w apart =
      false_from_ne_true (ends (name_at names i) (name_at names k)) (λ e.
      both_ways (ends (name_at names i) (name_at names c)) apart (tail_between names up i c k (omega arith) m w e))

  -- the step of the search
  pub tail_step : (k j : ℕ) (next : Option ℕ) → k < length names → Beyond names k (Some j) → ends (name_at names j) (name_at names k) ≡ false → IsNextTail names j next → Beyond names k next
  tail_step k j None w beyond apart tail =
      λ i l.
      ⊎_elim
      (λ same. subst (λ (m : ℕ). ends (name_at names m) (name_at names k) ≡ false) (sym same) apart)
      (λ other. ⊎_elim (λ below. between_none i j k below (omega (arith, beyond.0)) w (tail i below)) (λ above. beyond.1 i above l) other)
      (cases_order i j)
  tail_step k j (Some m) w beyond apart tail = (
    omega (arith, tail.0),
    λ i above l.
        ⊎_elim
        (λ same. subst (λ (m : ℕ). ends (name_at names m) (name_at names k) ≡ false) (sym same) apart)
        (λ other. ⊎_elim (λ below. between_none i j k below (omega (arith, beyond.0)) w (tail.2 i above below)) (λ above'. beyond.1 i above' l) other)
        (cases_order i j),
  )

no_place : (at : ℕ) (text name : List ℕ) (o : Option ℕ) → ends name text ≡ false → o ≡ option_or o (place_in at text name)
no_place at text name o apart = by o ∙ ap (option_or o) (sym (cond-false (ends name text) (Some (capped (at + (length text - length name)))) None apart))
  where
    by : (o : Option ℕ) → o ≡ option_or o None
    by None = refl
    by (Some x) = refl

in_place : (at : ℕ) (text name : List ℕ) (o : Option ℕ) → is_none o ≡ true → ends name text ≡ true → Some (capped (at + (length text - length name))) ≡ option_or o (place_in at text name)
in_place at text name None none e = sym (cond-true (ends name text) (Some (capped (at + (length text - length name)))) None e)
in_place at text name (Some x) none e = absurd (both_ways false refl none)

old_place : (o p : Option ℕ) → is_some o ≡ true → o ≡ option_or o p
old_place None p some = absurd (both_ways false refl some)
old_place (Some x) p some = refl

-- names in ascending order, whose offsets stand in a list by their numbers: the walk from the name at k to those that end it has got to one of them
pub record IsPlacing (names : List (List ℕ)) (num : ℕ → ℕ) (at k : ℕ) (old new : List (Option ℕ)) (current : Option ℕ) : Type 0 where
  pub whole : length new ≡ length old
  pub on : StandsOn names k current
  pub done : (i : ℕ) → i < length names → Passed current i
      → get_or new (num i) None ≡ option_or (get_or old (num i) None) (place_in at (name_at names k) (name_at names i))
  pub left : (i : ℕ) → i < length names → Left current i → get_or new (num i) None ≡ get_or old (num i) None

-- what the walk is given: names in ascending order, each with a number of its own, and where the first one begins
module _ (names : List (List ℕ)) (up : Ascends names) (num : ℕ → ℕ) (apart : (i k : ℕ) → i < length names → k < length names → num i ≡ num k → i ≡ k)
    (at k : ℕ) (w : k < length names) (old : List (Option ℕ)) where
  -- the start of the walk, at a name that does not end the next one
  pub placing_none : ends_next names k ≡ false → IsPlacing names num at k old old (Some k)
  placing_none top = record {
    whole = refl;
    on = (omega arith, ends_self (name_at names k));
    done = λ i l above. no_place at (name_at names k) (name_at names i) (get_or old (num i) None) (false_from_ne_true (ends (name_at names i) (name_at names k)) (later i l above));
    left = λ i l below. refl;
  }
    where
      -- a later name that ends this one is the same, and then this one ends the next one
      later : (i : ℕ) → i < length names → k < i → ends (name_at names i) (name_at names k) ≡ true → ⊥
      later i l above e =
          let itself : ends (name_at names k) (name_at names i) ≡ true
          = subst (λ (n : List ℕ). ends (name_at names k) n ≡ true) (sym (tail_back names up k i (omega arith) l e)) (ends_self (name_at names k))
          in
          both_ways (ends_next names k) top
          (and_from (nat_lt (k + 1) (length names)) (ends (name_at names k) (name_at names (k + 1))) (lt-ltb (k + 1) (length names) (omega arith))
          (tail_between names up k (k + 1) i (omega arith) (omega arith) l itself))

  passed_apart : (c : ℕ) (next : Option ℕ) (i : ℕ) → IsNextTail names c next → i < c → Passed next i → ends (name_at names i) (name_at names c) ≡ false
  passed_apart c None i tail l passed = tail i l
  passed_apart c (Some j) i tail l passed = tail.2 i passed l

  left_below : (c : ℕ) (next : Option ℕ) (i : ℕ) → IsNextTail names c next → Left next i → i < c
  left_below c None i tail left = absurd left
  left_below c (Some j) i tail left = omega (arith, tail.0, left)

  on_next : (c : ℕ) (next : Option ℕ) → StandsOn names k (Some c) → IsNextTail names c next → StandsOn names k next
  on_next c None on tail = tt
  on_next c (Some j) on tail = (omega (arith, tail.0, on.0), ends_trans (name_at names j) (name_at names c) (name_at names k) tail.1 on.1)

  module _ (new : List (Option ℕ)) (c : ℕ) (p : IsPlacing names num at k old new (Some c)) where
    in_names : c < length names
    in_names = omega (arith, p.on.0)

    -- its step, where the name has no offset
    pub placing_more : (next : Option ℕ) (offset : ℕ) → num c < length new → is_none (get_or new (num c) None) ≡ true
        → IsNextTail names c next → offset ≡ capped (at + (length (name_at names k) - length (name_at names c)))
        → IsPlacing names num at k old (set new (num c) (Some offset)) next
    placing_more next offset room none tail is = record {
      whole = length-set new (num c) (Some offset) ∙ p.whole;
      on = on_next c next p.on tail;
      done = λ i l passed.
          ⊎_elim
          (λ same.
          subst (λ (m : ℕ). get_or more (num m) None ≡ option_or (get_or old (num m) None) (place_in at (name_at names k) (name_at names m))) (sym same)
          (get_or-set_same new (num c) (Some offset) None room ∙ ap Some is
          ∙ in_place at (name_at names k) (name_at names c) (get_or old (num c) None) (ap is_none (sym (p.left c in_names (omega arith))) ∙ none) p.on.1))
          (λ other. ⊎_elim
          (λ below.
          kept i l (λ e. omega arith) ∙ p.left i l (omega arith)
          ∙ no_place at (name_at names k) (name_at names i) (get_or old (num i) None) (between_none names up i c k below p.on.0 w (passed_apart c next i tail below passed)))
          (λ above. kept i l (λ e. omega arith) ∙ p.done i l above)
          other)
          (cases_order i c);
      left = λ i l left. let below : i < c = left_below c next i tail left in kept i l (λ e. omega arith) ∙ p.left i l (omega arith);
    }
      where
        more : List (Option ℕ)
        more = set new (num c) (Some offset)

        kept : (i : ℕ) → i < length names → (i ≡ c → ⊥) → get_or more (num i) None ≡ get_or new (num i) None
        kept i l ne = get_or-set_other new (num c) (num i) (Some offset) None (λ e. ne (apart i c l in_names e))

    -- its end, where the name has one: then all that end it have
    pub placing_stop : ((i : ℕ) → i < length names → ends (name_at names i) (name_at names c) ≡ true → is_some (get_or old (num i) None) ≡ true) → IsPlacing names num at k old new None
    placing_stop closed = record {
      whole = p.whole;
      on = tt;
      done = λ i l passed.
          ⊎_elim (λ above. p.done i l above)
          (λ below.
          p.left i l (omega arith)
          ∙ ⊎_elim
          (λ e. old_place (get_or old (num i) None) (place_in at (name_at names k) (name_at names i)) (closed i l (tail_between names up i c k (omega arith) p.on.0 w e)))
          (λ e. no_place at (name_at names k) (name_at names i) (get_or old (num i) None) e)
          (cases_Bool (ends (name_at names i) (name_at names k))))
          (cases_lt c i);
      left = λ i l left. absurd left;
    }
