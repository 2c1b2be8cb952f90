-- Where carried sections stand, section by section.
use Rattle.std.proofs.Common.{◌≡◌, ℕ, zero, suc, ◌+◌, ◌-◌, ◌<◌, ◌≤◌, Bool, true, false, cond, List, [], ◌∷◌, ◌++◌, length, replicate, Option, None, Some, refl, sym, ◌∙◌, ap, subst, arith}
use Rattle.std.specs.Prelude.{nat_le, is_some, slice_get, slice_index_or}
use Rattle.std.proofs.lemmas.{Bool.{eq-eqb, ne_eqb, true≢false, le-leb}, Option.{none-some, same_Some}}
use Rattle.oc_linking.specs.Parts.{Section}
use Rattle.oc_shelf.specs.{Reading.Collected.{collected, with_option}, Reading.Slots.{AreSlots}}
use Rattle.oc_shelf.proofs.{ReadingLaws.CollectedLemmas.{IsFrom, collected-at, collected-more, collected-ordered}, ReadingLaws.SlotLemmas.{slots_pushed}}
use Rattle.oc_coff.specs.{declared.constants.TheConstants.{IMAGE_SYM_SECTION_MAX_EX}, Tables.{Tables}, Sections.{position_from, position_of, sections_in}}
use Rattle.oc_coff_judge.specs.Led.{section_at}
use Rattle.oc_coff_judge.proofs.{CollectLemmas.{sections_are}, PlacedLemmas.{section_number, from_at, section_from}}
use mir.Val.{bool_byte}

-- the first section of a number
first_position : (xs : List Section) (q : ℕ) (s : Section) → slice_get xs q ≡ Some s → ((p : ℕ) (x : Section) → p < q → slice_get xs p ≡ Some x → x.number ≡ s.number → ⊥) → (j : ℕ) → position_from j xs s.number ≡ Some (j + q)
first_position [] q s here apart j = absurd (none-some s here)
first_position (x ∷ xs) zero s here apart j =
    let none : j ≡ j + 0 = omega arith in
    ap (λ b. cond b (Some j) (position_from (j + 1) xs s.number)) (eq-eqb x.number s.number (ap (λ (y : Section). y.number) (same_Some x s here))) ∙ ap Some none
first_position (x ∷ xs) (suc q) s here apart j =
    let more : j + 1 + q ≡ j + suc q = omega arith in
    ap (λ b. cond b (Some j) (position_from (j + 1) xs s.number)) (ne_eqb x.number s.number (apart 0 x (omega arith) refl))
    ∙ first_position xs q s here (λ p y less there. apart (suc p) y (omega (arith, less)) there) (j + 1)
    ∙ ap Some more

module _ (t : Tables) where
  abbrev pub n : ℕ
  n = length t.sections

  at_is : (k : ℕ) (s : Section) → slice_get (sections_in t) k ≡ slice_get (collected (section_at t) n) k
  at_is k s = ap (λ (xs : List Section). slice_get xs k) (sections_are t)

  -- a section that is carried
  position_some : (i : ℕ) (s : Section) → i < n → section_at t i ≡ Some s → position_from 0 (sections_in t) (i + 1) ≡ Some (length (collected (section_at t) i))
  position_some i s low is =
      let here : slice_get (sections_in t) (length (collected (section_at t) i)) ≡ Some s = at_is (length (collected (section_at t) i)) s ∙ collected-at (section_at t) i n s is low in
      let number = section_number t i s is in
      let none : 0 + length (collected (section_at t) i) ≡ length (collected (section_at t) i) = omega arith in
      ap (position_from 0 (sections_in t)) (sym number)
      ∙ first_position (sections_in t) (length (collected (section_at t) i)) s here (λ p x less there same. apart p x less there same) 0
      ∙ ap Some none
    where
      apart : (p : ℕ) (x : Section) → p < length (collected (section_at t) i) → slice_get (sections_in t) p ≡ Some x → x.number ≡ s.number → ⊥
      apart p x less there same =
          let a : IsFrom (section_at t) n p x = section_from t p x there in
          let b : IsFrom (section_at t) n (length (collected (section_at t) i)) s = section_from t (length (collected (section_at t) i)) s (at_is (length (collected (section_at t) i)) s ∙ collected-at (section_at t) i n s is low) in
          let before = collected-ordered (section_at t) n p (length (collected (section_at t) i)) x s a b less in
          let first = section_number t a.k x a.is in
          let second = section_number t b.k s b.is in
          omega (arith, before, first, second, same)

  -- one that is not
  position_none : (i : ℕ) → section_at t i ≡ None → position_from 0 (sections_in t) (i + 1) ≡ None
  position_none i none = by (position_from 0 (sections_in t) (i + 1)) refl
    where
      by : (o : Option ℕ) → position_from 0 (sections_in t) (i + 1) ≡ o → o ≡ None
      by None e = refl
      by (Some k) e =
          let m = from_at 0 (sections_in t) (i + 1) k e in
          let from : IsFrom (section_at t) n (k - 0) m.0 = section_from t (k - 0) m.0 m.1 in
          let first = section_number t from.k m.0 from.is in
          let number = m.2 in
          let same : from.k ≡ i = omega (arith, first, number) in
          absurd (none-some m.0 (sym none ∙ ap (section_at t) (sym same) ∙ from.is))

  -- the position of a section, whether it is carried or not
  pub position_next : n < 2097152 → (i : ℕ) → i < n → cond (is_some (section_at t i)) (Some (length (collected (section_at t) i))) None ≡ position_of (sections_in t) (i + 1)
  unfolding position_of
  position_next few i low = by (section_at t i) refl (nat_le (i + 1) IMAGE_SYM_SECTION_MAX_EX) (le-leb (i + 1) 2147483647 (omega (arith, low, few)))
    where
      by : (o : Option Section) → section_at t i ≡ o → (b : Bool) → b ≡ true
          → cond (is_some o) (Some (length (collected (section_at t) i))) None ≡ cond b (position_from 0 (sections_in t) (i + 1)) None
      by None e true h = sym (position_none i e)
      by None e false h = refl
      by (Some s) e true h = sym (position_some i s low e)
      by (Some s) e false h = absurd (true≢false (sym h))

  -- the positions so far, and the next
  pub record ArePlaced (i position : ℕ) (slots : List (Option ℕ)) : Type 0 where
    pub slots_are : AreSlots (position_of (sections_in t)) (i + 1) slots
    pub next : position ≡ length (collected (section_at t) i)

  pub placed_none : (slots : List (Option ℕ)) → slots ≡ replicate 1 None → ArePlaced 0 0 slots
  unfolding position_of
  placed_none slots is = record {
    slots_are = subst (AreSlots (position_of (sections_in t)) 1) (sym is) (record { long = refl; each = λ j low. first j (omega (arith, low)) });
    next = refl;
  }
    where
      zero_none : position_of (sections_in t) 0 ≡ None
      zero_none = by (position_from 0 (sections_in t) 0) refl
        where
          by : (o : Option ℕ) → position_from 0 (sections_in t) 0 ≡ o → o ≡ None
          by None e = refl
          by (Some k) e =
              let m = from_at 0 (sections_in t) 0 k e in
              let from : IsFrom (section_at t) n (k - 0) m.0 = section_from t (k - 0) m.0 m.1 in
              let some = section_number t from.k m.0 from.is in
              let number = m.2 in
              absurd (omega (arith, some, number))

      first : (j : ℕ) → j ≡ 0 → slice_index_or (None ∷ []) j None ≡ position_of (sections_in t) j
      first zero e = sym zero_none
      first (suc j) e = absurd (omega (arith, e))

  longer : (xs : List Section) (o : Option Section) → length (with_option xs o) ≡ length xs + cond (is_some o) 1 0
  longer xs None = omega arith
  longer [] (Some x) = omega arith
  longer (y ∷ xs) (Some x) = let rest = longer xs (Some x) in omega (arith, rest)

  -- one section more
  pub placed_more : n < 2097152 → (i position step : ℕ) (slots : List (Option ℕ)) (b : Bool) (o : Option ℕ) → ArePlaced i position slots → i < n → b ≡ is_some (section_at t i) → step ≡ cond b 1 0
      → o ≡ cond b (Some position) None → ArePlaced (i + 1) (position + step) (slots ++ o ∷ [])
  placed_more few i position step slots b o are low is one made = record {
    slots_are = slots_pushed (position_of (sections_in t)) (i + 1) o slots are.slots_are
        (made ∙ ap (λ c. cond c (Some position) None) is ∙ ap (λ (q : ℕ). cond (is_some (section_at t i)) (Some q) None) are.next ∙ position_next few i low);
    next =
        let count : length (collected (section_at t) (i + 1)) ≡ length (collected (section_at t) i) + cond (is_some (section_at t i)) 1 0 = ap length (collected-more (section_at t) i) ∙ longer (collected (section_at t) i) (section_at t i) in
        let before = are.next in
        let amount : step ≡ cond (is_some (section_at t i)) 1 0 = one ∙ ap (λ c. cond c 1 0) is in
        omega (arith, count, before, amount);
  }

pub bit_is : (b : Bool) (n : ℕ) → n ≡ bool_byte b → n ≡ cond b 1 0
bit_is true n e = e
bit_is false n e = e

pub bit_low : (b : Bool) (n : ℕ) → n ≡ bool_byte b → n ≤ 1
bit_low true n e = omega (arith, e)
bit_low false n e = omega (arith, e)
