-- The members of groups, taken up one after the other.
use Rattle.std.proofs.Common.{◌≡◌, ℕ, ◌+◌, ◌<◌, ◌≤◌, inl, inr, Bool, true, false, cond, eqb, List, length, set, Option, None, Some, refl, sym, ◌∙◌, ap, arith}
use Rattle.std.specs.Prelude.{◌&&◌, ◌||◌, nat_eq, nat_le, is_some, slice_index_or, if◌then◌else◌}
use Rattle.std.proofs.lemmas.{Bool.{eqb-true, true≢false, and_parts, cases_lt}, Bool.Decides.{nat_tests}}
use Rattle.oc_linking.specs.Numbers.{or_else}
use Rattle.oc_shelf.specs.{Reading.Firsts.{any_upto}, Reading.Slots.{AreSlots}}
use Rattle.oc_shelf.proofs.{ReadingLaws.FirstsLemmas.{any_more, first_more}, ReadingLaws.SlotLemmas.{slots_filled, slots_same}}
use Rattle.oc_elf.specs.{declared.constants.TheConstants.{SHT_GROUP}, declared.shdr.Shdr.{Shdr}, Frames.{FileFrame, header_at}}
use Rattle.oc_elf.specs.{Groups.{has_member, is_member, member_at, member_count, owner_among}, Sections.{is_type}, SectionRules.{is_bad_member, is_good_group}}
use Rattle.oc_elf_judge.proofs.TableLemmas.{at_least}

module _ (f : FileFrame) (k : ℕ) (s : Shdr) where
  -- the owners of sections where i members of group k were taken up
  abbrev pub taken_by : ℕ → ℕ → Option ℕ
  taken_by i j = or_else (owner_among f k j) (if has_member f s i j then Some k else None)

  -- none of i members is bad, and they were taken up
  pub record IsTaking (i : ℕ) (owners : List (Option ℕ)) : Type 0 where
    pub clean : any_upto (is_bad_member f k s) i ≡ false
    pub slots : AreSlots (taken_by i) (length f.headers) owners

  right : {X : Type 0} (o : Option X) → or_else o None ≡ o
  right None = refl
  right (Some x) = refl

  -- what is asked of the slots is asked of the members so far
  pub refused_is : (i : ℕ) (owners : List (Option ℕ)) → AreSlots (taken_by i) (length f.headers) owners
      → (nat_eq (member_at f s i) 0 || nat_le (length f.headers) (member_at f s i) || is_some (slice_index_or owners (member_at f s i) None)) ≡ is_bad_member f k s i
  unfolding is_bad_member
  refused_is i owners are = elim (cases_lt (member_at f s i) (length f.headers)) [
    | inl low ↦
        ap (λ (o : Option ℕ). nat_eq (member_at f s i) 0 || nat_le (length f.headers) (member_at f s i) || is_some o) (are.each (member_at f s i) low)
        ∙ either (nat_eq (member_at f s i) 0 || nat_le (length f.headers) (member_at f s i)) (has_member f s i (member_at f s i)) (owner_among f k (member_at f s i))
    | inr past ↦
        past_end (nat_eq (member_at f s i) 0) (nat_le (length f.headers) (member_at f s i)) (has_member f s i (member_at f s i)) (is_some (slice_index_or owners (member_at f s i) None)) (is_some (owner_among f k (member_at f s i)))
        (grind (arith, nat_tests))
  ]
    where
      either : (x h : Bool) (o : Option ℕ) → (x || is_some (or_else o (cond h (Some k) None))) ≡ (x || h || is_some o)
      either true h o = refl
      either false true None = refl
      either false true (Some y) = refl
      either false false None = refl
      either false false (Some y) = refl

      past_end : (a b h c o : Bool) → b ≡ true → (a || b || c) ≡ (a || b || h || o)
      past_end true b h c o e = refl
      past_end false true h c o e = refl
      past_end false false h c o e = absurd (true≢false (sym e))

  -- what a member has that is not bad
  pub record IsFree (i : ℕ) : Type 0 where
    pub inside : member_at f s i < length f.headers
    pub new : has_member f s i (member_at f s i) ≡ false
    pub alone : owner_among f k (member_at f s i) ≡ None

  pub free_member : (i : ℕ) → is_bad_member f k s i ≡ false → IsFree i
  unfolding is_bad_member
  free_member i good =
      let last = neither (nat_eq (member_at f s i) 0 || nat_le (length f.headers) (member_at f s i) || has_member f s i (member_at f s i)) _ good in
      let third = neither (nat_eq (member_at f s i) 0 || nat_le (length f.headers) (member_at f s i)) _ last.0 in
      let second = neither (nat_eq (member_at f s i) 0) _ third.0 in
      record { inside = let low = second.1 in grind (arith, nat_tests); new = third.1; alone = none_is (owner_among f k (member_at f s i)) last.1 }
    where
      neither : (a b : Bool) → (a || b) ≡ false → (a ≡ false) × (b ≡ false)
      neither true b e = absurd (true≢false e)
      neither false b e = (refl, e)

      none_is : (o : Option ℕ) → is_some o ≡ false → o ≡ None
      none_is None e = refl
      none_is (Some x) e = absurd (true≢false e)

  -- one member more
  pub taking_more : (i : ℕ) (owners : List (Option ℕ)) → IsTaking i owners → is_bad_member f k s i ≡ false → IsTaking (i + 1) (set owners (member_at f s i) (Some k))
  taking_more i owners inv good =
      let free = free_member i good in
      record {
        clean = any_more (is_bad_member f k s) i ∙ ap (λ b. b || is_bad_member f k s i) inv.clean ∙ good;
        slots = slots_filled (taken_by i) (taken_by (i + 1)) (length f.headers) (member_at f s i) k owners inv.slots free.inside (more free);
      }
    where
      more : IsFree i → (j : ℕ) → taken_by (i + 1) j ≡ cond (eqb (member_at f s i) j) (Some k) (taken_by i j)
      more free j = ap (λ b. or_else (owner_among f k j) (cond b (Some k) None)) (any_more (λ m. nat_eq (member_at f s m) j) i) ∙ by (eqb (member_at f s i) j) refl
        where
          same : (h : Bool) → cond (h || false) (Some k) None ≡ cond h (Some k) None
          same true = refl
          same false = refl

          by : (b : Bool) → eqb (member_at f s i) j ≡ b
              → or_else (owner_among f k j) (cond (has_member f s i j || b) (Some k) None) ≡ cond b (Some k) (taken_by i j)
          by true e =
              let is : member_at f s i ≡ j = eqb-true (member_at f s i) j e in
              ap (λ (o : Option ℕ). or_else o (cond (has_member f s i j || true) (Some k) None)) (ap (owner_among f k) (sym is) ∙ free.alone)
              ∙ ap (λ b. cond (b || true) (Some k) None) (ap (has_member f s i) (sym is) ∙ free.new)
          by false e = ap (or_else (owner_among f k j)) (same (has_member f s i j))

-- what is no group has no members
pub taking_passed : (f : FileFrame) (k : ℕ) (owners : List (Option ℕ)) → is_type SHT_GROUP (header_at f.headers k) ≡ false → AreSlots (owner_among f k) (length f.headers) owners
    → AreSlots (owner_among f (k + 1)) (length f.headers) owners
taking_passed f k owners other are = slots_same (owner_among f k) (owner_among f (k + 1)) (length f.headers) owners are all
  where
    right : (o : Option ℕ) → or_else o None ≡ o
    right None = refl
    right (Some x) = refl

    all : (j : ℕ) → owner_among f (k + 1) j ≡ owner_among f k j
    all j =
        first_more (λ m. cond (is_member f j m) (Some m) None) k
        ∙ ap (λ b. or_else (owner_among f k j) (cond (b && has_member f (header_at f.headers k) (member_count (header_at f.headers k)) j) (Some k) None)) other
        ∙ right (owner_among f k j)

-- a good group has its first word
pub good_first : (f : FileFrame) (s : Shdr) → is_good_group f s ≡ true → 4 ≤ s.sh_size
unfolding is_good_group
good_first f s good =
    let four = and_parts _ _ good in
    let three = and_parts _ _ four.0 in
    let two = and_parts _ _ three.0 in
    let one = and_parts _ _ two.0 in
    at_least 4 s.sh_size one.1
