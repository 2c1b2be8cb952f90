-- Which symbols are pinned, field by field.
use Rattle.std.proofs.Common.{Bool, List, None, Option, Some, [], ap, arith, cond, eq-eqb, false, filter, get_or, inl, inr, length, nat_eq, nat_lt, refl, replicate, set, slice_get, subst, suc, sym, take, true, zero, ℕ, ◌&&◌, ◌++◌, ◌+◌, ◌<◌, ◌||◌, ◌∙◌, ◌∷◌, ◌≡◌, ◌≤◌}
use Rattle.std.proofs.lemmas.{Bool.Decides.{nat_tests}, Bool.{cases_eq, ne_eqb}, List.{get_or-set_same, length-set}}
use Rattle.std.proofs.Math.Bool.{or-false}
use Rattle.std.specs.{List.{list_any}, Option.{option_map, option_map_or}}
use Rattle.oc_linking.specs.declared.terms.Keep.{Keep}
use Rattle.oc_macho_judge.proofs.SectionLemmas.{there}
use Rattle.oc_macho.specs.Entries.{begins, is_pinned, is_taken_in, item_at, item_with, refers_to, taken_entry, taken_reference, takes_symbol}
use Rattle.oc_macho.specs.{Framed.{table_at}, Sections.{is_kept}, Tables.{SectionTable, Tables}, declared.entries.Item.{Item}}
use Rattle.oc_macho.specs.{declared.relocation_info.Reference.{Reference}, declared.relocation_info.RelocationInfo.{RelocationInfo}}
use Rattle.oc_macho_read.proofs.SectionedLemmas.{take_all}
use Rattle.oc_macho_read.specs.Pins.{AreMarks, ArePins, is_pinned_upto, is_taken_upto, marked}
use Rattle.oc_shelf.proofs.ReadingLaws.FirstsLemmas.{any_more}
use Rattle.oc_macho.specs.declared.relocation_info.Reference.TheVariants as reference
use Rattle.oc_neutral.proofs.FieldLists.{take_here}
use Rattle.oc_shows.proofs.BegunLaws.{or_true}

-- ... references

pub refers_symbol : (j k : ℕ) (e : RelocationInfo) → e.refers ≡ reference.Symbol k → refers_to j e ≡ nat_eq k j
refers_symbol j k e is = ap (λ (r : Reference). refers_to j (record { r_address = e.r_address; r_pcrel = e.r_pcrel; r_length = e.r_length; r_type = e.r_type; refers = r })) is

refers_section : (j k : ℕ) (e : RelocationInfo) → e.refers ≡ reference.Section k → refers_to j e ≡ false
refers_section j k e is = ap (λ (r : Reference). refers_to j (record { r_address = e.r_address; r_pcrel = e.r_pcrel; r_length = e.r_length; r_type = e.r_type; refers = r })) is

refers_address : (j k : ℕ) (e : RelocationInfo) → e.refers ≡ reference.Address k → refers_to j e ≡ false
refers_address j k e is = ap (λ (r : Reference). refers_to j (record { r_address = e.r_address; r_pcrel = e.r_pcrel; r_length = e.r_length; r_type = e.r_type; refers = r })) is

-- ... marks

module _ (t : Tables) where
  pub marks_same : (test other : ℕ → Bool) (marks : List Bool) → AreMarks t test marks → ((j : ℕ) → other j ≡ test j) → AreMarks t other marks
  marks_same test other marks are same = record { long = are.long; each = λ j low. are.each j low ∙ sym (same j) }

  pub marks_none : (n : ℕ) (marks : List Bool) → n ≡ length t.symbols → marks ≡ replicate n false → AreMarks t (λ j. false) marks
  marks_none n marks long is = record { long = ap length is ∙ length-replicate n ∙ long; each = λ j low. ap (λ (xs : List Bool). get_or xs j false) is ∙ none n j }
    where
      length-replicate : (n : ℕ) → length (replicate n false) ≡ n
      length-replicate zero = refl
      length-replicate (suc n) = omega (arith, length-replicate n)

      none : (n j : ℕ) → get_or (replicate n false) j false ≡ false
      none zero j = refl
      none (suc n) zero = refl
      none (suc n) (suc j) = none n j

  set_other : (xs : List Bool) (i j : ℕ) → (i ≡ j → ⊥) → get_or (set xs i true) j false ≡ get_or xs j false
  set_other [] i j ne = refl
  set_other (y ∷ xs) zero zero ne = absurd (ne refl)
  set_other (y ∷ xs) zero (suc j) ne = refl
  set_other (y ∷ xs) (suc i) zero ne = refl
  set_other (y ∷ xs) (suc i) (suc j) ne = set_other xs i j (λ e. ne (ap (λ (k : ℕ). suc k) e))

  marked_symbol : (test : ℕ → Bool) (marks : List Bool) (k : ℕ) → AreMarks t test marks → AreMarks t (λ j. test j || nat_eq k j) (cond (nat_lt k (length marks)) (set marks k true) marks)
  marked_symbol test marks k are = by (nat_lt k (length marks)) refl
    where
      low_by : (a b : ℕ) → nat_lt a b ≡ true → a < b
      low_by a b e = grind (arith, nat_tests)

      past_by : (a b : ℕ) → nat_lt a b ≡ false → b ≤ a
      past_by a b e = grind (arith, nat_tests)

      by : (b : Bool) → nat_lt k (length marks) ≡ b → AreMarks t (λ j. test j || nat_eq k j) (cond b (set marks k true) marks)
      by true e = record {
        long = length-set marks k true ∙ are.long;
        each = λ j low. elim (cases_eq k j) [
          | inl same ↦
              ap (λ (i : ℕ). get_or (set marks k true) i false) (sym same) ∙ get_or-set_same marks k true false (low_by k (length marks) e)
              ∙ sym (ap (λ b. test j || b) (eq-eqb k j same) ∙ or_true (test j))
          | inr other ↦ set_other marks k j other ∙ are.each j low ∙ sym (ap (λ b. test j || b) (ne_eqb k j other) ∙ or-false (test j))
        ];
      }
      by false e = record {
        long = are.long;
        each = λ j low.
            let past = past_by k (length marks) e in
            let long = are.long in
            are.each j low ∙ sym (ap (λ b. test j || b) (ne_eqb k j (λ same. absurd (omega (arith, past, long, low, same)))) ∙ or-false (test j));
      }

  -- with what a field takes
  pub marked_more : (test : ℕ → Bool) (marks : List Bool) (o : Option Item) (i : Item) → o ≡ Some i → AreMarks t test marks
      → AreMarks t (λ j. test j || option_map_or (takes_symbol t.word j) o false) (marked marks (taken_reference t.word i))
  marked_more test marks o i here are =
      marks_same (λ j. test j || takes_symbol t.word j i) (λ j. test j || option_map_or (takes_symbol t.word j) o false) (marked marks (taken_reference t.word i)) (by (taken_entry t.word i) refl)
      (λ j. ap (λ (o : Option Item). test j || option_map_or (takes_symbol t.word j) o false) here)
    where
      with_entry : (e : RelocationInfo) (r : Reference) → e.refers ≡ r → AreMarks t (λ j. test j || refers_to j e) (marked marks (Some r))
      with_entry e (reference.Symbol k) is =
          marks_same (λ j. test j || nat_eq k j) (λ j. test j || refers_to j e) (cond (nat_lt k (length marks)) (set marks k true) marks) (marked_symbol test marks k are)
          (λ j. ap (λ b. test j || b) (refers_symbol j k e is))
      with_entry e (reference.Section k) is = marks_same test (λ j. test j || refers_to j e) marks are (λ j. ap (λ b. test j || b) (refers_section j k e is) ∙ or-false (test j))
      with_entry e (reference.Address k) is = marks_same test (λ j. test j || refers_to j e) marks are (λ j. ap (λ b. test j || b) (refers_address j k e is) ∙ or-false (test j))

      by : (x : Option RelocationInfo) → taken_entry t.word i ≡ x → AreMarks t (λ j. test j || takes_symbol t.word j i) (marked marks (taken_reference t.word i))
      by None e = subst (λ (x : Option RelocationInfo). AreMarks t (λ j. test j || option_map_or (refers_to j) x false) (marked marks (option_map (λ (e : RelocationInfo). e.refers) x))) (sym e)
          (marks_same test (λ j. test j || false) marks are (λ j. or-false (test j)))
      by (Some x) e = subst (λ (x : Option RelocationInfo). AreMarks t (λ j. test j || option_map_or (refers_to j) x false) (marked marks (option_map (λ (e : RelocationInfo). e.refers) x))) (sym e)
          (with_entry x x.refers refl)

  -- where no field begins, nothing is taken
  pub marked_none : (test : ℕ → Bool) (marks : List Bool) (relocs : List RelocationInfo) (k : ℕ) → begins t.word relocs k ≡ false → AreMarks t test marks
      → AreMarks t (λ j. test j || option_map_or (takes_symbol t.word j) (item_at t.word relocs k) false) marks
  unfolding item_at
  marked_none test marks relocs k idle are =
      marks_same test (λ j. test j || option_map_or (takes_symbol t.word j) (item_at t.word relocs k) false) marks are
      (λ j. ap (λ (b : Bool). test j || option_map_or (takes_symbol t.word j) (cond b (option_map (item_with t.word relocs k) (slice_get relocs k)) None) false) idle ∙ or-false (test j))

  -- ... fields of a section

  pub taken_more : (x : SectionTable) (k j : ℕ) (test : ℕ → Bool) → (test j || is_taken_upto t x (k + 1) j) ≡ (test j || is_taken_upto t x k j || option_map_or (takes_symbol t.word j) (item_at t.word x.relocs k) false)
  taken_more x k j test =
      ap (λ b. test j || b) (any_more (λ k. option_map_or (takes_symbol t.word j) (item_at t.word x.relocs k) false) k)
      ∙ by (test j) (is_taken_upto t x k j) (option_map_or (takes_symbol t.word j) (item_at t.word x.relocs k) false)
    where
      by : (a b c : Bool) → (a || (b || c)) ≡ (a || b || c)
      by a b c = grind arith

-- ... sections

any_filtered : {X : Type 0} (p q : X → Bool) (xs : List X) (i : ℕ) (x : X) → slice_get xs i ≡ Some x → list_any q (filter p (take (i + 1) xs)) ≡ (list_any q (filter p (take i xs)) || p x && q x)
any_filtered {X} p q xs i x here =
    ap (λ (ys : List X). list_any q (filter p ys)) (take_here xs i x here) ∙ by (take i xs)
  where
    last : (b : Bool) → list_any q (cond b (x ∷ []) []) ≡ b && q x
    last b = grind arith

    more : (y : X) (ys : List X) (b : Bool) → list_any q (filter p (ys ++ x ∷ [])) ≡ (list_any q (filter p ys) || p x && q x)
        → list_any q (cond b (y ∷ filter p (ys ++ x ∷ [])) (filter p (ys ++ x ∷ []))) ≡ (list_any q (cond b (y ∷ filter p ys) (filter p ys)) || p x && q x)
    more y ys true e = ap (λ b. q y || b) e ∙ assoc (q y) (list_any q (filter p ys)) (p x && q x)
      where
        assoc : (a b c : Bool) → (a || (b || c)) ≡ (a || b || c)
        assoc a b c = grind arith
    more y ys false e = e

    by : (ys : List X) → list_any q (filter p (ys ++ x ∷ [])) ≡ (list_any q (filter p ys) || p x && q x)
    by [] = last (p x)
    by (y ∷ ys) = more y ys (p y) (by ys)

module _ (t : Tables) (keep : Keep) where
  pub pinned_more : (i j : ℕ) → i < length t.sections → is_pinned_upto t keep (i + 1) j ≡ (is_pinned_upto t keep i j || is_kept keep (table_at t i) && is_taken_in t.word j (table_at t i))
  pinned_more i j low = any_filtered (is_kept keep) (is_taken_in t.word j) t.sections i (table_at t i) (there t i low)

  pub pinned_kept : (i : ℕ) (marks : List Bool) → i < length t.sections → is_kept keep (table_at t i) ≡ true
      → AreMarks t (λ j. is_pinned_upto t keep i j || is_taken_in t.word j (table_at t i)) marks → AreMarks t (is_pinned_upto t keep (i + 1)) marks
  pinned_kept i marks low kept are =
      marks_same t (λ j. is_pinned_upto t keep i j || is_taken_in t.word j (table_at t i)) (is_pinned_upto t keep (i + 1)) marks are
      (λ j. pinned_more i j low ∙ ap (λ b. is_pinned_upto t keep i j || b && is_taken_in t.word j (table_at t i)) kept)

  pub pinned_left : (i : ℕ) (marks : List Bool) → i < length t.sections → is_kept keep (table_at t i) ≡ false → AreMarks t (is_pinned_upto t keep i) marks → AreMarks t (is_pinned_upto t keep (i + 1)) marks
  pinned_left i marks low left are =
      marks_same t (is_pinned_upto t keep i) (is_pinned_upto t keep (i + 1)) marks are
      (λ j. pinned_more i j low ∙ ap (λ b. is_pinned_upto t keep i j || b && is_taken_in t.word j (table_at t i)) left ∙ or-false (is_pinned_upto t keep i j))

  pub pinned_all : (i : ℕ) (marks : List Bool) → i ≡ length t.sections → AreMarks t (is_pinned_upto t keep i) marks → ArePins t keep marks
  unfolding is_pinned
  pinned_all i marks all are =
      marks_same t (is_pinned_upto t keep i) (is_pinned t keep) marks are (λ j. sym (ap (λ (xs : List SectionTable). list_any (is_taken_in t.word j) (filter (is_kept keep) xs)) (take_all t.sections i all)))

-- what the first k fields of a section take is marked, and it is known whether a field begins with the next entry
pub record IsMarking (t : Tables) (x : SectionTable) (k : ℕ) (begun : Bool) (old new : List Bool) : Type 0 where
  pub marks_are : (test : ℕ → Bool) → AreMarks t test old → AreMarks t (λ j. test j || is_taken_upto t x k j) new
  pub begins_is : begun ≡ begins t.word x.relocs k

pub marking_none : (t : Tables) (x : SectionTable) (marks : List Bool) → IsMarking t x 0 true marks marks
marking_none t x marks = record {
  marks_are = λ test are. marks_same t test (λ j. test j || is_taken_upto t x 0 j) marks are (λ j. or-false (test j));
  begins_is = refl;
}

pub marking_more : (t : Tables) (x : SectionTable) (k : ℕ) (begun next : Bool) (old now new : List Bool) → IsMarking t x k begun old now
    → ((test : ℕ → Bool) → AreMarks t test now → AreMarks t (λ j. test j || option_map_or (takes_symbol t.word j) (item_at t.word x.relocs k) false) new)
    → next ≡ begins t.word x.relocs (k + 1) → IsMarking t x (k + 1) next old new
marking_more t x k begun next old now new are step is = record {
  marks_are = λ test first.
      marks_same t (λ j. test j || is_taken_upto t x k j || option_map_or (takes_symbol t.word j) (item_at t.word x.relocs k) false) (λ j. test j || is_taken_upto t x (k + 1) j) new
      (step (λ j. test j || is_taken_upto t x k j) (are.marks_are test first)) (λ j. taken_more t x k j test);
  begins_is = is;
}

pub marking_all : (t : Tables) (x : SectionTable) (k : ℕ) (begun : Bool) (old new : List Bool) → IsMarking t x k begun old new → k ≡ length x.relocs
    → (test : ℕ → Bool) → AreMarks t test old → AreMarks t (λ j. test j || is_taken_in t.word j x) new
marking_all t x k begun old new are end test first =
    marks_same t (λ j. test j || is_taken_upto t x k j) (λ j. test j || is_taken_in t.word j x) new (are.marks_are test first)
    (λ j. ap (λ (n : ℕ). test j || is_taken_upto t x n j) (sym end))
