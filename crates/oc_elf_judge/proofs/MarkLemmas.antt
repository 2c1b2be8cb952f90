-- The signatures of groups without a key of their own, marked one after the other.
use Rattle.std.proofs.Common.{◌≡◌, ℕ, zero, suc, ◌+◌, ◌<◌, inl, inr, Bool, true, false, eqb, List, [], ◌∷◌, length, set, Option, None, Some, refl, sym, ◌∙◌, ap, arith, is_some, slice_index_or}
use Rattle.std.specs.Prelude.{◌&&◌, ◌||◌}
use Rattle.std.proofs.lemmas.Bool.{cases_eq, eq-eqb, ne_eqb}
use Rattle.oc_shelf.proofs.ReadingLaws.FirstsLemmas.{any_more}
use Rattle.oc_elf.specs.{Frames.{FileFrame}, Groups.{is_comdat}, SymbolRules.{is_bad_key, is_bad_signature}}
use Rattle.oc_elf_judge.specs.Marks.{AreMarks}
use Rattle.oc_elf_judge.proofs.SectionLemmas.{here}

-- header g is a group without a key of its own, and symbol k its signature
abbrev is_signed : FileFrame → ℕ → ℕ → Bool
is_signed f k g = is_comdat f g && eqb (here f g).sh_info k && is_bad_key f g

-- any other header marks nothing
pub marks_kept : (f : FileFrame) (g : ℕ) (marks : List (Option ℕ)) → AreMarks f g marks → ((k : ℕ) → is_signed f k g ≡ false) → AreMarks f (g + 1) marks
marks_kept f g marks are none = record { long = are.long; each = λ k low. are.each k low ∙ sym (any_more (is_signed f k) g ∙ ap (λ b. is_bad_signature f g k || b) (none k) ∙ or_none (is_bad_signature f g k)) }
  where
    or_none : (b : Bool) → (b || false) ≡ b
    or_none true = refl
    or_none false = refl

pub other_group : (f : FileFrame) (g : ℕ) → is_comdat f g ≡ false → (k : ℕ) → is_signed f k g ≡ false
other_group f g other k = ap (λ b. b && eqb (here f g).sh_info k && is_bad_key f g) other

pub good_key : (f : FileFrame) (g : ℕ) → is_bad_key f g ≡ false → (k : ℕ) → is_signed f k g ≡ false
good_key f g good k = ap (λ b. is_comdat f g && eqb (here f g).sh_info k && b) good ∙ by (is_comdat f g && eqb (here f g).sh_info k)
  where
    by : (b : Bool) → (b && false) ≡ false
    by true = refl
    by false = refl

set_here : (xs : List (Option ℕ)) (i : ℕ) (x : Option ℕ) → i < length xs → slice_index_or (set xs i x) i None ≡ x
set_here [] i x low = absurd (omega arith)
set_here (y ∷ xs) zero x low = refl
set_here (y ∷ xs) (suc i) x low = set_here xs i x (omega arith)

set_other : (xs : List (Option ℕ)) (i j : ℕ) (x : Option ℕ) → (i ≡ j → ⊥) → slice_index_or (set xs i x) j None ≡ slice_index_or xs j None
set_other [] i j x ne = refl
set_other (y ∷ xs) zero zero x ne = absurd (ne refl)
set_other (y ∷ xs) zero (suc j) x ne = refl
set_other (y ∷ xs) (suc i) zero x ne = refl
set_other (y ∷ xs) (suc i) (suc j) x ne = set_other xs i j x (λ e. ne (ap (λ (k : ℕ). suc k) e))

set_length : (xs : List (Option ℕ)) (i : ℕ) (x : Option ℕ) → length (set xs i x) ≡ length xs
set_length [] i x = refl
set_length (y ∷ xs) zero x = refl
set_length (y ∷ xs) (suc i) x = omega (arith, set_length xs i x)

-- the signature of such a group is marked
pub marks_more : (f : FileFrame) (g : ℕ) (marks : List (Option ℕ)) → AreMarks f g marks → is_comdat f g ≡ true → is_bad_key f g ≡ true → AreMarks f (g + 1) (set marks (here f g).sh_info (Some g))
marks_more f g marks are comdat bad = record {
  long = set_length marks (here f g).sh_info (Some g) ∙ are.long;
  each = λ k low. elim (cases_eq (here f g).sh_info k) [
    | inl same ↦
        let long = are.long in
        let inside : (here f g).sh_info < length marks = omega (arith, long, low, same) in
        ap is_some (ap (λ (j : ℕ). slice_index_or (set marks (here f g).sh_info (Some g)) j None) (sym same) ∙ set_here marks (here f g).sh_info (Some g) inside)
        ∙ sym (any_more (is_signed f k) g ∙ ap (λ b. is_bad_signature f g k || b) (all_three comdat (eq-eqb (here f g).sh_info k same) bad) ∙ or_true (is_bad_signature f g k))
    | inr other ↦
        ap is_some (set_other marks (here f g).sh_info k (Some g) other) ∙ are.each k low
        ∙ sym (any_more (is_signed f k) g ∙ ap (λ b. is_bad_signature f g k || b) (ap (λ b. is_comdat f g && b && is_bad_key f g) (ne_eqb (here f g).sh_info k other) ∙ middle (is_comdat f g)) ∙ or_none (is_bad_signature f g k))
  ];
}
  where
    or_true : (b : Bool) → (b || true) ≡ true
    or_true true = refl
    or_true false = refl

    or_none : (b : Bool) → (b || false) ≡ b
    or_none true = refl
    or_none false = refl

    middle : (b : Bool) → (b && false && is_bad_key f g) ≡ false
    middle true = refl
    middle false = refl

    all_three : {a b c : Bool} → a ≡ true → b ≡ true → c ≡ true → (a && b && c) ≡ true
    all_three p q r = rw (p, q, r) refl
