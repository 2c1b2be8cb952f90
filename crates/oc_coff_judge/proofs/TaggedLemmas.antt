-- What weak externals tag, symbol by symbol.
use Rattle.oc_coff.specs.{Files.{CoffFile, tables_in}, declared.constants.TheConstants.{IMAGE_SYM_CLASS_WEAK_EXTERNAL}, Entries.{Entry, is_class}}
use Rattle.oc_coff.specs.Symbols.{tag_of, tags}
use Rattle.std.proofs.Common.{◌≡◌, ℕ, zero, suc, ◌+◌, ◌<◌, inl, inr, Bool, true, false, cond, List, [], ◌∷◌, length, map, take, get_or, set, Option, None, Some, refl, sym, ◌∙◌, ap, arith}
use Rattle.std.specs.{Prelude.{◌&&◌, ◌||◌, nat_eq, nat_lt, is_some, slice_index_or}, List.{list_any}, Option.{option_map_or}}
use Rattle.std.proofs.Math.Seq.{take-length}
use Rattle.std.proofs.lemmas.{Bool.{cases_eq, eq-eqb, ne_eqb}, Bool.Decides.{nat_tests}, List.{get_or-set_same, length-set}, List.Folds.{list_any_more}}
use Rattle.oc_coff_judge.specs.{Numbered.{AreNumbers, entry_by}, Tagged.{AreTagged, marked, tag_by}}

-- the slots have something exactly for the entries that the first symbols tag
pub record AreMarked (file : CoffFile) (numbers : List ℕ) (i : ℕ) (slots : List (Option ℕ)) : Type 0 where
  pub long : length slots ≡ length (tables_in file).entries
  pub each : (j : ℕ) → j < length (tables_in file).entries → is_some (slice_index_or slots j None) ≡ list_any (λ k. tags j (entry_by file k)) (take i numbers)

set_other : (xs : List (Option ℕ)) (i j : ℕ) (x : Option ℕ) → (i ≡ j → ⊥) → slice_index_or (set xs i x) j None ≡ slice_index_or xs j None
set_other [] i j x ne = refl
set_other (y ∷ xs) zero zero x ne = absurd (ne refl)
set_other (y ∷ xs) zero (suc j) x ne = refl
set_other (y ∷ xs) (suc i) zero x ne = refl
set_other (y ∷ xs) (suc i) (suc j) x ne = set_other xs i j x (λ e. ne (ap (λ (k : ℕ). suc k) e))

-- an entry is tagged where the number is its own
tags_by : (e : Entry) (j : ℕ) → option_map_or (nat_eq j) (tag_by e) false ≡ tags j e
tags_by e j = by (is_class IMAGE_SYM_CLASS_WEAK_EXTERNAL e.symbol)
  where
    by : (b : Bool) → option_map_or (nat_eq j) (cond b (tag_of e) None) false ≡ (b && option_map_or (nat_eq j) (tag_of e) false)
    by true = refl
    by false = refl

marked_long : (slots : List (Option ℕ)) (o : Option ℕ) (k : ℕ) → length (marked slots o k) ≡ length slots
marked_long slots None k = refl
marked_long slots (Some tag) k = by (nat_lt tag (length slots))
  where
    by : (b : Bool) → length (cond b (set slots tag (Some k)) slots) ≡ length slots
    by true = length-set slots tag (Some k)
    by false = refl

or_none : (b : Bool) → b ≡ (b || false)
or_none true = refl
or_none false = refl

or_true : (b : Bool) → true ≡ (b || true)
or_true true = refl
or_true false = refl

marked_at : (slots : List (Option ℕ)) (o : Option ℕ) (k j : ℕ) → j < length slots
    → is_some (slice_index_or (marked slots o k) j None) ≡ (is_some (slice_index_or slots j None) || option_map_or (nat_eq j) o false)
marked_at slots None k j low = or_none (is_some (slice_index_or slots j None))
marked_at slots (Some tag) k j low = elim (cases_eq tag j) [
  | inl same ↦
      let inside : nat_lt tag (length slots) ≡ true = below tag (length slots) (omega (arith, low, same)) in
      ap (λ b. is_some (slice_index_or (cond b (set slots tag (Some k)) slots) j None)) inside
      ∙ ap (λ (q : ℕ). is_some (slice_index_or (set slots tag (Some k)) q None)) (sym same)
      ∙ ap is_some (get_or-set_same slots tag (Some k) None (omega (arith, low, same)))
      ∙ or_true (is_some (slice_index_or slots j None))
      ∙ sym (ap (λ b. is_some (slice_index_or slots j None) || b) (eq-eqb j tag (sym same)))
  | inr other ↦
      by other (nat_lt tag (length slots)) ∙ or_none (is_some (slice_index_or slots j None)) ∙ sym (ap (λ b. is_some (slice_index_or slots j None) || b) (ne_eqb j tag (λ e. other (sym e))))
]
  where
    below : (a b : ℕ) → a < b → nat_lt a b ≡ true
    below a b l = grind (arith, nat_tests)

    by : (tag ≡ j → ⊥) → (b : Bool) → is_some (slice_index_or (cond b (set slots tag (Some k)) slots) j None) ≡ is_some (slice_index_or slots j None)
    by other true = ap is_some (set_other slots tag j (Some k) other)
    by other false = refl

-- one symbol more
pub marked_more : (file : CoffFile) (numbers : List ℕ) (i : ℕ) (slots : List (Option ℕ)) (k d : ℕ) → AreMarked file numbers i slots → i < length numbers → k ≡ get_or numbers i d
    → AreMarked file numbers (i + 1) (marked slots (tag_by (entry_by file k)) k)
marked_more file numbers i slots k d are low is = record {
  long = marked_long slots (tag_by (entry_by file k)) k ∙ are.long;
  each = λ j below.
      let long = are.long in
      marked_at slots (tag_by (entry_by file k)) k j (omega (arith, below, long))
      ∙ ap (λ b. b || option_map_or (nat_eq j) (tag_by (entry_by file k)) false) (are.each j below)
      ∙ ap (λ b. list_any (λ k. tags j (entry_by file k)) (take i numbers) || b) (tags_by (entry_by file k) j ∙ ap (λ (q : ℕ). tags j (entry_by file q)) is)
      ∙ sym (list_any_more (λ k. tags j (entry_by file k)) numbers i d low);
}

any_map : {X Y : Type 0} (p : Y → Bool) (f : X → Y) (xs : List X) → list_any p (map f xs) ≡ list_any (λ x. p (f x)) xs
any_map p f [] = refl
any_map p f (x ∷ xs) = ap (λ b. p (f x) || b) (any_map p f xs)

-- with all symbols the slots are whole
pub marked_end : (file : CoffFile) (numbers : List ℕ) (i : ℕ) (slots : List (Option ℕ)) → AreMarked file numbers i slots → i ≡ length numbers → AreNumbers file numbers → AreTagged (tables_in file) slots
marked_end file numbers i slots are end all = record {
  long = are.long;
  each = λ j low.
      are.each j low ∙ ap (λ (n : ℕ). list_any (λ k. tags j (entry_by file k)) (take n numbers)) end ∙ ap (list_any (λ k. tags j (entry_by file k))) (take-length numbers)
      ∙ sym (ap (list_any (tags j)) all.are ∙ any_map (tags j) (entry_by file) numbers);
}
