-- The numbers of the symbols, entry by entry.
use Rattle.oc_coff.specs.{Files.{CoffFile, slot_in, tables_in}, Tables.{Slot}, Entries.{Entry, entries_in, symbols_from, first_of}, Head.{IsHeaded}}
use Rattle.std.proofs.Common.{◌≡◌, ℕ, zero, suc, ◌+◌, ◌-◌, ◌<◌, Bool, true, false, cond, eqb, List, [], ◌∷◌, ◌++◌, length, map, drop, get_or, Option, None, refl, sym, ◌∙◌, ap, subst, arith}
use Rattle.std.specs.{Prelude.{slice_get}, List.{AllByRecursion}}
use Rattle.std.proofs.lemmas.{Bool.{ne_eqb}, List.{drop_more}, Option.{get_or_from_slice_get}}
use Rattle.oc_coff_judge.specs.Numbered.{AreNumbers, entry_by, entry_place}
use Rattle.oc_coff.proofs.HeadLemmas.{entry_there}

-- the entries of a file
abbrev pub slots_of : CoffFile → List Slot
slots_of file = (tables_in file).entries

-- these are the numbers of the symbols before entry j, where so many auxiliary entries are left
pub record IsPassing (file : CoffFile) (j auxiliary : ℕ) (numbers : List ℕ) : Type 0 where
  pub are : entries_in (tables_in file) ≡ map (entry_by file) numbers ++ symbols_from j auxiliary (drop j (slots_of file))
  pub there : AllByRecursion (λ i. i < length (slots_of file)) numbers

all_push : (n : ℕ) (xs : List ℕ) (x : ℕ) → AllByRecursion (λ i. i < n) xs → x < n → AllByRecursion (λ i. i < n) (xs ++ x ∷ [])
all_push n [] x all low = (low, tt)
all_push n (y ∷ xs) x all low = (all.0, all_push n xs x all.1 low)

pub all_at : (n : ℕ) (xs : List ℕ) (i d : ℕ) → AllByRecursion (λ i. i < n) xs → i < length xs → get_or xs i d < n
all_at n [] i d all low = absurd (omega arith)
all_at n (x ∷ xs) zero d all low = all.0
all_at n (x ∷ xs) (suc i) d all low = all_at n xs i d all.1 (omega arith)

first_drop : (xs : List Slot) (k : ℕ) → first_of (drop k xs) ≡ slice_get xs k
first_drop [] zero = refl
first_drop [] (suc k) = refl
first_drop (x ∷ xs) zero = refl
first_drop (x ∷ xs) (suc k) = first_drop xs k

map_push : {A B : Type 0} (f : A → B) (xs : List A) (x : A) (ys : List B) → map f xs ++ f x ∷ ys ≡ map f (xs ++ x ∷ []) ++ ys
map_push f [] x ys = refl
map_push f (y ∷ xs) x ys = ap (λ zs. f y ∷ zs) (map_push f xs x ys)

all_behind : {A : Type 0} (xs : List A) → xs ++ [] ≡ xs
all_behind [] = refl
all_behind (x ∷ xs) = ap (λ ys. x ∷ ys) (all_behind xs)

pub drop_whole : {A : Type 0} (xs : List A) → drop (length xs) xs ≡ []
drop_whole [] = refl
drop_whole (x ∷ xs) = drop_whole xs

-- an entry as a symbol, with what stands behind it
abbrev entry_with : CoffFile → ℕ → Option Slot → Entry
entry_with file j o = record {
  number = j;
  symbol = (slot_in file (entry_place file j)).symbol;
  aux = cond (eqb (slot_in file (entry_place file j)).symbol.NumberOfAuxSymbols 0) None o;
}

entry_is : (file : CoffFile) (j : ℕ) → entry_with file j (first_of (drop (j + 1) (slots_of file))) ≡ entry_by file j
unfolding entry_by
entry_is file j = ap (entry_with file j) (first_drop (slots_of file) (j + 1))

-- how many auxiliary entries entry j says to follow
abbrev pub follow_of : CoffFile → ℕ → ℕ
follow_of file j = (slot_in file (entry_place file j)).symbol.NumberOfAuxSymbols

-- the symbols from entry j on
pub symbols_step : (file : CoffFile) → IsHeaded file → (j a : ℕ) → j < length (slots_of file)
    → symbols_from j a (drop j (slots_of file))
    ≡ cond (eqb a 0) (entry_by file j ∷ symbols_from (j + 1) (follow_of file j) (drop (j + 1) (slots_of file))) (symbols_from (j + 1) (a - 1) (drop (j + 1) (slots_of file)))
symbols_step file is j a low = ap (symbols_from j a) front ∙ by a
  where
    here : Slot
    here = slot_in file (entry_place file j)

    front : drop j (slots_of file) ≡ here ∷ drop (j + 1) (slots_of file)
    front = drop_more (slots_of file) j here low ∙ ap (λ (x : Slot). x ∷ drop (j + 1) (slots_of file)) (get_or_from_slice_get (slots_of file) j here here (entry_there file is j low))

    by : (a : ℕ) → symbols_from j a (here ∷ drop (j + 1) (slots_of file))
        ≡ cond (eqb a 0) (entry_by file j ∷ symbols_from (j + 1) (follow_of file j) (drop (j + 1) (slots_of file))) (symbols_from (j + 1) (a - 1) (drop (j + 1) (slots_of file)))
    by zero = ap (λ (e : Entry). e ∷ symbols_from (j + 1) (follow_of file j) (drop (j + 1) (slots_of file))) (entry_is file j)
    by (suc a) =
        let e : a ≡ suc a - 1 = omega arith in
        let some : eqb (suc a) 0 ≡ false = ne_eqb (suc a) 0 (λ z. absurd (omega (arith, z))) in
        ap (λ (n : ℕ). symbols_from (j + 1) n (drop (j + 1) (slots_of file))) e
        ∙ sym (ap (λ b. cond b (entry_by file j ∷ symbols_from (j + 1) (follow_of file j) (drop (j + 1) (slots_of file))) (symbols_from (j + 1) (suc a - 1) (drop (j + 1) (slots_of file)))) some)

pub passing_none : (file : CoffFile) → IsPassing file 0 0 []
unfolding entries_in
passing_none file = record { are = refl; there = tt }

-- one entry more
pub passing_more : (file : CoffFile) → IsHeaded file → (j a left : ℕ) (numbers more : List ℕ) → IsPassing file j a numbers → j < length (slots_of file)
    → more ≡ cond (eqb a 0) (numbers ++ j ∷ []) numbers → left ≡ cond (eqb a 0) (follow_of file j) (a - 1) → IsPassing file (j + 1) left more
passing_more file is j a left numbers more passing low pushed now = by (eqb a 0) (symbols_step file is j a low) pushed now
  where
    by : (b : Bool)
        → symbols_from j a (drop j (slots_of file)) ≡ cond b (entry_by file j ∷ symbols_from (j + 1) (follow_of file j) (drop (j + 1) (slots_of file))) (symbols_from (j + 1) (a - 1) (drop (j + 1) (slots_of file)))
        → more ≡ cond b (numbers ++ j ∷ []) numbers → left ≡ cond b (follow_of file j) (a - 1) → IsPassing file (j + 1) left more
    by true step pushed now = record {
      are = passing.are ∙ ap (λ (es : List Entry). map (entry_by file) numbers ++ es) step
          ∙ map_push (entry_by file) numbers j (symbols_from (j + 1) (follow_of file j) (drop (j + 1) (slots_of file)))
          ∙ ap (λ (ns : List ℕ). map (entry_by file) ns ++ symbols_from (j + 1) (follow_of file j) (drop (j + 1) (slots_of file))) (sym pushed)
          ∙ ap (λ (n : ℕ). map (entry_by file) more ++ symbols_from (j + 1) n (drop (j + 1) (slots_of file))) (sym now);
      there = subst (AllByRecursion (λ i. i < length (slots_of file))) (sym pushed) (all_push (length (slots_of file)) numbers j passing.there low);
    }
    by false step pushed now = record {
      are = passing.are ∙ ap (λ (es : List Entry). map (entry_by file) numbers ++ es) step
          ∙ ap (λ (ns : List ℕ). map (entry_by file) ns ++ symbols_from (j + 1) (a - 1) (drop (j + 1) (slots_of file))) (sym pushed)
          ∙ ap (λ (n : ℕ). map (entry_by file) more ++ symbols_from (j + 1) n (drop (j + 1) (slots_of file))) (sym now);
      there = subst (AllByRecursion (λ i. i < length (slots_of file))) (sym pushed) passing.there;
    }

-- all entries are passed
pub passing_end : (file : CoffFile) (j a : ℕ) (numbers : List ℕ) → IsPassing file j a numbers → j ≡ length (slots_of file) → AreNumbers file numbers
passing_end file j a numbers passing end = record {
  are = passing.are ∙ ap (λ (k : ℕ). map (entry_by file) numbers ++ symbols_from j a (drop k (slots_of file))) end
      ∙ ap (λ (xs : List Slot). map (entry_by file) numbers ++ symbols_from j a xs) (drop_whole (slots_of file))
      ∙ none_left a
      ∙ all_behind (map (entry_by file) numbers);
  there = passing.there;
}
  where
    none_left : (a : ℕ) → map (entry_by file) numbers ++ symbols_from j a [] ≡ map (entry_by file) numbers ++ []
    none_left zero = refl
    none_left (suc a) = refl
