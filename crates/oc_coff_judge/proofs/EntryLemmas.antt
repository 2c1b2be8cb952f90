-- The symbols of a file stand where their numbers say, and their numbers rise.
use Rattle.oc_coff.specs.{Files.{CoffFile, tables_in}, Tables.{Slot}, Entries.{Entry, entries_in, symbols_from}, Head.{IsHeaded}}
use Rattle.std.proofs.Common.{◌≡◌, ℕ, zero, suc, ◌+◌, ◌-◌, ◌<◌, ◌≤◌, Bool, true, false, cond, eqb, List, [], ◌∷◌, length, drop, Some, refl, sym, ◌∙◌, ap, subst, arith}
use Rattle.std.specs.{Prelude.{slice_get, find, filter}, List.{AllByRecursion}}
use Rattle.std.proofs.lemmas.Option.{none-some, same_Some}
use Rattle.oc_coff_judge.specs.Numbered.{entry_by}
use Rattle.oc_coff_judge.proofs.NumberLemmas.{drop_whole, follow_of, slots_of, symbols_step}

-- the symbol is the entry of its number
pub record IsEntry (file : CoffFile) (e : Entry) : Type 0 where
  pub low : e.number < length (slots_of file)
  pub is : e ≡ entry_by file e.number

entry_sound : (file : CoffFile) (j : ℕ) → j < length (slots_of file) → IsEntry file (entry_by file j)
unfolding entry_by
entry_sound file j low = record { low = low; is = refl }

pub number_is : (file : CoffFile) (j : ℕ) → (entry_by file j).number ≡ j
unfolding entry_by
number_is file j = refl

-- numbers rise from one on
abbrev pub Rise : ℕ → List Entry → Type 0
Rise m [] = Unit {0}
Rise m (e ∷ entries) = (m ≤ e.number) × Rise (e.number + 1) entries

rise_later : (m n : ℕ) (entries : List Entry) → m ≤ n → Rise n entries → Rise m entries
rise_later m n [] le rise = tt
rise_later m n (e ∷ entries) le rise = let first = rise.0 in (omega (arith, le, first), rise.1)

module _ (file : CoffFile) (is : IsHeaded file) where
  sound_from : (n j a : ℕ) → j + n ≡ length (slots_of file) → AllByRecursion (IsEntry file) (symbols_from j a (drop j (slots_of file))) × Rise j (symbols_from j a (drop j (slots_of file)))
  sound_from zero j a end =
      let all : j ≡ length (slots_of file) = omega (arith, end) in
      subst (λ (xs : List Slot). AllByRecursion (IsEntry file) (symbols_from j a xs) × Rise j (symbols_from j a xs)) (sym (ap (λ (k : ℕ). drop k (slots_of file)) all ∙ drop_whole (slots_of file))) (none a)
    where
      none : (a : ℕ) → AllByRecursion (IsEntry file) (symbols_from j a []) × Rise j (symbols_from j a [])
      none zero = (tt, tt)
      none (suc a) = (tt, tt)
  sound_from (suc n) j a end =
      let low : j < length (slots_of file) = omega (arith, end) in
      subst (λ (es : List Entry). AllByRecursion (IsEntry file) es × Rise j es) (sym (symbols_step file is j a low))
      (by (eqb a 0) low (sound_from n (j + 1) (follow_of file j) (omega (arith, end))) (sound_from n (j + 1) (a - 1) (omega (arith, end))))
    where
      new : ℕ → List Entry
      new b = symbols_from (j + 1) b (drop (j + 1) (slots_of file))

      by : (b : Bool) → j < length (slots_of file) → AllByRecursion (IsEntry file) (new (follow_of file j)) × Rise (j + 1) (new (follow_of file j)) → AllByRecursion (IsEntry file) (new (a - 1)) × Rise (j + 1) (new (a - 1))
          → AllByRecursion (IsEntry file) (cond b (entry_by file j ∷ new (follow_of file j)) (new (a - 1))) × Rise j (cond b (entry_by file j ∷ new (follow_of file j)) (new (a - 1)))
      by true low taken passed =
          let same = number_is file j in
          ((entry_sound file j low, taken.0), (omega (arith, same), subst (λ (k : ℕ). Rise (k + 1) (new (follow_of file j))) (sym same) taken.1))
      by false low taken passed = (passed.0, rise_later j (j + 1) (new (a - 1)) (omega arith) passed.1)

  whole : AllByRecursion (IsEntry file) (entries_in (tables_in file)) × Rise 0 (entries_in (tables_in file))
  unfolding entries_in
  whole = let all : 0 + length (slots_of file) ≡ length (slots_of file) = omega arith in sound_from (length (slots_of file)) 0 0 all

  pub entries_sound : AllByRecursion (IsEntry file) (entries_in (tables_in file))
  entries_sound = whole.0

  pub entries_rise : Rise 0 (entries_in (tables_in file))
  entries_rise = whole.1

-- each stands behind where they rise from
rise_low : (m : ℕ) (entries : List Entry) (k : ℕ) (e : Entry) → Rise m entries → slice_get entries k ≡ Some e → m ≤ e.number
rise_low m [] k e rise here = absurd (none-some e here)
rise_low m (x ∷ entries) zero e rise here = subst (λ (y : Entry). m ≤ y.number) (same_Some x e here) rise.0
rise_low m (x ∷ entries) (suc k) e rise here = let first = rise.0 in let later = rise_low (x.number + 1) entries k e rise.1 here in omega (arith, first, later)

-- so a later one has a greater number
pub rise_apart : (m : ℕ) (entries : List Entry) (p q : ℕ) (e f : Entry) → Rise m entries → p < q → slice_get entries p ≡ Some e → slice_get entries q ≡ Some f → e.number < f.number
rise_apart m [] p q e f rise less here there = absurd (none-some e here)
rise_apart m (x ∷ entries) zero zero e f rise less here there = absurd (omega (arith, less))
rise_apart m (x ∷ entries) zero (suc q) e f rise less here there =
    let later = rise_low (x.number + 1) entries q f rise.1 there in
    let same = ap (λ (y : Entry). y.number) (same_Some x e here) in
    omega (arith, later, same)
rise_apart m (x ∷ entries) (suc p) zero e f rise less here there = absurd (omega (arith, less))
rise_apart m (x ∷ entries) (suc p) (suc q) e f rise less here there = rise_apart (x.number + 1) entries p q e f rise.1 (omega (arith, less)) here there

-- what a filter leaves was there, and passes
pub record IsPassed {X : Type 0} (test : X → Bool) (xs : List X) (x : X) : Type 0 where
  pub place : ℕ
  pub there : slice_get xs place ≡ Some x
  pub passes : test x ≡ true

pub filter_from : {X : Type 0} (test : X → Bool) (xs : List X) (i : ℕ) (x : X) → slice_get (filter test xs) i ≡ Some x → IsPassed test xs x
filter_from test [] i x here = absurd (none-some x here)
filter_from {X} test (y ∷ ys) i x here = by (test y) refl i here (λ k h. filter_from test ys k x h)
  where
    later : IsPassed test ys x → IsPassed test (y ∷ ys) x
    later p = record { place = suc p.place; there = p.there; passes = p.passes }

    by : (b : Bool) → test y ≡ b → (i : ℕ) → slice_get (cond b (y ∷ filter test ys) (filter test ys)) i ≡ Some x → ((k : ℕ) → slice_get (filter test ys) k ≡ Some x → IsPassed test ys x) → IsPassed test (y ∷ ys) x
    by true e zero here rest = let same = same_Some y x here in record { place = 0; there = here; passes = subst (λ (z : X). test z ≡ true) same e }
    by true e (suc i) here rest = later (rest i here)
    by false e i here rest = later (rest i here)

-- and what is found, too
pub find_from : {X : Type 0} (test : X → Bool) (xs : List X) (x : X) → find test xs ≡ Some x → IsPassed test xs x
find_from test [] x here = absurd (none-some x here)
find_from {X} test (y ∷ ys) x here = by (test y) refl here (λ h. find_from test ys x h)
  where
    later : IsPassed test ys x → IsPassed test (y ∷ ys) x
    later p = record { place = suc p.place; there = p.there; passes = p.passes }

    by : (b : Bool) → test y ≡ b → cond b (Some y) (find test ys) ≡ Some x → (find test ys ≡ Some x → IsPassed test ys x) → IsPassed test (y ∷ ys) x
    by true e here rest = let same = same_Some y x here in record { place = 0; there = here; passes = subst (λ (z : X). test z ≡ true) same e }
    by false e here rest = later (rest here)
