-- The places of entries, one behind another.
use Rattle.std.proofs.Common.{◌≡◌, ℕ, zero, suc, ◌+◌, ◌-◌, ◌<◌, ◌≤◌, Bool, true, List, [], ◌∷◌, ◌++◌, length, Some, None, refl, sym, ◌∙◌, ap, subst, arith, append_assoc}
use Rattle.std.specs.{Prelude.{get_or, slice_get, slice_range, take}, Option.{option_map_or}}
use Rattle.std.proofs.lemmas.{Bool.Decides.{nat_tests}, Grind.{common_steps}, Option.{slice_get-get_or, slice_get_within}, Bool.{not-false}}
use Rattle.oc_omf_records.specs.{declared.records.Entry.{Entry as Record}, NextEntry.{end_of_entry, entry_of, is_whole}}
use Rattle.oc_linking.specs.FirstFault.{fault_of, first_broken, stage_fault}
use Rattle.oc_shelf.proofs.ReadingLaws.StageLemmas.{all_hold, clean_at}
use Rattle.oc_omf.specs.{Entries.{next_place, places_upto, places_in}, HeaderFaults.{header_stage, entry_conditions, is_begun}}
use Rattle.oc_omf.proofs.EntryLemmas.{conditions_at}

-- an entry that is whole has four bytes at least, and ends in the file
pub whole_inside : (file : List ℕ) (at : ℕ) → is_whole file at ≡ true → (at + 4 ≤ end_of_entry file at) × (end_of_entry file at ≤ length file)
whole_inside file at is = grind (arith, nat_tests)

-- so is one behind which another is looked for
pub next_inside : (file : List ℕ) (at next : ℕ) → next_place file at ≡ Some next → (at + 4 ≤ next) × (next ≤ length file)
next_inside file at next e = grind (arith, nat_tests)

-- the places from one on
abbrev pub places_from : List ℕ → ℕ → List ℕ
places_from file at = places_upto (length file + 1 - at) file at

places_enough : (n m : ℕ) (file : List ℕ) (at : ℕ) → at ≤ length file → length file < n + at → length file < m + at → places_upto n file at ≡ places_upto m file at
places_enough zero m file at low a b = absurd (omega (arith, low, a))
places_enough (suc n) zero file at low a b = absurd (omega (arith, low, b))
places_enough (suc n) (suc m) file at low a b = elim (next_place file at) as (λ o. next_place file at ≡ o → at ∷ option_map_or (places_upto n file) o [] ≡ at ∷ option_map_or (places_upto m file) o []) [
  | None ↦ λ e. refl
  | Some q ↦ λ e. let p = next_inside file at q e in ap (λ xs. at ∷ xs) (places_enough n m file q p.1 (omega (arith, a, p.0)) (omega (arith, b, p.0)))
] refl

-- a place, and those behind it
pub places_step : (file : List ℕ) (at : ℕ) → at ≤ length file → places_from file at ≡ at ∷ option_map_or (places_from file) (next_place file at) []
places_step file at low =
    let many : length file + 1 - at ≡ suc (length file - at) = omega (arith, low) in
    ap (λ n. places_upto n file at) many ∙ elim (next_place file at) as (λ o. next_place file at ≡ o → at ∷ option_map_or (places_upto (length file - at) file) o [] ≡ at ∷ option_map_or (places_from file) o []) [
      | None ↦ λ e. refl
      | Some q ↦ λ e. let p = next_inside file at q e in ap (λ xs. at ∷ xs) (places_enough (length file - at) (length file + 1 - q) file q p.1 (omega (arith, low, p.0)) (omega (arith, p.1)))
    ] refl

-- there are no more places than bytes, and one
pub few_places : (n : ℕ) (file : List ℕ) (at : ℕ) → length (places_upto n file at) ≤ n
few_places zero file at = omega arith
few_places (suc n) file at = elim (next_place file at) as (λ o. length (at ∷ option_map_or (places_upto n file) o []) ≤ suc n) [
  | None ↦ omega arith
  | Some q ↦ let few = few_places n file q in omega (arith, few)
]

pub few_entries : (file : List ℕ) → length (places_in file) ≤ length file + 1
unfolding places_in
few_entries file = few_places (length file + 1) file 0

-- the fault of the entry at a place
pub fault_here : (file : List ℕ) (i at : ℕ) (begun : Bool) → slice_get (places_in file) i ≡ Some at → begun ≡ is_begun file (take i (places_in file))
    → fault_of (header_stage file) i ≡ first_broken (entry_conditions file begun (i, at))
fault_here file i at begun here is =
    conditions_at (entry_conditions file (is_begun file (take i (places_in file)))) (places_in file) i at here ∙ ap (λ b. first_broken (entry_conditions file b (i, at))) (sym is)

-- the first place, and the places from it on
pub places_begin : (file : List ℕ) → places_in file ≡ places_from file 0
unfolding places_in
places_begin file = let many : length file + 1 ≡ length file + 1 - 0 = omega arith in ap (λ n. places_upto n file 0) many

-- one place more
pub places_more : (file places : List ℕ) (at : ℕ) → at ≤ length file → places_in file ≡ places ++ places_from file at
    → places_in file ≡ (places ++ at ∷ []) ++ option_map_or (places_from file) (next_place file at) []
places_more file places at low whole =
    whole ∙ ap (λ xs. places ++ xs) (places_step file at low) ∙ sym (append_assoc places (at ∷ []) (option_map_or (places_from file) (next_place file at) []))

-- where the entries have no fault, each stands whole
pub whole_at : (file : List ℕ) (i at : ℕ) → stage_fault (header_stage file) ≡ None → slice_get (places_in file) i ≡ Some at → is_whole file at ≡ true
unfolding entry_conditions
whole_at file i at clean here =
    let none = clean_at (fault_of (header_stage file)) (length (places_in file)) i clean (slice_get_within (places_in file) i at here) in
    not-false (is_whole file at) (all_hold (entry_conditions file (is_begun file (take i (places_in file))) (i, at)) (sym (fault_here file i at _ here refl) ∙ none)).0

-- the place that a list of all has at a position
pub place_among : (file places : List ℕ) (i at : ℕ) → places ≡ places_in file → i < length (places_in file) → at ≡ get_or places i at → slice_get (places_in file) i ≡ Some at
place_among file places i at all low is =
    slice_get-get_or (places_in file) i at low ∙ ap (λ xs. Some (get_or xs i at)) (sym all) ∙ ap (λ x. Some x) (sym is)

-- an entry that stands whole ends in the file
pub entry_small : (file : List ℕ) (at : ℕ) (r : Record) → is_whole file at ≡ true → length file ≤ 67108864 → r ≡ entry_of file at → r.place + length r.contents ≤ 67108864
entry_small file at r whole few is =
    let inside = whole_inside file at whole in
    let long : length (entry_of file at).contents ≤ end_of_entry file at - 1 - (at + 3) = slice_long file (at + 3) (end_of_entry file at - 1) in
    subst (λ (x : Record). x.place + length x.contents ≤ 67108864) (sym is) (omega (arith, inside.0, inside.1, long, few))
  where
    slice_long : (xs : List ℕ) (i j : ℕ) → length (slice_range xs i j) ≤ j - i
    slice_long xs i j = grind (arith, common_steps)
