-- The first field that passes a test, by a scan of the offsets and along the fields.
use Rattle.std.proofs.Common.{◌≡◌, ℕ, zero, suc, ◌+◌, ◌≤◌, Bool, false, cond, List, [], ◌∷◌, length, drop, Some, None, inl, inr, refl, sym, ◌∙◌, ap, arith}
use Rattle.std.specs.{Prelude.{nat_eq, slice_get}, List.{AllByRecursion}, Option.{option_map, option_map_or}}
use Rattle.std.proofs.lemmas.{Bool.{cases_eq}, Bool.Decides.{nat_tests}, Option.{none-some, same_Some}}
use Rattle.oc_linking.specs.{Numbers.{first_from, or_else}, Images.{Patches, emptied, first_at, first_field}, declared.terms.Patch.{Patch}}
use Rattle.oc_chains.specs.{declared.field.Field.{Field}, Fields.{FollowFrom, end_of}}
use Rattle.oc_neutral.specs.{declared.reloc.Reloc.{Reloc}, Objects.{reloc_among}}
use Rattle.oc_neutral.proofs.{Scanning.{follows_from}, SortedFields.{found_first, none_before, other_first}}
use Rattle.oc_link.specs.Values.{first_of}

-- a scan that finds none
none_hit : (hit : ℕ → Bool) (start m : ℕ) → ((at : ℕ) → start ≤ at → hit at ≡ false) → first_from hit start m ≡ None
none_hit hit start zero none = refl
none_hit hit start (suc m) none =
    ap (λ b. cond b (Some start) (first_from hit (start + 1) m)) (none start (omega arith)) ∙ none_hit hit (start + 1) m (λ at l. none at (omega (arith, l)))

module _ (test : ℕ → Reloc → Bool) (hit : ℕ → Bool) where
  -- what the fields say at an offset
  abbrev pub among : List (Field Reloc) → ℕ → Bool
  among xs at = option_map_or (test at) (reloc_among xs at) false

  pub scan : (start m end : ℕ) (xs : List (Field Reloc)) → start + m ≡ end → FollowFrom start xs → AllByRecursion (λ x. end_of x ≤ end) xs → ((at : ℕ) → start ≤ at → hit at ≡ among xs at)
      → first_from hit start m ≡ first_of test xs
  scan start m end [] long follow ends found = none_hit hit start m found
  scan start zero end (x ∷ xs) long follow ends found = absurd (let a = follow.0 in let b = follow.1 in let c = ends.0 in omega (arith, a, b, c, long))
  scan start (suc m) end (x ∷ xs) long follow ends found = elim (cases_eq x.at start) [
    | inl here ↦
        let thick = follow.1 in
        let first : hit start ≡ test x.at x.item = found start (omega arith) ∙ ap (λ i. option_map_or (test i) (reloc_among (x ∷ xs) i) false) (sym here)
        ∙ ap (λ o. option_map_or (test x.at) o false) (found_first x xs) in
        let rest : first_from hit (start + 1) m ≡ first_of test xs = scan (start + 1) m end xs (omega (arith, long)) (follows_from (start + 1) (end_of x) xs (omega (arith, here, thick)) follow.2) ends.1
        (λ at l. found at (omega (arith, l)) ∙ ap (λ o. option_map_or (test at) o false) (let other : nat_eq x.at at ≡ false = grind (arith, nat_tests, here, l) in other_first x xs at other)) in
        ap (λ b. cond b (Some start) (first_from hit (start + 1) m)) first ∙ ap (λ i. cond (test x.at x.item) (Some i) (first_from hit (start + 1) m)) (sym here)
        ∙ ap (cond (test x.at x.item) (Some x.at)) rest
    | inr other ↦
        let from = follow.0 in
        ap (λ b. cond b (Some start) (first_from hit (start + 1) m))
        (found start (omega arith) ∙ ap (λ o. option_map_or (test start) o false) (none_before x.at (x ∷ xs) start (omega arith, follow.1, follow.2) (omega (arith, from, other))))
        ∙ scan (start + 1) m end (x ∷ xs) (omega (arith, long)) (omega (arith, from, other), follow.1, follow.2) ends (λ at l. found at (omega (arith, l)))
  ]

-- contents at a position, of which those that are discarded have none
pub emptied_at : (discarded : ℕ → Bool) (s k i : ℕ) (xs : List (List ℕ)) (c : List ℕ) → s + k ≡ i → slice_get xs k ≡ Some c → slice_get (emptied discarded s xs) k ≡ Some (cond (discarded i) [] c)
emptied_at discarded s k i [] c at here = absurd (none-some c here)
emptied_at discarded s zero i (x ∷ xs) c at here =
    let e : s ≡ i = omega (arith, at) in ap (λ j. Some (cond (discarded j) [] x)) e ∙ ap (λ y. Some (cond (discarded i) [] y)) (same_Some x c here)
emptied_at discarded s (suc k) i (x ∷ xs) c at here = emptied_at discarded (s + 1) k i xs c (omega (arith, at)) here

pub length-emptied : (discarded : ℕ → Bool) (s : ℕ) (xs : List (List ℕ)) → length (emptied discarded s xs) ≡ length xs
length-emptied discarded s [] = refl
length-emptied discarded s (x ∷ xs) = ap suc (length-emptied discarded (s + 1) xs)
