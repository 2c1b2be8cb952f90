-- A search among names in ascending order.
use Rattle.std.proofs.Common.{◌≡◌, refl, ℕ, inl, inr, Bool, true, false, cond, List, [], ◌∷◌, length, map, ◌∙◌, ap, sym, get_or, arith}
use Rattle.std.specs.{Prelude.{Result, Ok, Err, bytes_eq, is_ok, filter, not, ◌&&◌, ◌||◌}, List.{list_any}}
use Rattle.std.specs.{List.Sorted.{IsBinarySearchResult, IsSearchInRange, IsPermutation}, declared.cmp.Ordering.{Ordering}}
use Rattle.std.specs.{declared.cmp.Ordering.TheVariants.{Less, Equal, Greater}, Ordering.{nat_cmp, is_eq}, Cmp.Lexicographic.{slice_cmp}}
use Rattle.std.proofs.lemmas.{Bool.{cases_lt}, Cmp.{nat_list_cmp_total, nat_list_eq_equiv}, List.Folds.{list_any_at, list_any_none}}
use Rattle.std.proofs.lemmas.{List.Sorted.{list_any-IsPermutation, searchable_from_sorted}, Map.Text.{is_eq-slice_cmp}}
use denote.Ref.{Bor}
use Rattle.oc_base.specs.Strings.{is_given}
use Rattle.oc_linking.specs.Parts.{is_local}
use Rattle.oc_neutral.specs.{declared.symbol.Symbol.{Symbol}, Building.{has_name}}
use Rattle.oc_strings.specs.Tables.{texts}
use Rattle.oc_target.specs.Sorting.{compared, IsInOrder, nonlocal_names}

-- a name that is given is one of the texts
given_texts : (name : List ℕ) (names : List (Bor (List ℕ))) → is_given (texts names) name ≡ list_any (λ b. bytes_eq name b.now) names
given_texts name [] = refl
given_texts name (b ∷ names) = ap (λ rest. bytes_eq name b.now || rest) (given_texts name names)

-- names that compare as equal are one
same_name : (name : List ℕ) (b : Bor (List ℕ)) (o : Ordering) → slice_cmp nat_cmp b.now name ≡ o → bytes_eq name b.now ≡ is_eq o
same_name name b o e = nat_list_eq_equiv.symm name b.now ∙ sym (is_eq-slice_cmp b.now name) ∙ ap is_eq e

-- a search tells whether the name is given
pub searched : (names : List (Bor (List ℕ))) (query : Bor (List ℕ)) (r : Result ℕ ℕ) → IsInOrder names → IsSearchInRange r (length names) → IsBinarySearchResult (λ b. compared b query) names r
    → is_ok r ≡ is_given (texts names) query.now
searched names query (Ok i) order within found =
    sym (given_texts query.now names
    ∙ list_any_at (λ b. bytes_eq query.now b.now) names i query within (same_name query.now (get_or names i query) Equal (found query)))
searched names query (Err i) order within found =
    let parted = found (searchable_from_sorted nat_list_cmp_total (λ (b : Bor (List ℕ)). b.now) names query.now order) in
    sym (given_texts query.now names ∙ list_any_none (λ b. bytes_eq query.now b.now) names (λ k d l. elim (cases_lt k i) [
      | inl before ↦ same_name query.now (get_or names k d) Less (parted.0 k d (omega arith) before)
      | inr behind ↦ same_name query.now (get_or names k d) Greater (parted.1 k d behind l)
    ]))

-- the names of symbols that are not Local
named : (name : List ℕ) (symbols : List Symbol) → is_given (nonlocal_names symbols) name ≡ has_name symbols name
named name [] = refl
named name (s ∷ symbols) = by (is_local s.binding) (named name symbols)
  where
    rest : List Symbol
    rest = filter (λ (x : Symbol). not (is_local x.binding)) symbols

    by : (b : Bool) → is_given (nonlocal_names symbols) name ≡ has_name symbols name
        → is_given (map (λ (x : Symbol). x.name) (cond (not b) (s ∷ rest) rest)) name ≡ ((not b && bytes_eq s.name name) || has_name symbols name)
    by true e = e
    by false e = ap (λ c. c || is_given (nonlocal_names symbols) name) (nat_list_eq_equiv.symm name s.name) ∙ ap (λ c. bytes_eq s.name name || c) e

-- the same in another order
pub named_sorted : (symbols : List Symbol) (before after : List (Bor (List ℕ))) → texts before ≡ nonlocal_names symbols → IsPermutation before after
    → (name : List ℕ) → is_given (texts after) name ≡ has_name symbols name
named_sorted symbols before after are moved name =
    given_texts name after ∙ sym (list_any-IsPermutation (λ b. bytes_eq name b.now) before after moved) ∙ sym (given_texts name before)
    ∙ ap (λ names. is_given names name) are ∙ named name symbols
