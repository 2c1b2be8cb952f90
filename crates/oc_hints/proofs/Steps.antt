-- One more turn of a loop over the things of a list.
use Rattle.std.proofs.Common.{◌≡◌, ℕ, ◌+◌, ◌<◌, true, false, List, ◌∷◌, ◌++◌, drop, length, append_assoc, sym, ◌∙◌, ap}
use Rattle.std.specs.Prelude.{◌||◌, get_or, slice_get, Some}
use Rattle.std.proofs.lemmas.Option.{slice_get-get_or}
use Rattle.oc_neutral.specs.KindRules.{begins}
use Rattle.oc_neutral.proofs.FieldLists.{drop_here}
use Rattle.oc_hints.specs.{declared.hint.Hint.{Hint}, Hints.{each_from}, Names.{holds}}

module _ {X : Type 0} (give : ℕ → X → List Hint) (xs : List X) (all : List Hint) where
  -- those so far, and those of the things that are left
  abbrev pub AreAll : ℕ → List Hint → Type 0
  AreAll k found = found ++ each_from give k (drop k xs) ≡ all

  -- with those of one more thing
  pub each_more : (k : ℕ) (x : X) (before now : List Hint) → slice_get xs k ≡ Some x → now ≡ before ++ give k x → AreAll k before → AreAll (k + 1) now
  each_more k x before now here is was =
      let rest : List Hint = each_from give (k + 1) (drop (k + 1) xs) in
      ap (λ t. t ++ rest) is ∙ append_assoc before (give k x) rest ∙ ap (λ t. before ++ t) (sym (ap (each_from give k) (drop_here xs k x here))) ∙ was

-- a text that does not begin at a byte begins behind it, or nowhere
pub not_here : (text bytes : List ℕ) (k : ℕ) → k < length bytes → begins (drop k bytes) text ≡ false → holds text (drop k bytes) ≡ holds text (drop (k + 1) bytes)
not_here text bytes k there test =
    let here : drop k bytes ≡ get_or bytes k 0 ∷ drop (k + 1) bytes = drop_here bytes k (get_or bytes k 0) (slice_get-get_or bytes k 0 there) in
    ap (holds text) here ∙ ap (λ t. t || holds text (drop (k + 1) bytes)) (sym (ap (λ b. begins b text) here) ∙ test)

-- one that begins at a byte is found
pub found_here : (text bytes : List ℕ) (k : ℕ) → k < length bytes → begins (drop k bytes) text ≡ true → holds text (drop k bytes) ≡ true
found_here text bytes k there test =
    let here : drop k bytes ≡ get_or bytes k 0 ∷ drop (k + 1) bytes = drop_here bytes k (get_or bytes k 0) (slice_get-get_or bytes k 0 there) in
    ap (holds text) here ∙ ap (λ t. t || holds text (drop (k + 1) bytes)) (sym (ap (λ b. begins b text) here) ∙ test)
