-- Texts that begin with a prefix.
use Rattle.std.proofs.Common.{◌≡◌, ℕ, ◌+◌, true, false, List, length, drop, refl, sym, ◌∙◌, ap, subst, MatchOption}
use Rattle.std.specs.{Prelude.{Option, Some, None}, Borrow.{Bor}, Str.{IsCharBoundary}, Str.Pattern.{FindsTextPrefix}}
use Rattle.std.proofs.lemmas.Str.Pattern.{starts_text}
use Rattle.oc_words.specs.Texts.{behind}

-- what `strip_prefix` gives is what stands behind the prefix
pub behind_stripped : (n s : List ℕ) (r : Option (Bor (List ℕ)))
    → MatchOption r (FindsTextPrefix n s None) (λ x. (k : ℕ) × FindsTextPrefix n s (Some k) × (x.now ≡ drop k s) × (length x.now + k ≡ length s))
    → MatchOption r (behind n s ≡ None) (λ x. behind n s ≡ Some x.now)
behind_stripped n s None lacks = rw (← starts_text false n s lacks) refl
behind_stripped n s (Some x) found =
    let at = found.1 in
    let boundary : IsCharBoundary s found.0 = subst (IsCharBoundary s) (sym at.0) at.2 in
    rw (← starts_text true n s (found.0, at, boundary)) (ap Some (ap (λ k. drop k s) (sym at.0) ∙ sym found.2))
