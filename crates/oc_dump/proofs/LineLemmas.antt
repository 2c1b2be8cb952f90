-- One more line.
use Rattle.std.proofs.Common.{◌≡◌, ℕ, ◌+◌, List, [], ◌∷◌, ◌++◌, take, ◌∙◌, ap}
use Rattle.std.specs.{Prelude.{slice_get, Some}, List.{flat_map}}
use Rattle.std.proofs.lemmas.{List.{append-nil, take_more}, List.Concat.{flat_map-append}, Option.{slice_get_within, get_or_from_slice_get}}

-- the lines up to the next
pub flat_map-next : {X : Type 0} (f : X → List ℕ) (xs : List X) (i : ℕ) (x : X) → slice_get xs i ≡ Some x → flat_map f (take (i + 1) xs) ≡ flat_map f (take i xs) ++ f x
flat_map-next f xs i x e =
    ap (flat_map f) (take_more xs i x (slice_get_within xs i x e) ∙ ap (λ y. take i xs ++ y ∷ []) (get_or_from_slice_get xs i x x e)) ∙ flat_map-append f (take i xs) (x ∷ [])
    ∙ ap (λ ys. flat_map f (take i xs) ++ ys) (append-nil (f x))
