-- Names that are taken up one after another.
use Rattle.std.proofs.Common.{◌≡◌, ℕ, List, [], ◌∷◌, ◌++◌, refl, ap}
use denote.Ref.{Bor}
use Rattle.oc_omf.specs.Known.{names_of}

-- one name more, and others behind it
pub names_more : (names : List (Bor (List ℕ))) (name : Bor (List ℕ)) (rest : List (List ℕ)) → names_of (names ++ name ∷ []) ++ rest ≡ names_of names ++ name.now ∷ rest
names_more [] name rest = refl
names_more (n ∷ names) name rest = ap (λ xs. n.now ∷ xs) (names_more names name rest)
