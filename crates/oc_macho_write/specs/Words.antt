-- Lists in vectors, by positions.
use Rattle.std.specs.{Prelude.{ℕ, List, [], map, slice_index_or, Vec}, Global.{Global}}

-- the lists that vectors hold
abbrev pub items_of : {X : Type 0} → List (Vec X Global) → List (List X)
items_of {X} vectors = map (λ (v : Vec X Global). v.items) vectors

-- what the vector at a position holds
abbrev pub items_at : {X : Type 0} → List (Vec X Global) → ℕ → List X
items_at vectors k = slice_index_or (items_of vectors) k []
