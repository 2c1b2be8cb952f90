-- Lists that are gathered entry by entry: each entry gives an item or none (our profile).
use Rattle.std.specs.Prelude.{ℕ, zero, suc, if◌then◌else◌, is_some, List, [], ◌∷◌, ◌++◌, length, Option, Some, None}

-- the list, and after it the item, if there is one
abbrev pub with_option : {X : Type 0} → List X → Option X → List X
with_option xs None = xs
with_option xs (Some x) = xs ++ x ∷ []

-- what the first n entries give, in their order
abbrev pub collected : {X : Type 0} → (ℕ → Option X) → ℕ → List X
collected item zero = []
collected item (suc n) = with_option (collected item n) (item n)

-- the position at which the item of entry k comes, where it gives one
abbrev pub position_in : {X : Type 0} → (ℕ → Option X) → ℕ → Option ℕ
position_in item k = if is_some (item k) then Some (length (collected item k)) else None
