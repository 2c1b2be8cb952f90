-- The segments of the symbols that a module alone sees (our profile).
use Rattle.std.specs.{Prelude.{◌≡◌, ℕ, Bool, true, List, [], ◌∷◌, ◌++◌}, List.{find}, Option.{option_map}}
use Rattle.oc_omf.specs.{Structures.{Public}, Symbols.{Mention, public_mention, same_symbol}}
use Rattle.oc_omf_judge.specs.NameNumbers.{NameNumbers, value_at}

-- what this module alone sees under a name
abbrev pub local_mention : List ℕ → Mention
local_mention name = record { local = true; name = name }

-- each name is held with the segment of the first definition that this module alone sees under it
abbrev pub AreLocals : List Public → NameNumbers → Type 0
AreLocals publics held = (name : List ℕ) → value_at held name ≡ option_map (λ (p : Public). p.segment) (find (λ p. same_symbol (local_mention name) (public_mention p)) publics)

-- the segment of a definition of that name is recorded as well
abbrev pub IsLocated : NameNumbers → Bool → ℕ → List ℕ → NameNumbers → Type 0
IsLocated old local segment name new =
    (publics : List Public) (p : Public)
    → AreLocals publics old → p.local ≡ local → p.name ≡ name → p.segment ≡ segment → AreLocals (publics ++ p ∷ []) new

-- the segments of more definitions are recorded as well
abbrev pub AreLocated : NameNumbers → List Public → NameNumbers → Type 0
AreLocated old more new = (publics : List Public) → AreLocals publics old → AreLocals (publics ++ more) new
