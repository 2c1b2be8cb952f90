-- Names that came before, each with a number (our profile).
use Rattle.std.specs.{Prelude.{ℕ, List, Option}, BTreeMap.{BTreeMap, get_by}, Cmp.Lexicographic.{slice_cmp}, Ordering.{nat_cmp}}
use denote.Ref.{Bor}

-- names with their numbers
abbrev pub NameNumbers : Type 0
NameNumbers = BTreeMap (Bor (List ℕ)) ℕ

-- the number of a name, if it is held
abbrev pub value_at : NameNumbers → List ℕ → Option ℕ
value_at held name = get_by (λ k. slice_cmp nat_cmp name k.now) held
