-- A count with one more.
use Rattle.std.proofs.Common.{◌≡◌, refl, ℕ, ◌+◌, ◌≤◌, Bool, true, false, cond, List, Some, ◌∙◌, ap, arith}
use Rattle.std.specs.{Prelude.{slice_get, take}, Int.{from_bool}, List.{count_by, range_with_len}}
use Rattle.oc_target.proofs.Steps.{sum_more, count_more}

-- one, where it holds
one_where : (b : Bool) → from_bool b ≡ cond b 1 0
one_where true = refl
one_where false = refl

-- and no more
at_most_one : (b : Bool) → cond b 1 0 ≤ 1
at_most_one true = omega arith
at_most_one false = omega arith

-- one more of a list
pub counted_next : {X : Type 0} (p : X → Bool) (xs : List X) (k count next one : ℕ) (x : X) (b : Bool) → slice_get xs k ≡ Some x → b ≡ p x → one ≡ from_bool b → next ≡ count + one
    → (count ≡ count_by p (take k xs)) × (count ≤ k) → (next ≡ count_by p (take (k + 1) xs)) × (next ≤ k + 1)
counted_next p xs k count next one x b here tested is added before =
    let more : count_by p (take (k + 1) xs) ≡ count_by p (take k xs) + cond (p x) 1 0 = sum_more (λ y. cond (p y) 1 0) xs k x here in
    let same : one ≡ cond (p x) 1 0 = is ∙ one_where b ∙ ap (λ c. cond c 1 0) tested in
    let few = at_most_one (p x) in
    (omega (arith, more, same, added, before.0), omega (arith, same, few, added, before.1))

-- one more number
pub numbered_next : (p : ℕ → Bool) (k count next one : ℕ) (b : Bool) → b ≡ p k → one ≡ from_bool b → next ≡ count + one
    → (count ≡ count_by p (range_with_len 0 k)) × (count ≤ k) → (next ≡ count_by p (range_with_len 0 (k + 1))) × (next ≤ k + 1)
numbered_next p k count next one b tested is added before =
    let more : count_by p (range_with_len 0 (k + 1)) ≡ count_by p (range_with_len 0 k) + cond (p k) 1 0 = count_more p k in
    let same : one ≡ cond (p k) 1 0 = is ∙ one_where b ∙ ap (λ c. cond c 1 0) tested in
    let few = at_most_one (p k) in
    (omega (arith, more, same, added, before.0), omega (arith, same, few, added, before.1))
