-- Answers that borrow a value (our profile).
use Rattle.std.specs.Prelude.{◌≡◌, Result, MatchResult}
use denote.Ref.{Bor}

-- the answer is Ok exactly where this holds, and lends that value
abbrev pub LendsIff : {T E : Type 0} → Result (Bor T) E → Type 0 → T → Type 0
LendsIff {T} result Holds x = MatchResult result (λ (y : Bor T). Holds × (y.now ≡ x)) (λ _. ¬ Holds)
