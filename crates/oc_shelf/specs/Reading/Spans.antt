-- Spans of bytes that are taken one after another, in any order (our profile).
use Rattle.std.specs.{Prelude.{◌≡◌, ℕ, ◌<◌, ◌≤◌, Bool, ◌&&◌, nat_lt, List, Option, Some}, Map.{lookup}, Ordering.{is_eq, nat_cmp}}

-- where spans end, by where they begin
abbrev pub end_at : List (ℕ × ℕ) → ℕ → Option ℕ
end_at spans begin = lookup (λ k. is_eq (nat_cmp begin k)) spans

-- two spans have a byte in common
abbrev pub meets : ℕ × ℕ → ℕ × ℕ → Bool
meets x y = nat_lt x.0 y.1 && nat_lt y.0 x.1

-- each has a byte, and none meets another
pub record AreSpans (spans : List (ℕ × ℕ)) : Type 0 where
  pub some : (q e : ℕ) → end_at spans q ≡ Some e → q < e
  pub apart : (q e r f : ℕ) → end_at spans q ≡ Some e → end_at spans r ≡ Some f → q < r → e ≤ r

-- none ends past a place
abbrev pub EndBy : ℕ → List (ℕ × ℕ) → Type 0
EndBy top spans = (q e : ℕ) → end_at spans q ≡ Some e → e ≤ top

-- one of them has a byte between two places
pub record IsMet (spans : List (ℕ × ℕ)) (begin end : ℕ) : Type 0 where
  pub start : ℕ
  pub stop : ℕ
  pub there : end_at spans start ≡ Some stop
  pub before : start < end
  pub behind : begin < stop

-- they are those of the first n entries
pub record AreSpansOf (span : ℕ → Option (ℕ × ℕ)) (n : ℕ) (spans : List (ℕ × ℕ)) : Type 0 where
  pub from : (q e : ℕ) → end_at spans q ≡ Some e → (j : ℕ) × (j < n) × (span j ≡ Some (q, e))
  pub there : (j q e : ℕ) → j < n → span j ≡ Some (q, e) → end_at spans q ≡ Some e
