-- The segment in a name, by where the first comma stands.
use Rattle.std.proofs.Common.{◌≡◌, ℕ, ◌≤◌, true, false, Bool, List, Some, None, cond, length, nat_lt, ap, sym, refl, arith}
use Rattle.std.specs.{Prelude.{take}, List.{position_or_len}}
use Rattle.std.proofs.lemmas.{Bool.Decides.{nat_tests}, List.{take_all}, Option.{none-some, same_Some}}
use Rattle.oc_neutral.specs.Mach.Kinds.{is_comma, segment_of}
use Rattle.oc_target.specs.Commas.{comma_place}

-- what stands before it
pub before_comma : (name : List ℕ) (at : ℕ) → comma_place name ≡ Some at → take at name ≡ segment_of name
before_comma name at e = by (nat_lt (position_or_len is_comma name) (length name)) e
  where
    by : (b : Bool) → cond b (Some (position_or_len is_comma name)) None ≡ Some at → take at name ≡ segment_of name
    by true e = ap (λ k. take k name) (sym (same_Some (position_or_len is_comma name) at e))
    by false e = absurd (none-some at e)

-- all, where there is none
pub no_comma : (name : List ℕ) → comma_place name ≡ None → name ≡ segment_of name
no_comma name e = by (nat_lt (position_or_len is_comma name) (length name)) refl e
  where
    by : (b : Bool) → nat_lt (position_or_len is_comma name) (length name) ≡ b → cond b (Some (position_or_len is_comma name)) None ≡ None → name ≡ segment_of name
    by true h e = absurd (none-some (position_or_len is_comma name) (sym e))
    by false h e = let past : length name ≤ position_or_len is_comma name = grind (arith, nat_tests, h) in sym (take_all (position_or_len is_comma name) name past)
