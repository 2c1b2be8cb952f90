-- The segment and the section in a name, by where the first comma stands.
use Rattle.std.proofs.Common.{◌≡◌, ℕ, ◌+◌, ◌≤◌, true, false, Bool, List, [], Some, None, cond, length, nat_lt, ap, sym, refl, arith}
use Rattle.std.specs.{Prelude.{drop}, List.{position_or_len}}
use Rattle.std.proofs.lemmas.{Bool.Decides.{nat_tests}, List.{drop_all}, Option.{none-some, same_Some}}
use Rattle.oc_neutral.specs.Mach.Kinds.{is_comma, section_of}
use Rattle.oc_target.specs.Commas.{comma_place}

-- what stands behind it
pub after_comma : (name : List ℕ) (at : ℕ) → comma_place name ≡ Some at → drop (at + 1) name ≡ section_of name
after_comma name at e = by (nat_lt (position_or_len is_comma name) (length name)) e
  where
    by : (b : Bool) → cond b (Some (position_or_len is_comma name)) None ≡ Some at → drop (at + 1) name ≡ section_of name
    by true e = ap (λ k. drop (k + 1) name) (sym (same_Some (position_or_len is_comma name) at e))
    by false e = absurd (none-some at e)

-- nothing, where there is none
pub nothing_after : (name : List ℕ) → comma_place name ≡ None → [] ≡ section_of name
nothing_after name e = by (nat_lt (position_or_len is_comma name) (length name)) refl e
  where
    by : (b : Bool) → nat_lt (position_or_len is_comma name) (length name) ≡ b → cond b (Some (position_or_len is_comma name)) None ≡ None → [] ≡ section_of name
    by true h e = absurd (none-some (position_or_len is_comma name) (sym e))
    by false h e = let past : length name ≤ position_or_len is_comma name + 1 = grind (arith, nat_tests, h) in sym (drop_all (position_or_len is_comma name + 1) name past)
