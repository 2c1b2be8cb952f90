-- Structures that are read one behind another to the end of the contents.
use Rattle.std.proofs.Common.{◌≡◌, ℕ, zero, suc, ◌+◌, ◌-◌, ◌<◌, ◌≤◌, Bool, true, false, cond, List, [], ◌∷◌, length, Ok, Err, refl, ◌∙◌, ap, arith}
use Rattle.std.specs.Prelude.{nat_lt}
use Rattle.std.proofs.lemmas.{Bool.{true≢false}, Bool.Decides.{nat_tests}}
use Rattle.oc_omf.specs.{declared.cut.Cut.{Cut}, Cursor.{Reading, Read, and_more, each_upto, each_read, index_read, name_read, next, number_read}}
use Rattle.oc_omf.specs.Structures.{member_read}

-- each structure that is read has a byte, and ends in the contents
abbrev pub Goes : {X : Type 0} → (List ℕ → ℕ → Reading X) → List ℕ → Type 0
Goes {X} read b = (at : ℕ) (x : X) (q : ℕ) → read b at ≡ Ok (x, q) → (at < q) × (q ≤ length b)

-- the structures from a place on
abbrev pub each_from : {X : Type 0} → (List ℕ → ℕ → Reading X) → List ℕ → ℕ → List (Read X)
each_from read b at = each_upto (length b - at) read b at

module _ {X : Type 0} (read : List ℕ → ℕ → Reading X) (b : List ℕ) (goes : Goes read b) where
  each_same : (n m at : ℕ) → length b ≤ n + at → length b ≤ m + at → each_upto n read b at ≡ each_upto m read b at
  each_same zero zero at k l = refl
  each_same zero (suc m) at k l = let test : nat_lt at (length b) ≡ false = grind (arith, nat_tests) in rw test refl
  each_same (suc n) zero at k l = let test : nat_lt at (length b) ≡ false = grind (arith, nat_tests) in rw test refl
  each_same (suc n) (suc m) at k l = elim (read b at) as (λ r. read b at ≡ r
      → cond (nat_lt at (length b)) (and_more at r (each_upto n read b)) [] ≡ cond (nat_lt at (length b)) (and_more at r (each_upto m read b)) []) [
        | Ok r ↦ λ e. let p = goes at r.0 r.1 e in
            ap (λ rest. cond (nat_lt at (length b)) (record { at = at; part = Ok r.0 } ∷ rest) []) (each_same n m r.1 (omega (arith, k, p.0)) (omega (arith, l, p.0)))
        | Err c ↦ λ e. refl
      ] refl

  -- one, and those behind it
  pub each_step : (at : ℕ) → at < length b → each_from read b at ≡ and_more at (read b at) (each_from read b)
  each_step at low =
      let many : length b - at ≡ suc (length b - at - 1) = omega (arith, low) in
      let test : nat_lt at (length b) ≡ true = grind (arith, nat_tests) in
      ap (λ n. each_upto n read b at) many ∙ ap (λ t. cond t (and_more at (read b at) (each_upto (length b - at - 1) read b)) []) test
      ∙ elim (read b at) as (λ r. read b at ≡ r → and_more at r (each_upto (length b - at - 1) read b) ≡ and_more at r (each_from read b)) [
        | Ok r ↦ λ e. let p = goes at r.0 r.1 e in
            ap (λ rest. record { at = at; part = Ok r.0 } ∷ rest) (each_same (length b - at - 1) (length b - r.1) r.1 (omega (arith, low, p.0)) (omega (arith, p.1)))
        | Err c ↦ λ e. refl
      ] refl

-- none behind the end
pub each_end : {X : Type 0} (read : List ℕ → ℕ → Reading X) (b : List ℕ) (at : ℕ) → length b ≤ at → each_from read b at ≡ []
each_end read b at high = let none : length b - at ≡ 0 = omega (arith, high) in rw none refl

-- all, from the front, and from a place on
pub each_begin : {X : Type 0} (read : List ℕ → ℕ → Reading X) (b : List ℕ) → each_read read b 0 ≡ each_from read b 0
unfolding each_read
each_begin read b = let all : length b ≡ length b - 0 = omega arith in ap (λ n. each_upto n read b 0) all

pub each_behind : {X : Type 0} (read : List ℕ → ℕ → Reading X) (b : List ℕ) (at : ℕ) → Goes read b → each_read read b at ≡ each_from read b at
unfolding each_read
each_behind read b at goes = each_same read b goes (length b) (length b - at) at (omega arith) (omega arith)

-- ... names

pub name_goes : (b : List ℕ) → Goes name_read b
unfolding name_read
name_goes b at x q e = grind (arith, nat_tests)

-- where the first of those that are left is read, and where it is cut
module _ {X : Type 0} (read : List ℕ → ℕ → Reading X) (b : List ℕ) (goes : Goes read b) (at : ℕ) (low : at < length b) where
  pub each_more : (x : X) (q : ℕ) → read b at ≡ Ok (x, q) → each_from read b at ≡ record { at = at; part = Ok x } ∷ each_from read b q
  each_more x q e = each_step read b goes at low ∙ ap (λ r. and_more at r (each_from read b)) e

  pub each_cut : (c : Cut) → read b at ≡ Err c → each_from read b at ≡ record { at = at; part = Err c } ∷ []
  each_cut c e = each_step read b goes at low ∙ ap (λ r. and_more at r (each_from read b)) e

-- ... members of groups

pub index_goes : (b : List ℕ) → Goes index_read b
unfolding index_read
index_goes b at x q e = grind (arith, nat_tests)

pub byte_goes : (b : List ℕ) → Goes (number_read 1) b
unfolding number_read
byte_goes b at x q e = grind (arith, nat_tests)

-- two that are read one behind the other
pub next_goes : {X Y : Type 0} (r : Reading X) (read : X → ℕ → Reading Y) (y : Y) (q : ℕ) → next r read ≡ Ok (y, q) → (x : X) × (p : ℕ) × (r ≡ Ok (x, p)) × (read x p ≡ Ok (y, q))
next_goes (Ok r) read y q e = (r.0, r.1, refl, e)
next_goes {X} {Y} (Err c) read y q e = absurd (true≢false (ap (λ (r : Reading Y). elim r as (λ _. Bool) [ Ok _ ↦ false | Err _ ↦ true ]) e))

pub member_goes : (b : List ℕ) → Goes member_read b
unfolding member_read
member_goes b at x q e =
    let mark = next_goes (number_read 1 b at) (λ mark at. next (index_read b at) (λ segment at. Ok ((mark, segment), at))) x q e in
    let segment = next_goes (index_read b mark.1) (λ segment at. Ok ((mark.0, segment), at)) x q mark.3 in
    let first = byte_goes b at mark.0 mark.1 mark.2 in
    let second = index_goes b mark.1 segment.0 segment.1 segment.2 in
    let last : segment.1 ≡ q = ap (λ (r : Reading (ℕ × ℕ)). elim r as (λ _. ℕ) [ Ok s ↦ s.1 | Err _ ↦ 0 ]) segment.3 in
    (omega (arith, first.0, second.0, last), omega (arith, second.1, last))

-- a number of any size ends in the contents
pub number_goes : (k : ℕ) (b : List ℕ) (at x q : ℕ) → number_read k b at ≡ Ok (x, q) → (at ≤ q) × (q ≤ length b)
unfolding number_read
number_goes k b at x q e = grind (arith, nat_tests)
