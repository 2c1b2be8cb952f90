-- An entry that is written is read where it stands.
use Rattle.std.proofs.Common.{◌≡◌, ℕ, ◌+◌, ◌-◌, ◌%◌, ◌<◌, ◌≤◌, true, ◌||◌, nat_lt, nat_le, nat_eq, List, [], ◌∷◌, ◌++◌, length, slice_range, slice_index, refl, ◌∙◌, ap, subst, arith, length-append}
use Rattle.std.specs.Prelude.{sum}
use Rattle.std.proofs.lemmas.{Bool.Decides.{nat_tests}, List.Sums.{sum_by-append}, Bool.{or_right}}
use Rattle.oc_base.specs.Numbers.{number_at, bytes_of_number}
use Rattle.oc_base.proofs.NumberLaws.{length-bytes_of_number}
use Rattle.oc_omf_records.specs.NextEntry.{length_field, end_of_entry, is_whole, is_summed, entry_of}
use Rattle.oc_shelf.specs.Writing.Parts.{Stands}
use Rattle.oc_shelf.proofs.WritingLaws.StandingLemmas.{stands_front, stands_back, stands_inside, stands_take, stands_number}
use Rattle.oc_omf.specs.Bytes.{checksum, entry_bytes}
use Rattle.oc_omf_file.proofs.CursorLaws.{stands_byte}

-- an entry before its checksum
abbrev pub unsummed : ℕ → List ℕ → List ℕ
unsummed type contents = type ∷ bytes_of_number 2 (length contents + 1) ++ contents

-- all of it
pub entry_is : (type : ℕ) (contents : List ℕ) → entry_bytes type contents ≡ unsummed type contents ++ checksum (unsummed type contents) ∷ []
unfolding entry_bytes
entry_is type contents = refl

pub length-unsummed : (type : ℕ) (contents : List ℕ) → length (unsummed type contents) ≡ length contents + 3
length-unsummed type contents =
    let size : length (bytes_of_number 2 (length contents + 1) ++ contents) ≡ length (bytes_of_number 2 (length contents + 1)) + length contents
    = length-append (bytes_of_number 2 (length contents + 1)) contents in
    omega (arith, size, length-bytes_of_number 2 (length contents + 1))

pub length-entry : (type : ℕ) (contents : List ℕ) → length (entry_bytes type contents) ≡ length contents + 4
length-entry type contents =
    ap length (entry_is type contents) ∙ length-append (unsummed type contents) (checksum (unsummed type contents) ∷ [])
    ∙ omega (arith, length-unsummed type contents)

-- ... the checksum

pub sum-append : (xs ys : List ℕ) → sum (xs ++ ys) ≡ sum xs + sum ys
sum-append xs ys = sum_by-append (λ (x : ℕ). x) xs ys

-- a number and what is left to the next multiple of 256
left_over : (x : ℕ) → (x + (256 - x % 256) % 256) % 256 ≡ 0
left_over x = grind arith

pub sum-entry : (type : ℕ) (contents : List ℕ) → sum (entry_bytes type contents) % 256 ≡ 0
sum-entry type contents =
    let xs : List ℕ = unsummed type contents in
    let last : sum (checksum xs ∷ []) ≡ (256 - sum xs % 256) % 256 = omega arith in
    ap (λ b. sum b % 256) (entry_is type contents)
    ∙ ap (λ k. k % 256) (sum-append xs (checksum xs ∷ []))
    ∙ ap (λ k. (sum xs + k) % 256) last
    ∙ left_over (sum xs)

-- what is read of an entry that stands at a place
pub record IsEntry (file : List ℕ) (at type : ℕ) (contents : List ℕ) : Type 0 where
  pub end : end_of_entry file at ≡ at + length (entry_bytes type contents)
  pub whole : is_whole file at ≡ true
  pub summed : is_summed (slice_range file at (end_of_entry file at)) ≡ true
  pub is : entry_of file at ≡ record { kind = type; place = at; contents = contents }

pub entry_stands : (file : List ℕ) (at type : ℕ) (contents : List ℕ) → length contents < 65535 → Stands file at (entry_bytes type contents) → IsEntry file at type contents
entry_stands file at type contents small s =
    let inside : at + length (entry_bytes type contents) ≤ length file = stands_inside file (entry_bytes type contents) at s in
    let all : Stands file at (unsummed type contents ++ checksum (unsummed type contents) ∷ []) = subst (Stands file at) (entry_is type contents) s in
    let body : Stands file at (unsummed type contents) = stands_front file (unsummed type contents) (checksum (unsummed type contents) ∷ []) at all in
    let kind : number_at file at 1 ≡ type = stands_byte file at type (bytes_of_number 2 (length contents + 1) ++ contents) body in
    let rest : Stands file (at + 1) (bytes_of_number 2 (length contents + 1) ++ contents)
    = stands_back file (type ∷ []) (bytes_of_number 2 (length contents + 1) ++ contents) at (at + 1) body (omega arith) in
    let long : number_at file (at + 1) 2 ≡ length contents + 1
    = stands_number file (at + 1) 2 (length contents + 1) (stands_front file (bytes_of_number 2 (length contents + 1)) contents (at + 1) rest) (omega arith) in
    let text : Stands file (at + 3) contents
    = stands_back file (bytes_of_number 2 (length contents + 1)) contents (at + 1) (at + 3) rest (omega (arith, length-bytes_of_number 2 (length contents + 1))) in
    let size : length (entry_bytes type contents) ≡ length contents + 4 = length-entry type contents in
    let end : end_of_entry file at ≡ at + length (entry_bytes type contents) = omega (arith, long, size) in
    let first : nat_le (at + 3) (length file) ≡ true = grind (arith, nat_tests) in
    let some : nat_lt 0 (length_field file at) ≡ true = grind (arith, nat_tests) in
    let last : nat_le (end_of_entry file at) (length file) ≡ true = grind (arith, nat_tests) in
    let count : end_of_entry file at - 1 - (at + 3) ≡ length contents = omega (arith, end, size) in
    let read : slice_range file (at + 3) (end_of_entry file at - 1) ≡ contents = stands_take file contents (at + 3) (end_of_entry file at - 1 - (at + 3)) text count in
    let own : slice_range file at (end_of_entry file at) ≡ entry_bytes type contents
    = stands_take file (entry_bytes type contents) at (end_of_entry file at - at) s (omega (arith, end)) in
    let zero_sum : nat_eq (sum (slice_range file at (end_of_entry file at)) % 256) 0 ≡ true = ap (λ b. nat_eq (sum b % 256) 0) own ∙ ap (λ k. nat_eq k 0) (sum-entry type contents) in
    record {
      end = end;
      summed = or_right (nat_eq (slice_index (slice_range file at (end_of_entry file at)) (length (slice_range file at (end_of_entry file at)) - 1)) 0) _ zero_sum;
      whole = rw (first, some, last) refl;
      is = rw (kind, read) refl;
    }
