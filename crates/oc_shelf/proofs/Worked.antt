-- The definitions at small cases, worked out by hand.
use Rattle.std.proofs.Common.{◌≡◌, ℕ, ◌+◌, true, false, List, [], ◌∷◌, Option, Some, None, refl}
use Rattle.std.specs.Prelude.{if◌then◌else◌, nat_eq}
use Rattle.oc_base.specs.Numbers.{number_at, bytes_of_number}
use Rattle.oc_linking.specs.FirstFault.{first_fault, stage_fault}
use Rattle.oc_shelf.specs.{Reading.Collected.{collected, position_in}, Reading.Firsts.{first_keyed}, Reading.Rows.{rows}, Reading.Spans.{meets}}
use Rattle.oc_shelf.specs.{Reading.Steps.{step_place}, Reading.Texts.{short, text_at}, Writing.Packed.{packed}}
use Rattle.oc_shelf.specs.Writing.Parts.{Laid, aligned, joined, laid, laid_end, place_where}
use Rattle.oc_shelf.proofs.{Example.{passed_at, weighed}, WritingLaws.WindowLemmas.{window}}

-- 2, 3 and 5 pass a limit of 9 at the last of them; the second stage is judged after the first
within : stage_fault (weighed (2 ∷ 3 ∷ 4 ∷ []) 9) ≡ None
within = refl

passed : stage_fault (weighed (2 ∷ 3 ∷ 5 ∷ 9 ∷ []) 9) ≡ Some (passed_at 2)
passed = refl

stages : first_fault (weighed (2 ∷ 8 ∷ []) 9 ∷ weighed (10 ∷ []) 9 ∷ []) ≡ Some (passed_at 1)
stages = refl

-- of the entries 0, 1 and 2 the middle one gives nothing
abbrev but_one : ℕ → Option ℕ
but_one k = if nat_eq k 1 then None else Some (k + 5)

gathered : collected but_one 3 ≡ 5 ∷ 7 ∷ []
gathered = refl

position_of_second : position_in but_one 2 ≡ Some 1
position_of_second = refl

position_of_none : position_in but_one 1 ≡ None
position_of_none = refl

-- the first entry with a key is the least
keyed : first_keyed (λ k. if nat_eq k 0 then None else Some 4) 3 4 ≡ Some 1
keyed = refl

-- a text that begins within another, one that is too long, and one with no end
text_inside : text_at (109 ∷ 97 ∷ 0 ∷ 120 ∷ []) 1 ≡ Some (97 ∷ [])
text_inside = refl

text_long : short 1 (text_at (109 ∷ 97 ∷ 0 ∷ []) 0) ≡ None
text_long = refl

text_endless : text_at (109 ∷ 97 ∷ 0 ∷ 120 ∷ []) 3 ≡ None
text_endless = refl

-- entries of 2 bytes from 1 on
table_read : rows (λ file at. number_at file at 2) 2 (9 ∷ 1 ∷ 0 ∷ 2 ∷ 1 ∷ []) 1 2 ≡ 1 ∷ 258 ∷ []
unfolding number_at
table_read = refl

-- entries that are as long as their place says, and one more
steps : step_place (λ at. at + 1) 1 3 ≡ 15
steps = refl

-- spans that touch do not meet
touching : meets (0, 4) (4, 8) ≡ false
touching = refl

crossing : meets (0, 5) (4, 8) ≡ true
crossing = refl

-- parts of 3, 0 and 2 bytes at multiples of 4: the empty one and the last stand at one place
abbrev bytes_of : ℕ → List ℕ
bytes_of n = if nat_eq n 3 then 1 ∷ 2 ∷ 3 ∷ [] else if nat_eq n 2 then 8 ∷ 9 ∷ [] else []

abbrev parts : List (Laid ℕ)
parts = laid (λ at n. aligned 4 at) (λ n. n) 1 (3 ∷ 0 ∷ 2 ∷ [])

places : parts ≡ record { at = 4; part = 3 } ∷ record { at = 8; part = 0 } ∷ record { at = 8; part = 2 } ∷ []
places = refl

end : laid_end (λ at n. aligned 4 at) (λ n. n) 1 (3 ∷ 0 ∷ 2 ∷ []) ≡ 10
end = refl

file : joined bytes_of 1 parts ≡ 0 ∷ 0 ∷ 0 ∷ 1 ∷ 2 ∷ 3 ∷ 0 ∷ 8 ∷ 9 ∷ []
file = refl

found : place_where (nat_eq 2) parts ≡ 8
found = refl

-- a window over a gap, and one past the end
over_a_gap : window 4 8 (joined bytes_of 1 parts) ≡ 2 ∷ 3 ∷ 0 ∷ 8 ∷ []
over_a_gap = refl

past_the_end : window 8 20 (joined bytes_of 1 parts) ≡ 9 ∷ []
past_the_end = refl

-- a structure of a number of 2 bytes and one of 1
structure : packed ((2, 258) ∷ (1, 7) ∷ []) ≡ 2 ∷ 1 ∷ 7 ∷ []
unfolding bytes_of_number
structure = refl
