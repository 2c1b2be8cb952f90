-- Padded names read back, and numbers behind names.
use Rattle.std.proofs.Common.{◌≡◌, ℕ, zero, suc, ◌+◌, ◌<◌, ◌≤◌, ◌≢◌, false, eqb, List, [], ◌∷◌, ◌++◌, length, get_or, take, replicate, refl, ◌∙◌, ap, arith, append_assoc, length-append}
use Rattle.std.specs.{Prelude.{All}, List.{position_or_len}}
use Rattle.std.proofs.lemmas.{List.{length-take-le, take_at}, Bool.{ne_eqb}}
use Rattle.oc_base.specs.Numbers.{number_at}
use Rattle.oc_base.proofs.NumberLaws.{number_at-shift}
use Rattle.oc_shelf.specs.Writing.Packed.{packed}
use Rattle.oc_shelf.proofs.WritingLaws.PackedLemmas.{Fit, widths, length-packed, number_at-packed}
use Rattle.oc_coff.specs.Names.{padded, until_nul}

-- a padded name has eight bytes
pub length-padded : (name : List ℕ) → length (padded name) ≡ 8
length-padded name = length-take-le 8 (name ++ replicate 8 0) (rw (length-append name (replicate 8 0)) (omega arith))

-- the bytes before the NULs that follow a name, where the first n are taken
until_nul-taken : (name : List ℕ) (n m : ℕ) → length name ≤ n → All (λ c. c ≢ 0) name → until_nul (take n (name ++ replicate m 0)) ≡ name
until_nul-taken [] zero m short none = refl
until_nul-taken [] (suc n) zero short none = refl
until_nul-taken [] (suc n) (suc m) short none = refl
until_nul-taken (c ∷ name) zero m short none = absurd (omega arith)
until_nul-taken (c ∷ name) (suc n) m short none =
    let here : eqb c 0 ≡ false = ne_eqb c 0 (none 0 0 (omega arith)) in
    let later : All (λ x. x ≢ 0) name = λ k d l. none (suc k) d (omega arith) in
    let more : (n : ℕ) → 1 + n ≡ suc n = λ n. omega arith in
    rw (here, more (position_or_len (λ x. eqb x 0) (take n (name ++ replicate m 0))), until_nul-taken name n m (omega arith) later) refl

-- a padded name reads back
pub until_nul-padded : (name : List ℕ) → length name ≤ 8 → All (λ c. c ≢ 0) name → until_nul (padded name) ≡ name
until_nul-padded name short none = until_nul-taken name 8 8 short none

-- it does not begin with four zeros
pub padded-long : (name : List ℕ) → 1 ≤ length name → All (λ c. c ≢ 0) name → eqb (number_at (padded name) 0 4) 0 ≡ false
unfolding number_at
padded-long [] long none = absurd (omega arith)
padded-long (c ∷ name) long none = let here : c ≢ 0 = none 0 0 (omega arith) in ne_eqb _ 0 (λ e. here (omega (arith, e)))

-- numbers behind a name have eight bytes more
pub length-named : (name : List ℕ) (numbers : List (ℕ × ℕ)) → length name ≡ 8 → length (name ++ packed numbers) ≡ 8 + widths numbers
length-named name numbers eight = length-append name (packed numbers) ∙ ap (λ k. k + length (packed numbers)) eight ∙ ap (λ k. 8 + k) (length-packed numbers)

-- a name reads back from the front of its structure
pub name_at-named : (name : List ℕ) (numbers : List (ℕ × ℕ)) (rest : List ℕ) → length name ≡ 8 → take 8 ((name ++ packed numbers) ++ rest) ≡ name
name_at-named name numbers rest eight = ap (λ bytes. take 8 bytes) (append_assoc name (packed numbers) rest) ∙ take_at name (packed numbers ++ rest) 8 eight

-- number i behind a name reads back
pub number_at-named : (name : List ℕ) (numbers : List (ℕ × ℕ)) (i at : ℕ) (rest : List ℕ) → length name ≡ 8 → Fit numbers → i < length numbers
    → at ≡ 8 + widths (take i numbers) → number_at ((name ++ packed numbers) ++ rest) at (get_or numbers i (0, 0)).0 ≡ (get_or numbers i (0, 0)).1
number_at-named name numbers i at rest eight fit l e =
    let k : ℕ = (get_or numbers i (0, 0)).0 in
    let past : at ≡ length name + widths (take i numbers) = rw eight e in
    ap (λ bytes. number_at bytes at k) (append_assoc name (packed numbers) rest)
    ∙ number_at-shift name (packed numbers ++ rest) at (widths (take i numbers)) k past
    ∙ number_at-packed numbers i (widths (take i numbers)) rest fit l refl
