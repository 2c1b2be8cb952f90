-- What is written is read: numbers, indexes, names, and structures one behind another.
use Rattle.std.proofs.Common.{◌≡◌, ℕ, zero, suc, ◌+◌, ◌-◌, ◌*◌, ◌/◌, ◌%◌, ◌^◌, ◌<◌, ◌≤◌, Bool, true, false, nat_lt, nat_le, if◌then◌else◌, List, [], ◌∷◌, ◌++◌, length, take, drop, Some, Ok, refl, sym, ◌∙◌, ap, subst, arith, length-append}
use Rattle.std.specs.Prelude.{flat_map, slice_get}
use Rattle.std.proofs.lemmas.Bool.Decides.{nat_tests}
use Rattle.oc_base.specs.Numbers.{number_at, bytes_of_number}
use Rattle.oc_base.proofs.NumberLaws.{length-bytes_of_number}
use Rattle.oc_shelf.specs.Writing.Parts.{Stands}
use Rattle.oc_shelf.proofs.WritingLaws.StandingLemmas.{stands_front, stands_back, stands_inside, stands_take, stands_number, number_within}
use Rattle.oc_omf.specs.{Cursor.{Reading, next, number_read, index_read, name_read, Read, each_upto, each_read}, Bytes.{index_bytes, name_bytes}}

-- where those bytes stand, that is read, up to their end
abbrev pub Reads : {X : Type 0} → (List ℕ → ℕ → Reading X) → List ℕ → X → Type 0
Reads read bytes x = (b : List ℕ) (at : ℕ) → Stands b at bytes → read b at ≡ Ok (x, at + length bytes)

-- a byte that stands somewhere
pub stands_byte : (b : List ℕ) (at x : ℕ) (xs : List ℕ) → Stands b at (x ∷ xs) → number_at b at 1 ≡ x
unfolding number_at
stands_byte b at x xs s =
    let here : at ≡ at + 0 = omega arith in
    let one : 0 + 1 ≤ length (x ∷ xs) = omega arith in
    let value : number_at (x ∷ xs) 0 1 ≡ x = grind arith in
    number_within b (x ∷ xs) at 0 1 at s one here ∙ value

-- and the one behind it
pub stands_second_byte : (b : List ℕ) (at x y : ℕ) (xs : List ℕ) → Stands b at (x ∷ y ∷ xs) → number_at b (at + 1) 1 ≡ y
stands_second_byte b at x y xs s = stands_byte b (at + 1) y xs (stands_back b (x ∷ []) (y ∷ xs) at (at + 1) s (omega arith))

pub reads_number : (k x : ℕ) → x < 256 ^ k → Reads (number_read k) (bytes_of_number k x) x
unfolding number_read
reads_number k x small b at s =
    let size : length (bytes_of_number k x) ≡ k = length-bytes_of_number k x in
    let whole : at + length (bytes_of_number k x) ≤ length b = stands_inside b (bytes_of_number k x) at s in
    let inside : nat_le (at + k) (length b) ≡ true = grind (arith, nat_tests) in
    rw (inside, stands_number b at k x s small, size) refl

pub reads_name : (name : List ℕ) → Reads name_read (name_bytes name) name
unfolding name_read
reads_name name b at s =
    let first : number_at b at 1 ≡ length name = stands_byte b at (length name) name s in
    let whole : at + length (name_bytes name) ≤ length b = stands_inside b (name_bytes name) at s in
    let inside : nat_le (at + 1 + length name) (length b) ≡ true = grind (arith, nat_tests) in
    let size : length name ≡ at + 1 + length name - (at + 1) = omega arith in
    let text : take (at + 1 + length name - (at + 1)) (drop (at + 1) b) ≡ name
    = stands_take b name (at + 1) (at + 1 + length name - (at + 1)) (stands_back b (length name ∷ []) name at (at + 1) s (omega arith)) (sym size) in
    let end : at + 1 + length name ≡ at + suc (length name) = omega arith in
    rw (first, inside, text, end) refl

-- an index of one byte or of two
index_by : (k : ℕ) (short : Bool) → nat_lt k 128 ≡ short → k < 32768 → Reads index_read (index_bytes k) k
unfolding index_read
index_by k true e small b at s =
    let here : Stands b at (k ∷ []) = subst (λ (t : Bool). Stands b at (if t then k ∷ [] else (128 + k / 256) ∷ (k % 256) ∷ [])) e s in
    let first : number_at b at 1 ≡ k = stands_byte b at k [] here in
    let whole : at + length (k ∷ []) ≤ length b = stands_inside b (k ∷ []) at here in
    let inside : nat_le (at + 1) (length b) ≡ true = grind (arith, nat_tests) in
    rw (first, e, inside) refl
index_by k false e small b at s =
    let here : Stands b at ((128 + k / 256) ∷ (k % 256) ∷ []) = subst (λ (t : Bool). Stands b at (if t then k ∷ [] else (128 + k / 256) ∷ (k % 256) ∷ [])) e s in
    let first : number_at b at 1 ≡ 128 + k / 256 = stands_byte b at (128 + k / 256) (k % 256 ∷ []) here in
    let second : number_at b (at + 1) 1 ≡ k % 256 = stands_second_byte b at (128 + k / 256) (k % 256) [] here in
    let whole : at + length ((128 + k / 256) ∷ (k % 256) ∷ []) ≤ length b = stands_inside b ((128 + k / 256) ∷ (k % 256) ∷ []) at here in
    let inside : nat_le (at + 2) (length b) ≡ true = grind (arith, nat_tests) in
    let long : nat_lt (128 + k / 256) 128 ≡ false = grind (arith, nat_tests) in
    let value : (128 + k / 256 - 128) * 256 + k % 256 ≡ k = grind arith in
    rw (first, second, long, inside, e, value) refl

pub reads_index : (k : ℕ) → k < 32768 → Reads index_read (index_bytes k) k
reads_index k small = index_by k (nat_lt k 128) refl small

-- one behind another
pub reads_next : {X Y : Type 0} (first : List ℕ → ℕ → Reading X) (second : X → List ℕ → ℕ → Reading Y) (xs ys : List ℕ) (x : X) (y : Y)
    → Reads first xs x → Reads (second x) ys y → Reads (λ b at. next (first b at) (λ z p. second z b p)) (xs ++ ys) y
reads_next first second xs ys x y f g b at s =
    let size : at + length xs + length ys ≡ at + length (xs ++ ys) = omega (arith, length-append xs ys) in
    ap (λ r. next r (λ z p. second z b p)) (f b at (stands_front b xs ys at s))
    ∙ g b (at + length xs) (stands_back b xs ys at (at + length xs) s refl)
    ∙ ap (λ k. Ok (y, k)) size

-- structures that are read, from a place on
abbrev pub placed : {X Y : Type 0} → (X → List ℕ) → (X → Y) → ℕ → List X → List (Read Y)
placed bytes value at [] = []
placed bytes value at (x ∷ xs) = record { at = at; part = Ok (value x) } ∷ placed bytes value (at + length (bytes x)) xs

-- at the end there are no more
pub each_at_end : {X : Type 0} (n : ℕ) (read : List ℕ → ℕ → Reading X) (b : List ℕ) (at : ℕ) → at ≡ length b → each_upto n read b at ≡ []
each_at_end n read b at e = grind arith

-- structures that stand up to the end are read, where there are steps enough
each_upto_read : {X Y : Type 0} (read : List ℕ → ℕ → Reading Y) (bytes : X → List ℕ) (value : X → Y) (b : List ℕ) (n at : ℕ) (xs : List X)
    → ((k : ℕ) (x : X) → slice_get xs k ≡ Some x → Reads read (bytes x) (value x)) → ((k : ℕ) (x : X) → slice_get xs k ≡ Some x → 1 ≤ length (bytes x))
    → Stands b at (flat_map bytes xs) → at + length (flat_map bytes xs) ≡ length b → length (flat_map bytes xs) ≤ n → each_upto n read b at ≡ placed bytes value at xs
each_upto_read read bytes value b n at [] reads some s end enough = each_at_end n read b at (omega (arith, end))
each_upto_read read bytes value b zero at (x ∷ xs) reads some s end enough =
    absurd (omega (arith, some 0 x refl, length-append (bytes x) (flat_map bytes xs), enough))
each_upto_read read bytes value b (suc n) at (x ∷ xs) reads some s end enough =
    let size : length (bytes x ++ flat_map bytes xs) ≡ length (bytes x) + length (flat_map bytes xs) = length-append (bytes x) (flat_map bytes xs) in
    let one : 1 ≤ length (bytes x) = some 0 x refl in
    let more : nat_lt at (length b) ≡ true = grind (arith, nat_tests) in
    rw (more, reads 0 x refl b at (stands_front b (bytes x) (flat_map bytes xs) at s))
    (ap (λ ys. record { at = at; part = Ok (value x) } ∷ ys)
    (each_upto_read read bytes value b n (at + length (bytes x)) xs (λ k y h. reads (suc k) y h) (λ k y h. some (suc k) y h)
    (stands_back b (bytes x) (flat_map bytes xs) at (at + length (bytes x)) s refl) (omega (arith, end, size)) (omega (arith, enough, size, one))))

pub structures_read : {X Y : Type 0} (read : List ℕ → ℕ → Reading Y) (bytes : X → List ℕ) (value : X → Y) (b : List ℕ) (at : ℕ) (xs : List X)
    → ((k : ℕ) (x : X) → slice_get xs k ≡ Some x → Reads read (bytes x) (value x)) → ((k : ℕ) (x : X) → slice_get xs k ≡ Some x → 1 ≤ length (bytes x))
    → Stands b at (flat_map bytes xs) → at + length (flat_map bytes xs) ≡ length b → each_read read b at ≡ placed bytes value at xs
unfolding each_read
structures_read read bytes value b at xs reads some s end =
    each_upto_read read bytes value b (length b) at xs reads some s end (omega (arith, end))
