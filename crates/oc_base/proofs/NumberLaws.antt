-- Numbers of files that are made of parts.
use Rattle.std.proofs.Common.{◌≡◌, ℕ, zero, suc, ◌+◌, ◌*◌, ◌^◌, ◌<◌, List, [], ◌∷◌, ◌++◌, length, get_or, refl, ◌∙◌, ap, arith, length-append}
use Rattle.std.specs.List.{flat_map}
use Rattle.std.proofs.lemmas.List.{get_or-append-add}
use Rattle.byteorder.specs.Numbers.{little_number-reads_back, length-bytes_low_first}
use Rattle.oc_base.specs.Numbers.{number_at, bytes_of_number}

-- a number has as many bytes as it is asked for
pub length-bytes_of_number : (k x : ℕ) → length (bytes_of_number k x) ≡ k
unfolding bytes_of_number
length-bytes_of_number k x = length-bytes_low_first 0 k x

-- past a front
pub number_at-shift : (front ys : List ℕ) (at j k : ℕ) → at ≡ length front + j → number_at (front ++ ys) at k ≡ number_at ys j k
unfolding number_at
number_at-shift front ys at j zero e = refl
number_at-shift front ys at j (suc k) e =
    let byte : get_or (front ++ ys) at 0 ≡ get_or ys j 0 = ap (λ i. get_or (front ++ ys) i 0) e ∙ get_or-append-add front ys j 0 in
    let rest : number_at (front ++ ys) (suc at) k ≡ number_at ys (suc j) k = number_at-shift front ys (suc at) (suc j) k (omega arith) in
    rw (byte, rest) refl

-- a number's bytes read back as the number
pub number_at-bytes : (k x : ℕ) (rest : List ℕ) → x < 256 ^ k → number_at (bytes_of_number k x ++ rest) 0 k ≡ x
unfolding number_at bytes_of_number
number_at-bytes k x rest l = little_number-reads_back k x rest l

-- how long a table is
pub length-table : {X : Type 0} (entry : X → List ℕ) (w : ℕ) (xs : List X) → ((x : X) → length (entry x) ≡ w) → length (flat_map entry xs) ≡ w * length xs
length-table entry w [] size = omega arith
length-table entry w (x ∷ xs) size = rw (length-append (entry x) (flat_map entry xs), size x, length-table entry w xs size) (grind arith)
