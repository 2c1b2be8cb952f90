-- What a loop over reads has of a file.
use Rattle.std.proofs.Common.{◌≡◌, refl, sym, ap, ◌∙◌, ℕ, ◌+◌, ◌<◌, ◌≤◌, List, [], ◌∷◌, ◌++◌, length, take, drop, arith, length-append, length-take, length-take-le, Option, None, Some}
use Rattle.std.specs.Prelude.{IsSomeAnd}
use Rattle.std.proofs.Math.Seq.{take-add}
use Rattle.oc_outside.specs.Reading.{Reads, IsWholeOrLonger}

-- the bytes that were there are a front of the file
abbrev pub IsFront : List ℕ → List ℕ → Type 0
IsFront bytes file = bytes ≡ take (length bytes) file

front_of : (bytes file : List ℕ) → (0 < length bytes → IsFront bytes file) → IsFront bytes file
front_of [] file h = refl
front_of (b ∷ bytes) file h = h (omega arith)

read_front :
    (had buffer file now : List ℕ) (at n : ℕ)
    → n ≤ length buffer
    → at ≡ length had
    → IsFront had file
    → take n buffer ≡ take n (drop at file)
    → now ≡ had ++ take n buffer
    → IsFront now file
read_front had buffer file now at n bound here front bytes is =
    let joined : now ≡ take (length had + n) file =
    is
    ∙ ap (λ p. had ++ p) (bytes ∙ ap (λ k. take n (drop k file)) here)
    ∙ ap (λ p. p ++ take n (drop (length had) file)) front
    ∙ sym (take-add (length had) n file) in
    let size : length had + n ≡ length now =
    sym (ap length is ∙ length-append had (take n buffer) ∙ ap (λ k. length had + k) (length-take-le n buffer bound)) in
    joined ∙ ap (λ k. take k file) size

-- one more read leaves a front of the file, if it is there
pub read_more :
    (o : Option (List ℕ)) (had buffer now : List ℕ) (at n : ℕ)
    → n ≤ length buffer
    → at ≡ length had
    → (0 < length had → IsSomeAnd o (IsFront had))
    → IsSomeAnd o (λ file. Reads file at buffer n)
    → now ≡ had ++ take n buffer
    → IsSomeAnd o (IsFront now)
read_more None had buffer now at n bound here front read is = absurd read
read_more (Some file) had buffer now at n bound here front read is =
    read_front had buffer file now at n bound here (front_of had file front) read.bytes is

-- the whole of a file within the limit
pub within : (limit : ℕ) (bytes file : List ℕ) → IsWholeOrLonger limit bytes file → length file ≤ limit → bytes ≡ file
within limit bytes file h below = h.whole (omega (arith, ap length h.front, length-take (length bytes) file))
