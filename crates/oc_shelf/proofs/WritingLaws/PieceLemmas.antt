-- Files of parts in order, cut behind any part.
use Rattle.std.proofs.Common.{◌≡◌, ℕ, zero, suc, ◌+◌, ◌-◌, ◌<◌, ◌≤◌, List, [], ◌∷◌, ◌++◌, length, take, drop, replicate, refl, sym, ◌∙◌, ap, arith, append_assoc, append-nil, length-append}
use Rattle.std.proofs.lemmas.List.{length-replicate}
use Rattle.oc_shelf.specs.Writing.Parts.{Laid, joined, Pieces, file_of, piece_at, end_of, AreInOrder}

-- the bytes of parts from a place on
abbrev pub bytes_from : ℕ → Pieces → List ℕ
bytes_from at parts = joined (λ x. x) at parts

-- the zeros before a part, and the part
abbrev pub with_gap : ℕ → Laid (List ℕ) → List ℕ
with_gap at l = replicate (l.at - at) 0 ++ l.part

-- where the first k parts end
abbrev pub front_end : ℕ → Pieces → ℕ → ℕ
front_end at parts k = at + length (bytes_from at (take k parts))

-- how long a part is with its zeros
pub end_first : (at : ℕ) (l : Laid (List ℕ)) (xs : List ℕ) → at ≤ l.at → at + length (replicate (l.at - at) 0 ++ (l.part ++ xs)) ≡ end_of l + length xs
end_first at l xs low =
    let gap : List ℕ = replicate (l.at - at) 0 in
    omega (arith, low, length-replicate {A = ℕ} (l.at - at) 0, length-append gap (l.part ++ xs), length-append l.part xs)

-- the first k parts end where part k begins, or before
pub front_low : (at : ℕ) (parts : Pieces) (k : ℕ) → AreInOrder at parts → k < length parts → front_end at parts k ≤ (piece_at parts k).at
front_low at [] k order low = absurd (omega (arith, low))
front_low at (l ∷ parts) zero order low = let first = order.0 in omega (arith, first)
front_low at (l ∷ parts) (suc k) order low =
    let rest = front_low (end_of l) parts k order.1 (omega (arith, low)) in
    let e = end_first at l (bytes_from (end_of l) (take k parts)) order.0 in
    omega (arith, rest, e)

-- one part more
pub front_more : (at : ℕ) (parts : Pieces) (k : ℕ) → AreInOrder at parts → k < length parts
    → bytes_from at (take (suc k) parts) ≡ bytes_from at (take k parts) ++ with_gap (front_end at parts k) (piece_at parts k)
front_more at [] k order low = absurd (omega (arith, low))
front_more at (l ∷ parts) zero order low =
    let e : at ≡ at + 0 = omega arith in
    ap (λ zs. replicate (l.at - at) 0 ++ zs) (append-nil l.part) ∙ ap (λ p. replicate (l.at - p) 0 ++ l.part) e
front_more at (l ∷ parts) (suc k) order low =
    let rest = front_more (end_of l) parts k order.1 (omega (arith, low)) in
    let gap : List ℕ = replicate (l.at - at) 0 in
    let front : List ℕ = bytes_from (end_of l) (take k parts) in
    let e : front_end (end_of l) parts k ≡ front_end at (l ∷ parts) (suc k) = sym (end_first at l front order.0) in
    let last : List ℕ = with_gap (front_end at (l ∷ parts) (suc k)) (piece_at parts k) in
    ap (λ zs. gap ++ (l.part ++ zs)) (rest ∙ ap (λ p. front ++ with_gap p (piece_at parts k)) e)
    ∙ ap (λ zs. gap ++ zs) (sym (append_assoc l.part front last))
    ∙ sym (append_assoc gap (l.part ++ front) last)

-- the first k parts with the zeros before the next end where that begins
pub gap_long : (parts : Pieces) (k end : ℕ) → AreInOrder 0 parts → k < length parts → end ≡ length (file_of (take k parts))
    → length (file_of (take k parts) ++ replicate {A = ℕ} ((piece_at parts k).at - end) 0) ≡ (piece_at parts k).at
gap_long parts k end order low e =
    let before = front_low 0 parts k order low in
    let front : List ℕ = file_of (take k parts) in
    let gap : List ℕ = replicate ((piece_at parts k).at - end) 0 in
    length-append front gap ∙ omega (arith, before, e, length-replicate {A = ℕ} ((piece_at parts k).at - end) 0)

-- with that they are one part more
pub file_more : (parts : Pieces) (k end : ℕ) → AreInOrder 0 parts → k < length parts → end ≡ length (file_of (take k parts))
    → file_of (take (k + 1) parts) ≡ (file_of (take k parts) ++ replicate ((piece_at parts k).at - end) 0) ++ (piece_at parts k).part
file_more parts k end order low e =
    let next : k + 1 ≡ suc k = omega arith in
    let place : front_end 0 parts k ≡ end = omega (arith, e) in
    ap (λ i. file_of (take i parts)) next ∙ front_more 0 parts k order low
    ∙ ap (λ p. file_of (take k parts) ++ with_gap p (piece_at parts k)) place
    ∙ sym (append_assoc (file_of (take k parts)) (replicate ((piece_at parts k).at - end) 0) (piece_at parts k).part)

-- the first k parts, and those behind
pub cut_behind : (at : ℕ) (parts : Pieces) (k : ℕ) → AreInOrder at parts → bytes_from at parts ≡ bytes_from at (take k parts) ++ bytes_from (front_end at parts k) (drop k parts)
cut_behind at parts zero order = let e : at ≡ at + 0 = omega arith in ap (λ p. bytes_from p parts) e
cut_behind at [] (suc k) order = refl
cut_behind at (l ∷ parts) (suc k) order =
    let gap : List ℕ = replicate (l.at - at) 0 in
    let front : List ℕ = bytes_from (end_of l) (take k parts) in
    let e : front_end (end_of l) parts k ≡ front_end at (l ∷ parts) (suc k) = sym (end_first at l front order.0) in
    let back : List ℕ = bytes_from (front_end at (l ∷ parts) (suc k)) (drop k parts) in
    ap (λ zs. gap ++ (l.part ++ zs)) (cut_behind (end_of l) parts k order.1 ∙ ap (λ p. front ++ bytes_from p (drop k parts)) e)
    ∙ ap (λ zs. gap ++ zs) (sym (append_assoc l.part front back))
    ∙ sym (append_assoc gap (l.part ++ front) back)
