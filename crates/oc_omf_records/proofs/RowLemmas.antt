-- Rows of blocks that are put together.
use Rattle.std.proofs.Common.{◌≡◌, ℕ, zero, suc, ◌+◌, ◌-◌, ◌^◌, ◌<◌, ◌≤◌, min, Vec, Global, List, [], ◌∷◌, ◌++◌, length, get_or, take, refl, sym, ◌∙◌, ap, arith, length-append, drop, slice_range}
use Rattle.std.proofs.lemmas.List.{take_more, append-nil, append_assoc, length-take-le, length-drop}
use Rattle.std.proofs.Math.Seq.{drop-append_seam, take-append_seam, take-length, drop-length}
use Rattle.oc_omf_records.specs.{declared.iterated.Iterated.{Iterated, Nested}, Blocks.{Blocks, none, content, nested, append, repeated, denotation, size_of}}
use Rattle.oc_omf_records.specs.Rows.{row_of, rows_of}
use Rattle.oc_omf_records.proofs.SizedLemmas.{row_of-Nested}

-- nothing behind a row
pub append-none : (row : Blocks) → append row none ≡ row
append-none none = refl
append-none (content count place bytes rest) = ap (content count place bytes) (append-none rest)
append-none (nested count inside rest) = ap (nested count inside) (append-none rest)

-- three rows
pub append-append : (a b c : Blocks) → append (append a b) c ≡ append a (append b c)
append-append none b c = refl
append-append (content count place bytes rest) b c = ap (content count place bytes) (append-append rest b c)
append-append (nested count inside rest) b c = ap (nested count inside) (append-append rest b c)

-- one block more
pub rows_of-push : (blocks : List Iterated) (block : Iterated) → rows_of (blocks ++ block ∷ []) ≡ append (rows_of blocks) (row_of block)
rows_of-push [] block = append-none (row_of block)
rows_of-push (first ∷ blocks) block =
    ap (append (row_of first)) (rows_of-push blocks block) ∙ sym (append-append (row_of first) (rows_of blocks) (row_of block))

-- the next block of a walk
pub rows_of-take_more : (blocks : List Iterated) (i : ℕ) (d : Iterated) → i < length blocks → rows_of (take (i + 1) blocks) ≡ append (rows_of (take i blocks)) (row_of (get_or blocks i d))
rows_of-take_more blocks i d l = rw (take_more blocks i d l) (rows_of-push (take i blocks) (get_or blocks i d))

-- the bytes of two rows stand one behind the other
pub denotation-append : (a b : Blocks) → denotation (append a b) ≡ denotation a ++ denotation b
denotation-append none b = refl
denotation-append (content count place bytes rest) b =
    ap (λ xs. repeated count bytes ++ xs) (denotation-append rest b) ∙ sym (append_assoc (repeated count bytes) (denotation rest) (denotation b))
denotation-append (nested count inside rest) b =
    ap (λ xs. repeated count (denotation inside) ++ xs) (denotation-append rest b) ∙ sym (append_assoc (repeated count (denotation inside)) (denotation rest) (denotation b))

-- the bytes of one block more
pub denotation-take_more : (blocks : List Iterated) (i : ℕ) (block : Iterated) → i < length blocks → block ≡ get_or blocks i block
    → denotation (rows_of (take (i + 1) blocks)) ≡ denotation (rows_of (take i blocks)) ++ denotation (row_of block)
denotation-take_more blocks i block l is =
    ap denotation (rows_of-take_more blocks i block l ∙ ap (λ x. append (rows_of (take i blocks)) (row_of x)) (sym is))
    ∙ denotation-append (rows_of (take i blocks)) (row_of block)

-- nothing, repeated
pub repeated-nothing : (n : ℕ) → repeated n [] ≡ []
repeated-nothing zero = refl
repeated-nothing (suc n) = rw (repeated-nothing n) refl

-- one copy more, at the front
pub repeated-front : (n : ℕ) (bytes : List ℕ) → repeated (suc n) bytes ≡ bytes ++ repeated n bytes
repeated-front zero bytes = sym (append-nil bytes)
repeated-front (suc n) bytes = ap (λ xs. xs ++ bytes) (repeated-front n bytes) ∙ append_assoc bytes (repeated n bytes) bytes

-- one copy more, taken from where the copies begin
pub repeated-more : (front piece old new : List ℕ) (n start end : ℕ) → start ≡ length front → end ≡ start + length piece → 0 < n → old ≡ front ++ repeated n piece
    → new ≡ old ++ slice_range old start end → new ≡ front ++ repeated (n + 1) piece
repeated-more front piece old new zero start end at_front size some_copies is more = absurd (omega arith)
repeated-more front piece old new (suc m) start end at_front size some_copies is more =
    let copies : old ≡ front ++ (piece ++ repeated m piece) = is ∙ ap (λ xs. front ++ xs) (repeated-front m piece) in
    let behind : drop start old ≡ piece ++ repeated m piece = rw (copies, at_front) (drop-append_seam front (piece ++ repeated m piece)) in
    let wide : end - start ≡ length piece = omega arith in
    let first : slice_range old start end ≡ piece = rw (behind, wide) (take-append_seam piece (repeated m piece)) in
    let e : suc m + 1 ≡ suc (suc m) = omega arith in
    more ∙ ap (λ xs. old ++ xs) first ∙ ap (λ xs. xs ++ piece) is ∙ append_assoc front (repeated (suc m) piece) piece ∙ ap (λ n. front ++ repeated n piece) (sym e)

-- nothing stands behind the end, and repeating it changes nothing
pub repeated-end : (xs : List ℕ) (start count : ℕ) → start ≡ length xs → xs ≡ take start xs ++ repeated count (drop start xs)
repeated-end xs start count e = sym (rw (e, take-length xs, drop-length xs, repeated-nothing count, append-nil xs) refl)

-- with one copy there, what was there has room
pub repeated-room : (xs old : List ℕ) (start n : ℕ) → start ≤ length xs → 1 ≤ n → old ≡ take start xs ++ repeated n (drop start xs) → length xs ≤ length old
repeated-room xs old start zero inside one is = absurd (omega arith)
repeated-room xs old start (suc m) inside one is =
    let front : length (take start xs) ≡ start = length-take-le start xs inside in
    let tail : length (drop start xs) ≡ length xs - start = length-drop start xs in
    let all : length old ≡ length (take start xs) + (length (repeated m (drop start xs)) + length (drop start xs))
    = ap length is ∙ length-append (take start xs) (repeated (suc m) (drop start xs)) ∙ ap (λ n. length (take start xs) + n) (length-append (repeated m (drop start xs)) (drop start xs)) in
    omega arith

-- the bytes of one block more, behind what was there
pub denotation-behind : (blocks : List Iterated) (i : ℕ) (block : Iterated) (front old new : List ℕ) → i < length blocks → block ≡ get_or blocks i block
    → old ≡ front ++ denotation (rows_of (take i blocks)) → new ≡ old ++ denotation (row_of block) → new ≡ front ++ denotation (rows_of (take (i + 1) blocks))
denotation-behind blocks i block front old new l is so_far more =
    more ∙ ap (λ xs. xs ++ denotation (row_of block)) so_far ∙ append_assoc front (denotation (rows_of (take i blocks))) (denotation (row_of block))
    ∙ ap (λ xs. front ++ xs) (sym (denotation-take_more blocks i block l is))

-- sizes add up
pub size_of-append : (a b : Blocks) → size_of (append a b) ≡ size_of a + size_of b
size_of-append none b = omega arith
size_of-append (content count place bytes rest) b = omega (arith, size_of-append rest b)
size_of-append (nested count inside rest) b = omega (arith, size_of-append rest b)

-- the size of one block more
pub size_of-take_more : (blocks : List Iterated) (i total size next : ℕ) (block : Iterated) → i < length blocks → block ≡ get_or blocks i block
    → total ≡ min (size_of (rows_of (take i blocks))) (2 ^ 32) → size ≡ min (size_of (row_of block)) (2 ^ 32) → next ≡ min (total + size) (2 ^ 32)
    → next ≡ min (size_of (rows_of (take (i + 1) blocks))) (2 ^ 32)
size_of-take_more blocks i total size next block l is sum_so_far own e =
    let more : rows_of (take (i + 1) blocks) ≡ append (rows_of (take i blocks)) (row_of block)
    = rows_of-take_more blocks i block l ∙ ap (λ x. append (rows_of (take i blocks)) (row_of x)) (sym is) in
    rw (more, size_of-append (rows_of (take i blocks)) (row_of block)) (omega arith)

-- how many blocks there are in a row, those in its blocks among them
abbrev pub blocks_in : Blocks → ℕ
blocks_in none = 0
blocks_in (content count place bytes rest) = 1 + blocks_in rest
blocks_in (nested count inside rest) = 1 + blocks_in inside + blocks_in rest

pub blocks_in-append : (a b : Blocks) → blocks_in (append a b) ≡ blocks_in a + blocks_in b
blocks_in-append none b = omega arith
blocks_in-append (content count place bytes rest) b = omega (arith, blocks_in-append rest b)
blocks_in-append (nested count inside rest) b = omega (arith, blocks_in-append rest b)

-- a block of some blocks has no more in it than all of them
pub blocks_in-item : (blocks : List Iterated) (i : ℕ) (block : Iterated) → i < length blocks → block ≡ get_or blocks i block → blocks_in (row_of block) ≤ blocks_in (rows_of blocks)
blocks_in-item [] i block l is = absurd (omega arith)
blocks_in-item (first ∷ blocks) zero block l is = rw (blocks_in-append (row_of first) (rows_of blocks), is) (omega arith)
blocks_in-item (first ∷ blocks) (suc i) block l is =
    omega (arith, blocks_in-append (row_of first) (rows_of blocks), blocks_in-item blocks i block (omega arith) is)

-- what is in a block has fewer
pub blocks_in-inside : (block : Iterated) (count size : ℕ) (blocks : Vec Iterated Global) → block ≡ Nested count size blocks → blocks_in (rows_of blocks.items) < blocks_in (row_of block)
blocks_in-inside block count size blocks is = omega (arith, ap (λ x. blocks_in (row_of x)) is, ap blocks_in (row_of-Nested count size blocks))
