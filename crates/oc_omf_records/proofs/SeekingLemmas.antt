-- What a walk over blocks finds.
use Rattle.std.proofs.Common.{◌≡◌, ℕ, zero, suc, ◌+◌, ◌*◌, ◌^◌, ◌<◌, ◌≤◌, min, Bool, true, false, ◌&&◌, nat_lt, IsTrue, List, [], ◌∷◌, length, get_or, take, Vec, Global, All, refl, sym, ◌∙◌, ap, subst, arith, Option, Some, None}
use Rattle.std.specs.Option.{option_map}
use Rattle.std.proofs.lemmas.{Bool.Decides.{nat_tests}, List.Elements.{All-nil, All-weaker}}
use Rattle.oc_omf_records.specs.{declared.iterated.Iterated.{Iterated}, declared.seeking.Sought.TheVariants.{Found, Beyond}}
use Rattle.oc_omf_records.specs.{Blocks.{Blocks, none, content, nested, append, size_of, moved, in_each, in_content, found, copies_of}, Rows.{row_of, rows_of}}
use Rattle.oc_omf_records.specs.Seeking.{Finds, kept, FitIn}
use Rattle.oc_omf_records.proofs.RowLemmas.{append-append, size_of-append, size_of-take_more, rows_of-take_more}
use Rattle.oc_omf_records.proofs.CopyLemmas.{moved-nothing, in_each-nothing, found-last, copies_of-append, copies_of-within, IsWithin, kept-in_each, kept-repeated}

-- no places
pub in_each-empty : (n size : ℕ) (places : List ℕ) → length places ≡ 0 → in_each n size places ≡ []
in_each-empty n size [] none_there = in_each-nothing n size
in_each-empty n size (place ∷ places) none_there = absurd (omega arith)

-- a block of some blocks, and those before it, are no larger than all of them
pub size_of-taken : (blocks : List Iterated) (i : ℕ) → size_of (rows_of (take i blocks)) ≤ size_of (rows_of blocks)
size_of-taken [] zero = omega arith
size_of-taken [] (suc i) = omega arith
size_of-taken (first ∷ blocks) zero = omega arith
size_of-taken (first ∷ blocks) (suc i) =
    rw (size_of-append (row_of first) (rows_of (take i blocks)), size_of-append (row_of first) (rows_of blocks)) (omega (arith, size_of-taken blocks i))

pub size_of-next : (blocks : List Iterated) (i : ℕ) (block : Iterated) → i < length blocks → block ≡ get_or blocks i block
    → size_of (rows_of (take i blocks)) + size_of (row_of block) ≤ size_of (rows_of blocks)
size_of-next blocks i block l is =
    let more : rows_of (take (i + 1) blocks) ≡ append (rows_of (take i blocks)) (row_of block)
    = rows_of-take_more blocks i block l ∙ ap (λ x. append (rows_of (take i blocks)) (row_of x)) (sym is) in
    omega (arith, ap size_of more, size_of-append (rows_of (take i blocks)) (row_of block), size_of-taken blocks (i + 1))

-- what is repeated is no larger than its copies
pub size_of-one : (count size most : ℕ) → 0 < count → count * size + 0 < most → size < most
size_of-one zero size most some bound = absurd (omega arith)
size_of-one (suc n) size most some bound = grind arith

-- what is inside a live block is no larger than the block
pub live_inside : (live now : Bool) (count inside : ℕ) → now ≡ (live && nat_lt 0 count) → (IsTrue live → count * inside + 0 < 2 ^ 31) → IsTrue now → inside < 2 ^ 31
live_inside true now zero inside e bound here = absurd (grind (arith, nat_tests))
live_inside true now (suc n) inside e bound here = let b : suc n * inside + 0 < 2 ^ 31 = bound refl in grind arith
live_inside false now count inside e bound here = absurd (cc)

-- one copy is the piece itself
pub in_each-one : (size : ℕ) (places : List ℕ) → in_each 1 size places ≡ places
in_each-one size places = let none_before : 0 * size ≡ 0 = omega arith in ap (λ by. moved by places) none_before ∙ moved-nothing places

-- a size that is cut at 2^32 serves where the places fit
pub in_each-low : (count size low : ℕ) (places : List ℕ) → low ≡ min size (2 ^ 32) → FitIn count size places → in_each count low places ≡ in_each count size places
in_each-low zero size low places cut fit = refl
in_each-low (suc n) size low [] cut fit = in_each-nothing (suc n) low ∙ sym (in_each-nothing (suc n) size)
in_each-low (suc n) size low (place ∷ places) cut fit =
    let p = (fit 0 0 (omega arith)).1 in
    let less : size < 2 ^ 31 = size_of-one (suc n) size (2 ^ 31) (omega arith) (omega arith) in
    let same : low ≡ size = omega arith in
    ap (λ s. in_each (suc n) s (place ∷ places)) same

-- where places are kept they lie among the bytes, and else there are none
kept-within : (live : Bool) (size : ℕ) (x : Option (List ℕ)) (places : List ℕ) → IsWithin size x → Some places ≡ kept live x → IsTrue live → All (λ place. place < size) places
kept-within true size x places within is here = subst (IsWithin size) (sym is) within
kept-within false size x places within is here = absurd (cc)

kept-nothing : (live : Bool) (x : Option (List ℕ)) (places : List ℕ) → Some places ≡ kept live x → live ≡ false → places ≡ []
kept-nothing true x places is dead = absurd (cc)
kept-nothing false None places is dead = absurd (cc)
kept-nothing false (Some others) places is dead = cc

-- so any bound on live places is a bound on all
kept-bound : (live : Bool) (size : ℕ) (x : Option (List ℕ)) (places : List ℕ) (P : ℕ → Type 0) → IsWithin size x → Some places ≡ kept live x
    → (IsTrue live → (place : ℕ) → place < size → P place) → All P places
kept-bound true size x places P within is bound = All-weaker (λ place. place < size) P (bound refl) places (kept-within true size x places within is refl)
kept-bound false size x places P within is bound = subst (All P) (sym (kept-nothing false x places is refl)) (All-nil P)

-- the places found in the next block have room behind those before it
pub fits_behind : (live : Bool) (block : Blocks) (at s before : ℕ) (places : List ℕ) → Some places ≡ kept live (copies_of block at) → before ≡ min s (2 ^ 32)
    → (IsTrue live → s + size_of block < 2 ^ 31) → All (λ place. before + place < 2 ^ 32) places
fits_behind live block at s before places is size bound =
    kept-bound live (size_of block) (copies_of block at) places (λ place. before + place < 2 ^ 32) (copies_of-within block at) is
    (λ here place l. let small : s + size_of block < 2 ^ 31 = bound here in omega (arith, size))

live_of : (a b : Bool) → IsTrue (a && b) → IsTrue a
live_of true b h = refl
live_of false b h = h

-- the places found in one copy have room in all copies
pub fits_repeated : (live : Bool) (count : ℕ) (inside : Blocks) (at : ℕ) (places : List ℕ) → Some places ≡ kept (live && nat_lt 0 count) (copies_of inside at)
    → (IsTrue live → count * size_of inside + 0 < 2 ^ 31) → FitIn count (size_of inside) places
fits_repeated live count inside at places is bound =
    kept-bound (live && nat_lt 0 count) (size_of inside) (copies_of inside at) places (λ place. (place < size_of inside) × (count * size_of inside < 2 ^ 31)) (copies_of-within inside at) is
    (λ here place l. let all : count * size_of inside + 0 < 2 ^ 31 = bound (live_of live (nat_lt 0 count) here) in (l, omega arith))

-- also where the size of a copy is cut at 2^32
pub fits_low : (live : Bool) (count : ℕ) (inside : Blocks) (at low : ℕ) (places : List ℕ) → low ≡ min (size_of inside) (2 ^ 32)
    → Some places ≡ kept (live && nat_lt 0 count) (copies_of inside at) → (IsTrue live → count * size_of inside + 0 < 2 ^ 31) → FitIn count low places
fits_low live count inside at low places cut is bound =
    kept-bound (live && nat_lt 0 count) (size_of inside) (copies_of inside at) places (λ place. (place < low) × (count * low < 2 ^ 31)) (copies_of-within inside at) is
    (λ here place l.
    let small : size_of inside < 2 ^ 31 = live_inside live (live && nat_lt 0 count) count (size_of inside) refl bound here in
    let same : low ≡ size_of inside = omega arith in
    let all : count * size_of inside + 0 < 2 ^ 31 = bound (live_of live (nat_lt 0 count) here) in
    rw same (l, omega arith))

-- a row, cut around one of its blocks
pub rows_of-around : (blocks : List Iterated) (i : ℕ) (block : Iterated) → i < length blocks → block ≡ get_or blocks i block
    → (rest : Blocks) × (rows_of blocks ≡ append (rows_of (take i blocks)) (append (row_of block) rest))
rows_of-around [] i block l is = absurd (omega arith)
rows_of-around (first ∷ blocks) zero block l is = (rows_of blocks, ap (λ x. append (row_of x) (rows_of blocks)) (sym is))
rows_of-around (first ∷ blocks) (suc i) block l is =
    let around = rows_of-around blocks i block (omega arith) is in
    (around.0, ap (append (row_of first)) around.1 ∙ sym (append-append (row_of first) (rows_of (take i blocks)) (append (row_of block) around.0)))

-- what is found behind blocks that do not hold it
kept-behind : (live : Bool) (x y : Option (List ℕ)) (s t by : ℕ) (places : List ℕ) → (IsTrue live → by ≡ s) → Some places ≡ kept live x
    → Some (moved by places) ≡ kept live (found None s (found x t y))
kept-behind true None y s t by places same is = absurd (cc)
kept-behind true (Some others) y s t by places same is =
    let e : by ≡ s = same refl in
    let p : places ≡ others = cc in
    rw (e, p) refl
kept-behind false None y s t by places same is = absurd (cc)
kept-behind false (Some others) y s t by places same is =
    let p : places ≡ [] = cc in
    rw p refl

-- a walk that finds the content in the next block
pub Finds-in_next : (live : Bool) (blocks : List Iterated) (i : ℕ) (block : Iterated) (at by : ℕ) (places here : Vec ℕ Global) → i < length blocks → block ≡ get_or blocks i block
    → Finds live (rows_of (take i blocks)) at (Beyond by) → Finds live (row_of block) at (Found places) → (IsTrue live → size_of (rows_of blocks) < 2 ^ 31)
    → here.items ≡ moved by places.items → Finds live (rows_of blocks) at (Found here)
Finds-in_next live blocks i block at by places here l is before own bound moved_here =
    let around = rows_of-around blocks i block l is in
    let front = rows_of (take i blocks) in
    let copies : copies_of (rows_of blocks) at ≡ found None (size_of front) (found (copies_of (row_of block) at) (size_of (row_of block)) (copies_of around.0 at))
    = ap (λ x. copies_of x at) around.1 ∙ copies_of-append front (append (row_of block) around.0) at
    ∙ ap (λ x. found x (size_of front) (copies_of (append (row_of block) around.0) at)) before.0
    ∙ ap (found None (size_of front)) (copies_of-append (row_of block) around.0 at) in
    ap Some moved_here ∙ kept-behind live (copies_of (row_of block) at) (copies_of around.0 at) (size_of front) (size_of (row_of block)) by places.items
    (λ live_here. let small : size_of (rows_of blocks) < 2 ^ 31 = bound live_here in omega (arith, before.1, size_of-taken blocks i)) own
    ∙ ap (kept live) (sym copies)

-- a walk that does not find it in the next block either
pub Finds-beyond_next : (live : Bool) (blocks : List Iterated) (i : ℕ) (block : Iterated) (at by size next : ℕ) → i < length blocks → block ≡ get_or blocks i block
    → Finds live (rows_of (take i blocks)) at (Beyond by) → Finds live (row_of block) at (Beyond size) → next ≡ min (by + size) (2 ^ 32)
    → Finds live (rows_of (take (i + 1) blocks)) at (Beyond next)
Finds-beyond_next live blocks i block at by size next l is before own sum =
    let front = rows_of (take i blocks) in
    let more : rows_of (take (i + 1) blocks) ≡ append front (row_of block)
    = rows_of-take_more blocks i block l ∙ ap (λ x. append front (row_of x)) (sym is) in (
      ap (λ x. copies_of x at) more ∙ copies_of-append front (row_of block) at ∙ rw (before.0, own.0) refl,
      size_of-take_more blocks i by size next block l is before.1 own.1 sum,
    )

-- a walk into what is repeated, which finds the content
pub Finds-in_copies : (live : Bool) (count : ℕ) (inside : Blocks) (at : ℕ) (places all : Vec ℕ Global) → Finds (live && nat_lt 0 count) inside at (Found places)
    → all.items ≡ in_each count (size_of inside) places.items → Finds live (nested count inside none) at (Found all)
Finds-in_copies live count inside at places all one is =
    ap Some is ∙ ap (option_map (in_each count (size_of inside))) one
    ∙ sym (kept-repeated live count (size_of inside) (copies_of inside at))
    ∙ ap (kept live) (sym (found-last (option_map (in_each count (size_of inside)) (copies_of inside at)) (count * size_of inside)))

-- a content that holds it
pub Finds-in_content : (live : Bool) (count place : ℕ) (bytes : List ℕ) (at : ℕ) (places all : Vec ℕ Global) → Some places.items ≡ kept live (in_content at place (length bytes))
    → all.items ≡ in_each count (length bytes) places.items → Finds live (content count place bytes none) at (Found all)
Finds-in_content live count place bytes at places all one is =
    ap Some is ∙ ap (option_map (in_each count (length bytes))) one
    ∙ sym (kept-in_each live count (length bytes) (in_content at place (length bytes)))
    ∙ ap (kept live) (sym (found-last (option_map (in_each count (length bytes)) (in_content at place (length bytes))) (count * length bytes)))
