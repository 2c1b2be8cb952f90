-- The copies of content bytes are copies.
use Rattle.std.proofs.Common.{◌≡◌, ℕ, zero, suc, ◌+◌, ◌-◌, ◌*◌, ◌<◌, ◌≤◌, Bool, true, false, ◌&&◌, nat_lt, nat_eq, nat_le, List, [], ◌∷◌, ◌++◌, length, get_or, take, drop, slice_range, All, refl, sym, ◌∙◌, ap, subst, arith, length-append, Option, Some, None, Ok, Err}
use Rattle.std.specs.Option.{option_map}
use Rattle.std.proofs.lemmas.{Bool.Decides.{nat_tests}, List.{get_or_append_left, get_or-append-add, get_or-take, get_or-drop, length-take-le, length-drop}}
use Rattle.std.proofs.lemmas.{List.Elements.{All-nil, All-cons, All-head, All-tail, All-append, All-map, All-weaker}, List.Kept.{AllPairs-cons}}
use Rattle.oc_omf_records.specs.Blocks.{Blocks, none, content, nested, append, repeated, denotation, size_of, moved, in_each, in_content, found, copies_of}
use Rattle.oc_omf_records.specs.BlockReading.{Reading, in_front, followed, row_at, repeats_row, content_at, after_content, after_counts, block_count, repeat_count, block_at, rest_at, blocks_of}
use Rattle.oc_omf_records.specs.Copies.{IsCopy, AreApart, CopiesAreCopies}

-- how long copies are
pub length-repeated : (n : ℕ) (bytes : List ℕ) → length (repeated n bytes) ≡ n * length bytes
length-repeated zero bytes = omega arith
length-repeated (suc n) bytes = rw (length-append (repeated n bytes) bytes, length-repeated n bytes) (grind arith)

-- how long a denotation is
pub length-denotation : (row : Blocks) → length (denotation row) ≡ size_of row
length-denotation none = refl
length-denotation (content count place bytes rest) =
    rw (length-append (repeated count bytes) (denotation rest), length-repeated count bytes, length-denotation rest) refl
length-denotation (nested count inside rest) =
    rw (length-append (repeated count (denotation inside)) (denotation rest), length-repeated count (denotation inside), length-denotation inside, length-denotation rest) refl

-- each content is what stands at its place
abbrev pub IsTakenFrom : List ℕ → Blocks → Type 0
IsTakenFrom b none = Unit {0}
IsTakenFrom b (content count place bytes rest) = ((place + length bytes ≤ length b) × (bytes ≡ slice_range b place (place + length bytes))) × IsTakenFrom b rest
IsTakenFrom b (nested count inside rest) = IsTakenFrom b inside × IsTakenFrom b rest

IsTakenFrom-append : (b : List ℕ) (a c : Blocks) → IsTakenFrom b a → IsTakenFrom b c → IsTakenFrom b (append a c)
IsTakenFrom-append b none c left right = right
IsTakenFrom-append b (content count place bytes rest) c left right = (left.0, IsTakenFrom-append b rest c left.1 right)
IsTakenFrom-append b (nested count inside rest) c left right = (left.0, IsTakenFrom-append b rest c left.1 right)

-- the same of what is read
abbrev GivesTaken : List ℕ → Reading → Type 0
GivesTaken b (Ok r) = IsTakenFrom b r.0
GivesTaken b (Err fault) = Unit {0}

GivesTaken-in_front : (b : List ℕ) (row : Blocks) (read : Reading) → IsTakenFrom b row → GivesTaken b read → GivesTaken b (in_front row read)
GivesTaken-in_front b row (Ok r) left right = IsTakenFrom-append b row r.0 left right
GivesTaken-in_front b row (Err fault) left right = tt

GivesTaken-followed : (b : List ℕ) (read : Reading) (next : ℕ → Reading) → GivesTaken b read → ((at : ℕ) → GivesTaken b (next at)) → GivesTaken b (followed read next)
GivesTaken-followed b (Ok r) next left right = GivesTaken-in_front b r.0 (next r.1) left (right r.1)
GivesTaken-followed b (Err fault) next left right = tt

GivesTaken-row_at : (b : List ℕ) (block : ℕ → Reading) → ((at : ℕ) → GivesTaken b (block at)) → (n at : ℕ) → GivesTaken b (row_at block n at)
GivesTaken-row_at b block each zero at = tt
GivesTaken-row_at b block each (suc n) at = GivesTaken-followed b (block at) (row_at block n) (each at) (GivesTaken-row_at b block each n)

GivesTaken-repeats_row : (b : List ℕ) (count : ℕ) (read : Reading) → GivesTaken b read → GivesTaken b (repeats_row count read)
GivesTaken-repeats_row b count (Ok r) all = (all, tt)
GivesTaken-repeats_row b count (Err fault) all = tt

GivesTaken-content_at : (b : List ℕ) (count at : ℕ) → GivesTaken b (content_at b count at)
GivesTaken-content_at b count at = by_test (nat_le (at + 1) (length b) && nat_le (after_content b at) (length b)) refl
  where
    by_test : (test : Bool) → (nat_le (at + 1) (length b) && nat_le (after_content b at) (length b)) ≡ test → GivesTaken b (content_at b count at)
    by_test false e = rw e tt
    by_test true e =
        let inside : after_content b at ≤ length b = grind (arith, nat_tests) in
        let size : length (slice_range b (at + 1) (after_content b at)) ≡ after_content b at - (at + 1)
        = length-take-le (after_content b at - (at + 1)) (drop (at + 1) b) (omega (arith, length-drop (at + 1) b)) in
        let end : at + 1 + length (slice_range b (at + 1) (after_content b at)) ≡ after_content b at = omega arith in
        rw e ((omega arith, ap (slice_range b (at + 1)) (sym end)), tt)

GivesTaken-block_at : (wide : Bool) (b : List ℕ) (levels at : ℕ) → GivesTaken b (block_at wide b levels at)
GivesTaken-block_at wide b zero at = tt
GivesTaken-block_at wide b (suc levels) at = by_tests (nat_le (after_counts wide b at) (length b)) (nat_eq (block_count wide b at) 0) refl refl (GivesTaken-block_at wide b levels)
  where
    by_tests : (whole empty : Bool) → nat_le (after_counts wide b at) (length b) ≡ whole → nat_eq (block_count wide b at) 0 ≡ empty
        → ((place : ℕ) → GivesTaken b (block_at wide b levels place)) → GivesTaken b (block_at wide b (suc levels) at)
    by_tests false empty e f inside = rw e tt
    by_tests true true e f inside = rw (e, f) (GivesTaken-content_at b (repeat_count wide b at) (after_counts wide b at))
    by_tests true false e f inside =
        rw (e, f) (GivesTaken-repeats_row b (repeat_count wide b at) (row_at (block_at wide b levels) (block_count wide b at) (after_counts wide b at))
        (GivesTaken-row_at b (block_at wide b levels) inside (block_count wide b at) (after_counts wide b at)))

GivesTaken-rest_at : (wide : Bool) (b : List ℕ) (n at : ℕ) → GivesTaken b (rest_at wide b n at)
GivesTaken-rest_at wide b zero at = tt
GivesTaken-rest_at wide b (suc n) at = by_test (nat_lt at (length b)) refl (GivesTaken-rest_at wide b n)
  where
    by_test : (more : Bool) → nat_lt at (length b) ≡ more → ((place : ℕ) → GivesTaken b (rest_at wide b n place)) → GivesTaken b (rest_at wide b (suc n) at)
    by_test false e rest = rw e tt
    by_test true e rest = rw e (GivesTaken-followed b (block_at wide b 32 at) (rest_at wide b n) (GivesTaken-block_at wide b 32 at) rest)

pub blocks_of-taken : (wide : Bool) (b : List ℕ) (row : Blocks) → blocks_of wide b ≡ Ok row → IsTakenFrom b row
blocks_of-taken wide b row is = from_reading (rest_at wide b (length b) 0) refl (GivesTaken-rest_at wide b (length b) 0)
  where
    from_reading : (read : Reading) → rest_at wide b (length b) 0 ≡ read → GivesTaken b read → IsTakenFrom b row
    from_reading (Ok r) e all = let same : blocks_of wide b ≡ Ok r.0 = rw e refl in let rows : r.0 ≡ row = cc in subst (IsTakenFrom b) rows all
    from_reading (Err fault) e all = let same : blocks_of wide b ≡ Err fault = rw e refl in absurd (cc)

-- places apart, by cases
abbrev pub Spaced : List ℕ → Type 0
Spaced [] = Unit {0}
Spaced (place ∷ places) = All (λ q. place + 4 ≤ q) places × Spaced places

Spaced-moved : (by : ℕ) (places : List ℕ) → Spaced places → Spaced (moved by places)
Spaced-moved by [] apart = tt
Spaced-moved by (place ∷ places) apart = (
  All-map (λ q. by + place + 4 ≤ q) (λ q. by + q) places (All-weaker (λ q. place + 4 ≤ q) (λ q. by + place + 4 ≤ by + q) (λ q l. omega arith) places apart.0),
  Spaced-moved by places apart.1,
)

Spaced-append : (border : ℕ) (xs ys : List ℕ) → Spaced xs → Spaced ys → All (λ p. p + 4 ≤ border) xs → All (λ q. border ≤ q) ys → Spaced (xs ++ ys)
Spaced-append border [] ys left right low high = right
Spaced-append border (x ∷ xs) ys left right low high = (
  All-append (λ q. x + 4 ≤ q) xs ys left.0 (let first : x + 4 ≤ border = All-head (λ p. p + 4 ≤ border) x xs low in All-weaker (λ q. border ≤ q) (λ q. x + 4 ≤ q) (λ q l. omega arith) ys high),
  Spaced-append border xs ys left.1 right (All-tail (λ p. p + 4 ≤ border) x xs low) high,
)

pub AreApart-from_spaced : (places : List ℕ) → Spaced places → AreApart places
AreApart-from_spaced [] apart = λ i j d l within. absurd (omega arith)
AreApart-from_spaced (place ∷ places) apart = AllPairs-cons (λ p q. p + 4 ≤ q) place places apart.0 (AreApart-from_spaced places apart.1)

module _ (b : List ℕ) (at : ℕ) where
  copy-left : (xs ys : List ℕ) (place : ℕ) → IsCopy b at xs place → IsCopy b at (xs ++ ys) place
  copy-left xs ys place copy = record {
    inside = let room : place + 4 ≤ length xs = copy.inside in omega (arith, length-append xs ys);
    same = λ j l. let within : place + j < length xs = let room : place + 4 ≤ length xs = copy.inside in omega arith in get_or_append_left xs ys 0 (place + j) within ∙ copy.same j l;
  }

  copy-right : (xs ys : List ℕ) (size place : ℕ) → size ≡ length xs → IsCopy b at ys place → IsCopy b at (xs ++ ys) (size + place)
  copy-right xs ys size place e copy = record {
    inside = let room : place + 4 ≤ length ys = copy.inside in omega (arith, length-append xs ys);
    same = λ j l. let i : size + place + j ≡ length xs + (place + j) = omega arith in ap (λ k. get_or (xs ++ ys) k 0) i ∙ get_or-append-add xs ys (place + j) 0 ∙ copy.same j l;
  }

  -- the places, if any, are places of copies, and apart
  abbrev CopiesIn : List ℕ → Option (List ℕ) → Type 0
  CopiesIn xs None = Unit {0}
  CopiesIn xs (Some places) = All (IsCopy b at xs) places × Spaced places

  CopiesIn-found : (x y : Option (List ℕ)) (xs ys : List ℕ) (size : ℕ) → size ≡ length xs → CopiesIn xs x → CopiesIn ys y → CopiesIn (xs ++ ys) (found x size y)
  CopiesIn-found (Some places) y xs ys size e left right = (All-weaker (IsCopy b at xs) (IsCopy b at (xs ++ ys)) (copy-left xs ys) places left.0, left.1)
  CopiesIn-found None None xs ys size e left right = tt
  CopiesIn-found None (Some places) xs ys size e left right = (
    All-map (IsCopy b at (xs ++ ys)) (λ place. size + place) places (All-weaker (IsCopy b at ys) (λ place. IsCopy b at (xs ++ ys) (size + place)) (λ place. copy-right xs ys size place e) places right.0),
    Spaced-moved size places right.1,
  )

  CopiesIn-each : (n size : ℕ) (piece places : List ℕ) → size ≡ length piece → All (IsCopy b at piece) places → Spaced places
      → All (IsCopy b at (repeated n piece)) (in_each n size places) × Spaced (in_each n size places)
  CopiesIn-each zero size piece places e all apart = (All-nil (IsCopy b at []), tt)
  CopiesIn-each (suc n) size piece places e all apart =
      let rest = CopiesIn-each n size piece places e all apart in
      let copied : n * size ≡ length (repeated n piece) = ap (λ k. n * k) e ∙ sym (length-repeated n piece) in (
        All-append (IsCopy b at (repeated (suc n) piece)) (in_each n size places) (moved (n * size) places)
            (All-weaker (IsCopy b at (repeated n piece)) (IsCopy b at (repeated (suc n) piece)) (copy-left (repeated n piece) piece) (in_each n size places) rest.0)
            (All-map (IsCopy b at (repeated (suc n) piece)) (λ place. n * size + place) places
            (All-weaker (IsCopy b at piece) (λ place. IsCopy b at (repeated (suc n) piece) (n * size + place)) (λ place. copy-right (repeated n piece) piece (n * size) place copied) places all)),
        Spaced-append (n * size) (in_each n size places) (moved (n * size) places) rest.1 (Spaced-moved (n * size) places apart)
            (All-weaker (IsCopy b at (repeated n piece)) (λ p. p + 4 ≤ n * size) (λ p copy. rw copied copy.inside) (in_each n size places) rest.0)
            (All-map (λ q. n * size ≤ q) (λ place. n * size + place) places (All-weaker (IsCopy b at piece) (λ place. n * size ≤ n * size + place) (λ place copy. omega arith) places all)),
      )

  CopiesIn-repeated : (n size : ℕ) (piece : List ℕ) (x : Option (List ℕ)) → size ≡ length piece → CopiesIn piece x → CopiesIn (repeated n piece) (option_map (in_each n size) x)
  CopiesIn-repeated n size piece None e all = tt
  CopiesIn-repeated n size piece (Some places) e all = CopiesIn-each n size piece places e all.0 all.1

  CopiesIn-content : (place : ℕ) (bytes : List ℕ) → place + length bytes ≤ length b → bytes ≡ slice_range b place (place + length bytes) → CopiesIn bytes (in_content at place (length bytes))
  CopiesIn-content place bytes room is = by_test (nat_le place at && nat_le (at + 4) (place + length bytes)) refl
    where
      by_test : (test : Bool) → (nat_le place at && nat_le (at + 4) (place + length bytes)) ≡ test → CopiesIn bytes (in_content at place (length bytes))
      by_test false e = rw e tt
      by_test true e =
          let low : place ≤ at = grind (arith, nat_tests) in
          let high : at + 4 ≤ place + length bytes = grind (arith, nat_tests) in
          let copy : IsCopy b at bytes (at - place) = record {
            inside = omega arith;
            same = λ j l.
                let n : place + length bytes - place ≡ length bytes = omega arith in
                let within : at - place + j < length bytes = omega arith in
                let i : place + (at - place + j) ≡ at + j = omega arith in
                ap (λ xs. get_or xs (at - place + j) 0) (is ∙ ap (λ k. take k (drop place b)) n) ∙ get_or-take (length bytes) (drop place b) (at - place + j) 0 within
                ∙ get_or-drop place b (at - place + j) 0 ∙ ap (λ k. get_or b k 0) i;
          } in
          rw e (All-cons (IsCopy b at bytes) (at - place) [] copy (All-nil (IsCopy b at bytes)), (All-nil (λ q. at - place + 4 ≤ q), tt))

  copies_of-copies : (row : Blocks) → IsTakenFrom b row → CopiesIn (denotation row) (copies_of row at)
  copies_of-copies none taken = tt
  copies_of-copies (content count place bytes rest) taken =
      CopiesIn-found (option_map (in_each count (length bytes)) (in_content at place (length bytes))) (copies_of rest at) (repeated count bytes) (denotation rest) (count * length bytes)
      (sym (length-repeated count bytes)) (CopiesIn-repeated count (length bytes) bytes (in_content at place (length bytes)) refl (CopiesIn-content place bytes taken.0.0 taken.0.1))
      (copies_of-copies rest taken.1)
  copies_of-copies (nested count inside rest) taken =
      let size : size_of inside ≡ length (denotation inside) = sym (length-denotation inside) in
      CopiesIn-found (option_map (in_each count (size_of inside)) (copies_of inside at)) (copies_of rest at) (repeated count (denotation inside)) (denotation rest) (count * size_of inside)
      (ap (λ k. count * k) size ∙ sym (length-repeated count (denotation inside)))
      (CopiesIn-repeated count (size_of inside) (denotation inside) (copies_of inside at) size (copies_of-copies inside taken.0)) (copies_of-copies rest taken.1)

pub copies_are_copies_lem : CopiesAreCopies
copies_are_copies_lem wide b row at places is found_there =
    let all = subst (CopiesIn b at (denotation row)) found_there (copies_of-copies b at row (blocks_of-taken wide b row is)) in
    (all.0, AreApart-from_spaced places all.1)
