-- What is read is what was written.
use Rattle.std.proofs.Common.{◌≡◌, ℕ, zero, suc, ◌+◌, ◌-◌, ◌*◌, ◌/◌, ◌%◌, ◌^◌, ◌<◌, ◌≤◌, max, Bool, true, false, ◌&&◌, nat_lt, nat_eq, nat_le, List, [], ◌∷◌, ◌++◌, length, get_or, take, drop, slice_range, All, refl, sym, ◌∙◌, ap, subst, arith, Ok, Err}
use Rattle.std.proofs.lemmas.{Bool.Decides.{nat_tests}, List.{append_assoc, append-nil, length-take-le, length-drop}, List.Folds.{drop_split}}
use Rattle.std.proofs.Math.Seq.{drop-cons, take-append-add, take-length}
use Rattle.oc_base.specs.Numbers.{number_at, bytes_of_number}
use Rattle.oc_omf_records.specs.Blocks.{Blocks, none, content, nested, append}
use Rattle.oc_omf_records.specs.BlockReading.{Reading, in_front, followed, row_at, repeats_row, count_size, content_at, after_content, after_counts, block_count, repeat_count, block_at, rest_at, blocks_of}
use Rattle.oc_omf_records.specs.Encoding.{row_length, levels_of, encoded, ReadingIsWritten}

encoded-append : (wide : Bool) (a c : Blocks) → encoded wide (append a c) ≡ encoded wide a ++ encoded wide c
encoded-append wide none c = refl
encoded-append wide (content count place bytes rest) c = rw (encoded-append wide rest c) (simp append_assoc)
encoded-append wide (nested count inside rest) c = rw (encoded-append wide rest c) (simp append_assoc)

row_length-append : (a c : Blocks) → row_length (append a c) ≡ row_length a + row_length c
row_length-append none c = omega arith
row_length-append (content count place bytes rest) c = omega (arith, row_length-append rest c)
row_length-append (nested count inside rest) c = omega (arith, row_length-append rest c)

levels_of-append : (a c : Blocks) → levels_of (append a c) ≡ max (levels_of a) (levels_of c)
levels_of-append none c = omega arith
levels_of-append (content count place bytes rest) c = omega (arith, levels_of-append rest c)
levels_of-append (nested count inside rest) c = omega (arith, levels_of-append rest c)

-- two slices that meet
slice-join : (b : List ℕ) (at m end : ℕ) → at ≤ m → m ≤ end → m ≤ length b → slice_range b at m ++ slice_range b m end ≡ slice_range b at end
slice-join b at m end low high inside =
    let size : length (slice_range b at m) ≡ m - at = length-take-le (m - at) (drop at b) (omega (arith, length-drop at b)) in
    let n : end - at ≡ length (slice_range b at m) + (end - m) = omega arith in
    sym (ap (λ k. take k (drop at b)) n ∙ ap (take (length (slice_range b at m) + (end - m))) (drop_split b at m low) ∙ take-append-add (slice_range b at m) (drop m b) (end - m))

slice-empty : (b : List ℕ) (at : ℕ) → slice_range b at at ≡ []
slice-empty b at = let n : at - at ≡ 0 = omega arith in rw n refl

slice-whole : (b : List ℕ) → slice_range b 0 (length b) ≡ b
slice-whole b = let n : length b - 0 ≡ length b = omega arith in rw n (take-length b)

slice-one : (b : List ℕ) (at : ℕ) → at + 1 ≤ length b → slice_range b at (at + 1) ≡ get_or b at 0 ∷ []
slice-one b at inside = let n : at + 1 - at ≡ 1 = omega arith in rw (n, drop-cons b at 0 (omega arith)) refl

-- a number of one byte
number_one : (b : List ℕ) (at : ℕ) → number_at b at 1 ≡ get_or b at 0
unfolding number_at
number_one b at = omega arith

module _ (b : List ℕ) (small : All (λ byte. byte < 256) b) where
  -- a number is written as the bytes that it was read from
  bytes-two : (at : ℕ) → at + 2 ≤ length b → bytes_of_number 2 (number_at b at 2) ≡ slice_range b at (at + 2)
  unfolding bytes_of_number number_at
  bytes-two at inside =
      let n : at + 2 - at ≡ 2 = omega arith in
      let x : get_or b at 0 < 256 = small at 0 (omega arith) in
      let y : get_or b (suc at) 0 < 256 = small (suc at) 0 (omega arith) in
      let first : (get_or b at 0 + 256 * (get_or b (suc at) 0 + 256 * 0)) % 256 ≡ get_or b at 0 = omega arith in
      let second : (get_or b at 0 + 256 * (get_or b (suc at) 0 + 256 * 0)) / 256 ^ 1 % 256 ≡ get_or b (suc at) 0 = omega arith in
      rw (n, drop-cons b at 0 (omega arith), drop-cons b (suc at) 0 (omega arith), first, second) refl

  bytes-four : (at : ℕ) → at + 4 ≤ length b → bytes_of_number 4 (number_at b at 4) ≡ slice_range b at (at + 4)
  unfolding bytes_of_number number_at
  bytes-four at inside =
      let n : at + 4 - at ≡ 4 = omega arith in
      let x : get_or b at 0 < 256 = small at 0 (omega arith) in
      let y : get_or b (suc at) 0 < 256 = small (suc at) 0 (omega arith) in
      let z : get_or b (suc (suc at)) 0 < 256 = small (suc (suc at)) 0 (omega arith) in
      let w : get_or b (suc (suc (suc at))) 0 < 256 = small (suc (suc (suc at))) 0 (omega arith) in
      let whole = get_or b at 0 + 256 * (get_or b (suc at) 0 + 256 * (get_or b (suc (suc at)) 0 + 256 * (get_or b (suc (suc (suc at))) 0 + 256 * 0))) in
      let first : whole % 256 ≡ get_or b at 0 = omega arith in
      let second : whole / 256 ^ 1 % 256 ≡ get_or b (suc at) 0 = omega arith in
      let third : whole / 256 ^ 2 % 256 ≡ get_or b (suc (suc at)) 0 = omega arith in
      let fourth : whole / 256 ^ 3 % 256 ≡ get_or b (suc (suc (suc at))) 0 = omega arith in
      rw (
        n,
        drop-cons b at 0 (omega arith),
        drop-cons b (suc at) 0 (omega arith),
        drop-cons b (suc (suc at)) 0 (omega arith),
        drop-cons b (suc (suc (suc at))) 0 (omega arith),
        first,
        second,
        third,
        fourth,
      ) refl

  bytes-count : (wide : Bool) (at : ℕ) → at + count_size wide ≤ length b → bytes_of_number (count_size wide) (number_at b at (count_size wide)) ≡ slice_range b at (at + count_size wide)
  bytes-count true at inside = bytes-four at inside
  bytes-count false at inside = bytes-two at inside

-- a row is written as the bytes from a place to another, is so long and has at most so many levels; each block takes a byte at least
pub record Written (wide : Bool) (b : List ℕ) (levels n at : ℕ) (row : Blocks) (end : ℕ) : Type 0 where
  pub forward : at + n ≤ end
  pub inside : end ≤ length b
  pub bytes : encoded wide row ≡ slice_range b at end
  pub many : row_length row ≡ n
  pub deep : levels_of row ≤ levels

abbrev GivesWritten : Bool → List ℕ → ℕ → ℕ → ℕ → Reading → Type 0
GivesWritten wide b levels n at (Ok r) = Written wide b levels n at r.0 r.1
GivesWritten wide b levels n at (Err fault) = Unit {0}

Written-none : (wide : Bool) (b : List ℕ) (levels at : ℕ) → at ≤ length b → Written wide b levels 0 at none at
Written-none wide b levels at inside = record { forward = omega arith; inside = inside; bytes = sym (slice-empty b at); many = refl; deep = omega arith }

Written-append : (wide : Bool) (b : List ℕ) (levels n k total at m end : ℕ) (row next : Blocks) → total ≡ n + k → Written wide b levels n at row m → Written wide b levels k m next end
    → Written wide b levels total at (append row next) end
Written-append wide b levels n k total at m end row next e left right = record {
  forward = let l : at + n ≤ m = left.forward in let r : m + k ≤ end = right.forward in omega arith;
  inside = right.inside;
  bytes = encoded-append wide row next ∙ rw (left.bytes, right.bytes)
      (slice-join b at m end (let l : at + n ≤ m = left.forward in omega arith) (let r : m + k ≤ end = right.forward in omega arith) left.inside);
  many = omega (arith, row_length-append row next, left.many, right.many);
  deep = let l : levels_of row ≤ levels = left.deep in let r : levels_of next ≤ levels = right.deep in omega (arith, levels_of-append row next);
}

GivesWritten-in_front : (wide : Bool) (b : List ℕ) (levels n k total at m : ℕ) (row : Blocks) (read : Reading) → total ≡ n + k → Written wide b levels n at row m
    → GivesWritten wide b levels k m read → GivesWritten wide b levels total at (in_front row read)
GivesWritten-in_front wide b levels n k total at m row (Ok r) e left right = Written-append wide b levels n k total at m r.1 row r.0 e left right
GivesWritten-in_front wide b levels n k total at m row (Err fault) e left right = tt

GivesWritten-followed : (wide : Bool) (b : List ℕ) (levels n k total at : ℕ) (read : Reading) (next : ℕ → Reading) → total ≡ n + k → GivesWritten wide b levels n at read
    → ((m : ℕ) → m ≤ length b → GivesWritten wide b levels k m (next m)) → GivesWritten wide b levels total at (followed read next)
GivesWritten-followed wide b levels n k total at (Ok r) next e left right =
    GivesWritten-in_front wide b levels n k total at r.1 r.0 (next r.1) e left (right r.1 left.inside)
GivesWritten-followed wide b levels n k total at (Err fault) next e left right = tt

GivesWritten-row_at : (wide : Bool) (b : List ℕ) (levels : ℕ) (block : ℕ → Reading) → ((at : ℕ) → at ≤ length b → GivesWritten wide b levels 1 at (block at))
    → (n at : ℕ) → at ≤ length b → GivesWritten wide b levels n at (row_at block n at)
GivesWritten-row_at wide b levels block each zero at inside = Written-none wide b levels at inside
GivesWritten-row_at wide b levels block each (suc n) at inside =
    GivesWritten-followed wide b levels 1 n (suc n) at (block at) (row_at block n) (omega arith) (each at inside) (GivesWritten-row_at wide b levels block each n)

module _ (wide : Bool) (b : List ℕ) (small : All (λ byte. byte < 256) b) where
  content-written : (levels at : ℕ) → at ≤ length b → after_counts wide b at ≤ length b → block_count wide b at ≡ 0
      → GivesWritten wide b (suc levels) 1 at (content_at b (repeat_count wide b at) (after_counts wide b at))
  content-written levels at inside counts none_in = by_test (nat_le (after_counts wide b at + 1) (length b) && nat_le (after_content b (after_counts wide b at)) (length b)) refl
    where
      by_test : (test : Bool) → (nat_le (after_counts wide b at + 1) (length b) && nat_le (after_content b (after_counts wide b at)) (length b)) ≡ test
          → GivesWritten wide b (suc levels) 1 at (content_at b (repeat_count wide b at) (after_counts wide b at))
      by_test false e = rw e tt
      by_test true e =
          let p = after_counts wide b at in
          let end = after_content b p in
          let one : p + 1 ≤ length b = grind (arith, nat_tests) in
          let all : end ≤ length b = grind (arith, nat_tests) in
          let size : length (slice_range b (p + 1) end) ≡ number_at b p 1 = length-take-le (end - (p + 1)) (drop (p + 1) b) (omega (arith, length-drop (p + 1) b)) ∙ omega arith in
          let byte : number_at b p 1 ≡ get_or b p 0 = number_one b p in
          let count : bytes_of_number (count_size wide) (repeat_count wide b at) ≡ slice_range b at (at + count_size wide) = bytes-count b small wide at (omega arith) in
          let zero_in : bytes_of_number 2 0 ≡ slice_range b (at + count_size wide) p
          = subst (λ n. bytes_of_number 2 n ≡ slice_range b (at + count_size wide) p) none_in (bytes-two b small (at + count_size wide) (omega arith)) in
          let length_byte : length (slice_range b (p + 1) end) ∷ [] ≡ slice_range b p (p + 1) = ap (λ n. n ∷ []) (size ∙ byte) ∙ sym (slice-one b p one) in
          let rest : length (slice_range b (p + 1) end) ∷ slice_range b (p + 1) end ≡ slice_range b p end
          = ap (λ xs. xs ++ slice_range b (p + 1) end) length_byte ∙ slice-join b p (p + 1) end (omega arith) (omega arith) one in
          rw e (record {
            forward = omega arith;
            inside = all;
            bytes = rw (append-nil (slice_range b (p + 1) end), rest, zero_in, count)
                (ap (λ xs. slice_range b at (at + count_size wide) ++ xs) (slice-join b (at + count_size wide) p end (omega arith) (omega arith) counts)
                ∙ slice-join b at (at + count_size wide) end (omega arith) (omega arith) (omega arith));
            many = omega arith;
            deep = omega arith;
          })

  nested-written : (levels at : ℕ) (read : Reading) → at ≤ length b → after_counts wide b at ≤ length b → GivesWritten wide b levels (block_count wide b at) (after_counts wide b at) read
      → GivesWritten wide b (suc levels) 1 at (repeats_row (repeat_count wide b at) read)
  nested-written levels at (Err fault) inside counts all = tt
  nested-written levels at (Ok r) inside counts all =
      let p = after_counts wide b at in
      let end = r.1 in
      let forward : p + block_count wide b at ≤ end = all.forward in
      let deep : levels_of r.0 ≤ levels = all.deep in
      let count : bytes_of_number (count_size wide) (repeat_count wide b at) ≡ slice_range b at (at + count_size wide) = bytes-count b small wide at (omega arith) in
      let many : bytes_of_number 2 (row_length r.0) ≡ slice_range b (at + count_size wide) p
      = subst (λ n. bytes_of_number 2 n ≡ slice_range b (at + count_size wide) p) (sym all.many) (bytes-two b small (at + count_size wide) (omega arith)) in
      record {
        forward = omega arith;
        inside = all.inside;
        bytes = rw (append-nil (encoded wide r.0), all.bytes, many, count)
            (ap (λ xs. slice_range b at (at + count_size wide) ++ xs) (slice-join b (at + count_size wide) p end (omega arith) (omega arith) counts)
            ∙ slice-join b at (at + count_size wide) end (omega arith) (omega arith) (omega arith));
        many = omega arith;
        deep = omega arith;
      }

  block-written : (levels at : ℕ) → at ≤ length b → GivesWritten wide b levels 1 at (block_at wide b levels at)
  block-written zero at inside = tt
  block-written (suc levels) at inside = by_tests (nat_le (after_counts wide b at) (length b)) (nat_eq (block_count wide b at) 0) refl refl (block-written levels)
    where
      by_tests : (whole empty : Bool) → nat_le (after_counts wide b at) (length b) ≡ whole → nat_eq (block_count wide b at) 0 ≡ empty
          → ((place : ℕ) → place ≤ length b → GivesWritten wide b levels 1 place (block_at wide b levels place)) → GivesWritten wide b (suc levels) 1 at (block_at wide b (suc levels) at)
      by_tests false empty e f each = rw e tt
      by_tests true true e f each =
          let counts : after_counts wide b at ≤ length b = grind (arith, nat_tests) in
          let none_in : block_count wide b at ≡ 0 = grind (arith, nat_tests) in
          rw (e, f) (content-written levels at inside counts none_in)
      by_tests true false e f each =
          let counts : after_counts wide b at ≤ length b = grind (arith, nat_tests) in
          rw (e, f) (nested-written levels at (row_at (block_at wide b levels) (block_count wide b at) (after_counts wide b at)) inside counts
          (GivesWritten-row_at wide b levels (block_at wide b levels) each (block_count wide b at) (after_counts wide b at) counts))

  -- all that is left is written
  abbrev GivesRest : ℕ → Reading → Type 0
  GivesRest at (Ok r) = Written wide b 32 (row_length r.0) at r.0 r.1 × (r.1 ≡ length b)
  GivesRest at (Err fault) = Unit {0}

  rest-in_front : (at m : ℕ) (row : Blocks) (read : Reading) → Written wide b 32 1 at row m → GivesRest m read → GivesRest at (in_front row read)
  rest-in_front at m row (Err fault) left right = tt
  rest-in_front at m row (Ok r) left right =
      let total : row_length (append row r.0) ≡ 1 + row_length r.0 = row_length-append row r.0 ∙ ap (λ n. n + row_length r.0) left.many in
      (Written-append wide b 32 1 (row_length r.0) (row_length (append row r.0)) at m r.1 row r.0 total left right.0, right.1)

  rest-followed : (n at : ℕ) (read : Reading) (next : ℕ → Reading) → GivesWritten wide b 32 1 at read → length b ≤ at + suc n
      → ((m : ℕ) → m ≤ length b → length b ≤ m + n → GivesRest m (next m)) → GivesRest at (followed read next)
  rest-followed n at (Err fault) next left room right = tt
  rest-followed n at (Ok r) next left room right =
      let forward : at + 1 ≤ r.1 = left.forward in
      rest-in_front at r.1 r.0 (next r.1) left (right r.1 left.inside (omega arith))

  rest-written : (n at : ℕ) → at ≤ length b → length b ≤ at + n → GivesRest at (rest_at wide b n at)
  rest-written zero at inside room = (Written-none wide b 32 at inside, omega arith)
  rest-written (suc n) at inside room = by_test (nat_lt at (length b)) refl (rest-written n)
    where
      by_test : (more : Bool) → nat_lt at (length b) ≡ more → ((m : ℕ) → m ≤ length b → length b ≤ m + n → GivesRest m (rest_at wide b n m)) → GivesRest at (rest_at wide b (suc n) at)
      by_test false e rest = let end : at ≡ length b = grind (arith, nat_tests) in rw e (Written-none wide b 32 at inside, end)
      by_test true e rest = rw e (rest-followed n at (block_at wide b 32 at) (rest_at wide b n) (block-written 32 at inside) room rest)

pub reading_is_written_lem : ReadingIsWritten
reading_is_written_lem wide b row small is = from_reading (rest_at wide b (length b) 0) refl (rest-written wide b small (length b) 0 (omega arith) (omega arith))
  where
    from_reading : (read : Reading) → rest_at wide b (length b) 0 ≡ read → GivesRest wide b small 0 read → (encoded wide row ≡ b) × (levels_of row ≤ 32)
    from_reading (Ok r) e all =
        let same : blocks_of wide b ≡ Ok r.0 = rw e refl in
        let rows : r.0 ≡ row = cc in
        subst (λ x. (encoded wide x ≡ b) × (levels_of x ≤ 32)) rows (all.0.bytes ∙ ap (slice_range b 0) all.1 ∙ slice-whole b, all.0.deep)
    from_reading (Err fault) e all = let same : blocks_of wide b ≡ Err fault = rw e refl in absurd (cc)
