-- What was written is read.
use Rattle.std.proofs.Common.{◌≡◌, ℕ, zero, suc, ◌+◌, ◌-◌, ◌^◌, ◌<◌, ◌≤◌, Bool, true, false, nat_lt, nat_eq, nat_le, List, [], ◌∷◌, ◌++◌, length, get_or, take, drop, slice_range, refl, sym, ◌∙◌, ap, arith, length-append, Ok, Err}
use Rattle.std.proofs.lemmas.{Bool.Decides.{nat_tests}, List.{append_assoc, append-nil, get_or-append-add}}
use Rattle.std.proofs.Math.Seq.{drop-append_seam, take-append_seam}
use Rattle.oc_base.specs.Numbers.{number_at, bytes_of_number}
use Rattle.oc_base.proofs.NumberLaws.{length-bytes_of_number, number_at-shift, number_at-bytes}
use Rattle.oc_omf_records.specs.{declared.faults.BlockFault.TheVariants.{BadBlock}, Blocks.{Blocks, none, content, nested, append}}
use Rattle.oc_omf_records.specs.BlockReading.{Reading, row_at, count_size, after_content, after_counts, block_count, repeat_count, block_at, rest_at}
use Rattle.oc_omf_records.specs.Encoding.{row_length, levels_of, encoded, CanBeWritten, WrittenIsRead}
use Rattle.oc_omf_records.proofs.ReadingLemmas.{blocks_of-ok}

-- these bytes stand at a place
pub record Begins (b : List ℕ) (at : ℕ) (xs : List ℕ) : Type 0 where
  pub front : List ℕ
  pub tail : List ℕ
  pub is : b ≡ front ++ (xs ++ tail)
  pub size : at ≡ length front

Begins-left : (b : List ℕ) (at : ℕ) (xs ys : List ℕ) → Begins b at (xs ++ ys) → Begins b at xs
Begins-left b at xs ys here = record { front = here.front; tail = ys ++ here.tail; is = here.is ∙ ap (λ zs. here.front ++ zs) (append_assoc xs ys here.tail); size = here.size }

Begins-right : (b : List ℕ) (at m : ℕ) (xs ys : List ℕ) → m ≡ at + length xs → Begins b at (xs ++ ys) → Begins b m ys
Begins-right b at m xs ys e here = record {
  front = here.front ++ xs;
  tail = here.tail;
  is = here.is ∙ ap (λ zs. here.front ++ zs) (append_assoc xs ys here.tail) ∙ sym (append_assoc here.front xs (ys ++ here.tail));
  size = let s : at ≡ length here.front = here.size in omega (arith, length-append here.front xs);
}

Begins-room : (b : List ℕ) (at : ℕ) (xs : List ℕ) → Begins b at xs → at + length xs ≤ length b
Begins-room b at xs here =
    let s : at ≡ length here.front = here.size in
    omega (arith, ap length here.is, length-append here.front (xs ++ here.tail), length-append xs here.tail)

Begins-number : (b : List ℕ) (at k x : ℕ) → x < 256 ^ k → Begins b at (bytes_of_number k x) → number_at b at k ≡ x
Begins-number b at k x fits here =
    let e : at ≡ length here.front + 0 = let s : at ≡ length here.front = here.size in omega arith in
    ap (λ xs. number_at xs at k) here.is ∙ number_at-shift here.front (bytes_of_number k x ++ here.tail) at 0 k e ∙ number_at-bytes k x here.tail fits

Begins-byte : (b : List ℕ) (at x : ℕ) (xs : List ℕ) → Begins b at (x ∷ xs) → number_at b at 1 ≡ x
unfolding number_at
Begins-byte b at x xs here =
    let e : at ≡ length here.front + 0 = let s : at ≡ length here.front = here.size in omega arith in
    let byte : get_or b at 0 ≡ x = ap (λ ys. get_or ys at 0) here.is ∙ ap (λ k. get_or (here.front ++ (x ∷ xs ++ here.tail)) k 0) e ∙ get_or-append-add here.front (x ∷ xs ++ here.tail) 0 0 in
    omega arith

Begins-slice : (b : List ℕ) (at end : ℕ) (xs : List ℕ) → end ≡ at + length xs → Begins b at xs → slice_range b at end ≡ xs
Begins-slice b at end xs e here =
    let n : end - at ≡ length xs = omega arith in
    let rest : drop at b ≡ xs ++ here.tail = ap (drop at) here.is ∙ ap (λ k. drop k (here.front ++ (xs ++ here.tail))) here.size ∙ drop-append_seam here.front (xs ++ here.tail) in
    ap (λ k. take k (drop at b)) n ∙ ap (take (length xs)) rest ∙ take-append_seam xs here.tail

module _ (wide : Bool) (b : List ℕ) where
  -- the counts of a block
  pub record Counted (at count parts : ℕ) (rest : List ℕ) : Type 0 where
    pub repeats : repeat_count wide b at ≡ count
    pub blocks : block_count wide b at ≡ parts
    pub inside : after_counts wide b at ≤ length b
    pub behind : Begins b (after_counts wide b at) rest

  counted : (at count parts : ℕ) (rest : List ℕ) → count < 256 ^ count_size wide → parts < 65536 → Begins b at (bytes_of_number (count_size wide) count ++ (bytes_of_number 2 parts ++ rest))
      → Counted at count parts rest
  counted at count parts rest fits few here =
      let first = bytes_of_number (count_size wide) count in
      let second = bytes_of_number 2 parts in
      let one : length first ≡ count_size wide = length-bytes_of_number (count_size wide) count in
      let two : length second ≡ 2 = length-bytes_of_number 2 parts in
      let later : Begins b (at + count_size wide) (second ++ rest) = Begins-right b at (at + count_size wide) first (second ++ rest) (omega arith) here in
      let last : Begins b (after_counts wide b at) rest = Begins-right b (at + count_size wide) (after_counts wide b at) second rest (omega arith) later in
      record {
        repeats = Begins-number b at (count_size wide) count fits (Begins-left b at first (second ++ rest) here);
        blocks = Begins-number b (at + count_size wide) 2 parts (omega arith) (Begins-left b (at + count_size wide) second rest later);
        inside = let room : after_counts wide b at + length rest ≤ length b = Begins-room b (after_counts wide b at) rest last in omega arith;
        behind = last;
      }

  -- a block of content is read
  content-read : (levels at count place : ℕ) (bytes rest : List ℕ) → count < 256 ^ count_size wide → place ≡ at + count_size wide + 3
      → Begins b at (bytes_of_number (count_size wide) count ++ (bytes_of_number 2 0 ++ (length bytes ∷ bytes ++ rest)))
      → block_at wide b (suc levels) at ≡ Ok (content count place bytes none, place + length bytes)
  content-read levels at count place bytes rest fits stands here =
      let c : Counted at count 0 (length bytes ∷ bytes ++ rest) = counted at count 0 (length bytes ∷ bytes ++ rest) fits (omega arith) here in
      let p = after_counts wide b at in
      let size : number_at b p 1 ≡ length bytes = Begins-byte b p (length bytes) (bytes ++ rest) c.behind in
      let after : Begins b (p + 1) (bytes ++ rest) = Begins-right b p (p + 1) (length bytes ∷ []) (bytes ++ rest) refl c.behind in
      let here_bytes : Begins b (p + 1) bytes = Begins-left b (p + 1) bytes rest after in
      let room : p + 1 + length bytes ≤ length b = Begins-room b (p + 1) bytes here_bytes in
      let slice : slice_range b (p + 1) (after_content b p) ≡ bytes = Begins-slice b (p + 1) (after_content b p) bytes (omega arith) here_bytes in
      let whole : nat_le p (length b) ≡ true = let l : p ≤ length b = c.inside in grind (arith, nat_tests) in
      let empty : nat_eq (block_count wide b at) 0 ≡ true = let l : block_count wide b at ≡ 0 = c.blocks in grind (arith, nat_tests) in
      let first : nat_le (p + 1) (length b) ≡ true = grind (arith, nat_tests) in
      let all : nat_le (after_content b p) (length b) ≡ true = grind (arith, nat_tests) in
      let at_place : p + 1 ≡ place = omega arith in
      rw (whole, empty, first, all, c.repeats, slice, at_place, size) refl

  -- a block of blocks is read, where they are
  nested-read : (levels at count end : ℕ) (inside : Blocks) (rest : List ℕ) → count < 256 ^ count_size wide → 0 < row_length inside → row_length inside < 65536
      → Begins b at (bytes_of_number (count_size wide) count ++ (bytes_of_number 2 (row_length inside) ++ rest))
      → row_at (block_at wide b levels) (row_length inside) (at + count_size wide + 2) ≡ Ok (inside, end)
      → block_at wide b (suc levels) at ≡ Ok (nested count inside none, end)
  nested-read levels at count end inside rest fits some few here parts =
      let c : Counted at count (row_length inside) rest = counted at count (row_length inside) rest fits few here in
      let whole : nat_le (after_counts wide b at) (length b) ≡ true = let l : after_counts wide b at ≤ length b = c.inside in grind (arith, nat_tests) in
      let full : nat_eq (block_count wide b at) 0 ≡ false = let l : block_count wide b at ≡ row_length inside = c.blocks in grind (arith, nat_tests) in
      let same : row_at (block_at wide b levels) (block_count wide b at) (after_counts wide b at) ≡ Ok (inside, end) = ap (λ n. row_at (block_at wide b levels) n (after_counts wide b at)) c.blocks ∙ parts in
      rw (whole, full, same, c.repeats) refl

  -- a row is read
  row-read : (row : Blocks) (levels at end : ℕ) → Begins b at (encoded wide row) → CanBeWritten wide at row → levels_of row ≤ levels → end ≡ at + length (encoded wide row)
      → row_at (block_at wide b levels) (row_length row) at ≡ Ok (row, end)
  row-read none levels at end here can deep e = let same : at ≡ end = omega arith in ap (λ m. Ok (none, m)) same
  row-read (content count place bytes rest) zero at end here can deep e = absurd (omega arith)
  row-read (content count place bytes rest) (suc levels) at end here can deep e =
      let block = content-read levels at count place bytes (encoded wide rest) can.0 can.2 here in
      let behind : Begins b (place + length bytes) (encoded wide rest) = content-behind at count place bytes rest can.2 here in
      let sizes : end ≡ place + length bytes + length (encoded wide rest) = content-size at end count place bytes rest can.2 e in
      let later = row-read rest (suc levels) (place + length bytes) end behind can.3 (omega arith) sizes in
      let n : row_length rest + 1 ≡ suc (row_length rest) = omega arith in
      rw (n, block, later) refl
    where
      content-behind : (at count place : ℕ) (bytes : List ℕ) (rest : Blocks) → place ≡ at + count_size wide + 3 → Begins b at (encoded wide (content count place bytes rest))
          → Begins b (place + length bytes) (encoded wide rest)
      content-behind at count place bytes rest stands here =
          let first = bytes_of_number (count_size wide) count in
          let second = bytes_of_number 2 0 in
          let one : length first ≡ count_size wide = length-bytes_of_number (count_size wide) count in
          let two : length second ≡ 2 = length-bytes_of_number 2 0 in
          Begins-right b (at + count_size wide + 2) (place + length bytes) (length bytes ∷ bytes) (encoded wide rest) (omega arith)
          (Begins-right b (at + count_size wide) (at + count_size wide + 2) second (length bytes ∷ bytes ++ encoded wide rest) (omega arith)
          (Begins-right b at (at + count_size wide) first (second ++ (length bytes ∷ bytes ++ encoded wide rest)) (omega arith) here))

      content-size : (at end count place : ℕ) (bytes : List ℕ) (rest : Blocks) → place ≡ at + count_size wide + 3 → end ≡ at + length (encoded wide (content count place bytes rest))
          → end ≡ place + length bytes + length (encoded wide rest)
      content-size at end count place bytes rest stands e =
          omega (
            arith,
            length-bytes_of_number (count_size wide) count,
            length-bytes_of_number 2 0,
            length-append (bytes_of_number (count_size wide) count) (bytes_of_number 2 0 ++ (length bytes ∷ bytes ++ encoded wide rest)),
            length-append (bytes_of_number 2 0) (length bytes ∷ bytes ++ encoded wide rest),
            length-append bytes (encoded wide rest),
          )
  row-read (nested count inside rest) zero at end here can deep e = absurd (omega arith)
  row-read (nested count inside rest) (suc levels) at end here can deep e =
      let begin = at + count_size wide + 2 in
      let after = begin + length (encoded wide inside) in
      let within : Begins b begin (encoded wide inside ++ encoded wide rest) = nested-inside at count inside rest here in
      let parts = row-read inside levels begin after (Begins-left b begin (encoded wide inside) (encoded wide rest) within) can.3 (omega arith) refl in
      let block = nested-read levels at count after inside (encoded wide inside ++ encoded wide rest) can.0 can.1 can.2 here parts in
      let behind : Begins b after (encoded wide rest) = Begins-right b begin after (encoded wide inside) (encoded wide rest) refl within in
      let sizes : end ≡ after + length (encoded wide rest) = nested-size at end count inside rest e in
      let later = row-read rest (suc levels) after end behind can.4 (omega arith) sizes in
      let n : row_length rest + 1 ≡ suc (row_length rest) = omega arith in
      rw (n, block, later) refl
    where
      nested-inside : (at count : ℕ) (inside rest : Blocks) → Begins b at (encoded wide (nested count inside rest)) → Begins b (at + count_size wide + 2) (encoded wide inside ++ encoded wide rest)
      nested-inside at count inside rest here =
          let first = bytes_of_number (count_size wide) count in
          let second = bytes_of_number 2 (row_length inside) in
          let one : length first ≡ count_size wide = length-bytes_of_number (count_size wide) count in
          let two : length second ≡ 2 = length-bytes_of_number 2 (row_length inside) in
          Begins-right b (at + count_size wide) (at + count_size wide + 2) second (encoded wide inside ++ encoded wide rest) (omega arith)
          (Begins-right b at (at + count_size wide) first (second ++ (encoded wide inside ++ encoded wide rest)) (omega arith) here)

      nested-size : (at end count : ℕ) (inside rest : Blocks) → end ≡ at + length (encoded wide (nested count inside rest))
          → end ≡ at + count_size wide + 2 + length (encoded wide inside) + length (encoded wide rest)
      nested-size at end count inside rest e =
          omega (
            arith,
            length-bytes_of_number (count_size wide) count,
            length-bytes_of_number 2 (row_length inside),
            length-append (bytes_of_number (count_size wide) count) (bytes_of_number 2 (row_length inside) ++ (encoded wide inside ++ encoded wide rest)),
            length-append (bytes_of_number 2 (row_length inside)) (encoded wide inside ++ encoded wide rest),
            length-append (encoded wide inside) (encoded wide rest),
          )

  -- where a block is read, there is a byte
  block-inside : (levels at : ℕ) (r : Blocks × ℕ) → block_at wide b levels at ≡ Ok r → at < length b
  block-inside zero at r is = absurd (cc)
  block-inside (suc levels) at r is = by_test (nat_le (after_counts wide b at) (length b)) refl
    where
      by_test : (test : Bool) → nat_le (after_counts wide b at) (length b) ≡ test → at < length b
      by_test true e = grind (arith, nat_tests)
      by_test false e = let bad : block_at wide b (suc levels) at ≡ Err BadBlock = rw e refl in absurd (cc)

  -- a row that ends at the end is all that is left
  rest-from-row : (k n at end : ℕ) (row : Blocks) → k ≤ n → end ≡ length b → row_at (block_at wide b 32) k at ≡ Ok (row, end) → rest_at wide b n at ≡ Ok (row, end)
  rest-from-row zero zero at end row few last is = is
  rest-from-row zero (suc n) at end row few last is =
      let same : at ≡ end = ap place_of is in
      let test : nat_lt at (length b) ≡ false = grind (arith, nat_tests) in
      rw test is
    where
      place_of : Reading → ℕ
      place_of (Ok r) = r.1
      place_of (Err fault) = 0
  rest-from-row (suc k) zero at end row few last is = absurd (omega arith)
  rest-from-row (suc k) (suc n) at end row few last is = by_block (block_at wide b 32 at) refl (λ m e p q. rest-from-row k n m e p (omega arith) q)
    where
      by_row : (x : Blocks × ℕ) (read : Reading) → block_at wide b 32 at ≡ Ok x → row_at (block_at wide b 32) k x.1 ≡ read
          → ((m e : ℕ) (p : Blocks) → e ≡ length b → row_at (block_at wide b 32) k m ≡ Ok (p, e) → rest_at wide b n m ≡ Ok (p, e)) → rest_at wide b (suc n) at ≡ Ok (row, end)
      by_row x (Err fault) here there later = let bad : row_at (block_at wide b 32) (suc k) at ≡ Err fault = rw (here, there) refl in absurd (cc)
      by_row x (Ok y) here there later =
          let whole : row_at (block_at wide b 32) (suc k) at ≡ Ok (append x.0 y.0, y.1) = rw (here, there) refl in
          let pair = sym whole ∙ is in
          let ends : y.1 ≡ length b = ap place_of pair ∙ last in
          let inside : at < length b = block-inside 32 at x here in
          let test : nat_lt at (length b) ≡ true = grind (arith, nat_tests) in
          rw (test, here, later x.1 y.1 y.0 ends there) pair
        where
          place_of : Reading → ℕ
          place_of (Ok r) = r.1
          place_of (Err fault) = 0

      by_block : (read : Reading) → block_at wide b 32 at ≡ read
          → ((m e : ℕ) (p : Blocks) → e ≡ length b → row_at (block_at wide b 32) k m ≡ Ok (p, e) → rest_at wide b n m ≡ Ok (p, e)) → rest_at wide b (suc n) at ≡ Ok (row, end)
      by_block (Err fault) here later = let bad : row_at (block_at wide b 32) (suc k) at ≡ Err fault = rw here refl in absurd (cc)
      by_block (Ok x) here later = by_row x (row_at (block_at wide b 32) k x.1) here refl later

-- each block takes a byte at least
row_length-le : (wide : Bool) (row : Blocks) → row_length row ≤ length (encoded wide row)
row_length-le wide none = omega arith
row_length-le wide (content count place bytes rest) =
    omega (
      arith,
      row_length-le wide rest,
      length-append (bytes_of_number (count_size wide) count) (bytes_of_number 2 0 ++ (length bytes ∷ bytes ++ encoded wide rest)),
      length-append (bytes_of_number 2 0) (length bytes ∷ bytes ++ encoded wide rest),
      length-append bytes (encoded wide rest),
    )
row_length-le wide (nested count inside rest) =
    omega (
      arith,
      row_length-le wide rest,
      length-bytes_of_number 2 (row_length inside),
      length-append (bytes_of_number (count_size wide) count) (bytes_of_number 2 (row_length inside) ++ (encoded wide inside ++ encoded wide rest)),
      length-append (bytes_of_number 2 (row_length inside)) (encoded wide inside ++ encoded wide rest),
      length-append (encoded wide inside) (encoded wide rest),
    )

pub written_is_read_lem : WrittenIsRead
written_is_read_lem wide row can deep =
    let b = encoded wide row in
    let here : Begins b 0 b = record { front = []; tail = []; is = sym (append-nil b); size = refl } in
    let size : length b ≡ 0 + length b = omega arith in
    let parts = row-read wide b row 32 0 (length b) here can deep size in
    blocks_of-ok wide b row (length b) (rest-from-row wide b (row_length row) (length b) 0 (length b) row (row_length-le wide row) refl parts)
