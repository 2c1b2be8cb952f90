-- Reading blocks one after another.
use Rattle.std.proofs.Common.{◌≡◌, ◌≢◌, ℕ, zero, suc, ◌+◌, ◌-◌, ◌<◌, ◌≤◌, Bool, true, false, nat_eq, nat_lt, nat_le, List, [], ◌∷◌, ◌++◌, length, refl, sym, ◌∙◌, ap, subst, arith, length-append, Result, Ok, Err}
use Rattle.std.proofs.lemmas.Bool.Decides.{nat_tests}
use Rattle.oc_omf_records.specs.{declared.faults.BlockFault.{BlockFault}, declared.faults.BlockFault.TheVariants.{BadBlock, TooDeep, NoMemory}}
use Rattle.oc_omf_records.specs.{declared.iterated.Iterated.{Iterated}, declared.reading.Counts.{Counts}, Blocks.{Blocks, none, append}}
use Rattle.oc_omf_records.specs.BlockReading.{Reading, in_front, row_at, repeats_row, content_at, after_counts, block_count, block_at, rest_at, blocks_of}
use Rattle.oc_omf_records.specs.{Counts.{counts_at}, Refusals.{Refuses}, Rows.{row_of, rows_of}}
use Rattle.oc_omf_records.proofs.RowLemmas.{append-none, append-append, rows_of-push}

-- a refusal of a part is one of the whole
pub Refuses-weaker : {A B : Type 0} (fault : BlockFault) (part : Result A BlockFault) (whole : Result B BlockFault) → ((f : BlockFault) → part ≡ Err f → whole ≡ Err f)
    → Refuses fault part → Refuses fault whole
Refuses-weaker BadBlock part whole leads is = leads BadBlock is
Refuses-weaker TooDeep part whole leads is = leads TooDeep is
Refuses-weaker NoMemory part whole leads is = tt

-- two rows in front
pub in_front-in_front : (a b : Blocks) (read : Reading) → in_front a (in_front b read) ≡ in_front (append a b) read
in_front-in_front a b (Ok r) = ap (λ row. Ok (row, r.1)) (sym (append-append a b r.0))
in_front-in_front a b (Err fault) = refl

module _ (block : ℕ → Reading) (many i place : ℕ) (front : Blocks) (whole : Reading) (so_far : in_front front (row_at block (many - i) place) ≡ whole) where
  -- one block more
  pub row_at-more : (more : Blocks) (after : ℕ) → i < many → block place ≡ Ok (more, after) → in_front (append front more) (row_at block (many - (i + 1)) after) ≡ whole
  row_at-more more after l here =
      let e : many - i ≡ suc (many - (i + 1)) = omega arith in
      let step : row_at block (many - i) place ≡ in_front more (row_at block (many - (i + 1)) after) = rw (e, here) refl in
      sym (in_front-in_front front more (row_at block (many - (i + 1)) after)) ∙ ap (in_front front) (sym step) ∙ so_far

  -- a block at fault
  pub row_at-stop : (fault : BlockFault) → i < many → block place ≡ Err fault → whole ≡ Err fault
  row_at-stop fault l here =
      let e : many - i ≡ suc (many - (i + 1)) = omega arith in
      let step : row_at block (many - i) place ≡ Err fault = rw (e, here) refl in
      sym so_far ∙ ap (in_front front) step

  -- no block more
  pub row_at-end : many ≤ i → whole ≡ Ok (front, place)
  row_at-end l =
      let e : many - i ≡ 0 = omega arith in
      let step : row_at block (many - i) place ≡ Ok (none, place) = rw e refl in
      sym so_far ∙ ap (in_front front) step ∙ ap (λ row. Ok (row, place)) (append-none front)

module _ (wide : Bool) (b : List ℕ) (n place : ℕ) (front : Blocks) (whole : Reading) (so_far : in_front front (rest_at wide b n place) ≡ whole) where
  -- one block more
  pub rest_at-more : (more : Blocks) (after m : ℕ) → n ≡ suc m → place < length b → block_at wide b 32 place ≡ Ok (more, after)
      → in_front (append front more) (rest_at wide b m after) ≡ whole
  rest_at-more more after m e l here =
      let test : nat_lt place (length b) ≡ true = grind (arith, nat_tests) in
      let step : rest_at wide b n place ≡ in_front more (rest_at wide b m after) = rw (e, test, here) refl in
      sym (in_front-in_front front more (rest_at wide b m after)) ∙ ap (in_front front) (sym step) ∙ so_far

  -- a block at fault
  pub rest_at-stop : (fault : BlockFault) (m : ℕ) → n ≡ suc m → place < length b → block_at wide b 32 place ≡ Err fault → whole ≡ Err fault
  rest_at-stop fault m e l here =
      let test : nat_lt place (length b) ≡ true = grind (arith, nat_tests) in
      let step : rest_at wide b n place ≡ Err fault = rw (e, test, here) refl in
      sym so_far ∙ ap (in_front front) step

  -- the end
  pub rest_at-end : length b ≤ place → whole ≡ Ok (front, place)
  rest_at-end l = sym so_far ∙ ap (in_front front) (ends n) ∙ ap (λ row. Ok (row, place)) (append-none front)
    where
      ends : (m : ℕ) → rest_at wide b m place ≡ Ok (none, place)
      ends zero = refl
      ends (suc m) = let test : nat_lt place (length b) ≡ false = grind (arith, nat_tests) in rw test refl

module _ (wide : Bool) (b : List ℕ) (levels at : ℕ) (counts : Counts) (deep : levels ≢ 0) (fit : after_counts wide b at ≤ length b) (is : counts ≡ counts_at wide b at) where
  -- a block of content
  pub block_at-content : counts.blocks ≡ 0 → block_at wide b levels at ≡ content_at b counts.repeats counts.after
  block_at-content none_in =
      let l : levels ≡ suc (levels - 1) = omega arith in
      let whole : nat_le (after_counts wide b at) (length b) ≡ true = grind (arith, nat_tests) in
      let empty : nat_eq (block_count wide b at) 0 ≡ true = let e : block_count wide b at ≡ 0 = sym (ap (λ k. k.blocks) is) ∙ none_in in grind (arith, nat_tests) in
      rw (l, whole, empty, is) refl

  -- a block of blocks
  pub block_at-nested : counts.blocks ≢ 0
      → block_at wide b levels at ≡ repeats_row counts.repeats (row_at (block_at wide b (levels - 1)) counts.blocks counts.after)
  block_at-nested some_in =
      let l : levels ≡ suc (levels - 1) = omega arith in
      let whole : nat_le (after_counts wide b at) (length b) ≡ true = grind (arith, nat_tests) in
      let full : nat_eq (block_count wide b at) 0 ≡ false = let e : block_count wide b at ≡ counts.blocks = sym (ap (λ k. k.blocks) is) in grind (arith, nat_tests) in
      subst (λ n. block_at wide b n at ≡ repeats_row counts.repeats (row_at (block_at wide b (levels - 1)) counts.blocks counts.after)) (sym l) (rw (whole, full, is) refl)

-- the blocks of the whole are those from its front
pub blocks_of-ok : (wide : Bool) (b : List ℕ) (row : Blocks) (place : ℕ) → rest_at wide b (length b) 0 ≡ Ok (row, place) → blocks_of wide b ≡ Ok row
blocks_of-ok wide b row place e = rw e refl

pub blocks_of-err : (wide : Bool) (b : List ℕ) (fault : BlockFault) → rest_at wide b (length b) 0 ≡ Err fault → blocks_of wide b ≡ Err fault
blocks_of-err wide b fault e = rw e refl

-- one block more
pub length-pushed : (blocks new : List Iterated) (block : Iterated) → new ≡ blocks ++ block ∷ [] → length new ≡ length blocks + 1
length-pushed blocks new block e = rw (e, length-append blocks (block ∷ [])) (omega arith)

module _ (wide : Bool) (b : List ℕ) (blocks : List Iterated) (place : ℕ) (whole : Reading)
    (so_far : in_front (rows_of blocks) (rest_at wide b (length b - length blocks) place) ≡ whole) (taken : length blocks ≤ place) (inside : place < length b) where
  pub rest_at-push : (new : List Iterated) (block : Iterated) (after : ℕ) → new ≡ blocks ++ block ∷ [] → block_at wide b 32 place ≡ Ok (row_of block, after)
      → in_front (rows_of new) (rest_at wide b (length b - length new) after) ≡ whole
  rest_at-push new block after e here =
      let size : length new ≡ length blocks + 1 = length-pushed blocks new block e in
      let n : length b - length blocks ≡ suc (length b - length new) = omega arith in
      let row : rows_of new ≡ append (rows_of blocks) (row_of block) = ap rows_of e ∙ rows_of-push blocks block in
      rw row (rest_at-more wide b (length b - length blocks) place (rows_of blocks) whole so_far (row_of block) after (length b - length new) n inside here)

  pub rest_at-at_fault : (fault : BlockFault) → block_at wide b 32 place ≡ Err fault → whole ≡ Err fault
  rest_at-at_fault fault here =
      let n : length b - length blocks ≡ suc (length b - length blocks - 1) = omega arith in
      rest_at-stop wide b (length b - length blocks) place (rows_of blocks) whole so_far fault (length b - length blocks - 1) n inside here
