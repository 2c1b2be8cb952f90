-- The pieces of a section follow one another from its start to its end, are short, cut no field, and are its bytes together.
use Rattle.std.proofs.Common.{◌≡◌, ℕ, zero, suc, ◌+◌, ◌-◌, ◌*◌, ◌<◌, ◌≤◌, Bool, true, false, nat_lt, if◌then◌else◌, List, [], ◌∷◌, ◌++◌, length, map, take, drop, min, Option, Some, None, refl, sym, ◌∙◌, ap, arith, append-nil, append_assoc}
use Rattle.std.specs.{Prelude.{slice_get, slice_range, find, fold, replicate}, Option.{unwrap_or}}
use Rattle.std.proofs.lemmas.{Bool.Decides.{nat_tests}, List.{length-take-le, length-drop, drop_all, length-replicate}, Option.{none-some, same_Some}}
use Rattle.std.proofs.Math.Seq.{drop-append-add, take-append_seam}
use Rattle.oc_omf_records.specs.Blocks.{none, content, denotation}
use Rattle.oc_omf.specs.{Sections.{laid_over}, declared.constants.TheConstants.{MOST_ENTRY_BYTES}}
use Rattle.oc_linking.proofs.Testing.{found_there}
use Rattle.oc_shelf.proofs.WritingLaws.WindowLemmas.{take_none, drop_none}
use Rattle.oc_omf_file.specs.Pieces.{cuts, piece_end, pieces_upto}
use Rattle.oc_omf_file.proofs.GivenLaws.{window_piece}

-- a piece is short, and holds whole fields
pub record IsWhole (offsets : List ℕ) (x : ℕ × ℕ) : Type 0 where
  pub near : x.1 ≤ x.0 + 1024
  pub uncut : (k at : ℕ) → slice_get offsets k ≡ Some at → x.0 ≤ at → at < x.1 → at + 4 ≤ x.1

-- pieces follow one another from a place up to the size
abbrev pub Follow : List ℕ → ℕ → ℕ → List (ℕ × ℕ) → Type 0
Follow offsets from size [] = from ≡ size
Follow offsets from size (x ∷ xs) = (x.0 ≡ from) × (from < x.1) × (x.1 ≤ size) × IsWhole offsets x × Follow offsets x.1 size xs

-- fields of four bytes lie in the section, and none meets another
pub record AreApart (offsets : List ℕ) (size : ℕ) : Type 0 where
  pub inside : (k at : ℕ) → slice_get offsets k ≡ Some at → at + 4 ≤ size
  pub apart : (i j a b : ℕ) → slice_get offsets i ≡ Some a → slice_get offsets j ≡ Some b → a < b → a + 4 ≤ b

-- where nothing is found, nothing passes
found_none : (test : ℕ → Bool) (xs : List ℕ) → find test xs ≡ None → (k x : ℕ) → slice_get xs k ≡ Some x → test x ≡ false
found_none test [] e k x h = absurd (none-some x h)
found_none test (y ∷ xs) e k x h = by (λ g j f. found_none test xs g j x f) (test y) refl e k h
  where
    by : (find test xs ≡ None → (j : ℕ) → slice_get xs j ≡ Some x → test x ≡ false) → (b : Bool) → test y ≡ b → (if b then Some y else find test xs) ≡ None
        → (k : ℕ) → slice_get (y ∷ xs) k ≡ Some x → test x ≡ false
    by later true t g k h = absurd (none-some y (sym g))
    by later false t g zero h = ap test (sym (same_Some y x h)) ∙ t
    by later false t g (suc k) h = later g k h

-- where a piece ends: behind where it begins, not behind the end, not too far, and at no field
record IsEnd (offsets : List ℕ) (size from to : ℕ) : Type 0 where
  some : from < to
  low : to ≤ size
  whole : IsWhole offsets (from, to)

piece_ends : (offsets : List ℕ) (size from : ℕ) → AreApart offsets size → from < size → IsEnd offsets size from (piece_end offsets size from)
piece_ends offsets size from apart some = by_found (find (cuts (min (from + MOST_ENTRY_BYTES) size)) offsets) refl
  where
    by_found : (x : Option ℕ) → find (cuts (min (from + 1024) size)) offsets ≡ x → IsEnd offsets size from (unwrap_or x (min (from + 1024) size))
    by_found None e = record {
      some = omega (arith, some);
      low = omega arith;
      whole = record {
        near = omega arith;
        uncut = λ k at h low high. let no : cuts (min (from + 1024) size) at ≡ false = found_none (cuts (min (from + 1024) size)) offsets e k at h in grind (arith, nat_tests);
      };
    }
    by_found (Some c) e =
        let r = found_there (cuts (min (from + 1024) size)) offsets c e in
        let passes : cuts (min (from + 1024) size) c ≡ true = r.2 in
        let below : c < min (from + 1024) size = grind (arith, nat_tests) in
        let over : min (from + 1024) size < c + 4 = grind (arith, nat_tests) in
        let inside : c + 4 ≤ size = apart.inside r.0 c r.1 in
        record {
          some = omega (arith, below, over, inside, some);
          low = omega (arith, below, over, inside);
          whole = record { near = omega (arith, below); uncut = λ k at h low high. apart.apart k r.0 at c h r.1 high };
        }

pub pieces_follow : (n : ℕ) (offsets : List ℕ) (size from : ℕ) → AreApart offsets size → from ≤ size → size ≤ from + n → Follow offsets from size (pieces_upto n offsets size from)
pieces_follow zero offsets size from apart low enough = omega (arith, low, enough)
pieces_follow (suc n) offsets size from apart low enough = by_test (λ to. pieces_follow n offsets size to apart) (nat_lt from size) refl
  where
    by_test : ((to : ℕ) → to ≤ size → size ≤ to + n → Follow offsets to size (pieces_upto n offsets size to)) → (t : Bool) → nat_lt from size ≡ t
        → Follow offsets from size (if t then (from, piece_end offsets size from) ∷ pieces_upto n offsets size (piece_end offsets size from) else [])
    by_test later true e =
        let some : from < size = grind (arith, nat_tests) in
        let r = piece_ends offsets size from apart some in
        let behind = r.some in
        (refl, r.some, r.low, r.whole, later (piece_end offsets size from) r.low (omega (arith, behind, enough)))
    by_test later false e = grind (arith, nat_tests)

-- the piece that holds an offset
pub record IsHeldBy (offsets : List ℕ) (xs : List (ℕ × ℕ)) (at : ℕ) : Type 0 where
  pub index : ℕ
  pub piece : ℕ × ℕ
  pub here : slice_get xs index ≡ Some piece
  pub low : piece.0 ≤ at
  pub high : at < piece.1
  pub whole : IsWhole offsets piece

pub piece_of : (offsets : List ℕ) (from size : ℕ) (xs : List (ℕ × ℕ)) (at : ℕ) → Follow offsets from size xs → from ≤ at → at < size → IsHeldBy offsets xs at
piece_of offsets from size [] at f low high = absurd (omega (arith, f, low, high))
piece_of offsets from size (x ∷ xs) at f low high = by_test (λ past. piece_of offsets x.1 size xs at f.4 past high) (nat_lt at x.1) refl
  where
    by_test : (x.1 ≤ at → IsHeldBy offsets xs at) → (t : Bool) → nat_lt at x.1 ≡ t → IsHeldBy offsets (x ∷ xs) at
    by_test later true e = record { index = 0; piece = x; here = refl; low = omega (arith, low, f.0); high = grind (arith, nat_tests); whole = f.3 }
    by_test later false e =
        let past : x.1 ≤ at = grind (arith, nat_tests) in
        let r = later past in
        record { index = suc r.index; piece = r.piece; here = r.here; low = r.low; high = r.high; whole = r.whole }

-- ... the bytes

take_split : (a m : ℕ) (xs : List ℕ) → take a xs ++ take m (drop a xs) ≡ take (a + m) xs
take_split zero m xs = let e : 0 + m ≡ m = omega arith in ap (λ k. take k xs) (sym e)
take_split (suc a) m [] = take_none m ∙ sym (take_none (suc a + m))
take_split (suc a) m (x ∷ xs) = let e : suc a + m ≡ suc (a + m) = omega arith in ap (λ ys. x ∷ ys) (take_split a m xs) ∙ ap (λ k. take k (x ∷ xs)) (sym e)

drop_twice : (a m : ℕ) (xs : List ℕ) → drop m (drop a xs) ≡ drop (a + m) xs
drop_twice zero m xs = let e : 0 + m ≡ m = omega arith in ap (λ k. drop k xs) (sym e)
drop_twice (suc a) m [] = drop_none m ∙ sym (drop_none (suc a + m))
drop_twice (suc a) m (x ∷ xs) = let e : suc a + m ≡ suc (a + m) = omega arith in drop_twice a m xs ∙ ap (λ k. drop k (x ∷ xs)) (sym e)

pub length-window : (from to : ℕ) (raw : List ℕ) → from ≤ to → to ≤ length raw → length (slice_range raw from to) ≡ to - from
length-window from to raw l m = length-take-le (to - from) (drop from raw) (omega (arith, l, m, length-drop from raw))

-- bytes that are laid as far as a place
abbrev laid_upto : List ℕ → List ℕ → ℕ → List ℕ
laid_upto raw zeros from = take from raw ++ drop from zeros

one_laid : (k : ℕ) (raw zeros : List ℕ) (from to : ℕ) → from ≤ to → to ≤ length raw → laid_over (laid_upto raw zeros from) (window_piece k raw (from, to)) ≡ laid_upto raw zeros to
one_laid k raw zeros from to l m =
    let w : List ℕ = slice_range raw from to in
    let long : length w ≡ to - from = length-window from to raw l m in
    let front : length (take from raw) ≡ from = length-take-le from raw (omega (arith, l, m)) in
    let first : take from (laid_upto raw zeros from) ≡ take from raw
    = ap (λ j. take j (laid_upto raw zeros from)) (sym front) ∙ take-append_seam (take from raw) (drop from zeros) in
    let end : from + (1 * length w + 0) ≡ length (take from raw) + (to - from) = omega (arith, long, front) in
    let same : from + (to - from) ≡ to = omega (arith, l) in
    let last : drop (from + (1 * length w + 0)) (laid_upto raw zeros from) ≡ drop to zeros
    = ap (λ j. drop j (laid_upto raw zeros from)) end ∙ drop-append-add (take from raw) (drop from zeros) (to - from) ∙ drop_twice from (to - from) zeros ∙ ap (λ j. drop j zeros) same in
    let middle : denotation (content 1 0 w none) ≡ w = append-nil w in
    ap (λ xs. xs ++ (denotation (content 1 0 w none) ++ drop (from + (1 * length w + 0)) (laid_upto raw zeros from))) first
    ∙ ap (λ xs. take from raw ++ (xs ++ drop (from + (1 * length w + 0)) (laid_upto raw zeros from))) middle
    ∙ ap (λ xs. take from raw ++ (w ++ xs)) last
    ∙ sym (append_assoc (take from raw) w (drop to zeros))
    ∙ ap (λ xs. xs ++ drop to zeros) (take_split from (to - from) raw ∙ ap (λ j. take j raw) same)

take_full : (xs : List ℕ) → take (length xs) xs ≡ xs
take_full [] = refl
take_full (x ∷ xs) = ap (λ ys. x ∷ ys) (take_full xs)

pieces_laid : (k : ℕ) (offsets raw zeros : List ℕ) (from : ℕ) (xs : List (ℕ × ℕ)) → Follow offsets from (length raw) xs → length zeros ≡ length raw
    → fold laid_over (laid_upto raw zeros from) (map (window_piece k raw) xs) ≡ raw
pieces_laid k offsets raw zeros from [] f long =
    ap (λ j. laid_upto raw zeros j) f ∙ ap (λ xs. xs ++ drop (length raw) zeros) (take_full raw) ∙ ap (λ xs. raw ++ xs) (drop_all (length raw) zeros (omega (arith, long))) ∙ append-nil raw
pieces_laid k offsets raw zeros from (x ∷ xs) f long =
    ap (λ j. fold laid_over (laid_over (laid_upto raw zeros j) (window_piece k raw x)) (map (window_piece k raw) xs)) (sym f.0)
    ∙ ap (λ ys. fold laid_over ys (map (window_piece k raw) xs)) (one_laid k raw zeros x.0 x.1 (omega (arith, f.0, f.1)) f.2)
    ∙ pieces_laid k offsets raw zeros x.1 xs f.4 long

-- the pieces of bytes, laid over as many zeros, are the bytes
pub pieces_are : (k : ℕ) (offsets raw : List ℕ) (size : ℕ) (xs : List (ℕ × ℕ)) → Follow offsets 0 (length raw) xs → size ≡ length raw
    → fold laid_over (replicate size 0) (map (window_piece k raw) xs) ≡ raw
pieces_are k offsets raw size xs f same = pieces_laid k offsets raw (replicate size 0) 0 xs f (length-replicate size 0 ∙ same)
