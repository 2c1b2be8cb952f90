-- Blocks that keep the sizes of their rows.
use Rattle.std.proofs.Common.{rules, ◌≡◌, ℕ, zero, suc, ◌<◌, ◌^◌, ◌&&◌, min, nat_eq, Bool, true, Vec, Global, List, [], ◌∷◌, ◌++◌, length, get_or, map, refl, sym, ◌∙◌, ap, arith}
use Rattle.std.specs.List.{list_all}
use Rattle.std.proofs.lemmas.Bool.Decides.{nat_tests}
use Rattle.oc_omf_records.specs.{declared.iterated.Iterated.{Iterated, Content, Nested, the_lemmas}, Blocks.{Blocks, none, content, nested, size_of}}
use Rattle.oc_omf_records.specs.Rows.{joined, inside, judged, row_of, rows_of, is_sized, are_sized}

-- what is judged of blocks in a block
rows_inside : (blocks : List Iterated) → inside (map judged blocks) ≡ rows_of blocks
rows_inside [] = refl
rows_inside (block ∷ blocks) = ap (λ rows. joined (row_of block ∷ rows)) (firsts blocks)
  where
    firsts : (blocks : List Iterated) → map (λ (p : Blocks × Bool). p.0) (map judged blocks) ≡ map row_of blocks
    firsts [] = refl
    firsts (block ∷ blocks) = ap (λ rows. row_of block ∷ rows) (firsts blocks)

sized_inside : (blocks : List Iterated) → list_all (λ (p : Blocks × Bool). p.1) (map judged blocks) ≡ are_sized blocks
sized_inside [] = refl
sized_inside (block ∷ blocks) = ap (λ rest. is_sized block && rest) (sized_inside blocks)

-- content, and blocks in a block
pub judged-Content : (count place : ℕ) (bytes : Vec ℕ Global) → judged (Content count place bytes) ≡ (content count place bytes.items none, true)
judged-Content count place bytes = search (rules, the_lemmas)

pub judged-Nested : (count size : ℕ) (blocks : Vec Iterated Global)
    → judged (Nested count size blocks) ≡ (nested count (inside (map judged blocks.items)) none, nat_eq size (min (size_of (inside (map judged blocks.items))) (2 ^ 32)) && list_all (λ (p : Blocks × Bool). p.1) (map judged blocks.items))
judged-Nested count size blocks = search (rules, the_lemmas)

pub row_of-Content : (count place : ℕ) (bytes : Vec ℕ Global) → row_of (Content count place bytes) ≡ content count place bytes.items none
row_of-Content count place bytes = ap (λ (p : Blocks × Bool). p.0) (judged-Content count place bytes)

pub row_of-Nested : (count size : ℕ) (blocks : Vec Iterated Global) → row_of (Nested count size blocks) ≡ nested count (rows_of blocks.items) none
row_of-Nested count size blocks = ap (λ (p : Blocks × Bool). p.0) (judged-Nested count size blocks) ∙ ap (λ row. nested count row none) (rows_inside blocks.items)

is_sized-Content : (count place : ℕ) (bytes : Vec ℕ Global) → is_sized (Content count place bytes) ≡ true
is_sized-Content count place bytes = ap (λ (p : Blocks × Bool). p.1) (judged-Content count place bytes)

is_sized-Nested : (count size : ℕ) (blocks : Vec Iterated Global)
    → is_sized (Nested count size blocks) ≡ (nat_eq size (min (size_of (rows_of blocks.items)) (2 ^ 32)) && are_sized blocks.items)
is_sized-Nested count size blocks =
    ap (λ (p : Blocks × Bool). p.1) (judged-Nested count size blocks)
    ∙ ap (λ row. nat_eq size (min (size_of row) (2 ^ 32)) && list_all (λ (p : Blocks × Bool). p.1) (map judged blocks.items)) (rows_inside blocks.items)
    ∙ ap (λ rest. nat_eq size (min (size_of (rows_of blocks.items)) (2 ^ 32)) && rest) (sized_inside blocks.items)

-- content keeps no size
pub content_is_sized : (block : Iterated) (count place : ℕ) (bytes : Vec ℕ Global) → block ≡ Content count place bytes → is_sized block ≡ true
content_is_sized block count place bytes is = ap is_sized is ∙ is_sized-Content count place bytes

-- blocks that keep their sizes, with the size of all, do
pub nested_is_sized : (count size : ℕ) (blocks : Vec Iterated Global) → size ≡ min (size_of (rows_of blocks.items)) (2 ^ 32) → are_sized blocks.items ≡ true → is_sized (Nested count size blocks) ≡ true
nested_is_sized count size blocks same all =
    is_sized-Nested count size blocks ∙ grind (arith, nat_tests, same, all)

-- the size that is kept
pub kept_size : (block : Iterated) (count size : ℕ) (blocks : Vec Iterated Global) → block ≡ Nested count size blocks → is_sized block ≡ true → size ≡ min (size_of (rows_of blocks.items)) (2 ^ 32)
kept_size block count size blocks is sized =
    let both : (nat_eq size (min (size_of (rows_of blocks.items)) (2 ^ 32)) && are_sized blocks.items) ≡ true = sym (is_sized-Nested count size blocks) ∙ sym (ap is_sized is) ∙ sized in
    grind (arith, nat_tests, both)

-- and the blocks in it
pub kept_blocks : (block : Iterated) (count size : ℕ) (blocks : Vec Iterated Global) → block ≡ Nested count size blocks → is_sized block ≡ true → are_sized blocks.items ≡ true
kept_blocks block count size blocks is sized =
    let both : (nat_eq size (min (size_of (rows_of blocks.items)) (2 ^ 32)) && are_sized blocks.items) ≡ true = sym (is_sized-Nested count size blocks) ∙ sym (ap is_sized is) ∙ sized in
    grind (arith, nat_tests, both)

-- one block more
pub are_sized-push : (blocks : List Iterated) (block : Iterated) → are_sized blocks ≡ true → is_sized block ≡ true → are_sized (blocks ++ block ∷ []) ≡ true
are_sized-push [] block all one = grind (arith, all, one)
are_sized-push (first ∷ blocks) block all one =
    let front : is_sized first ≡ true = grind (arith, all) in
    let rest : are_sized blocks ≡ true = grind (arith, all) in
    grind (arith, front, are_sized-push blocks block rest one)

-- one of them
pub are_sized-item : (blocks : List Iterated) (i : ℕ) (block : Iterated) → i < length blocks → block ≡ get_or blocks i block → are_sized blocks ≡ true → is_sized block ≡ true
are_sized-item [] i block l is all = absurd (omega arith)
are_sized-item (first ∷ blocks) zero block l is all =
    let front : is_sized first ≡ true = grind (arith, all) in ap is_sized is ∙ front
are_sized-item (first ∷ blocks) (suc i) block l is all =
    let rest : are_sized blocks ≡ true = grind (arith, all) in
    are_sized-item blocks i block (omega arith) is rest
