-- The program's tree of blocks as a row (TIS OMF 1.1, "LIDATA: Logical Iterated Data Record").
use Rattle.std.specs.{Prelude.{◌^◌, ◌&&◌, Bool, true, nat_eq, min, List, [], ◌∷◌, map}, List.{list_all}}
use Rattle.oc_omf_records.specs.{declared.iterated.Iterated.{Iterated}, declared.iterated.Iterated.TheOpen.{Iterated-F, Content, Nested}}
use Rattle.oc_omf_records.specs.{declared.iterated.Iterated.TheFolds.{fold-Iterated}, Blocks.{Blocks, none, content, nested, append, size_of}}

-- rows, one after another
abbrev pub joined : List Blocks → Blocks
joined [] = none
joined (row ∷ rows) = append row (joined rows)

-- the rows of blocks in a block
abbrev pub inside : List (Blocks × Bool) → Blocks
inside blocks = joined (map (λ (p : Blocks × Bool). p.0) blocks)

-- a block as a row of one, with the rows of the blocks in it in their place; and whether each block that has
-- others in it keeps the size of one copy of these, or 2^32 where that is larger
abbrev pub row_step : Iterated-F (Blocks × Bool) → Blocks × Bool
row_step (Content count place bytes) = (content count place bytes.items none, true)
row_step (Nested count size blocks) =
    (nested count (inside blocks.items) none, nat_eq size (min (size_of (inside blocks.items)) (2 ^ 32)) && list_all (λ (p : Blocks × Bool). p.1) blocks.items)

-- both of a block
abbrev pub judged : Iterated → Blocks × Bool
judged = fold-Iterated (Blocks × Bool) row_step

-- a block as a row of one
abbrev pub row_of : Iterated → Blocks
row_of block = (judged block).0

-- whether the sizes that are kept in a block are right
abbrev pub is_sized : Iterated → Bool
is_sized block = (judged block).1

-- blocks as a row
abbrev pub rows_of : List Iterated → Blocks
rows_of blocks = joined (map row_of blocks)

-- whether the sizes that are kept in blocks are right
abbrev pub are_sized : List Iterated → Bool
are_sized blocks = list_all is_sized blocks
