-- The words of a conversion as one block (our profile).
use Rattle.std.specs.Prelude.{ℕ, Bool, false, ◌-◌, nat_eq, if◌then◌else◌, List, [], ◌∷◌, ◌++◌, codes, length, take, slice_get}
use Rattle.std.specs.{List.{slice_split}, Option.{option_map_or}}

-- the block ends with a NUL
abbrev pub is_ended : List ℕ → Bool
is_ended block = option_map_or (λ b. nat_eq b 0) (slice_get block (length block - 1)) false

-- the block without the NUL that ends its last word, which that word may lack
abbrev pub unended : List ℕ → List ℕ
unended block = if is_ended block then take (length block - 1) block else block

-- the words of a text, which NULs part
abbrev pub pieces : List ℕ → List (List ℕ)
pieces text = slice_split (λ b. nat_eq b 0) text

-- the words of a block: a NUL ends each
abbrev pub words_in : List ℕ → List (List ℕ)
words_in block = if nat_eq (length block) 0 then [] else pieces (unended block)

-- the words of the command: those of the block, and then the names of an input and of an output
unfoldable pub command : List ℕ → List (List ℕ)
command block = words_in block ++ codes "IN" ∷ codes "OUT" ∷ []
