-- Files made of parts that lie one after another: where each part begins, and the bytes of the whole (our profile).
use Rattle.std.specs.Prelude.{◌≡◌, ℕ, ◌+◌, ◌-◌, ◌%◌, ◌≤◌, Bool, List, [], ◌∷◌, ◌++◌, length, replicate, find, flat_map, map, slice_index_or}
use Rattle.std.specs.{List.{AllByRecursion}, Option.{option_map_or}}
use Rattle.oc_outside.specs.Windows.{IsFilled}
use Rattle.oc_shelf.specs.declared.writing.layout.Layout.{Layout}

-- the bytes xs lie in a file at a place
pub record Stands (file : List ℕ) (at : ℕ) (xs : List ℕ) : Type 0 where
  pub front : List ℕ
  pub back : List ℕ
  pub is : file ≡ front ++ (xs ++ back)
  pub place : length front ≡ at

-- a part with the place where it begins
pub record Laid (X : Type 0) : Type 0 where
  pub at : ℕ
  pub part : X

-- parts from a place on: each begins at `begin` of where the one before ends, and takes `size` places
abbrev pub laid : {X : Type 0} → (ℕ → X → ℕ) → (X → ℕ) → ℕ → List X → List (Laid X)
laid begin size at [] = []
laid begin size at (x ∷ xs) = record { at = begin at x; part = x } ∷ laid begin size (begin at x + size x) xs

-- where they end
abbrev pub laid_end : {X : Type 0} → (ℕ → X → ℕ) → (X → ℕ) → ℕ → List X → ℕ
laid_end begin size at [] = at
laid_end begin size at (x ∷ xs) = laid_end begin size (begin at x + size x) xs

-- each begins where the one before ends
abbrev pub behind : {X : Type 0} → ℕ → X → ℕ
behind at x = at

-- the next place that the alignment divides
abbrev pub aligned : ℕ → ℕ → ℕ
aligned align at = at + (align - at % align) % align

-- the bytes of parts from a place on: zeros up to where a part begins, and its bytes
abbrev pub joined : {X : Type 0} → (X → List ℕ) → ℕ → List (Laid X) → List ℕ
joined bytes at [] = []
joined bytes at (x ∷ xs) = replicate (x.at - at) 0 ++ (bytes x.part ++ joined bytes (x.at + length (bytes x.part)) xs)

-- where the first part begins that passes the test, 0 where none does
abbrev pub place_where : {X : Type 0} → (X → Bool) → List (Laid X) → ℕ
place_where {X} test parts = option_map_or (λ (l : Laid X). l.at) (find (λ (l : Laid X). test l.part) parts) 0

-- parts of bytes
abbrev pub Pieces : Type 0
Pieces = List (Laid (List ℕ))

-- the file of parts
abbrev pub file_of : Pieces → List ℕ
file_of parts = joined (λ x. x) 0 parts

-- part k, and no bytes past the last
abbrev pub piece_at : Pieces → ℕ → Laid (List ℕ)
piece_at parts k = slice_index_or parts k (record { at = 0; part = [] })

-- where a part ends
abbrev pub end_of : Laid (List ℕ) → ℕ
end_of l = l.at + length l.part

-- from a place on, no part begins before the one before ends
abbrev pub AreInOrder : ℕ → Pieces → Type 0
AreInOrder at [] = Unit {0}
AreInOrder at (l ∷ parts) = (at ≤ l.at) × AreInOrder (end_of l) parts

-- the bytes of a table
abbrev pub table_of : List (List ℕ) → List ℕ
table_of rows = flat_map (λ row. row) rows

-- entry k of a table
abbrev pub row_of : List (List ℕ) → ℕ → List ℕ
row_of rows k = slice_index_or rows k []

-- each entry of a table has w bytes
abbrev pub HaveSize : ℕ → List (List ℕ) → Type 0
HaveSize w rows = AllByRecursion (λ row. length row ≡ w) rows

-- where such bytes fill a buffer so far, more bytes after them fill it on; each buffer is with the number of its bytes that are filled
abbrev pub IsFilledOn : (List ℕ → Type 0) → (List ℕ → List ℕ) → ℕ → ℕ × List ℕ → ℕ × List ℕ → Type 0
IsFilledOn Are more from before after =
    (xs old : List ℕ) → Are xs → IsFilled xs from old before.1 before.0 → IsFilled (xs ++ more xs) from old after.1 after.0

-- ... files with a layout

-- parts that begin at these places
abbrev pub pieces_at : List ℕ → List (List ℕ) → Pieces
pieces_at [] parts = []
pieces_at (at ∷ places) [] = []
pieces_at (at ∷ places) (x ∷ parts) = record { at = at; part = x } ∷ pieces_at places parts

-- the parts of a file that is laid so
abbrev pub pieces_by : Layout → List (List ℕ) → Pieces
pieces_by layout parts = pieces_at layout.places.items parts

-- each part has a place, they stand in order, and the file of them ends where the layout says
pub record IsPlaced (layout : Layout) (parts : List (List ℕ)) : Type 0 where
  pub counted : length layout.places.items ≡ length parts
  pub order : AreInOrder 0 (pieces_by layout parts)
  pub ends : layout.end ≡ length (file_of (pieces_by layout parts))

-- the layout is that of these things: each begins at `begin` of where the one before ends, and has `size` bytes
pub record AreLaid {X : Type 0} (begin : ℕ → X → ℕ) (size : X → ℕ) (layout : Layout) (things : List X) : Type 0 where
  pub begins : layout.places.items ≡ map (λ (l : Laid X). l.at) (laid begin size 0 things)
  pub ends : layout.end ≡ laid_end begin size 0 things
