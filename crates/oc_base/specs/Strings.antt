-- The layout of a string table in which names share their tails (our profile's canonical ELF, COFF and Mach-O files).
use Rattle.std.specs.Prelude.{ℕ, ◌+◌, ◌-◌, Bool, not, ◌&&◌, nat_lt, nat_eq, if◌then◌else◌, List, [], ◌∷◌, ◌++◌, length, fold, flat_map, Option, Some, None}
use Rattle.std.specs.{List.{list_any, ends_with}, Cmp.Lexicographic.{pointwise}}

-- the name is the tail of the text, or the text itself
abbrev pub ends : List ℕ → List ℕ → Bool
ends name text = ends_with nat_eq text name

-- the name is a tail of the text, and shorter
abbrev pub is_proper_tail : List ℕ → List ℕ → Bool
is_proper_tail name text = nat_lt (length name) (length text) && ends name text

-- the name is a proper tail of none of the names
abbrev pub is_maximal : List (List ℕ) → List ℕ → Bool
is_maximal names name = not (list_any (is_proper_tail name) names)

-- the name is one of the names
abbrev pub is_given : List (List ℕ) → List ℕ → Bool
is_given names name = list_any (pointwise nat_eq name) names

-- the tops with one more name, where it is maximal and not among them yet
abbrev pub with_top : List (List ℕ) → List (List ℕ) → List ℕ → List (List ℕ)
with_top names tops name = if is_maximal names name && not (is_given tops name) then tops ++ name ∷ [] else tops

-- the maximal names, once each, in the order of their first use
unfoldable pub tops_of : List (List ℕ) → List (List ℕ)
tops_of names = fold (with_top names) [] names

-- each text with a NUL after it
unfoldable pub text_of : List (List ℕ) → List ℕ
text_of tops = flat_map (λ top. top ++ 0 ∷ []) tops

-- where a name lies in texts that begin at a place: at the tail of the first text that ends with it
abbrev pub place_from : ℕ → List (List ℕ) → List ℕ → Option ℕ
place_from at [] name = None
place_from at (top ∷ tops) name = if ends name top then Some (at + (length top - length name)) else place_from (at + (length top + 1)) tops name

-- the bytes of the table of these names
unfoldable pub table_text : List (List ℕ) → List ℕ
table_text names = text_of (tops_of names)

-- where a name lies in the table of these names whose first text begins at `head`, if it is one of them
unfoldable pub table_place : ℕ → List (List ℕ) → List ℕ → Option ℕ
table_place head names name = if is_given names name then place_from head (tops_of names) name else None
