-- The names of an output, and the entries that hold them (TIS OMF 1.1, "LNAMES: List of Names Record"; our profile).
use Rattle.std.specs.Prelude.{ℕ, ◌+◌, bytes_eq, nat_lt, if◌then◌else◌, List, [], ◌∷◌, ◌++◌, length, flat_map, fold, codes}
use Rattle.std.specs.{List.{list_any, sum_by, position_or_len}, Option.{unwrap_or}}
use Rattle.oc_neutral.specs.{declared.section.Section.{Section}, Objects.{Object}, Omf.Kinds.{omf_class}}
use Rattle.oc_omf.specs.declared.constants.TheConstants.{MOST_ENTRY_BYTES}

-- the class of a section
abbrev pub class_of : Section → List ℕ
class_of s = unwrap_or (omf_class s.kind) []

-- the list with one more name, where it is new
abbrev pub with_name : List (List ℕ) → List ℕ → List (List ℕ)
with_name names name = if list_any (bytes_eq name) names then names else names ++ name ∷ []

-- the names, once each: the empty one, FLAT, and of each section its name and its class
unfoldable pub names_of : Object → List (List ℕ)
names_of n = fold with_name [] ([] ∷ codes "FLAT" ∷ flat_map (λ (s : Section). s.name ∷ class_of s ∷ []) n.sections)

-- the index of a name
abbrev pub name_index : Object → List ℕ → ℕ
name_index n name = position_or_len (bytes_eq name) (names_of n) + 1

-- how many bytes names take, each with its length byte
abbrev pub names_size : List (List ℕ) → ℕ
names_size names = sum_by (λ name. 1 + length name) names

-- the names of entries that are filled in order, where the first holds these already
abbrev pub filled_from : List (List ℕ) → List (List ℕ) → List (List (List ℕ))
filled_from held [] = held ∷ []
filled_from held (name ∷ names) =
    if nat_lt MOST_ENTRY_BYTES (names_size held + 1 + length name) then held ∷ filled_from (name ∷ []) names else filled_from (held ++ name ∷ []) names
