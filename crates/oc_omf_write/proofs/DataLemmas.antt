-- The entries of the bytes of the sections, one section after another.
use Rattle.std.proofs.Common.{◌≡◌, ℕ, ◌+◌, ◌<◌, ◌≤◌, List, [], ◌++◌, length, drop, map, get_or, Vec, Global, Some, ap}
use Rattle.std.specs.{Prelude.{slice_get, flat_map}, List.{enumerate_from}}
use Rattle.std.proofs.lemmas.{List.{drop_all}, Option.{slice_get-get_or, get_or_from_slice_get}}
use Rattle.oc_shelf.proofs.WritingLaws.MemberLemmas.{member_map}
use Rattle.oc_target.proofs.Giving.{more_given, all_given}
use Rattle.oc_neutral.specs.declared.section.Section.{Section}
use Rattle.oc_omf_write.specs.{declared.entries.Entry.{Entry}, declared.fixups.Fixup.{Fixup}, Pieces.{section_entries, fixups_at}}
use Rattle.oc_neutral.proofs.FieldLists.{drop_here}

-- the fixups of the section at a position
pub fixups_indexed : (fixups : List (Vec Fixup Global)) (k : ℕ) (d : Vec Fixup Global) → k < length fixups → fixups_at (map (λ (v : Vec Fixup Global). v.items) fixups) k ≡ (get_or fixups k d).items
fixups_indexed fixups k d low =
    get_or_from_slice_get (map (λ (v : Vec Fixup Global). v.items) fixups) k (get_or fixups k d).items []
    (member_map (λ (v : Vec Fixup Global). v.items) fixups k (get_or fixups k d) (slice_get-get_or fixups k d low))

-- the entries of a section with its position
abbrev entries_of : List (List Fixup) → ℕ × Section → List Entry
entries_of fixups x = section_entries x.0 (fixups_at fixups x.0) (length x.1.bytes)

-- the entries of the sections from position k on
abbrev pub data_left : List (List Fixup) → List Section → ℕ → List Entry
data_left fixups sections k = flat_map (entries_of fixups) (enumerate_from k (drop k sections))

-- a turn: the entries of section k are added
pub data_more : (fixups : List (List Fixup)) (sections : List Section) (k : ℕ) (s : Section) (done now all : List Entry) → slice_get sections k ≡ Some s
    → now ≡ done ++ section_entries k (fixups_at fixups k) (length s.bytes) → done ++ data_left fixups sections k ≡ all → now ++ data_left fixups sections (k + 1) ≡ all
data_more fixups sections k s done now all here added so_far =
    more_given done now (data_left fixups sections k) (data_left fixups sections (k + 1)) (section_entries k (fixups_at fixups k) (length s.bytes)) all added
    (ap (λ xs. flat_map (entries_of fixups) (enumerate_from k xs)) (drop_here sections k s here)) so_far

-- behind the last section all are added
pub data_done : (fixups : List (List Fixup)) (sections : List Section) (k : ℕ) (now all : List Entry) → length sections ≤ k → now ++ data_left fixups sections k ≡ all → now ≡ all
data_done fixups sections k now all past so_far =
    all_given now (data_left fixups sections k) all (ap (λ xs. flat_map (entries_of fixups) (enumerate_from k xs)) (drop_all k sections past)) so_far
