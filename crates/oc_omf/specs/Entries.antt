-- What the entries of an object module say (TIS OMF 1.1, "Record Format" and "Record Formats").
use Rattle.std.specs.Prelude.{ℕ, zero, suc, ◌+◌, ◌-◌, ◌%◌, Bool, false, not, ◌||◌, nat_eq, if◌then◌else◌, List, [], ◌∷◌, length, map, filter_map, Option, Some, None, Ok, Err}
use Rattle.std.specs.Option.{option_map_or}
use Rattle.oc_omf_records.specs.NextEntry.{is_whole, entry_of, end_of_entry}
use Rattle.oc_omf.specs.declared.constants.TheConstants.{MODEND, EXTDEF, PUBDEF, LNAMES, SEGDEF, GRPDEF, FIXUPP, LEDATA, LIDATA, COMDEF, LEXTDEF, LPUBDEF, ENTRY_HEAD}
use Rattle.oc_omf.specs.{declared.structures.Segment.{Segment}, declared.structures.PublicBase.{PublicBase}, declared.structures.Subrecord.{Subrecord}}
use Rattle.oc_omf.specs.Cursor.{Reading, Read, name_read, each_read}
use Rattle.oc_omf.specs.Structures.{Group, Public, External, Piece, segment_read, group_read, base_read, public_read, external_read, communal_read, piece_read, subrecord_read}

-- the type is odd
abbrev pub is_wide : ℕ → Bool
is_wide kind = nat_eq (kind % 2) 1

-- the even type of the two that one record has
abbrev pub even_of : ℕ → ℕ
even_of kind = kind - kind % 2

-- the type is one of the two of that record
abbrev pub is_kind : ℕ → ℕ → Bool
is_kind type kind = nat_eq (even_of kind) type

-- an entry by the structures in it; of all lists but those of its type there are none
pub record Entry : Type 0 where
  pub place : ℕ
  pub names : List (Read (List ℕ))
  pub segments : List (Read Segment)
  pub groups : List (Read Group)
  pub bases : List (Read PublicBase)
  pub publics : List (Read Public)
  -- EXTDEF, LEXTDEF and COMDEF: externals and communals have one numbering
  pub externals : List (Read External)
  pub pieces : List (Read Piece)
  pub subrecords : List (Read Subrecord)
  pub ends : Bool

-- an entry at a place that gives nothing
abbrev pub says_nothing : ℕ → Entry
says_nothing place = record { place = place; names = []; segments = []; groups = []; bases = []; publics = []; externals = []; pieces = []; subrecords = []; ends = false }

-- structures of an entry at a place, each with its place in the file
abbrev pub in_file : {X : Type 0} → ℕ → List (Read X) → List (Read X)
in_file {X} place structures = map (λ (s : Read X). record { at = place + ENTRY_HEAD + s.at; part = s.part }) structures

-- the one structure of an entry: its place is that of the entry
abbrev pub whole : {X : Type 0} → ℕ → Reading X → List (Read X)
whole place (Ok r) = record { at = place; part = Ok r.0 } ∷ []
whole place (Err c) = record { at = place; part = Err c } ∷ []

-- the symbols of an entry, after its base; where that is cut they are not read
abbrev pub publics_of : ℕ → ℕ → List ℕ → Reading PublicBase → List (Read Public)
publics_of kind place b (Ok r) = in_file place (each_read (public_read (is_wide kind) (is_kind LPUBDEF kind) r.0.segment) b r.1)
publics_of kind place b (Err c) = []

-- what an entry of a type at a place gives by its contents
unfoldable pub said_by : ℕ → ℕ → List ℕ → Entry
said_by place kind b =
    if is_kind LNAMES kind then record (says_nothing place) { names = in_file place (each_read name_read b 0) }
    else if is_kind SEGDEF kind then record (says_nothing place) { segments = whole place (segment_read (is_wide kind) b 0) }
    else if is_kind GRPDEF kind then record (says_nothing place) { groups = whole place (group_read b 0) }
    else if is_kind PUBDEF kind || is_kind LPUBDEF kind
    then record (says_nothing place) { bases = whole place (base_read b 0); publics = publics_of kind place b (base_read b 0) }
    else if is_kind EXTDEF kind || is_kind LEXTDEF kind
    then record (says_nothing place) { externals = in_file place (each_read (external_read (is_kind LEXTDEF kind)) b 0) }
    else if is_kind COMDEF kind then record (says_nothing place) { externals = in_file place (each_read communal_read b 0) }
    else if is_kind LEDATA kind || is_kind LIDATA kind
    then record (says_nothing place) { pieces = whole place (piece_read (is_wide kind) (is_kind LIDATA kind) b 0) }
    else if is_kind FIXUPP kind then record (says_nothing place) { subrecords = in_file place (each_read (subrecord_read (is_wide kind)) b 0) }
    else record (says_nothing place) { ends = is_kind MODEND kind }

-- the entry at a place is the last that is looked at
abbrev pub is_last : List ℕ → ℕ → Bool
is_last file at = not (is_whole file at) || is_kind MODEND (entry_of file at).kind

-- where the entry after one at a place is looked for
abbrev pub next_place : List ℕ → ℕ → Option ℕ
next_place file at = if is_last file at then None else Some (end_of_entry file at)

-- the places of at most n entries from a place on; where the end comes before MODEND, the last is that of what is no entry
abbrev pub places_upto : ℕ → List ℕ → ℕ → List ℕ
places_upto zero file at = []
places_upto (suc n) file at = at ∷ option_map_or (places_upto n file) (next_place file at) []

-- the places at which an entry is looked for: there are no more entries than bytes
unfoldable pub places_in : List ℕ → List ℕ
places_in file = places_upto (length file + 1) file 0

-- what the entry at a place gives
abbrev pub said_at : List ℕ → ℕ → Entry
said_at file at = said_by at (entry_of file at).kind (entry_of file at).contents

-- the entries of a file
unfoldable pub entries_in : List ℕ → List Entry
entries_in file = map (said_at file) (places_in file)

-- a structure that is not cut
abbrev pub read_of : {X : Type 0} → Read X → Option X
read_of s = elim s.part [ Ok x ↦ Some x | Err c ↦ None ]

-- those of a list
abbrev pub all_read : {X : Type 0} → List (Read X) → List X
all_read structures = filter_map read_of structures
