-- Threads and fixups, each with its place; what is in force there is a function of what comes before (TIS OMF 1.1, "FIXUPP"; our profile).
use Rattle.std.specs.Prelude.{ℕ, ◌+◌, Bool, true, false, ◌&&◌, nat_eq, nat_lt, if◌then◌else◌, List, [], ◌∷◌, ◌++◌, map, flat_map, fold, take, Option, Some, None, Result, Ok, Err}
use Rattle.std.specs.{List.{list_any, enumerate_from}, Option.{option_map_or, option_and_then, unwrap_or, is_some}}
use Rattle.oc_linking.specs.Numbers.{or_else}
use Rattle.oc_omf_records.specs.Blocks.{moved, copies_of}
use Rattle.oc_omf.specs.{declared.cut.Cut.{Cut}, declared.structures.Method.{Method}, declared.structures.Datum.{Datum}, declared.structures.Fixup.{Fixup}}
use Rattle.oc_omf.specs.{declared.structures.Subrecord.{Subrecord}, Cursor.{Read}, Structures.{Piece}, Entries.{Entry}, Tables.{Tables, tables_of}}
use Rattle.oc_omf.specs.{Sections.{blocks_in}, Symbols.{agree}}
use Rattle.oc_omf.specs.declared.structures.Datum.TheVariants as datum
use Rattle.oc_omf.specs.declared.structures.Subrecord.TheVariants as subrecord

-- a thread or a fixup: the number of its entry, its place in the file, and what the entries before its own define
pub record PlacedSubrecord : Type 0 where
  pub index : ℕ
  pub at : ℕ
  pub part : Result Subrecord Cut
  pub before : Tables

-- those of an entry with its number
abbrev pub subrecords_by : List Entry → ℕ × Entry → List PlacedSubrecord
subrecords_by entries x = map (λ (s : Read Subrecord). record { index = x.0; at = s.at; part = s.part; before = tables_of (take x.0 entries) }) x.1.subrecords

-- those of the first n entries, in the order of the file
unfoldable pub subrecords_upto : List Entry → ℕ → List PlacedSubrecord
subrecords_upto entries n = flat_map (subrecords_by entries) (take n (enumerate_from 0 entries))

-- ... threads

-- the method that a subrecord sets for the thread of a frame or of a target with that number
abbrev pub thread_by : Bool → ℕ → Result Subrecord Cut → Option Method
thread_by frame number (Ok (subrecord.Thread x)) = if agree frame x.frame && nat_eq x.number number then Some x.method else None
thread_by frame number (Ok (subrecord.Fixup f)) = None
thread_by frame number (Err c) = None

-- the thread in force after these: the last that was set
abbrev pub thread_after : List PlacedSubrecord → Bool → ℕ → Option Method
thread_after earlier frame number = fold (λ (told : Option Method) (x : PlacedSubrecord). or_else (thread_by frame number x.part) told) None earlier

-- the method of a frame or a target after these, its own or its thread's
abbrev pub method_of : List PlacedSubrecord → Bool → Datum → Option Method
method_of earlier frame (datum.Explicit method) = Some method
method_of earlier frame (datum.Thread number) = thread_after earlier frame number

-- ... fixups

-- the last of a list
abbrev pub last_of : {X : Type 0} → List X → Option X
last_of [] = None
last_of (x ∷ []) = Some x
last_of (x ∷ y ∷ xs) = last_of (y ∷ xs)

-- a fixup with the data before it, and the methods of its frame and its target
pub record Fixed : Type 0 where
  pub fixup : Fixup
  pub piece : Option Piece
  pub frame : Option Method
  pub target : Option Method

-- a fixup after these, in a module that defines that before it
abbrev pub fixed_of : List PlacedSubrecord → Tables → Fixup → Fixed
fixed_of earlier before f = record { fixup = f; piece = last_of before.pieces; frame = method_of earlier true f.frame; target = method_of earlier false f.target }

-- a subrecord that is a fixup, and what comes after it
abbrev pub with_fixed : List PlacedSubrecord → PlacedSubrecord → List Fixed → List Fixed
with_fixed earlier x rest = elim x.part [ Ok (subrecord.Fixup f) ↦ fixed_of earlier x.before f ∷ rest | Ok (subrecord.Thread t) ↦ rest | Err c ↦ rest ]

-- the fixups among some subrecords that come after these
abbrev pub fixed_from : List PlacedSubrecord → List PlacedSubrecord → List Fixed
fixed_from earlier [] = []
fixed_from earlier (x ∷ xs) = with_fixed earlier x (fixed_from (earlier ++ x ∷ []) xs)

-- the fixups among the first subrecords of a file
unfoldable pub fixed_in : List PlacedSubrecord → List Fixed
fixed_in parts = fixed_from [] parts

-- ... their fields

-- where the copies of the fixed-up bytes lie in the data before; none where no content holds these
abbrev pub copies_for : Fixed → Option (List ℕ)
copies_for x = option_and_then (λ (d : Piece). copies_of (blocks_in d.blocks) x.fixup.offset) x.piece

-- the field of a fixup lies in its data
abbrev pub is_inside : Fixed → Bool
is_inside x = is_some (copies_for x)

-- the offsets of its fields in the segment of its data
abbrev pub field_offsets : Fixed → List ℕ
field_offsets x = option_map_or (λ (d : Piece). moved d.offset (unwrap_or (copies_for x) [])) x.piece []

-- its data are of the segment of that index
abbrev pub is_of_segment : Fixed → ℕ → Bool
is_of_segment x index = option_map_or (λ (d : Piece). nat_eq d.segment index) x.piece false

-- it has a field at an offset of that segment
abbrev pub has_field : Fixed → ℕ → ℕ → Bool
has_field x index at = is_of_segment x index && list_any (nat_eq at) (field_offsets x)

-- four bytes at two offsets meet
abbrev pub are_near : ℕ → ℕ → Bool
are_near a b = nat_lt a (b + 4) && nat_lt b (a + 4)

-- a field of one meets a field of the other
abbrev pub meet : Fixed → Fixed → Bool
meet x y = option_map_or (λ (d : Piece). is_of_segment y d.segment) x.piece false && list_any (λ at. list_any (are_near at) (field_offsets y)) (field_offsets x)
