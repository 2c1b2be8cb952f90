-- The contents of entries, by what a file is made of (TIS OMF 1.1, "Record Formats"; our profile).
use Rattle.std.specs.{Prelude.{◌≡◌, ℕ, ◌+◌, ◌^◌, ◌<◌, ◌≤◌, List, [], ◌∷◌, length, map, flat_map, codes, slice_get, slice_range, Some}, List.{AllByRecursion}}
use Rattle.std.specs.Option.{option_map_or}
use Rattle.oc_linking.specs.declared.terms.Binding.TheVariants.{Common}
use Rattle.oc_neutral.specs.{declared.section.Section.{Section}, declared.symbol.Symbol.{Symbol}, KeySymbols.{global_place}, Normal.{Place}}
use Rattle.oc_omf.specs.declared.structures.Segment as read
use Rattle.oc_omf_file.specs.{Canonical.{size_by, public_at}, Names.{names_size}}
use Rattle.oc_omf.specs.Bytes.{entry_bytes, name_bytes, index_bytes, segment_bytes, external_bytes, communal_bytes, data_bytes}
use Rattle.oc_omf_write.specs.{declared.entries.Entry.{Entry}, declared.fixups.Fixup.{Fixup}, declared.tables.WrittenTables.{WrittenTables}, Entries.{type_of}}
use Rattle.oc_omf_write.specs.{Names.{text_by, IsNameOf, IsSegment, AreShort, IsRange}, Pieces.{fixups_at, AreInOrder}}
use Rattle.oc_omf_write.specs.Written.{between, fixup_bytes_of, IsSmallFixup}
use Rattle.oc_omf_write.specs.declared.entries.Entry.TheVariants as entry

-- the texts of the names
abbrev pub texts_of : WrittenTables → List (List ℕ)
texts_of t = map (text_by t.sections.items) t.names.items

-- the fixups of each section
abbrev pub fixups_of : WrittenTables → List (List Fixup)
fixups_of t = map (λ v. v.items) t.fixups.items

-- a symbol as what is put where it is defined here
abbrev pub public_by : Symbol → List ℕ
public_by s = option_map_or (public_at s.name) (global_place s.binding) []

-- what is put of bytes of the section at a position
abbrev pub piece_bytes : ℕ → ℕ → ℕ → Section → List ℕ
piece_bytes k from to s = data_bytes (k + 1) from (slice_range s.bytes from to)

-- the contents of an entry
abbrev pub contents_by : WrittenTables → Entry → List ℕ
contents_by t entry.Header = name_bytes (codes "objconv")
contents_by t (entry.Names from to) = flat_map name_bytes (slice_range (texts_of t) from to)
contents_by t (entry.Segment k) = option_map_or segment_bytes (slice_get t.segments.items k) []
contents_by t entry.Group = index_bytes 2
contents_by t (entry.External k) = option_map_or (λ (s : Symbol). external_bytes s.name) (slice_get t.symbols.items k) []
contents_by t (entry.Communal k) = option_map_or (λ (s : Symbol). communal_bytes s.name (size_by s.binding)) (slice_get t.symbols.items k) []
contents_by t (entry.Public k) = option_map_or public_by (slice_get t.symbols.items k) []
contents_by t (entry.Data k from to) = option_map_or (piece_bytes k from to) (slice_get t.sections.items k) []
contents_by t (entry.Fixups k from to) = flat_map (fixup_bytes_of from) (between from to (fixups_at (fixups_of t) k))
contents_by t entry.End = 0 ∷ []

-- the bytes of an entry
abbrev pub bytes_by : WrittenTables → Entry → List ℕ
bytes_by t e = entry_bytes (type_of e) (contents_by t e)

-- ... what fits

-- a segment whose indexes fit
pub record IsSmallSegment (s : read.Segment) : Type 0 where
  pub name : s.name < 32768
  pub class : s.class < 32768
  pub overlay : s.overlay < 32768

-- a symbol whose name fits
abbrev pub HasShortName : Symbol → Type 0
HasShortName s = length s.name ≤ 255

-- a communal whose numbers fit
pub record IsSmallCommunal (s : Symbol) : Type 0 where
  pub name : length s.name ≤ 255
  pub size : ℕ
  pub align : ℕ
  pub is : s.binding ≡ Common size align
  pub small : size < 2 ^ 32

-- a symbol at a place, whose numbers fit
pub record IsSmallPublic (s : Symbol) : Type 0 where
  pub name : length s.name ≤ 255
  pub place : Place
  pub is : global_place s.binding ≡ Some place
  pub small : place.0 + 1 < 32768

-- bytes of a section
abbrev pub IsPieceOf : ℕ → ℕ → ℕ → Section → Type 0
IsPieceOf k from to s = (k + 1 < 32768) × (from ≤ to) × (to ≤ length s.bytes) × (to ≤ from + 1024)

-- the item at a position passes
pub record IsAt {X : Type 0} (P : X → Type 0) (xs : List X) (k : ℕ) : Type 0 where
  pub item : X
  pub here : slice_get xs k ≡ Some item
  pub passes : P item

-- an entry whose contents can be put
abbrev pub CanPut : WrittenTables → Entry → Type 0
CanPut t entry.Header = Unit {0}
CanPut t (entry.Names from to) = IsRange (length (texts_of t)) (from, to) × (names_size (slice_range (texts_of t) from to) ≤ 1024)
CanPut t (entry.Segment k) = IsAt IsSmallSegment t.segments.items k
CanPut t entry.Group = Unit {0}
CanPut t (entry.External k) = IsAt HasShortName t.symbols.items k
CanPut t (entry.Communal k) = IsAt IsSmallCommunal t.symbols.items k
CanPut t (entry.Public k) = IsAt IsSmallPublic t.symbols.items k
CanPut t (entry.Data k from to) = IsAt (IsPieceOf k from to) t.sections.items k
CanPut t (entry.Fixups k from to) =
    (k < length t.fixups.items) × (from ≤ to) × AllByRecursion (IsSmallFixup from) (between from to (fixups_at (fixups_of t) k)) × (length (between from to (fixups_at (fixups_of t) k)) ≤ 256)
CanPut t entry.End = Unit {0}

-- each section can be a segment, the names are short and those of sections, and the fixups are in order
pub record AreSound (t : WrittenTables) : Type 0 where
  pub segments : AllByRecursion IsSegment t.sections.items
  pub named : AllByRecursion (IsNameOf (length t.sections.items)) t.names.items
  pub short : AreShort (texts_of t)
  pub order : (k : ℕ) → k < length t.fixups.items → AreInOrder (fixups_at (fixups_of t) k)
