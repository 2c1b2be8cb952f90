-- What a reader keeps of the entries before one, as long as it judges names, segments, groups and data (our profile).
use Rattle.std.specs.Prelude.{◌≡◌, ℕ, ◌+◌, ◌*◌, ◌^◌, min, ◌<◌, ◌≤◌, Bool, false, nat_lt, if◌then◌else◌, List, [], ◌∷◌, ◌++◌, length, map, take, get_or, slice_get, Option, Some, None, Result, Ok, Err}
use Rattle.std.specs.{List.{sum_by}, Option.{option_and_then, option_map_or}}
use Rattle.oc_base.specs.{declared.code.Code.TheVariants.{BadTable}, declared.fault.Fault.{Fault}, declared.stop.Stop.{Stop}, Stops.{IsStop}}
use Rattle.oc_linking.specs.{declared.terms.Kind.{Kind}, declared.terms.Kind.TheVariants.{Data}, FirstFault.{first_broken}}
use Rattle.oc_shelf.specs.Reading.Spans.{AreSpansOf}
use Rattle.oc_omf_records.specs.{declared.faults.BlockFault.{BlockFault}, Blocks.{Blocks, size_of}}
use Rattle.oc_omf.specs.{declared.structures.DataHead.{DataHead}, declared.structures.Segment.{Segment}, declared.topics.Topic.{Topic}, Cursor.{Reading}}
use Rattle.oc_omf.specs.{Structures.{Group, Piece}, Entries.{Entry, entries_in, all_read}, Tables.{Tables, tables_of}}
use Rattle.oc_omf.specs.Sections.{is_covered, piece_size, segment_kind, segment_size}
use Rattle.oc_omf.specs.SectionFaults.{bytes_size, conditions_by, conditions_on, group_conditions, own_fault, piece_conditions, segment_conditions_by}
use Rattle.oc_omf.specs.{Known.{names_of}, Topics.{said_on}}
use Rattle.oc_omf_judge.specs.{declared.defined.Defined.{Defined}, declared.section_stage.EntryPlace.{EntryPlace}}

-- what the entries of a file before one define
abbrev pub before_in : List ℕ → ℕ → Tables
before_in file i = tables_of (take i (entries_in file))

-- what is defined, and after it what an entry defines
abbrev pub and_entry : Tables → Entry → Tables
and_entry t e = record {
  names = t.names ++ all_read e.names;
  segments = t.segments ++ all_read e.segments;
  groups = t.groups ++ all_read e.groups;
  publics = t.publics ++ all_read e.publics;
  externals = t.externals ++ all_read e.externals;
  pieces = t.pieces ++ all_read e.pieces;
}

-- the place of an offset of a segment, such that those of two segments are far apart
abbrev pub place_in : ℕ → ℕ → ℕ
place_in segment offset = segment * 4294967296 + offset

-- from where to where data go, if they have a byte
abbrev pub piece_span : Piece → Option (ℕ × ℕ)
piece_span d = if nat_lt 0 (piece_size d) then Some (place_in d.segment d.offset, place_in d.segment d.offset + piece_size d) else None

-- the same of the data at a position
abbrev pub span_among : List Piece → ℕ → Option (ℕ × ℕ)
span_among pieces j = option_and_then piece_span (slice_get pieces j)

-- the data lie in a segment that is small enough
abbrev pub IsSmall : Piece → Type 0
IsSmall d = d.offset + piece_size d ≤ 2147483647

-- what is kept is what is defined
pub record IsDefined (t : Tables) (d : Defined) : Type 0 where
  pub names_are : names_of d.names.items ≡ t.names
  pub segments_are : d.segments.items ≡ t.segments
  pub groups_are : d.groups.items ≡ map (λ (g : Group). g.name) t.groups
  pub covered_long : length d.covered.items ≡ length t.segments
  pub covered_are : (k : ℕ) → k < length t.segments → get_or d.covered.items k false ≡ is_covered t (k + 1)
  pub each_few : (k : ℕ) (s : Segment) → slice_get t.segments k ≡ Some s → segment_size s ≤ 2147483647
  pub sizes_are : d.sizes ≡ sum_by segment_size t.segments
  pub sizes_few : d.sizes ≤ 2147483648
  pub spans_are : AreSpansOf (span_among t.pieces) (length t.pieces) d.spans
  pub pieces_small : (j : ℕ) (p : Piece) → slice_get t.pieces j ≡ Some p → IsSmall p
  pub pieces_there : (j : ℕ) (p : Piece) → slice_get t.pieces j ≡ Some p → (1 ≤ p.segment) × (p.segment ≤ length t.segments)

-- an entry has no fault, and is recorded after what is kept
abbrev pub IsTakenUp : Defined → ℕ × ℕ → Entry → Defined → Type 0
IsTakenUp old x e new = (t : Tables) → IsDefined t old → (first_broken (conditions_on t x e) ≡ None) × IsDefined (and_entry t e) new

-- an entry has a fault, which is reported
abbrev pub IsStoppedAt : Defined → ℕ × ℕ → Entry → Stop → Type 0
IsStoppedAt old x e s = (t : Tables) → IsDefined t old → IsStop (first_broken (conditions_on t x e)) s

-- the entry there, on that topic and with these contents, has no fault, and is recorded after what is kept
abbrev pub IsTakenOn : Defined → EntryPlace → Topic → Bool → List ℕ → Defined → Type 0
IsTakenOn old spot topic wide contents new = IsTakenUp old (spot.index, spot.place) (said_on topic spot.place wide contents) new

-- it has a fault, which is reported
abbrev pub IsStoppedOn : Defined → EntryPlace → Topic → Bool → List ℕ → Stop → Type 0
IsStoppedOn old spot topic wide contents s = IsStoppedAt old (spot.index, spot.place) (said_on topic spot.place wide contents) s

-- what is read, if it is whole
abbrev pub part_of : {X : Type 0} → Reading X → Option X
part_of (Ok r) = Some r.0
part_of (Err c) = None

-- the first fault of a segment that is read, after so many names and segments of so many bytes
abbrev pub segment_fault_by : ℕ → ℕ → ℕ × ℕ → Reading Segment → Option Fault
segment_fault_by names sizes x read = first_broken (conditions_by (own_fault x BadTable) (segment_conditions_by names sizes x) read)

-- that of a group, after so many names and segments
abbrev pub group_fault_by : ℕ → ℕ → ℕ × ℕ → Reading Group → Option Fault
group_fault_by names segments x read = first_broken (conditions_by (own_fault x BadTable) (group_conditions names segments x) read)

-- ... segments, counted from 0

-- the kind of segment k
abbrev pub kind_in : Tables → ℕ → Kind
kind_in t k = option_map_or (segment_kind t (k + 1)) (slice_get t.segments k) Data

-- its bytes, none where its kind is Zero
abbrev pub bytes_in : Tables → ℕ → ℕ
bytes_in t k = option_map_or (λ s. bytes_size t (k + 1, s)) (slice_get t.segments k) 0

-- ... data

-- data with that head
abbrev pub piece_with : DataHead → Result Blocks BlockFault → Piece
piece_with h blocks = record { segment = h.segment; offset = h.offset; blocks = blocks }

-- after what is kept, data have no fault, and are recorded
abbrev pub IsPieceTaken : Defined → ℕ × ℕ → Piece → Defined → Type 0
IsPieceTaken old x d new = (t : Tables) → IsDefined t old → (first_broken (piece_conditions t x d) ≡ None) × IsDefined (record t { pieces = t.pieces ++ d ∷ [] }) new

-- data have a fault, which is reported
abbrev pub IsPieceStopped : Defined → ℕ × ℕ → Piece → Stop → Type 0
IsPieceStopped old x d s = (t : Tables) → IsDefined t old → IsStop (first_broken (piece_conditions t x d)) s

-- data with that head have no fault, and are recorded; they are of so many bytes, or of 2^32 where they have more
abbrev pub IsDataTaken : Defined → ℕ × ℕ → DataHead → ℕ → Defined → Type 0
IsDataTaken old x head size new = (row : Blocks) → size ≡ min (size_of row) (2 ^ 32) → IsPieceTaken old x (piece_with head (Ok row)) new

-- such data have a fault, which is reported
abbrev pub IsDataStopped : Defined → ℕ × ℕ → DataHead → ℕ → Stop → Type 0
IsDataStopped old x head size s = (row : Blocks) → size ≡ min (size_of row) (2 ^ 32) → IsPieceStopped old x (piece_with head (Ok row)) s
