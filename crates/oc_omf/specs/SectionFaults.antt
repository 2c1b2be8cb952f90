-- What names, segments, groups and data must meet (TIS OMF 1.1, "LNAMES", "SEGDEF", "GRPDEF", "LEDATA" and "LIDATA"; our profile).
use Rattle.std.specs.Prelude.{ℕ, ◌+◌, Bool, true, false, not, ◌&&◌, ◌||◌, nat_eq, nat_lt, nat_le, if◌then◌else◌, List, [], ◌∷◌, ◌++◌, length, take, flat_map, Result, Ok, Err}
use Rattle.std.specs.List.{list_any, sum_by, enumerate_from}
use Rattle.oc_base.specs.declared.code.Code.{Code}
use Rattle.oc_base.specs.declared.code.Code.TheVariants.{BadName, BadTable, SectionKind, BadAlign, BadIndex, TooDeep, DataPastEnd, DataOverlap, LimitSection, LimitSum, LimitBytes}
use Rattle.oc_base.specs.declared.fault.Fault.{Fault}
use Rattle.oc_base.specs.declared.fault.Phase.TheVariants as phase
use Rattle.oc_linking.specs.{declared.terms.Kind.TheVariants.{Zero}, FirstFault.{Condition, Stage}}
use Rattle.oc_neutral.specs.{KindRules.{same_kind}, TargetSections.{each_of}}
use Rattle.oc_omf_records.specs.{declared.faults.BlockFault.{BlockFault}, Blocks.{Blocks}}
use Rattle.oc_omf_records.specs.declared.faults.BlockFault.TheVariants as block
use Rattle.oc_omf.specs.{declared.constants.TheConstants.{SEGMENT_INDEX}, declared.structures.Segment.{Segment}, Cursor.{Reading, Read}}
use Rattle.oc_omf.specs.{Structures.{Group, Piece}, Entries.{Entry}, Tables.{Tables, tables_of, is_indexed}}
use Rattle.oc_omf.specs.Sections.{align_code, combination, is_use32, segment_size, size_at, piece_size, pieces_of, segment_kind}

-- a fault of an entry, by its number and its place; and one that has another place
abbrev pub own_fault : ℕ × ℕ → Code → Fault
own_fault x code = record { phase = phase.Section; index = x.0; code = code; place = x.1 }

abbrev pub limit_fault : ℕ × ℕ → ℕ → Code → Fault
limit_fault x worth code = record { phase = phase.Section; index = x.0; code = code; place = worth }

-- the conditions on a structure: it is whole, and then these
abbrev pub whole_conditions : {X : Type 0} → Fault → (X → List Condition) → Read X → List Condition
whole_conditions cut conditions s = elim s.part [ Ok x ↦ conditions x | Err _ ↦ (true, cut) ∷ [] ]

-- the same of what is read of it
abbrev pub conditions_by : {X : Type 0} → Fault → (X → List Condition) → Reading X → List Condition
conditions_by cut conditions (Ok r) = conditions r.0
conditions_by cut conditions (Err _) = (true, cut) ∷ []

-- the conditions on the names of an entry
abbrev pub name_conditions : ℕ × ℕ → List (Read (List ℕ)) → List Condition
name_conditions x names = flat_map (whole_conditions (own_fault x BadName) (λ name. [])) names

-- ... segments

-- the combination is private, or public by one of its three codes
abbrev pub is_combination : ℕ → Bool
is_combination c = list_any (nat_eq c) (0 ∷ 2 ∷ 4 ∷ 7 ∷ [])

-- its name, class and overlay are among so many names
abbrev pub is_named : ℕ → Segment → Bool
is_named names s = nat_le s.name names && (nat_le s.class names && nat_le s.overlay names)

-- the conditions on what the definition of a segment gives, after so many names
unfoldable pub form_conditions : ℕ → ℕ × ℕ → Segment → List Condition
form_conditions names x s =
    (not (is_use32 s), own_fault x SectionKind)
    ∷ (not (is_combination (combination s)), own_fault x SectionKind)
    ∷ (nat_eq (align_code s) 0, own_fault x SectionKind)
    ∷ (nat_lt 5 (align_code s), own_fault x BadAlign)
    ∷ (not (is_named names s), own_fault x BadIndex)
    ∷ []

-- and on its size, after segments of so many bytes
unfoldable pub size_conditions : ℕ → ℕ × ℕ → Segment → List Condition
size_conditions sizes x s =
    (nat_lt 2147483647 (segment_size s), limit_fault x (segment_size s) LimitSection)
    ∷ (nat_lt 2147483648 (sizes + segment_size s), limit_fault x (sizes + segment_size s) LimitSum)
    ∷ []

-- the conditions on a segment, after so many names and segments of so many bytes
abbrev pub segment_conditions_by : ℕ → ℕ → ℕ × ℕ → Segment → List Condition
segment_conditions_by names sizes x s = form_conditions names x s ++ size_conditions sizes x s

-- the same, where that is defined before
abbrev pub segment_conditions : Tables → ℕ × ℕ → Segment → List Condition
segment_conditions before x s = segment_conditions_by (length before.names) (sum_by segment_size before.segments) x s

-- ... groups

-- a member is cut, has another mark, or is a segment that is not there
abbrev pub is_cut : Read (ℕ × ℕ) → Bool
is_cut s = elim s.part [ Ok member ↦ false | Err _ ↦ true ]

abbrev pub is_marked_else : Read (ℕ × ℕ) → Bool
is_marked_else s = elim s.part [ Ok member ↦ not (nat_eq member.0 SEGMENT_INDEX) | Err _ ↦ false ]

abbrev pub is_no_segment : ℕ → Read (ℕ × ℕ) → Bool
is_no_segment segments s = elim s.part [ Ok member ↦ nat_eq member.1 0 || nat_lt segments member.1 | Err _ ↦ false ]

-- the conditions on a group, after so many names and segments
unfoldable pub group_conditions : ℕ → ℕ → ℕ × ℕ → Group → List Condition
group_conditions names segments x g =
    (list_any is_cut g.members, own_fault x BadTable)
    ∷ (list_any is_marked_else g.members, own_fault x SectionKind)
    ∷ (nat_lt names g.name || list_any (is_no_segment segments) g.members, own_fault x BadIndex)
    ∷ []

-- ... data

-- blocks are cut, or nested too deep
abbrev pub is_cut_block : Result Blocks BlockFault → Bool
is_cut_block (Ok blocks) = false
is_cut_block (Err block.BadBlock) = true
is_cut_block (Err block.TooDeep) = false
is_cut_block (Err block.NoMemory) = false

abbrev pub is_too_deep : Result Blocks BlockFault → Bool
is_too_deep (Ok blocks) = false
is_too_deep (Err block.BadBlock) = false
is_too_deep (Err block.TooDeep) = true
is_too_deep (Err block.NoMemory) = false

-- two pieces of data of one segment have a byte in common; empty ones have none
abbrev pub pieces_meet : Piece → Piece → Bool
pieces_meet d e =
    nat_lt 0 (piece_size d) && nat_lt 0 (piece_size e) && nat_lt d.offset (e.offset + piece_size e) && nat_lt e.offset (d.offset + piece_size d)

-- the conditions on data
unfoldable pub piece_conditions : Tables → ℕ × ℕ → Piece → List Condition
piece_conditions before x d =
    (is_cut_block d.blocks, own_fault x BadTable)
    ∷ (not (is_indexed before.segments d.segment), own_fault x BadIndex)
    ∷ (is_too_deep d.blocks, own_fault x TooDeep)
    ∷ (nat_lt (size_at before d.segment) (d.offset + piece_size d), own_fault x DataPastEnd)
    ∷ (list_any (pieces_meet d) (pieces_of before d.segment), own_fault x DataOverlap)
    ∷ []

-- ... the end

-- the bytes that a segment has: none where its kind is Zero
abbrev pub bytes_size : Tables → ℕ × Segment → ℕ
bytes_size t x = if same_kind (segment_kind t x.0 x.1) Zero then 0 else segment_size x.1

-- the bytes of all segments
unfoldable pub all_bytes : Tables → ℕ
all_bytes t = sum_by (bytes_size t) (enumerate_from 1 t.segments)

-- the condition on an entry, which may be the end
abbrev pub end_conditions : Tables → ℕ × ℕ → Bool → List Condition
end_conditions before x ends = (ends && nat_lt 67108864 (all_bytes before), limit_fault x (all_bytes before) LimitBytes) ∷ []

-- ... an entry

-- the conditions on an entry by its number and its place, where that is defined before
unfoldable pub conditions_on : Tables → ℕ × ℕ → Entry → List Condition
conditions_on before x e =
    name_conditions x e.names
    ++ (flat_map (whole_conditions (own_fault x BadTable) (segment_conditions before x)) e.segments
    ++ (flat_map (whole_conditions (own_fault x BadTable) (group_conditions (length before.names) (length before.segments) x)) e.groups
    ++ (flat_map (whole_conditions (own_fault x BadTable) (piece_conditions before x)) e.pieces
    ++ end_conditions before x e.ends)))

-- the conditions on an entry with its number
abbrev pub section_conditions : Tables → ℕ × Entry → List Condition
section_conditions before x = conditions_on before (x.0, x.1.place) x.1

-- the entries in their order
abbrev pub section_stage : List Entry → Stage
section_stage entries = record {
  count = length entries;
  conditions = λ i. each_of (section_conditions (tables_of (take i entries))) (enumerate_from 0 entries) i;
}
