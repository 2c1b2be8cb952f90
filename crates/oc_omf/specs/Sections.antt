-- Segments as sections (TIS OMF 1.1, "SEGDEF", "LEDATA" and "LIDATA"; our profile).
use Rattle.std.specs.Prelude.{ℕ, ◌+◌, ◌^◌, Bool, nat_eq, nat_lt, if◌then◌else◌, List, [], ◌∷◌, ◌++◌, map, filter, fold, take, drop, replicate, get_or, None, Result, Ok, Err}
use Rattle.std.specs.{List.{list_any, enumerate_from}, Option.{option_map_or}}
use Rattle.oc_linking.specs.{declared.terms.Kind.{Kind}, Parts.{Section}}
use Rattle.oc_neutral.specs.{KindRules.{has}, Omf.Kinds.{omf_kind, omf_tag}}
use Rattle.oc_omf_records.specs.{declared.faults.BlockFault.{BlockFault}, Blocks.{Blocks, none, denotation, size_of}}
use Rattle.oc_omf.specs.{declared.structures.Segment.{Segment}, Structures.{Piece, bits}, Tables.{Tables, indexed, name_at}}

-- the code of the alignment
abbrev pub align_code : Segment → ℕ
align_code s = bits 5 3 s.attributes

-- the alignment: 1 to 5 are the codes of 1, 2, 16, 256 and 4
abbrev pub align_of : Segment → ℕ
align_of s = get_or (0 ∷ 1 ∷ 2 ∷ 16 ∷ 256 ∷ 4 ∷ []) (align_code s) 0

-- how the linker joins it with segments of its name
abbrev pub combination : Segment → ℕ
combination s = bits 2 3 s.attributes

-- it has as many bytes as offsets of its type can reach
abbrev pub is_big : Segment → Bool
is_big s = has s.attributes 2

-- its offsets have 32 bits
abbrev pub is_use32 : Segment → Bool
is_use32 s = has s.attributes 1

-- how many bytes it has
abbrev pub segment_size : Segment → ℕ
segment_size s = if is_big s then (if s.wide then 2 ^ 32 else 2 ^ 16) else s.length

-- the size of the segment of an index
abbrev pub size_at : Tables → ℕ → ℕ
size_at t index = option_map_or segment_size (indexed t.segments index) 0

-- ... data

-- the blocks, none where they are not read
abbrev pub blocks_in : Result Blocks BlockFault → Blocks
blocks_in (Ok blocks) = blocks
blocks_in (Err fault) = none

-- how many bytes a piece of data stands for
abbrev pub piece_size : Piece → ℕ
piece_size d = size_of (blocks_in d.blocks)

-- the data of a segment, by its index
abbrev pub pieces_of : Tables → ℕ → List Piece
pieces_of t index = filter (λ (d : Piece). nat_eq d.segment index) t.pieces

-- some byte of the segment is covered
abbrev pub is_covered : Tables → ℕ → Bool
is_covered t index = list_any (λ d. nat_lt 0 (piece_size d)) (pieces_of t index)

-- the bytes with those of a piece in their place
abbrev pub laid_over : List ℕ → Piece → List ℕ
laid_over bytes d = take d.offset bytes ++ (denotation (blocks_in d.blocks) ++ drop (d.offset + piece_size d) bytes)

-- the bytes of a segment of a size: zeros, and in their places the data
unfoldable pub contents_of : Tables → ℕ → ℕ → List ℕ
contents_of t index size = fold laid_over (replicate size 0) (pieces_of t index)

-- ... sections

-- the kind of a segment, by its index
abbrev pub segment_kind : Tables → ℕ → Segment → Kind
segment_kind t index s = omf_kind (name_at t s.class) (is_covered t index)

-- a segment with its index as a section
abbrev pub section_of : Tables → ℕ × Segment → Section
section_of t x = record {
  name = name_at t x.1.name;
  kind = segment_kind t x.0 x.1;
  align = align_of x.1;
  size = segment_size x.1;
  contents = contents_of t x.0 (segment_size x.1);
  tag = omf_tag;
  number = x.0;
  group = None;
}

-- the sections: all segments
unfoldable pub sections_in : Tables → List Section
sections_in t = map (section_of t) (enumerate_from 1 t.segments)
