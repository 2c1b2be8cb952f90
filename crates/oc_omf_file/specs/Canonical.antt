-- The canonical file of an object that is ready for OMF (TIS OMF 1.1, "Record Formats"; our profile).
use Rattle.std.specs.{Prelude.{ℕ, ◌+◌, ◌*◌, ◌^◌, nat_eq, List, [], ◌∷◌, flat_map, slice_range, codes, true}, Option.{option_map_or}, List.{position_or_len}}
use Rattle.oc_linking.specs.{declared.terms.Binding.{Binding}, declared.terms.Binding.TheVariants.{Local, Global, Undefined, Common, Weak}}
use Rattle.oc_neutral.specs.{declared.section.Section.{Section}, KeySymbols.{global_place}, Normal.{Place}, Objects.{Object}}
use Rattle.oc_omf.specs.declared.constants.TheConstants.{THEADR, LNAMES, SEGDEF, GRPDEF, EXTDEF, COMDEF, PUBDEF, LEDATA, FIXUPP, MODEND, COMBINE_PUBLIC}
use Rattle.oc_omf.specs.Bytes.{wide, entry_bytes, name_bytes, index_bytes, segment_bytes, external_bytes, communal_bytes, public_bytes, data_bytes}
use Rattle.oc_omf.specs.declared.structures.Segment as read
use Rattle.oc_omf_file.specs.{Names.{class_of, name_index}, Pieces.{fields_between}}
use Rattle.oc_omf_file.specs.Outputs.{Output, Header, Names, Segment, Group, External, Communal, Public, Data, Fixups, End, outputs_of}
use Rattle.oc_omf_file.specs.Fixups.{raw_of, field_fixup}

-- the code of an alignment
abbrev pub code_by : ℕ → ℕ
code_by align = position_or_len (nat_eq align) (0 ∷ 1 ∷ 2 ∷ 16 ∷ 256 ∷ 4 ∷ [])

-- the attributes of a segment: its alignment, its combination, and that its offsets have 32 bits
abbrev pub attributes_of : Section → ℕ
attributes_of s = code_by s.align * 2 ^ 5 + COMBINE_PUBLIC * 2 ^ 2 + 1

-- the segment of a section; its overlay is the empty name
abbrev pub segment_of : Object → Section → read.Segment
segment_of n s = record { wide = true; attributes = attributes_of s; length = s.size; name = name_index n s.name; class = name_index n (class_of s); overlay = 1 }

-- the size of a communal; what is not one has no size, and 0 stands for it
abbrev pub size_by : Binding → ℕ
size_by (Common size align) = size
size_by (Local v) = 0
size_by (Global v) = 0
size_by Undefined = 0
size_by (Weak f) = 0

-- a symbol at a place: it lies in group 1, which is FLAT, and in its segment
abbrev pub public_at : List ℕ → Place → List ℕ
public_at name place = public_bytes (record { group = 1; segment = place.0 + 1 }) name place.1

-- the type of an entry
abbrev pub output_type : Output → ℕ
output_type Header = THEADR
output_type (Names names) = LNAMES
output_type (Segment k s) = wide SEGDEF
output_type Group = GRPDEF
output_type (External k s) = EXTDEF
output_type (Communal k s) = COMDEF
output_type (Public k s) = wide PUBDEF
output_type (Data k s from to) = wide LEDATA
output_type (Fixups k s from to) = wide FIXUPP
output_type End = MODEND

-- its contents; the group has the second name, FLAT, and no segments, and the end gives no start address
unfoldable pub output_contents : Object → Output → List ℕ
output_contents n Header = name_bytes (codes "objconv")
output_contents n (Names names) = flat_map name_bytes names
output_contents n (Segment k s) = segment_bytes (segment_of n s)
output_contents n Group = index_bytes 2
output_contents n (External k s) = external_bytes s.name
output_contents n (Communal k s) = communal_bytes s.name (size_by s.binding)
output_contents n (Public k s) = option_map_or (public_at s.name) (global_place s.binding) []
output_contents n (Data k s from to) = data_bytes (k + 1) from (slice_range (raw_of n k s) from to)
output_contents n (Fixups k s from to) = flat_map (field_fixup n from) (fields_between n k from to)
output_contents n End = 0 ∷ []

-- its bytes
abbrev pub output_bytes : Object → Output → List ℕ
output_bytes n o = entry_bytes (output_type o) (output_contents n o)

-- the canonical file
unfoldable pub omf_file : Object → List ℕ
omf_file n = flat_map (output_bytes n) (outputs_of n)
