-- What entries define: lists that later entries only make longer, so that an index means the same to the end of the module (TIS OMF 1.1,
-- "Indexed References"; our profile).
use Rattle.std.specs.Prelude.{ℕ, ◌-◌, Bool, true, ◌&&◌, nat_eq, nat_le, if◌then◌else◌, List, [], length, flat_map, Option, None, slice_get}
use Rattle.std.specs.Option.{unwrap_or}
use Rattle.oc_omf.specs.{declared.structures.Segment.{Segment}, declared.structures.Method.{Method}, Structures.{Group, Public, External, Piece}}
use Rattle.oc_omf.specs.Entries.{Entry, all_read}

-- names, segments, groups and externals, each numbered from 1; definitions and data in the order of the file
pub record Tables : Type 0 where
  pub names : List (List ℕ)
  pub segments : List Segment
  pub groups : List Group
  pub publics : List Public
  pub externals : List External
  pub pieces : List Piece

-- what the entries define
unfoldable pub tables_of : List Entry → Tables
tables_of entries = record {
  names = flat_map (λ e. all_read e.names) entries;
  segments = flat_map (λ e. all_read e.segments) entries;
  groups = flat_map (λ e. all_read e.groups) entries;
  publics = flat_map (λ e. all_read e.publics) entries;
  externals = flat_map (λ e. all_read e.externals) entries;
  pieces = flat_map (λ e. all_read e.pieces) entries;
}

-- the thing of an index, which counts from 1
abbrev pub indexed : {X : Type 0} → List X → ℕ → Option X
indexed things index = if nat_eq index 0 then None else slice_get things (index - 1)

-- a thing has the index
abbrev pub is_indexed : {X : Type 0} → List X → ℕ → Bool
is_indexed things index = nat_le 1 index && nat_le index (length things)

-- the name of an index
abbrev pub name_at : Tables → ℕ → List ℕ
name_at t index = unwrap_or (indexed t.names index) []

-- what a method names by its index exists (TIS OMF 1.1, "FIXUPP"): a segment, a group or an external
abbrev pub is_there : Tables → Method → Bool
is_there t x =
    if nat_eq x.number 0 then is_indexed t.segments x.index
    else if nat_eq x.number 1 then is_indexed t.groups x.index
    else if nat_eq x.number 2 then is_indexed t.externals x.index
    else true
