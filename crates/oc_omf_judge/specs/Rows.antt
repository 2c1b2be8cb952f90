-- Which fixups have a row, by what a reader keeps (our profile).
use Rattle.std.specs.{Prelude.{ℕ, Bool, true, false, ◌||◌, nat_eq, if◌then◌else◌, Option}, Option.{option_map, option_map_or, option_and_then}}
use Rattle.oc_omf.specs.declared.structures.Method.{Method}
use Rattle.oc_omf_judge.specs.{declared.named.Referent.{Referent}, declared.whole.Whole.{Whole}, Named.{named_of, same, section_at}, Whole.{is_flat_group}}

-- what a frame names, of a fixup in data of a segment
abbrev pub named_frame : Whole → Option ℕ → Method → Option Referent
named_frame w segment frame = if nat_eq frame.number 4 then option_map section_at segment else named_of w frame

-- it names what the target does
abbrev pub is_named_by : Whole → Option ℕ → Method → Referent → Bool
is_named_by w segment frame target = option_map_or (same target) (named_frame w segment frame) false

-- a segment-relative fixup has a row by its frame
abbrev pub is_framed : Whole → Option ℕ → Method → Referent → Bool
is_framed w segment frame target = (is_flat_group w frame || nat_eq frame.number 5) || is_named_by w segment frame target

abbrev pub is_framed_by : Whole → Option ℕ → Option Method → Referent → Bool
is_framed_by w segment frame target = option_map_or (λ f. is_framed w segment f target) frame false

-- a fixup has a row by its frame
abbrev pub is_written : Whole → Option ℕ → Bool → Option Method → Referent → Bool
is_written w segment segment_relative frame target = if segment_relative then is_framed_by w segment frame target else true

-- what a target names
abbrev pub named_target : Whole → Option Method → Option Referent
named_target w target = option_and_then (named_of w) target

-- a fixup has a row
abbrev pub has_row : Whole → Option ℕ → Bool → Option Method → Option Method → Bool
has_row w segment segment_relative target frame = option_map_or (is_written w segment segment_relative frame) (named_target w target) false
