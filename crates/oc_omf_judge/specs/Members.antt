-- What is wrong with the members of a group (our profile).
use Rattle.std.specs.{Prelude.{ℕ, List}, List.{list_any}}
use Rattle.oc_omf_judge.specs.declared.groups.Members.{Members}
use Rattle.oc_omf.specs.{Cursor.{Read}, SectionFaults.{is_cut, is_marked_else, is_no_segment}}

-- what is wrong with the members of a group, after so many segments
abbrev pub members_in : ℕ → List (Read (ℕ × ℕ)) → Members
members_in segments members = record {
  cut = list_any is_cut members;
  marked_else = list_any is_marked_else members;
  missing = list_any (is_no_segment segments) members;
}
