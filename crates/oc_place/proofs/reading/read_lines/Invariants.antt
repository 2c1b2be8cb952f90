use Rattle.std.proofs.Common.{◌≡◌, ◌+◌, ◌≤◌, length}
use Rattle.std.specs.List.{slice_split}
use Rattle.oc_place.specs.{Faults.{IsFor}, Footprints.{footprint_of}, Written.{is_newline, no_notes, notes_from}}
use Rattle.oc_place.proofs.reading.read_lines.Given as goal

-- with what the rest says all is notes
abbrev pub invariant-loop-piece : goal.invariant-loop-piece
invariant-loop-piece l = record {
  notes : notes_from (footprint_of l.object) l.line l.notebook (slice_split is_newline l.rest) ≡ notes_from (footprint_of l.object) 1 (no_notes (footprint_of l.object)) (slice_split is_newline l.text);
  counted : IsFor l.object l.notebook;
  low : l.line + length l.rest ≤ length l.text + 1;
}

abbrev pub decreases-loop-piece : goal.decreases-loop-piece
decreases-loop-piece l = length l.rest
