use Rattle.std.proofs.Common.{◌≡◌, ◌+◌, ◌≤◌, ◌++◌, length, map}
use Rattle.oc_coff.specs.Forms.{shape_of}
use Rattle.std.specs.Prelude.{drop, flat_map}
use Rattle.oc_coff_write.specs.{FormFor.{form_for}, Entries.{entry_bytes}}
use Rattle.oc_coff_file.specs.{Lines.{lines_of}, Canonical.{line_rows}}
use Rattle.oc_coff_write.proofs.entries.entries_of.Given as goal

-- the entries so far, and those that are left; no more names were passed than lines
abbrev pub invariant-loop-line : goal.invariant-loop-line
invariant-loop-line l = record {
  near : (l.passed.sections ≤ l.line-index) × (l.passed.names ≤ length l.neutral.sections + l.line-index);
  rows : map (entry_bytes (shape_of (form_for l.neutral.format))) l.entries.items ++ flat_map (line_rows (form_for l.neutral.format) l.neutral) (drop l.line-index (lines_of (form_for l.neutral.format) l.neutral))
      ≡ flat_map (line_rows (form_for l.neutral.format) l.neutral) (lines_of (form_for l.neutral.format) l.neutral);
}
