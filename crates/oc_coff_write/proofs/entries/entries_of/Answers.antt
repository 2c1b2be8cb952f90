-- Each turn adds the entries of its line.
use Rattle.std.proofs.Common.{◌≤◌, length, map, ◌∙◌, ap, sym, arith}
use Rattle.oc_coff.specs.Forms.{shape_of}
use Rattle.std.specs.Option.{is_some}
use Rattle.std.proofs.lemmas.{List.{length-map}, Option.{slice_get-get_or}}
use Rattle.oc_coff_write.specs.{FormFor.{form_for}, Entries.{entry_bytes}}
use Rattle.oc_target.proofs.Giving.{more_given, flat_step}
use Rattle.oc_coff_file.specs.{Lines.{lines_of}, Canonical.{line_rows}}
use Rattle.oc_coff_file.proofs.PartLaws.{length-entry_rows}
use Rattle.oc_coff_write.specs.declared.lines.Line.TheVariants as line
use Rattle.oc_coff_write.proofs.{EntryLemmas.{all_rows}, LineLemmas.{line_listed}}
use Rattle.oc_coff_write.proofs.entries.entries_of.Goals as goal

pub add_line-requires-clause-listed : goal.add_line-requires-clause-listed
add_line-requires-clause-listed c =
    let k = c.loop-line.line-index in
    let x = line_listed (form_for c.args.neutral.now.format) c.args.neutral.now c.args.lines.now k _ c.requires.lines (slice_get-get_or c.args.lines.now k (line.Section 0) c.loop-line-test.true) in
    record { index = k; is = x.0; here = x.1; there = x.2 }

pub loop-line-preserved : goal.loop-line-preserved
loop-line-preserved c =
    let n = c.args.neutral.now in
    let w = form_for n.format in
    let k = c.loop-line.line-index in
    let x = line_listed w n c.args.lines.now k _ c.requires.lines (slice_get-get_or c.args.lines.now k (line.Section 0) c.loop-line-test.true) in
    record {
      near = (omega (arith, c.loop-line.invariant.near.0, c.after-passed.ensures.sections), omega (arith, c.loop-line.invariant.near.1, c.after-passed.ensures.names));
      rows =
          more_given (map (entry_bytes (shape_of w)) c.loop-line.entries.items) (map (entry_bytes (shape_of w)) c.add_line.new.entries.items) _ _ (line_rows w n x.0) _
          (c.in_ok-add_line.ensures x.0 x.2) (flat_step (line_rows w n) (lines_of w n) k x.0 x.1) c.loop-line.invariant.rows;
    }

pub after-passed-requires-clause-line : goal.after-passed-requires-clause-line
after-passed-requires-clause-line c =
    let k = c.loop-line.line-index in
    let x = line_listed (form_for c.args.neutral.now.format) c.args.neutral.now c.args.lines.now k _ c.requires.lines (slice_get-get_or c.args.lines.now k (line.Section 0) c.loop-line-test.true) in
    ap is_some x.2

pub returns-clause-rows : goal.returns-clause-rows
returns-clause-rows c =
    let n = c.args.neutral.now in
    let w = form_for n.format in
    let past : length c.args.lines.now ≤ c.loop-line.line-index = omega (arith, c.loop-line-test.false) in
    all_rows w n c.args.lines.now c.requires.lines c.loop-line.line-index c.loop-line.entries.items past c.loop-line.invariant.rows

pub returns-clause-count : goal.returns-clause-count
returns-clause-count c =
    let n = c.args.neutral.now in
    let w = form_for n.format in
    let past : length c.args.lines.now ≤ c.loop-line.line-index = omega (arith, c.loop-line-test.false) in
    sym (length-map c.loop-line.entries.items (entry_bytes (shape_of w)))
    ∙ ap length (all_rows w n c.args.lines.now c.requires.lines c.loop-line.line-index c.loop-line.entries.items past c.loop-line.invariant.rows)
    ∙ length-entry_rows w n
