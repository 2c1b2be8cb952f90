use Rattle.std.proofs.Common.{arith}
use Rattle.std.specs.List.{slice_split}
use Rattle.oc_place.specs.{Footprints.{footprint_of}, Written.{is_newline, notes_of}}
use Rattle.oc_place.proofs.LineLemmas.{still_for, turn_badly, turn_well}
use Rattle.oc_place.proofs.reading.read_lines.Goals as goal

pub returns-in-Err-clause-err : goal.returns-in-Err-clause-err
unfolding notes_of
returns-in-Err-clause-err c =
    turn_badly (footprint_of c.args.object.now) c.loop-piece.line c.loop-piece.notebook c.in-Some.piece.now c.in-Some.after.now (slice_split is_newline c.loop-piece.rest.now) c.in-Some.ensures.0
    (notes_of (footprint_of c.args.object.now) c.args.text.now) c.loop-piece.invariant.notes c.in-Err.fault c.in-Err.ensures.err

pub loop-piece-preserved : goal.loop-piece-preserved
unfolding notes_of
loop-piece-preserved c =
    let low = c.loop-piece.invariant.low in
    let shorter = c.in-Some.ensures.1 in
    record {
      notes = turn_well (footprint_of c.args.object.now) c.loop-piece.line c.loop-piece.notebook c.in-Some.piece.now c.in-Some.after.now (slice_split is_newline c.loop-piece.rest.now) c.in-Some.ensures.0
          (notes_of (footprint_of c.args.object.now) c.args.text.now) c.loop-piece.invariant.notes c.read_line.new.notebook c.in_default-read_line.ensures.ok;
      counted = still_for c.args.object.now c.loop-piece.notebook c.read_line.new.notebook c.read_line.ensures.same c.loop-piece.invariant.counted;
      low = omega (arith, low, shorter);
    }
