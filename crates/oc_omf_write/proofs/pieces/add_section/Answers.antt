-- Each turn adds the entries of the next piece.
use Rattle.std.proofs.Common.{◌++◌, arith}
use Rattle.oc_target.proofs.Giving.{more_given, all_given}
use Rattle.oc_omf_write.specs.Pieces.{places_of, piece_entries, section_entries}
use Rattle.oc_omf_write.proofs.PieceLemmas.{follow_from, are_apart, ends_behind, pieces_left, pieces_step, pieces_end}
use Rattle.oc_omf_write.proofs.pieces.add_section.Goals as goal

pub piece_end-to-requires-clause-order : goal.piece_end-to-requires-clause-order
piece_end-to-requires-clause-order c = follow_from 0 c.args.size c.args.fixups.now c.requires.fixups

pub add_piece-requires-clause-order : goal.add_piece-requires-clause-order
add_piece-requires-clause-order c = follow_from 0 c.args.size c.args.fixups.now c.requires.fixups

pub add_piece-requires-clause-range : goal.add_piece-requires-clause-range
add_piece-requires-clause-range c =
    let ends = ends_behind (places_of c.args.fixups.now) c.args.size c.pieces.from (are_apart c.args.size c.args.fixups.now c.requires.fixups) c.pieces-test.true in
    let behind = ends.0 in
    let same = c.piece_end-to.ensures in
    omega (arith, behind, same)

pub pieces-preserved : goal.pieces-preserved
pieces-preserved c =
    let xs = c.args.fixups.now in
    let size = c.args.size in
    let k = c.args.section in
    let from = c.pieces.from in
    let to = c.piece_end-to.result in
    let ends = ends_behind (places_of xs) size from (are_apart size xs c.requires.fixups) c.pieces-test.true in
    let low = ends.1 in
    let same = c.piece_end-to.ensures in (
      omega (arith, low, same),
      more_given c.pieces.entries.items c.add_piece.new.entries.items (pieces_left k xs size from) (pieces_left k xs size to) (piece_entries k xs (from, to))
          (c.args.entries.now.items ++ section_entries k xs size) c.in_ok-add_piece.ensures (pieces_step k xs size from to c.requires.fixups c.pieces-test.true same) c.pieces.invariant.1,
    )

pub pieces-smaller : goal.pieces-smaller
pieces-smaller c =
    let ends = ends_behind (places_of c.args.fixups.now) c.args.size c.pieces.from (are_apart c.args.size c.args.fixups.now c.requires.fixups) c.pieces-test.true in
    let behind = ends.0 in
    let low = ends.1 in
    let same = c.piece_end-to.ensures in
    omega (arith, behind, low, same)

pub returns : goal.returns
returns c =
    all_given c.pieces.entries.items (pieces_left c.args.section c.args.fixups.now c.args.size c.pieces.from) (c.args.entries.now.items ++ section_entries c.args.section c.args.fixups.now c.args.size)
    (pieces_end c.args.section c.args.fixups.now c.args.size c.pieces.from c.pieces-test.false) c.pieces.invariant.1
