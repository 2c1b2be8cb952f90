-- What is read, piece by piece.
use Rattle.std.proofs.Common.{◌∙◌, ap, refl, drop}
use Rattle.oc_omf.specs.{Cursor.{number_read}, Sections.{blocks_in}, Structures.{blocks_by, long_size}, Entries.{is_wide}}
use Rattle.oc_omf_read.proofs.PieceLemmas.{number_inside, piece_cut, piece_cut_later, piece_made}
use Rattle.oc_omf_read.proofs.pieces.read_piece.Goals as goal

pub returns-in_default : goal.returns-in_default
returns-in_default c = piece_cut (is_wide c.args.entry.now.kind) c.args.iterated c.args.entry.now.contents c.in_default.field-0 c.in_default.ensures

pub returns-in_default-read_long : goal.returns-in_default-read_long
returns-in_default-read_long c =
    let b = c.args.entry.now.contents in
    piece_cut_later (is_wide c.args.entry.now.kind) c.args.iterated b c.in-Ok.segment c.in-Ok.at c.in_default-read_long.field-0 c.in-Ok.ensures
    (c.in_default-read_long.ensures ∙ ap (λ w. number_read (long_size w) b c.in-Ok.at) c.is_wide-wide.ensures)

pub data_behind-requires : goal.data_behind-requires
data_behind-requires c = number_inside (long_size c.is_wide-wide.result) c.args.entry.now.contents c.in-Ok.at c.in-Ok-read_long.offset c.in-Ok-read_long.at c.in-Ok-read_long.ensures

pub returns : goal.returns
returns c =
    let b = c.args.entry.now.contents in
    piece_made (is_wide c.args.entry.now.kind) c.args.iterated b c.in-Ok.segment c.in-Ok.at c.in-Ok-read_long.offset c.in-Ok-read_long.at _ c.in-Ok.ensures
    (c.in-Ok-read_long.ensures ∙ ap (λ w. number_read (long_size w) b c.in-Ok.at) c.is_wide-wide.ensures) refl refl
    (c.in_ok-data.ensures ∙ ap (λ w. blocks_in (blocks_by w c.args.iterated (drop c.in-Ok-read_long.at b))) c.is_wide-wide.ensures)
