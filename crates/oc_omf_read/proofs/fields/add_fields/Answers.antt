-- Each copy stands in the data, and these in a small section.
use Rattle.std.proofs.Common.{◌≡◌, ℕ, ◌<◌, List, get_or, length, sym, subst, arith, rules}
use Rattle.oc_omf_records.specs.Blocks.{size_of}
use Rattle.oc_omf_read.specs.{Fields.{copies_in}, Pieces.{row_in}}
use Rattle.oc_omf_read.proofs.CopyLemmas.{copies_low}
use Rattle.oc_omf_read.proofs.fields.add_fields.Goals as goal

pub add_copies-requires : goal.add_copies-requires
add_copies-requires c = λ k low.
    let all : c.as_slice.result.now ≡ copies_in (row_in c.args.searched.now.piece.data) c.args.at = search rules in
    let below = subst (λ (copies : List ℕ). k < length copies → get_or copies k 0 < size_of (row_in c.args.searched.now.piece.data)) (sym all) (copies_low (row_in c.args.searched.now.piece.data) c.args.at k) low in
    let inside = c.requires in
    omega (arith, below, inside)
