-- The bytes that data stand for are laid over those from their offset on.
use Rattle.std.proofs.Common.{◌≡◌, length, ◌∙◌, ap, arith}
use Rattle.oc_omf_records.specs.Blocks.{size_of}
use Rattle.oc_omf_records.proofs.CopyLaws.{length-denotation}
use Rattle.oc_omf.specs.Known.{row_of}
use Rattle.oc_omf_read.proofs.ContentLemmas.{laid_made}
use Rattle.oc_omf_read.proofs.contents.lay_data.Goals as goal

pub lay_over-requires : goal.lay_over-requires
lay_over-requires c =
    let size : length c.as_slice.result.now ≡ size_of (row_of c.args.blocks.now) = ap length (c.as_slice.ensures ∙ c.in_ok-expanded.ensures) ∙ length-denotation (row_of c.args.blocks.now) in
    omega (arith, size)

pub returns : goal.returns
returns c =
    laid_made c.args.offset (row_of c.args.blocks.now) c.args.bytes.now.items c.as_slice.result.now c.lay_over.new.bytes.items (c.as_slice.ensures ∙ c.in_ok-expanded.ensures) (omega arith) (omega arith) (omega arith) c.lay_over.ensures
