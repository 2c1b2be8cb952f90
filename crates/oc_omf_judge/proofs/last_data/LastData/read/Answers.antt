-- Data by their head.
use Rattle.std.proofs.Common.{◌≡◌, ◌+◌, ◌≤◌, ◌^◌, false, cond, Some, Ok, Err, sym, ◌∙◌, ap, arith}
use Rattle.std.specs.{Prelude.{drop, min, nat_lt}, Option.{option_map}}
use Rattle.std.proofs.lemmas.Bool.Decides.{nat_tests}
use Rattle.oc_omf_records.specs.declared.faults.BlockFault.TheVariants as block
use Rattle.oc_omf_records.specs.Blocks.{size_of}
use Rattle.oc_omf.specs.{Cursor.{Reading}, Known.{row_of}, Structures.{Piece, blocks_by}}
use Rattle.oc_omf_judge.specs.{Defined.{part_of, piece_with}, Lying.{Lying, lost, lying_at, lying_of}}
use Rattle.oc_omf_judge.proofs.{DataLemmas.{head_inside, piece_is}, PieceLemmas.{headed, piece_headed}}
use Rattle.oc_omf_judge.proofs.last_data.LastData.read.Goals as goal

pub returns-in_default : goal.returns-in_default
returns-in_default c = λ small.
    ap (λ (r : Reading Piece). option_map lying_of (part_of r)) (piece_headed c.args.wide c.args.iterated c.args.contents.now ∙ ap (headed c.args.wide c.args.iterated c.args.contents.now) (sym c.read_head.ensures ∙ c.in_default.is))

pub read_data-requires : goal.read_data-requires
read_data-requires c = head_inside c.args.wide c.args.contents.now c.in-Ok.head c.in-Ok.at (sym c.read_head.ensures ∙ c.in-Ok.is)

pub returns-in-Ok-read_data : goal.returns-in-Ok-read_data
returns-in-Ok-read_data c = λ small.
    let row = row_of c.in-Ok-read_data.encoded in
    let h = c.in-Ok.head in
    let reads = ap (λ (r : Reading Piece). part_of r) (piece_is c.args.wide c.args.iterated c.args.contents.now h c.in-Ok.at (Ok row) (sym c.read_head.ensures ∙ c.in-Ok.is) c.in-Ok-read_data.ensures.well) in
    let fits : h.offset + size_of row ≤ 2147483647 = small (piece_with h (Ok row)) reads in
    let test : nat_lt 2147483647 (h.offset + min (size_of row) (2 ^ 32)) ≡ false = let low : h.offset + min (size_of row) (2 ^ 32) ≤ 2147483647 = omega (arith, fits) in grind (arith, nat_tests) in
    ap (option_map lying_of) reads ∙ ap (λ (d : Lying). Some d) (sym (c.kept.ensures ∙ ap (λ b. cond b (lost h) (lying_at h row)) test))

pub returns-in-Err-BadBlock : goal.returns-in-Err-BadBlock
returns-in-Err-BadBlock c = λ small.
    let blocks : blocks_by c.args.wide c.args.iterated (drop c.in-Ok.at c.args.contents.now) ≡ Err block.BadBlock = rw c.in-Err-BadBlock.field-0-is at c.in-Err-BadBlock.ensures.refused in
    ap (λ (r : Reading Piece). option_map lying_of (part_of r)) (piece_is c.args.wide c.args.iterated c.args.contents.now c.in-Ok.head c.in-Ok.at (Err block.BadBlock) (sym c.read_head.ensures ∙ c.in-Ok.is) blocks)
    ∙ ap (λ (d : Lying). Some d) (sym c.lost.ensures)

pub returns-in-Err-TooDeep : goal.returns-in-Err-TooDeep
returns-in-Err-TooDeep c = λ small.
    let blocks : blocks_by c.args.wide c.args.iterated (drop c.in-Ok.at c.args.contents.now) ≡ Err block.TooDeep = rw c.in-Err-TooDeep.field-0-is at c.in-Err-TooDeep.ensures.refused in
    ap (λ (r : Reading Piece). option_map lying_of (part_of r)) (piece_is c.args.wide c.args.iterated c.args.contents.now c.in-Ok.head c.in-Ok.at (Err block.TooDeep) (sym c.read_head.ensures ∙ c.in-Ok.is) blocks)
    ∙ ap (λ (d : Lying). Some d) (sym c.lost-in-Err-TooDeep.ensures)
