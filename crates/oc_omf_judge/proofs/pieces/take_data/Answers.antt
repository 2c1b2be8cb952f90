-- Data by their head.
use Rattle.std.proofs.Common.{◌≡◌, ℕ, ◌^◌, min, Some, Ok, Err, sym, ◌∙◌, ap}
use Rattle.std.specs.Prelude.{drop}
use Rattle.std.proofs.lemmas.Result.{IfErr-weaker, on_ok_weaker}
use Rattle.oc_base.specs.declared.stop.Stop.TheVariants as stop
use Rattle.oc_omf_records.specs.declared.faults.BlockFault.TheVariants as block
use Rattle.oc_omf_records.specs.Blocks.{Blocks, size_of}
use Rattle.oc_omf.specs.{Known.{row_of}, Structures.{blocks_by}, Topics.{said_on}}
use Rattle.oc_omf.specs.declared.topics.Topic.TheVariants as topic
use Rattle.oc_omf_judge.specs.Defined.{IsPieceStopped, IsStoppedAt, piece_with}
use Rattle.oc_omf_judge.proofs.DataLemmas.{data_bad, data_cut, data_stopped, data_taken, head_inside}
use Rattle.oc_omf_judge.proofs.pieces.take_data.Goals as goal

pub returns-in_default-clause-stop : goal.returns-in_default-clause-stop
returns-in_default-clause-stop c = λ t is.
    data_cut t (c.args.spot.index, c.args.spot.place) c.args.spot.place c.args.wide c.args.iterated c.args.contents.now c.in_default.field-0 (sym c.read_head.ensures ∙ c.in_default.is)
    ∙ ap (λ f. Some f) (sym c.own_fault.ensures)

pub read_data-requires : goal.read_data-requires
read_data-requires c = head_inside c.args.wide c.args.contents.now c.in-Ok.head c.in-Ok.at (sym c.read_head.ensures ∙ c.in-Ok.is)

pub returns-in-Ok-read_data-clause-taken : goal.returns-in-Ok-read_data-clause-taken
returns-in-Ok-read_data-clause-taken c =
    let row = row_of c.in-Ok-read_data.data in
    on_ok_weaker c.take_piece.result (λ taken. data_taken c.args.defined.now c.take_piece.new.defined (c.args.spot.index, c.args.spot.place) c.args.spot.place c.args.wide c.args.iterated c.args.contents.now
    c.in-Ok.head c.in-Ok.at row (sym c.read_head.ensures ∙ c.in-Ok.is) c.in-Ok-read_data.ensures.well (taken row c.size.ensures)) c.take_piece.ensures.taken

pub returns-in-Ok-read_data-clause-stop : goal.returns-in-Ok-read_data-clause-stop
returns-in-Ok-read_data-clause-stop c =
    let row = row_of c.in-Ok-read_data.data in
    let x : ℕ × ℕ = (c.args.spot.index, c.args.spot.place) in
    IfErr-weaker c.take_piece.result
    (λ s. (row : Blocks) → c.size.result ≡ min (size_of row) (2 ^ 32) → IsPieceStopped c.args.defined.now x (piece_with c.in-Ok.head (Ok row)) s)
    (λ s. IsStoppedAt c.args.defined.now x (said_on (topic.Data c.args.iterated) c.args.spot.place c.args.wide c.args.contents.now) s)
    (λ s stopped. data_stopped c.args.defined.now x c.args.spot.place c.args.wide c.args.iterated c.args.contents.now c.in-Ok.head c.in-Ok.at (Ok row) s
    (sym c.read_head.ensures ∙ c.in-Ok.is) c.in-Ok-read_data.ensures.well (stopped row c.size.ensures)) c.take_piece.ensures.stop

pub returns-in-Err-BadBlock-clause-stop : goal.returns-in-Err-BadBlock-clause-stop
returns-in-Err-BadBlock-clause-stop c =
    let x : ℕ × ℕ = (c.args.spot.index, c.args.spot.place) in
    let blocks : blocks_by c.args.wide c.args.iterated (drop c.in-Ok.at c.args.contents.now) ≡ Err block.BadBlock = rw c.in-Err-BadBlock.field-0-is at c.in-Err-BadBlock.ensures.refused in
    data_stopped c.args.defined.now x c.args.spot.place c.args.wide c.args.iterated c.args.contents.now c.in-Ok.head c.in-Ok.at (Err block.BadBlock) (stop.Refused c.own_fault-in-Err-BadBlock.result)
    (sym c.read_head.ensures ∙ c.in-Ok.is) blocks (λ t is. data_bad t x c.in-Ok.head ∙ ap (λ f. Some f) (sym c.own_fault-in-Err-BadBlock.ensures))

pub returns-in-Err-TooDeep-clause-stop : goal.returns-in-Err-TooDeep-clause-stop
returns-in-Err-TooDeep-clause-stop c =
    let x : ℕ × ℕ = (c.args.spot.index, c.args.spot.place) in
    let blocks : blocks_by c.args.wide c.args.iterated (drop c.in-Ok.at c.args.contents.now) ≡ Err block.TooDeep = rw c.in-Err-TooDeep.field-0-is at c.in-Err-TooDeep.ensures.refused in
    data_stopped c.args.defined.now x c.args.spot.place c.args.wide c.args.iterated c.args.contents.now c.in-Ok.head c.in-Ok.at (Err block.TooDeep) (stop.Refused c.deep_fault.result)
    (sym c.read_head.ensures ∙ c.in-Ok.is) blocks c.deep_fault.ensures
