use Rattle.std.proofs.Common.{◌∙◌, sym}
use Rattle.oc_outside.proofs.SlotLaws.{file_none, file_at}
use Rattle.oc_outside.proofs.slots.file_in.Goals as goal

pub returns-in_err-place : goal.returns-in_err-place
returns-in_err-place c = rw c.from_residual.ensures (file_none _ _ (sym c.place_in.ensures ∙ c.in_err-place.was))

pub returns : goal.returns
returns c =
    let here = sym c.place_in.ensures ∙ c.in_ok-place.was in
    let s = c.index-slots-place.result in
    rw (file_at c.args.name.now c.args.slots.now c.in_ok-place.place s s here (sym c.index-slots-place.is)) c.file.ensures
