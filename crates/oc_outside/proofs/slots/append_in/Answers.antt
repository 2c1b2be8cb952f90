use Rattle.std.proofs.Common.{ap, ◌∙◌, sym, refl, is_some}
use Rattle.std.proofs.lemmas.{Bool.{false≢true}, Result.{on_ok_weaker}}
use Rattle.oc_outside.proofs.SlotLaws.{file_none, file_at, room_at, rooms_kept, extended_at, name_left, room_left}
use Rattle.oc_outside.proofs.slots.append_in.Goals as goal

pub unreachable-requires : goal.unreachable-requires
unreachable-requires c = false≢true (ap is_some (sym (file_none _ _ (sym c.place_in.ensures ∙ c.in_default.is))) ∙ c.requires)

pub append-requires : goal.append-requires
append-requires c = rw (file_at c.args.name.now c.args.slots.now c.in-Some.place _ c.index-slots-place.result (sym c.place_in.ensures ∙ c.in-Some.is) refl) at c.requires

pub returns-clause-fails : goal.returns-clause-fails
returns-clause-fails c =
    let here = sym c.place_in.ensures ∙ c.in-Some.is in
    let file = file_at c.args.name.now c.args.slots.now c.in-Some.place _ c.index-slots-place.result here refl in
    let room = room_at c.args.name.now c.args.slots.now c.in-Some.place _ c.index-slots-place.result here refl in
    rw (file, room) c.append.ensures.fails

pub returns-clause-ok : goal.returns-clause-ok
returns-clause-ok c =
    let here = sym c.place_in.ensures ∙ c.in-Some.is in
    on_ok_weaker c.append.result (extended_at c.args.name.now c.args.slots.now c.in-Some.place _ c.index-slots-place.result here refl c.args.piece.now c.append.new.self) c.append.ensures.ok

pub returns-clause-rooms : goal.returns-clause-rooms
returns-clause-rooms c =
    let here = sym c.place_in.ensures ∙ c.in-Some.is in
    rooms_kept c.args.name.now c.args.slots.now c.in-Some.place _ c.index-slots-place.result here refl c.append.new.self
    (name_left _ _ _ c.append.result c.append.ensures.ok c.append.ensures.err) (room_left _ _ _ c.append.result c.append.ensures.ok c.append.ensures.err)
