use Rattle.std.proofs.Common.{ap, ◌∙◌, sym, refl, is_none}
use Rattle.oc_outside.specs.{Held.{put}, Slots.{held_of}}
use Rattle.oc_outside.proofs.SlotLaws.{room_none, room_at, held_set, rooms_kept}
use Rattle.oc_outside.proofs.slots.create_in.Goals as goal

pub returns-in_default-clause-fails : goal.returns-in_default-clause-fails
returns-in_default-clause-fails c = ap is_none (sym (room_none _ _ (sym c.place_in.ensures ∙ c.in_default.is)))

pub returns-clause-fails : goal.returns-clause-fails
returns-clause-fails c = ap is_none (sym (room_at _ _ _ _ c.index-slots-place.result (sym c.place_in.ensures ∙ c.in-Some.is) refl))

pub returns-clause-ok : goal.returns-clause-ok
returns-clause-ok c =
    held_set _ _ _ _ c.index-slots-place.result (sym c.place_in.ensures ∙ c.in-Some.is) refl c.clear.new.self (ap (λ s. s.name) c.clear.ensures)
    ∙ ap (λ o. put o c.args.name.now (held_of c.args.slots.now)) (ap (λ s. s.file) c.clear.ensures)

pub returns-clause-rooms : goal.returns-clause-rooms
returns-clause-rooms c =
    rooms_kept _ _ _ _ c.index-slots-place.result (sym c.place_in.ensures ∙ c.in-Some.is) refl c.clear.new.self (ap (λ s. s.name) c.clear.ensures) (ap (λ s. s.room) c.clear.ensures)
