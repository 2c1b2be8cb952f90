use Rattle.std.proofs.Common.{ap, ◌∙◌, sym, length, max}
use Rattle.std.proofs.lemmas.Result.{on_ok_weaker}
use Rattle.oc_outside.specs.{Held.{put}, Slots.{held_of, place_of}}
use Rattle.oc_outside.proofs.SlotLaws.{held_set, raised_at, held_push, raised_push}
use Rattle.oc_outside.proofs.slots.set_in.Goals as goal

pub returns-in-Some-clause-held : goal.returns-in-Some-clause-held
returns-in-Some-clause-held c =
    let name = c.args.name.now in
    let slots = c.args.slots.now.items in
    let s = c.index_mut.result.now in
    let t = c.set.new.self in
    let here = ap (place_of name) (sym c.as_slice.ensures.value) ∙ sym c.place_in.ensures ∙ c.in-Some.is in
    on_ok_weaker c.set.result
    (λ e. held_set name slots c.in-Some.place s s here (sym c.index_mut.ensures.value) t (ap (λ x. x.name) e)
    ∙ ap (λ o. put o name (held_of slots)) (ap (λ x. x.file) e)) c.set.ensures.ok

pub returns-in-Some-clause-rooms : goal.returns-in-Some-clause-rooms
returns-in-Some-clause-rooms c =
    let name = c.args.name.now in
    let slots = c.args.slots.now.items in
    let s = c.index_mut.result.now in
    let t = c.set.new.self in
    let here = ap (place_of name) (sym c.as_slice.ensures.value) ∙ sym c.place_in.ensures ∙ c.in-Some.is in
    on_ok_weaker c.set.result
    (λ e. raised_at name slots c.in-Some.place s s here (sym c.index_mut.ensures.value) _ t (ap (λ x. x.name) e) (ap (λ x. x.room) e)) c.set.ensures.ok

pub returns-in_ok-push-in-None-clause-held : goal.returns-in_ok-push-in-None-clause-held
returns-in_ok-push-in-None-clause-held c =
    let name = c.args.name.now in
    let slots = c.args.slots.now.items in
    let none = ap (place_of name) (sym c.as_slice.ensures.value) ∙ sym c.place_in.ensures ∙ c.in-None.is in
    let t = c.set-in-None.new.self in
    let set = c.in_ok-set-in-None.ensures.ok in
    let named = ap (λ x. x.name) set ∙ ap (λ x. x.name) c.in_ok-slot-in-None.ensures in
    rw c.in_ok-push-in-None.ensures.items (held_push name slots none t named ∙ ap (λ o. put o name (held_of slots)) (ap (λ x. x.file) set))

pub returns-in_ok-push-in-None-clause-rooms : goal.returns-in_ok-push-in-None-clause-rooms
returns-in_ok-push-in-None-clause-rooms c =
    let name = c.args.name.now in
    let slots = c.args.slots.now.items in
    let none = ap (place_of name) (sym c.as_slice.ensures.value) ∙ sym c.place_in.ensures ∙ c.in-None.is in
    let t = c.set-in-None.new.self in
    let set = c.in_ok-set-in-None.ensures.ok in
    let named = ap (λ x. x.name) set ∙ ap (λ x. x.name) c.in_ok-slot-in-None.ensures in
    let len = length c.args.bytes.now in
    rw c.in_ok-push-in-None.ensures.items (raised_push name slots none len t named (ap (λ x. x.room) set ∙ ap (λ x. max x.room len) c.in_ok-slot-in-None.ensures))
