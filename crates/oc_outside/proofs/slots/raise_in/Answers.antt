use Rattle.std.proofs.Common.{ap, ◌∙◌, sym, max}
use Rattle.std.proofs.lemmas.Result.{on_ok_weaker}
use Rattle.oc_outside.specs.Slots.{place_of}
use Rattle.oc_outside.proofs.SlotLaws.{held_kept, raised_at, held_stays, raised_push, name_left_raised, file_left}
use Rattle.oc_outside.proofs.slots.raise_in.Goals as goal

pub returns-in-Some-clause-rooms : goal.returns-in-Some-clause-rooms
returns-in-Some-clause-rooms c =
    let name = c.args.name.now in
    let slots = c.args.slots.now.items in
    let s = c.index_mut.result.now in
    let t = c.raise.new.self in
    let here = ap (place_of name) (sym c.as_slice.ensures.value) ∙ sym c.place_in.ensures ∙ c.in-Some.is in
    on_ok_weaker c.raise.result
    (λ e. raised_at name slots c.in-Some.place s s here (sym c.index_mut.ensures.value) _ t (ap (λ x. x.name) e) (ap (λ x. x.room) e)) c.raise.ensures.ok

pub returns-in-Some-clause-held : goal.returns-in-Some-clause-held
returns-in-Some-clause-held c =
    let name = c.args.name.now in
    let slots = c.args.slots.now.items in
    let s = c.index_mut.result.now in
    let t = c.raise.new.self in
    let here = ap (place_of name) (sym c.as_slice.ensures.value) ∙ sym c.place_in.ensures ∙ c.in-Some.is in
    held_kept name slots c.in-Some.place s s here (sym c.index_mut.ensures.value) t
    (name_left_raised s t _ c.raise.result c.raise.ensures.ok c.raise.ensures.err) (file_left s t _ c.raise.result c.raise.ensures.ok c.raise.ensures.err)

pub returns-in_ok-push-in-None-clause-rooms : goal.returns-in_ok-push-in-None-clause-rooms
returns-in_ok-push-in-None-clause-rooms c =
    let name = c.args.name.now in
    let slots = c.args.slots.now.items in
    let none = ap (place_of name) (sym c.as_slice.ensures.value) ∙ sym c.place_in.ensures ∙ c.in-None.is in
    let t = c.raise-in-None.new.self in
    let raised = c.in_ok-raise-in-None.ensures.ok in
    let named = ap (λ x. x.name) raised ∙ ap (λ x. x.name) c.in_ok-slot-in-None.ensures in
    rw c.in_ok-push-in-None.ensures.items
    (raised_push name slots none c.args.room t named (ap (λ x. x.room) raised ∙ ap (λ x. max x.room c.args.room) c.in_ok-slot-in-None.ensures))

pub returns-in_ok-push-in-None-clause-held : goal.returns-in_ok-push-in-None-clause-held
returns-in_ok-push-in-None-clause-held c =
    let name = c.args.name.now in
    let slots = c.args.slots.now.items in
    let none = ap (place_of name) (sym c.as_slice.ensures.value) ∙ sym c.place_in.ensures ∙ c.in-None.is in
    let t = c.raise-in-None.new.self in
    let raised = c.in_ok-raise-in-None.ensures.ok in
    let named = ap (λ x. x.name) raised ∙ ap (λ x. x.name) c.in_ok-slot-in-None.ensures in
    rw c.in_ok-push-in-None.ensures.items (held_stays name slots none t named (ap (λ x. x.file) raised ∙ ap (λ x. x.file) c.in_ok-slot-in-None.ensures))
