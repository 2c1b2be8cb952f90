use Rattle.std.proofs.Common.{◌≡◌, ℕ, ◌<◌, length, slice_get, Some, sym, ◌∙◌, ap, subst}
use Rattle.oc_omf.specs.Entries.{places_in}
use Rattle.oc_omf.proofs.PlaceLemmas.{entry_small, place_among, whole_at}
use Rattle.oc_omf.proofs.module.Module.entry.Goals as goal

pub entry_in-requires : goal.entry_in-requires
entry_in-requires c =
    let low : c.args.i < length (places_in c.self.inside.file.now) = rw (← c.self.view_is) at c.requires in
    whole_at c.self.inside.file.now c.args.i c.index-at.result.now c.self.invariant.1.clean
    (place_among c.self.inside.file.now c.self.inside.places.items c.args.i c.index-at.result.now c.self.invariant.0 low c.index-at.ensures)

pub returns-clause-place : goal.returns-clause-place
returns-clause-place c =
    let low : c.args.i < length (places_in c.self.inside.file.now) = rw (← c.self.view_is) at c.requires in
    let there = subst (λ file. slice_get (places_in file) c.args.i ≡ Some c.index-at.result.now) c.self.view_is
    (place_among c.self.inside.file.now c.self.inside.places.items c.args.i c.index-at.result.now c.self.invariant.0 low c.index-at.ensures) in
    there ∙ ap (λ (at : ℕ). Some at) (sym (ap (λ e. e.place) c.entry_in.ensures))

pub returns-clause-small : goal.returns-clause-small
returns-clause-small c =
    let file = c.self.inside.file.now in
    let low : c.args.i < length (places_in file) = rw (← c.self.view_is) at c.requires in
    let whole = whole_at file c.args.i c.index-at.result.now c.self.invariant.1.clean (place_among file c.self.inside.places.items c.args.i c.index-at.result.now c.self.invariant.0 low c.index-at.ensures) in
    entry_small file c.index-at.result.now _ whole c.self.invariant.1.small c.entry_in.ensures
