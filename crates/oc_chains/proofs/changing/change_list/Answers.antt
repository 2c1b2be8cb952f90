use Rattle.oc_chains.specs.Links.{nodes}
use Rattle.oc_chains.proofs.Renewing.{at_entry, same_entry}
use Rattle.oc_chains.proofs.changing.change_list.Goals as goal

pub change_entry-next-requires-clause-there : goal.change_entry-next-requires-clause-there
change_entry-next-requires-clause-there g c =
    (at_entry _ c.args.entries.now c.args.ends (nodes c.args.entries.now c.args.ends) c.requires.list c.requires.once _ c.requires.callable c.entries.entries c.in-Some.index c.entries.counter (rw c.in-Some.is at c.entries.invariant)).there

pub change_entry-next-requires-clause-callable : goal.change_entry-next-requires-clause-callable
change_entry-next-requires-clause-callable g c = λ e here.
    let at = at_entry _ c.args.entries.now c.args.ends (nodes c.args.entries.now c.args.ends) c.requires.list c.requires.once _ c.requires.callable c.entries.entries c.in-Some.index c.entries.counter (rw c.in-Some.is at c.entries.invariant) in
    rw (same_entry c.entries.entries c.in-Some.index at.entry e at.here here) at at.may

pub entries-preserved : goal.entries-preserved
entries-preserved g c =
    let at = at_entry _ c.args.entries.now c.args.ends (nodes c.args.entries.now c.args.ends) c.requires.list c.requires.once _ c.requires.callable c.entries.entries c.in-Some.index c.entries.counter (rw c.in-Some.is at c.entries.invariant) in
    let new = c.change_entry-next.ensures.entries at.entry at.here in
    rw (c.change_entry-next.ensures.next at.entry at.here) (at.goes new.0 c.change_entry-next.new.entries new.1 new.2)
