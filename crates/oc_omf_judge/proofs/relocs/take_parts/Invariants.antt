-- The threads and fixups so far have no fault, and are taken up.
use Rattle.std.proofs.Common.{◌-◌, List, length}
use Rattle.oc_omf.specs.{Tables.{Tables}, Fixups.{PlacedSubrecord}}
use Rattle.oc_omf_judge.specs.Reached.{IsReached}
use Rattle.oc_omf_judge.proofs.PartLemmas.{Walk}
use Rattle.oc_omf_judge.proofs.relocs.take_parts.Given as goal

abbrev pub invariant-loop-at : goal.invariant-loop-at
invariant-loop-at l = (before : Tables) (earlier : List PlacedSubrecord) → IsReached l.whole before earlier l.fn.reached → Walk l.whole l.spot.index l.spot.place l.wide l.contents before earlier l.at l.reached

abbrev pub decreases-loop-at : goal.decreases-loop-at
decreases-loop-at l = length l.contents - l.at
