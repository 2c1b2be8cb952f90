-- The definitions so far have no fault, and are taken up.
use Rattle.std.proofs.Common.{◌-◌, length}
use Rattle.oc_omf.specs.{Tables.{Tables}, Structures.{public_read}}
use Rattle.oc_omf_judge.specs.EarlierSymbols.{AreEarlierSymbols, public_behind}
use Rattle.oc_omf_judge.proofs.WalkLemmas.{Walk}
use Rattle.oc_omf_judge.proofs.publics.take_publics.Given as goal

abbrev pub invariant-loop-at : goal.invariant-loop-at
invariant-loop-at l =
    (t : Tables) → AreEarlierSymbols t l.fn.seen → Walk (λ ps s. AreEarlierSymbols (record t { publics = ps }) s) (public_behind t) l.spot.index l.spot.place (public_read l.wide l.local l.segment) l.contents t.publics l.fn.at l.at l.seen

abbrev pub decreases-loop-at : goal.decreases-loop-at
decreases-loop-at l = length l.contents - l.at
