-- The communals so far have no fault, and are taken up.
use Rattle.std.proofs.Common.{◌-◌, List, true, length}
use Rattle.oc_omf_judge.specs.{NameNumbers.{NameNumbers}, declared.earlier.EarlierSymbols.{EarlierSymbols}, EarlierSymbols.{AreNamed, AreEarlierSymbols, external_behind}}
use Rattle.oc_omf.specs.{Tables.{Tables}, Structures.{External, communal_read}}
use Rattle.oc_omf_judge.proofs.WalkLemmas.{Walk}
use Rattle.oc_omf_judge.proofs.externals.take_communals.Given as goal

abbrev pub invariant-loop-at : goal.invariant-loop-at
invariant-loop-at l =
    (known : NameNumbers) (all t : Tables) → AreNamed true all.publics known → AreEarlierSymbols t l.fn.seen
    → Walk (λ (ys : List External) (s : EarlierSymbols). AreEarlierSymbols (record t { externals = ys }) s) (external_behind all) l.spot.index l.spot.place (communal_read) l.contents t.externals 0 l.at l.seen

abbrev pub decreases-loop-at : goal.decreases-loop-at
decreases-loop-at l = length l.contents - l.at
