use Rattle.std.proofs.Common.{◌-◌}
use Rattle.oc_strings.specs.Inside.{names_in}
use Rattle.oc_strings.proofs.SearchLemmas.{IsNarrowed}
use Rattle.oc_strings.proofs.search.find.Given as goal

abbrev pub invariant-loop-low : goal.invariant-loop-low
invariant-loop-low l = IsNarrowed (names_in l.head l.bytes l.given) l.order l.name l.low l.high

abbrev pub decreases-loop-low : goal.decreases-loop-low
decreases-loop-low l = l.high - l.low
