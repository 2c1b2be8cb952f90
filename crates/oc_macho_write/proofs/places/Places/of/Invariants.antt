use Rattle.oc_macho_write.proofs.PlaceLemmas.{AreGiven}
use Rattle.oc_macho_write.proofs.places.Places.of.Given as goal

-- the parts before have their places
abbrev pub invariant-loop-at : goal.invariant-loop-at
invariant-loop-at l = AreGiven l.neutral l.begins l.at l.places
