use Rattle.std.proofs.Common.{◌≡◌, take}
use Rattle.oc_place.specs.{Placings.{placing_of}, Footprints.{footprint_of}}
use Rattle.oc_place.proofs.placements.spots_for.Given as goal

-- the spots so far
abbrev pub invariant-loop-k : goal.invariant-loop-k
invariant-loop-k l = l.spots.items ≡ take l.k (placing_of (footprint_of l.object) l.notebook).spots
