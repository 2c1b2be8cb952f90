-- The addresses of the edges before are there.
use Rattle.std.proofs.Common.{◌≡◌, take}
use Rattle.oc_macho_judge.specs.Holders.{places_of}
use Rattle.oc_macho_judge.proofs.holders.places_of.Given as goal

abbrev pub invariant-loop-edge : goal.invariant-loop-edge
invariant-loop-edge l = l.places.items ≡ places_of (take l.edge-index l.edges)
