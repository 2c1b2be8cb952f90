use Rattle.std.proofs.Common.{◌≡◌, None}
use Rattle.oc_linking.specs.Numbers.{first_upto}
use Rattle.oc_place.specs.{Placings.{symbol_bad}, Footprints.{footprint_of}}
use Rattle.oc_place.proofs.checks.check_symbols.Given as goal

-- none so far is at fault
abbrev pub invariant-loop-k : goal.invariant-loop-k
invariant-loop-k l = first_upto (symbol_bad (footprint_of l.object) l.notebook) l.k ≡ None
