-- The entries so far.
use Rattle.oc_coff.specs.Files.{tables_in}
use Rattle.std.proofs.Common.{◌≡◌, map}
use Rattle.std.specs.List.{range_with_len}
use Rattle.oc_coff_judge.specs.Aimed.{aim_numbered}
use Rattle.oc_coff_judge.proofs.aims.aims_of.Given as goal

abbrev pub invariant-loop-j : goal.invariant-loop-j
invariant-loop-j l = l.aims.items ≡ map (aim_numbered (tables_in l.coff)) (range_with_len 0 l.j)
