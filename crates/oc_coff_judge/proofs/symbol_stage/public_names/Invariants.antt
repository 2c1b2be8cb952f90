-- The names so far.
use Rattle.oc_coff.specs.Files.{tables_in}
use Rattle.std.proofs.Common.{◌≡◌, map, take}
use Rattle.oc_strings.specs.Repeats.{names_of}
use Rattle.oc_coff_judge.specs.{Classed.{public_name}, Numbered.{entry_by}}
use Rattle.oc_coff_judge.proofs.symbol_stage.public_names.Given as goal

abbrev pub invariant-loop-i : goal.invariant-loop-i
invariant-loop-i l = names_of l.names.items ≡ map (λ j. public_name (tables_in l.coff).strings (entry_by l.coff j)) (take l.i l.numbers)
