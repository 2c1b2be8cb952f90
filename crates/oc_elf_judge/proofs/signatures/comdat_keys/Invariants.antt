-- The keys so far.
use Rattle.std.proofs.Common.{◌≡◌, map}
use Rattle.std.specs.List.{range_with_len}
use Rattle.oc_strings.specs.Repeats.{names_of}
use Rattle.oc_elf.specs.Groups.{comdat_key}
use Rattle.oc_elf_judge.proofs.signatures.comdat_keys.Given as goal

abbrev pub invariant-loop-g : goal.invariant-loop-g
invariant-loop-g l = names_of l.keys.items ≡ map (comdat_key l.frame) (range_with_len 0 l.g)
