use Rattle.std.proofs.Common.{◌≡◌, ◌/◌, length}
use Rattle.oc_strings.specs.Repeats.{number_of, number_after_words}
use Rattle.oc_strings.proofs.repeats.number_of.Given as goal

-- the words and bytes that are left follow those of the number
abbrev pub invariant-loop-rest : goal.invariant-loop-rest
invariant-loop-rest l = number_after_words (length l.rest / 8) l.number l.rest ≡ number_of l.name

abbrev pub decreases-loop-rest : goal.decreases-loop-rest
decreases-loop-rest l = length l.rest
