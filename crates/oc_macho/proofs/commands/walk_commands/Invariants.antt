-- The commands so far break no rule, and what is known of them is theirs.
use Rattle.oc_macho.specs.Walked.{IsWalking}
use Rattle.oc_macho.proofs.commands.walk_commands.Given as goal

abbrev pub invariant-loop-i : goal.invariant-loop-i
invariant-loop-i l = IsWalking l.word l.file l._i l.at l.found
