use Rattle.std.proofs.Common.{take}
use Rattle.oc_omf_read.specs.{Declarations.{all_declarations}, Mentioned.{HasDeclarations}}
use Rattle.oc_omf_read.proofs.mentioned.mentions_of.Given as goal

-- the mentions before are taken up
abbrev pub invariant-loop-i : goal.invariant-loop-i
invariant-loop-i l = HasDeclarations (all_declarations (take l.i l.declarations)) l.mentions
