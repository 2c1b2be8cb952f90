use Rattle.std.proofs.Common.{◌≡◌}
use Rattle.oc_omf_read.specs.Declarations.{all_declarations}
use Rattle.oc_omf_read.proofs.DeclarationLemmas.{declarations_upto}
use Rattle.oc_omf_read.proofs.declarations.declared_in.Given as goal

-- the mentions of the entries before
abbrev pub invariant-loop-i : goal.invariant-loop-i
invariant-loop-i l = all_declarations l.declarations.items ≡ declarations_upto l.omf l.i
