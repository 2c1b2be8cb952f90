use Rattle.oc_omf_read.specs.Fields.{HasFields}
use Rattle.oc_omf_read.proofs.fields.fields_in.Given as goal

-- the fields of the entries before
abbrev pub invariant-loop-i : goal.invariant-loop-i
invariant-loop-i l = HasFields l.context l.i l.fields.items l.behind
