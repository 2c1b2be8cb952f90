-- A section in a group leads it, or follows.
use Rattle.std.proofs.Common.{sym}
use Rattle.oc_coff_write.proofs.KeyLemmas.{selected_itself, selected_with_leader}
use Rattle.oc_coff_write.proofs.entries.selection_of.Goals as goal

pub returns-in-Some-Some : goal.returns-in-Some-Some
returns-in-Some-Some c = λ n k is. sym (selected_itself n k c.in-Some-Some.field-0-0 c.args.key c.args.group is c.in-Some-Some.is-0 c.in-Some-Some.field-0-1 c.in-Some-Some.is-1)

pub returns-in-Some-None : goal.returns-in-Some-None
returns-in-Some-None c = λ n k is. sym (selected_with_leader n k c.in-Some-None.field-0-0 c.args.key c.args.group is c.in-Some-None.is-0 c.in-Some-None.is-1)
