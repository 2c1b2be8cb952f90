-- A section is kept with its group's leader, if it does not lead itself.
use Rattle.std.proofs.Common.{◌<◌, length, sym, ◌∙◌, subst}
use Rattle.std.specs.Option.{IfSome}
use Rattle.oc_coff_write.proofs.KeyLemmas.{kept_itself, kept_with_leader}
use Rattle.oc_coff_write.proofs.entries.kept_with.Goals as goal

pub returns-in-Some-None : goal.returns-in-Some-None
returns-in-Some-None c = λ n k are is.
    let g = c.in-Some-None.group in
    let low = subst (λ o. IfSome o (λ g. g < length c.args.leaders.now)) c.in-Some-None.is-0 c.requires.there in
    c.leader_number.ensures n (are.each g (subst (λ m. g < m) are.counted low)) ∙ sym (kept_with_leader n k g c.args.key c.args.group is c.in-Some-None.is-0 c.in-Some-None.is-1)

pub returns-in-Some-Some : goal.returns-in-Some-Some
returns-in-Some-Some c = λ n k are is. sym (kept_itself n k c.in-Some-Some.field-0-0 c.args.key c.args.group is c.in-Some-Some.is-0 c.in-Some-Some.field-0-1 c.in-Some-Some.is-1)
