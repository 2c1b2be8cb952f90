-- The number is that of the leader's position.
use Rattle.std.proofs.Common.{◌+◌, sym, ◌∙◌, ap}
use Rattle.std.specs.Option.{option_map_or}
use Rattle.oc_coff_write.proofs.KeyLemmas.{leader_is}
use Rattle.oc_coff_write.proofs.entries.leader_number.Goals as goal

pub returns-in-Some : goal.returns-in-Some
returns-in-Some c = λ n e. sym (leader_is n c.args.group ∙ ap (λ o. option_map_or (λ k. k + 1) o 0) (sym e ∙ c.in-Some.is))

pub returns-in-None : goal.returns-in-None
returns-in-None c = λ n e. sym (leader_is n c.args.group ∙ ap (λ o. option_map_or (λ k. k + 1) o 0) (sym e ∙ c.in-None.is))
