use Rattle.std.proofs.Common.{◌+◌, ◌-◌, drop, length, length-drop, ◌∙◌, sym, arith}
use Rattle.std.proofs.lemmas.List.{take_all}
use Rattle.oc_macho_write.proofs.Commas.{after_comma, nothing_after}
use Rattle.oc_macho_write.proofs.names.section_of.Goals as goal

pub returns-in-Some : goal.returns-in-Some
returns-in-Some c =
    let name = c.args.name.now in
    let at = c.in-Some.at in
    let long = length-drop (at + 1) name in
    take_all (length name - (at + 1)) (drop (at + 1) name) (omega (arith, long)) ∙ after_comma name at (sym c.comma_at.ensures ∙ c.in-Some.is)

pub returns-in-None : goal.returns-in-None
returns-in-None c = nothing_after c.args.name.now (sym c.comma_at.ensures ∙ c.in-None.is)
