-- A slot says which entries are symbols.
use Rattle.std.proofs.Common.{◌∙◌, sym}
use Rattle.oc_coff_judge.proofs.{AimLemmas.{aim_none, aim_there}, StartLemmas.{IsStart, start_there}}
use Rattle.oc_coff_judge.proofs.aims.numbered_aim.Goals as goal

pub aim_of-requires-clause-symbol : goal.aim_of-requires-clause-symbol
aim_of-requires-clause-symbol c =
    let s : IsStart c.args.coff.now c.args.j c.in-Some.field-0
    = start_there c.args.coff.now c.is_headed.ensures c.args.j c.in-Some.field-0 (sym (c.requires.found.starts_are.each c.args.j c.requires.there) ∙ sym c.get.ensures ∙ c.in-Some.is) in
    record { place = s.place; there = s.there }

pub returns-in-Some : goal.returns-in-Some
returns-in-Some c =
    c.aim_of.ensures
    ∙ aim_there c.args.coff.now c.is_headed.ensures c.args.j c.in-Some.field-0 (sym (c.requires.found.starts_are.each c.args.j c.requires.there) ∙ sym c.get.ensures ∙ c.in-Some.is)

pub returns-in-None : goal.returns-in-None
returns-in-None c = sym (aim_none c.args.coff.now c.is_headed.ensures c.args.j (sym (c.requires.found.starts_are.each c.args.j c.requires.there) ∙ sym c.get.ensures ∙ c.in-None.is))
