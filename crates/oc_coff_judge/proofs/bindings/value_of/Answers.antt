-- A symbol with a section lies where that stands among the carried ones.
use Rattle.oc_coff.specs.Files.{tables_in}
use Rattle.std.proofs.Common.{◌∙◌, sym}
use Rattle.oc_coff_judge.proofs.PlacedLemmas.{position_anywhere, value_none, value_some}
use Rattle.oc_coff_judge.proofs.bindings.value_of.Goals as goal

pub returns-in-Some : goal.returns-in-Some
returns-in-Some c =
    value_some (tables_in c.args.coff.now) c.args.s.now c.if-s.false c.in-Some.section
    (sym (position_anywhere (tables_in c.args.coff.now) c.args.positions.now c.requires c.args.s.now.SectionNumber) ∙ sym c.get.ensures ∙ c.in-Some.is)

pub returns-in-None : goal.returns-in-None
returns-in-None c =
    value_none (tables_in c.args.coff.now) c.args.s.now c.if-s.false
    (sym (position_anywhere (tables_in c.args.coff.now) c.args.positions.now c.requires c.args.s.now.SectionNumber) ∙ sym c.get.ensures ∙ c.in-None.is)
