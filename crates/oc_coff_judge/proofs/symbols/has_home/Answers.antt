-- The slots have the position of any number.
use Rattle.oc_coff.specs.Files.{tables_in}
use Rattle.std.proofs.Common.{◌∙◌, ap, is_some}
use Rattle.oc_coff_judge.proofs.PlacedLemmas.{position_anywhere}
use Rattle.oc_coff_judge.proofs.symbols.has_home.Goals as goal

pub returns : goal.returns
returns c = λ file are.
    c.is_some.ensures
    ∙ ap is_some (c.get.ensures ∙ position_anywhere (tables_in file) c.args.positions.now are c.args.s.now.SectionNumber)
