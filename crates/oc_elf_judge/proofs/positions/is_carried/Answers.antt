-- A section is carried where its type is.
use Rattle.std.proofs.Common.{◌∙◌, ap}
use Rattle.oc_elf.specs.Sections.{is_carried}
use Rattle.oc_elf_judge.proofs.PositionLemmas.{section_carried}
use Rattle.oc_elf_judge.proofs.positions.is_carried.Goals as goal

pub returns : goal.returns
returns c = c.is_carried_type.ensures ∙ ap is_carried c.header.ensures ∙ section_carried c.args.frame.now c.args.k
