-- The sums with a section that keeps the limits.
use Rattle.std.proofs.Common.{◌∙◌, ap, arith}
use Rattle.oc_macho.specs.{declared.section_header.SectionHeader.{SectionHeader}, SectionFaults.{stored_of}}
use Rattle.oc_macho_judge.proofs.SectionLemmas.{sums_more}
use Rattle.oc_macho_judge.proofs.section_stage.with_section.Goals as goal

pub returns-clause-sums : goal.returns-clause-sums
returns-clause-sums c =
    sums_more c.args.frame.now c.args.i c.args.sums.sizes c.args.sums.bytes c.args.h.now.size c.stored_of.result c.requires.there c.requires.sums
    (ap (λ (h : SectionHeader). h.size) c.requires.header) (c.stored_of.ensures.stored ∙ ap stored_of c.requires.header) (omega (arith, c.if-sizes-gt-MOST_SIZES.false)) (omega (arith, c.if-bytes-gt-MOST_CONTENTS.false))
