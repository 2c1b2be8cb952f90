-- Each entry is that of the definition.
use Rattle.std.proofs.Common.{ap, ◌∙◌}
use Rattle.oc_macho.specs.declared.relocation_info.Reference.TheVariants as reference
use Rattle.oc_macho_file.specs.Lines.{numbered_lines, own_number}
use Rattle.oc_macho_write.proofs.RelocationLemmas.{pair_by}
use Rattle.oc_macho_write.proofs.relocations.pair_of.Goals as goal

pub returns-in-W64 : goal.returns-in-W64
returns-in-W64 c = λ n is context numbered written first second.
    let w = c.args.context.word in
    pair_by w c.in-W64.is n (numbered_lines w n) c.args.standing.now is written c.args.first c.args.second (reference.Symbol c.of_section.result) c.of_target.result c.plain_entry.result c.plain_entry-in-W64.result first second
    (ap reference.Symbol (c.of_section.ensures w n numbered ∙ ap (own_number (numbered_lines w n)) (c.taken_section-taken.ensures.section w is written))) (c.of_target.ensures n numbered) c.plain_entry.ensures c.plain_entry-in-W64.ensures
