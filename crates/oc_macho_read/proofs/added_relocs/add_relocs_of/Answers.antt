-- A section that is left out is given nothing.
use Rattle.std.proofs.Common.{◌+◌, sym, ◌∙◌, ap}
use Rattle.oc_linking.specs.Keeping.{keeps}
use Rattle.oc_shows.proofs.BuiltSteps.{added_same}
use Rattle.oc_macho.specs.{Sections.{kind_of}, Framed.{table_at}}
use Rattle.oc_macho_judge.proofs.SectionLemmas.{there}
use Rattle.oc_macho_read.specs.{Built.{started}, Given.{given_before}}
use Rattle.oc_macho_read.proofs.{StepLemmas.{given_left}, TableLemmas.{table_of}}
use Rattle.oc_macho_read.proofs.added_relocs.add_relocs_of.Goals as goal

pub add_table-requires-clause-table : goal.add_table-requires-clause-table
add_table-requires-clause-table c = table_of c.args.frame.now c.args.i c.section-h.result c.requires.there c.requires.ready.clean.sections c.section-h.ensures c.has_entries.ensures

pub add_table-requires-clause-kept : goal.add_table-requires-clause-kept
add_table-requires-clause-kept c = sym (c.keeps.ensures ∙ ap (keeps c.args.known.now.keep) (c.kind_of.ensures ∙ ap kind_of c.section-h.ensures)) ∙ c.if-not-keeps.false

pub returns-then-not-keeps : goal.returns-then-not-keeps
returns-then-not-keeps c =
    let t = c.args.frame.now in
    added_same (started t c.args.known.now.keep) c.args.builder.now (given_before t c.args.known.now.keep c.args.i) (given_before t c.args.known.now.keep (c.args.i + 1)) c.requires.before
    (given_left t c.args.known.now.keep c.args.i (table_at t c.args.i) (there t c.args.i c.requires.there)
    (sym (c.keeps.ensures ∙ ap (keeps c.args.known.now.keep) (c.kind_of.ensures ∙ ap kind_of c.section-h.ensures)) ∙ c.if-not-keeps.true))
