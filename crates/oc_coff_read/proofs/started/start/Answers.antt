-- All carried sections are added before the first symbol.
use Rattle.oc_coff.specs.{Files.{tables_in}, Forms.{format_by}}
use Rattle.std.proofs.Common.{List, [], map, sym, ◌∙◌, ap}
use Rattle.oc_linking.specs.Parts as parts
use Rattle.oc_neutral.specs.Building.{empty_draft}
use Rattle.oc_coff_read.proofs.StartedFile.{shape_is}
use Rattle.oc_shows.specs.Started.{groups_by, plain_draft, stored_section}
use Rattle.oc_coff_read.specs.Built.{keys_of}
use Rattle.oc_coff_judge.proofs.CollectLemmas.{sections_are}
use Rattle.oc_coff_read.proofs.started.start.Goals as goal

pub add_groups-requires-clause-empty : goal.add_groups-requires-clause-empty
add_groups-requires-clause-empty c = c.new-builder.ensures ∙ ap empty_draft (c.format_of.ensures ∙ ap (λ z. format_by c.args.word z) (c.shape.ensures ∙ sym (shape_is c.args.coff.now)))

pub add_symbols-requires-clause-before : goal.add_symbols-requires-clause-before
add_symbols-requires-clause-before c =
    let t = tables_in c.args.coff.now in
    c.in_ok-add_sections.ensures ∙ ap (λ (xs : List parts.Section). plain_draft (format_by c.args.word t.shape) (groups_by (keys_of t)) (map (stored_section (keys_of t)) xs) []) (sym (sections_are t))
