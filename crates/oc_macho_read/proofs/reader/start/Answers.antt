-- Sections stand before symbols.
use Rattle.std.proofs.Common.{◌∙◌, ap}
use Rattle.oc_neutral.specs.Building.{empty_draft}
use Rattle.oc_macho.specs.MachHeader.{mach_format}
use Rattle.oc_macho_read.proofs.BindingLemmas.{symboled_none}
use Rattle.oc_macho_read.proofs.reader.start.Goals as goal

pub add_sections-requires-clause-clean : goal.add_sections-requires-clause-clean
add_sections-requires-clause-clean c = c.requires.clean.sections

pub add_sections-requires-clause-before : goal.add_sections-requires-clause-before
add_sections-requires-clause-before c = c.new-builder.ensures ∙ ap empty_draft (c.format_of.ensures ∙ ap mach_format c.word.ensures)

pub add_symbols-requires-clause-sections : goal.add_symbols-requires-clause-sections
add_symbols-requires-clause-sections c = c.requires.clean.sections

pub add_symbols-requires-clause-symbols : goal.add_symbols-requires-clause-symbols
add_symbols-requires-clause-symbols c = c.requires.clean.symbols

pub add_symbols-requires-clause-before : goal.add_symbols-requires-clause-before
add_symbols-requires-clause-before c = symboled_none c.args.frame.now c.args.keep.now _ c.in_ok-add_sections.ensures
