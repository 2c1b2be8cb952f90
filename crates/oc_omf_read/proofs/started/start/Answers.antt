-- All sections are added before the first symbol.
use Rattle.std.proofs.Common.{length, refl, ◌∙◌}
use Rattle.oc_omf.specs.{Entries.{entries_in}, Tables.{tables_of}}
use Rattle.oc_omf_read.proofs.BuildLemmas.{all_yet}
use Rattle.oc_omf_read.proofs.started.start.Goals as goal

pub add_symbols-requires-clause-before : goal.add_symbols-requires-clause-before
add_symbols-requires-clause-before c = let t = tables_of (entries_in c.args.omf.now) in c.in_ok-add_sections.ensures ∙ all_yet t (length t.segments) refl
