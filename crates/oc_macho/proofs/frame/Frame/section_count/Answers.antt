-- The sections are as many as were counted.
use Rattle.std.proofs.Common.{length, sym, ◌∙◌, ap}
use Rattle.oc_macho.specs.Tables.{Tables}
use Rattle.oc_macho.proofs.FrameLemmas.{length-sections}
use Rattle.oc_macho.proofs.frame.Frame.section_count.Goals as goal

pub returns-clause-count : goal.returns-clause-count
returns-clause-count c = sym (length-sections c.self.invariant) ∙ ap (λ (t : Tables). length t.sections) c.self.view_is
