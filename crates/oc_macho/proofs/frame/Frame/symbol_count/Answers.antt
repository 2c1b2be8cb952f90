-- The symbols are as many as were counted.
use Rattle.std.proofs.Common.{length, sym, ◌∙◌, ap}
use Rattle.oc_macho.specs.Tables.{Tables}
use Rattle.oc_macho.proofs.FrameLemmas.{length-symbols}
use Rattle.oc_macho.proofs.frame.Frame.symbol_count.Goals as goal

pub returns-clause-count : goal.returns-clause-count
returns-clause-count c = sym (length-symbols c.self.invariant) ∙ ap (λ (t : Tables). length t.symbols) c.self.view_is
