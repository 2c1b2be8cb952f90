-- Where no field begins, none is placed.
use Rattle.std.proofs.Common.{sym, ◌∙◌}
use Rattle.oc_macho.specs.Framed.{table_at}
use Rattle.oc_macho_read.proofs.PlacedLemmas.{placed_none}
use Rattle.oc_macho_read.proofs.built_relocs.placed_at.Goals as goal

pub returns-then-not-begins : goal.returns-then-not-begins
returns-then-not-begins c = sym (placed_none c.args.frame.now (table_at c.args.frame.now c.args.i) c.args.k (sym c.requires.begins ∙ c.if-not-begins.true))
