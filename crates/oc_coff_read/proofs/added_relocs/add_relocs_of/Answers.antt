-- A section that is not carried leaves all as it was.
use Rattle.std.proofs.Common.{sym, ◌∙◌}
use Rattle.oc_coff_read.proofs.AddedTables.{before_same}
use Rattle.oc_coff_read.proofs.added_relocs.add_relocs_of.Goals as goal

pub returns-in-None : goal.returns-in-None
returns-in-None c =
    before_same c.args.context.word c.args.context.coff.now c.args.context.keep.now c.args.i c.args.position c.args.builder.now c.section-h.result c.section-h.ensures (sym c.kind_in.ensures ∙ c.in-None.is) c.requires.before
