-- The section of that number has so many bytes.
use Rattle.std.proofs.lemmas.Bool.{ne_eqb}
use Rattle.oc_coff_judge.proofs.SizeLemmas.{size_at}
use Rattle.oc_coff_judge.proofs.symbols.ends_before.Goals as goal

pub returns : goal.returns
returns c = size_at c.args.coff.now c.args.k c.args.offset c.section-h.result (ne_eqb c.args.k 0 c.if-k-eq0.false) c.section-h.ensures
