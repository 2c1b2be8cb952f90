use Rattle.oc_canonical.proofs.Stable as proven
use Rattle.oc_canonical.proofs.laws.coff_reads_back.Goals as goal

pub returns : goal.returns
returns c = proven.coff_reads_back
