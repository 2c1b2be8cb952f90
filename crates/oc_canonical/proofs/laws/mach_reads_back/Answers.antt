use Rattle.oc_canonical.proofs.Stable as proven
use Rattle.oc_canonical.proofs.laws.mach_reads_back.Goals as goal

pub returns : goal.returns
returns c = proven.mach_reads_back
