use Rattle.oc_canonical.proofs.OmfStable as proven
use Rattle.oc_canonical.proofs.laws.omf_reads_back.Goals as goal

pub returns : goal.returns
returns c = proven.omf_reads_back
