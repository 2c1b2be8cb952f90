use Rattle.oc_linking.proofs.FirstFaultLaws as proven
use Rattle.oc_linking.proofs.laws.no_fault_none_broken.Goals as goal

pub returns : goal.returns
returns c = proven.no_fault_none_broken
