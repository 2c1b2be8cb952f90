use Rattle.oc_linking.proofs.FirstFaultLaws as proven
use Rattle.oc_linking.proofs.laws.first_fault_is_first.Goals as goal

pub returns : goal.returns
returns c = proven.first_fault_is_first
