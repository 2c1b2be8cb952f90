use Rattle.oc_target.proofs.MeetsElf as proven
use Rattle.oc_target.proofs.target_laws.fitted_meets_elf.Goals as goal

pub returns : goal.returns
returns c = proven.meets_elf
