use Rattle.oc_canonical.proofs.Stable as proven
use Rattle.oc_canonical.proofs.laws.elf_reads_back.Goals as goal

pub returns : goal.returns
returns c = proven.elf_reads_back
