-- A file without faults shows what is built of it.
use Rattle.oc_coff_read.proofs.ShownFile as proven
use Rattle.oc_coff_read.proofs.laws.clean_is_shown.Goals as goal

pub returns : goal.returns
returns c = proven.clean_is_shown
