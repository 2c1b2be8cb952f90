use Rattle.std.proofs.Common.{refl}
use Rattle.oc_omf.proofs.laws.omf_is_dialect.Goals as goal

pub returns : goal.returns
returns c = record { word = refl; output_align = λ align. refl; common_align = λ size align. refl }
