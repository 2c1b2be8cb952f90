use Rattle.oc_shows.proofs.NormalValues as proven
use Rattle.oc_shows.proofs.laws.normal_form_keeps_values.Goals as goal

pub returns : goal.returns
returns c = proven.keeps_value
