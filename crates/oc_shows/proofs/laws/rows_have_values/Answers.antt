use Rattle.oc_shows.proofs.RowValueLaws as proven
use Rattle.oc_shows.proofs.laws.rows_have_values.Goals as goal

pub returns : goal.returns
returns c = proven.rows_have_values
