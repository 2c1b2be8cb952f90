use Rattle.oc_algebra.proofs.{FieldLaws.{written_law, read_law}, FoldLaws.{fits_signed-is}}
use Rattle.oc_algebra.proofs.exact.fields_are_exact.Goals as goal

pub returns : goal.returns
returns c = record { written = written_law; read = read_law; signed = fits_signed-is }
