-- By the sections and the symbols.
use Rattle.oc_omf_read.proofs.{ReadableLemmas.{readable}, StartLemmas.{is_started}}
use Rattle.oc_omf_read.proofs.laws.starts_are_well.Goals as goal

pub returns : goal.returns
returns c = λ file keep. record { started_is = is_started file keep; readable = readable file }
