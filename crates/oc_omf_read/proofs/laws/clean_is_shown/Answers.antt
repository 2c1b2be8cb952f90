-- Each field is given, and what is built of fields shows the module.
use Rattle.oc_shows.proofs.BuiltLaws.{built_shows}
use Rattle.oc_omf.specs.{Entries.{entries_in}, Rules.{omf_dialect}}
use Rattle.oc_omf_read.specs.{Built.{started}, Given.{given_at}}
use Rattle.oc_omf_read.proofs.{GivenFields.{free_or_given}, StartLemmas.{is_started}}
use Rattle.oc_omf_read.proofs.laws.clean_is_shown.Goals as goal

pub returns : goal.returns
returns c = λ file keep d draft has.
    built_shows omf_dialect file keep (started file) d (given_at (entries_in file) keep) (is_started file keep draft) has (free_or_given file keep (started file).object (is_started file keep draft).symbols)
