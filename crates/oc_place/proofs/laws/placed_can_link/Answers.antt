use Rattle.oc_place.proofs.{FileLemmas.{file_can_link, input_can_link}, LinkingLemmas.{object_can_link}}
use Rattle.oc_place.proofs.laws.placed_can_link.Goals as goal

pub returns-clause-object : goal.returns-clause-object
returns-clause-object c = object_can_link

pub returns-clause-file : goal.returns-clause-file
returns-clause-file c = file_can_link

pub returns-clause-input : goal.returns-clause-input
returns-clause-input c = input_can_link
