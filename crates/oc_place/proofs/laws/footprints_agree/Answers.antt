use Rattle.oc_place.proofs.FootprintLemmas as proven
use Rattle.oc_place.proofs.laws.footprints_agree.Goals as goal

pub returns : goal.returns
returns c = proven.footprints_agree
