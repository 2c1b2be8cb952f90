-- Nothing is defined at first.
use Rattle.std.proofs.Common.{refl}
use Rattle.oc_omf_judge.proofs.DefinedLemmas.{nothing_defined}
use Rattle.oc_omf_judge.proofs.defined.Defined.new.Goals as goal

pub returns : goal.returns
returns c = nothing_defined _ c.new.ensures.items c.new-2.ensures.items c.new-3.ensures.items c.new-4.ensures.items refl c.new-5.ensures
