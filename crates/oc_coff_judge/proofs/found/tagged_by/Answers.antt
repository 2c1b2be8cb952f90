-- The slot of what is tagged says whether that is a symbol.
use Rattle.std.proofs.Common.{◌∙◌, sym}
use Rattle.oc_coff_judge.proofs.StartLemmas.{tag_lost, tag_none, tag_there}
use Rattle.oc_coff_judge.proofs.found.tagged_by.Goals as goal

pub returns-in-None : goal.returns-in-None
returns-in-None c = tag_none c.args.coff.now c.is_headed.ensures c.args.j (sym c.tag_of.ensures ∙ c.in-None.is)

pub returns-in-Some-get : goal.returns-in-Some-get
returns-in-Some-get c =
    tag_there c.args.coff.now c.is_headed.ensures c.args.starts.now c.requires.starts c.args.j c.in-Some.tag c.in-Some-get.d (sym c.tag_of.ensures ∙ c.in-Some.is) (sym c.get.ensures ∙ c.in-Some-get.is)

pub returns-in-None-get : goal.returns-in-None-get
returns-in-None-get c = tag_lost c.args.coff.now c.is_headed.ensures c.args.starts.now c.requires.starts c.args.j c.in-Some.tag (sym c.tag_of.ensures ∙ c.in-Some.is) (sym c.get.ensures ∙ c.in-None-get.is)
