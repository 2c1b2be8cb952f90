use Rattle.std.proofs.Common.{◌∙◌, ◌+◌, ◌∷◌, ap, take}
use Rattle.oc_place.specs.Parts.{parts_of}
use Rattle.oc_place.proofs.SplitLemmas.{split_found, split_none, rest_again}
use Rattle.oc_place.proofs.parts.cut.Goals as goal

pub returns-in-Some : goal.returns-in-Some
returns-in-Some c = split_found 32 c.args.text.now c.in-Some.end c.in-Some.ensures.0 c.in-Some.ensures.1
    ∙ ap (λ rest. take c.in-Some.end c.args.text.now ∷ parts_of rest) (rest_again c.args.text.now (c.in-Some.end + 1))

pub returns-in-None : goal.returns-in-None
returns-in-None c = split_none 32 c.args.text.now c.in-None.ensures
