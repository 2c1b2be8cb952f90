use Rattle.oc_words.proofs.Cutting.{behind_stripped}
use Rattle.oc_words.proofs.text.behind.Goals as goal

pub returns : goal.returns
returns c = behind_stripped _ _ _ c.strip_prefix.ensures.cases
