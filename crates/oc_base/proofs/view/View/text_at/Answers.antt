-- No byte of the rest is NUL, so none at or after the place is.
use Rattle.std.proofs.Common.{List, ℕ, subst}
use Rattle.oc_base.specs.Texts.{HasNoTextAt}
use Rattle.oc_base.proofs.TextLemmas.{none_after}
use Rattle.oc_base.proofs.view.View.text_at.Goals as goal

pub returns-in-None : goal.returns-in-None
returns-in-None c =
    subst (λ (s : List ℕ). HasNoTextAt s c.args.at) c.self.view_is (none_after c.self.inside.bytes.now c.args.at c.in-None.ensures)
