use Rattle.std.proofs.Common.{◌∙◌, ap, append_assoc}
use Rattle.objconv.specs.Making.{summary_of}
use Rattle.objconv.proofs.making.summary.Goals as goal

pub returns : goal.returns
unfolding summary_of
returns c = c.from_vec.ensures ∙ ap (λ v. v.items) c.into_bytes.ensures.value ∙ c.in_ok-text.ensures.ok ∙ simp append_assoc
