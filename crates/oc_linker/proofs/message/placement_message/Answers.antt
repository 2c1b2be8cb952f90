-- The text is put together.
use Rattle.std.proofs.Common.{◌∙◌, ap, append_assoc}
use Rattle.oc_linker.specs.Texts.{placement_text}
use Rattle.oc_linker.proofs.message.placement_message.Goals as goal

pub returns : goal.returns
unfolding placement_text
returns c = c.from_vec.ensures ∙ ap (λ v. v.items) c.into_bytes.ensures.value ∙ c.in_ok-text.ensures.ok ∙ rw c.name_of-name.ensures (simp append_assoc)
