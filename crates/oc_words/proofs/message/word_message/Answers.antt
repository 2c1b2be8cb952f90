use Rattle.std.proofs.Common.{◌∙◌, ap, append_assoc}
use Rattle.oc_words.specs.Messages.{word_message_of}
use Rattle.oc_words.proofs.message.word_message.Goals as goal

pub returns : goal.returns
unfolding word_message_of
returns c = c.from_vec.ensures ∙ ap (λ v. v.items) c.into_bytes.ensures.value ∙ c.in_ok-text.ensures.ok ∙ rw c.name_of-name.ensures (simp append_assoc)
