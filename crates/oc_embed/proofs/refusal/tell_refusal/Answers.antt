-- Each cause is told by its function.
use Rattle.oc_embed.specs.declared.refusal.Refusal.TheVariants.{NoMemory, NotText}
use Rattle.oc_embed.proofs.CallLaws.{tells}
use Rattle.oc_embed.proofs.refusal.tell_refusal.Goals as goal

pub returns-in-NotText : goal.returns-in-NotText
returns-in-NotText c = λ output. rw c.in-NotText.is (tells NotText output c.args.text.now c.tell_words.result output c.tell_words.new.text (c.tell_words.ensures output))

pub returns-in-NoMemory : goal.returns-in-NoMemory
returns-in-NoMemory c = λ output. rw c.in-NoMemory.is (tells NoMemory output c.args.text.now c.tell_memory.result output c.tell_memory.new.text (c.tell_memory.ensures output))
