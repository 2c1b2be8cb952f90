-- The message is told, or lack of memory.
use Rattle.std.proofs.Common.{inr, refl, ◌∙◌}
use Rattle.oc_words.specs.Messages.{word_message_of}
use Rattle.oc_embed.specs.declared.refusal.Refusal.TheVariants.{Word}
use Rattle.oc_embed.specs.Said.{no_memory}
use Rattle.oc_embed.proofs.CallLaws.{left_as, tells}
use Rattle.oc_embed.proofs.refusal.tell_word.Goals as goal

pub returns-in-Ok : goal.returns-in-Ok
returns-in-Ok c = λ output.
    tells (Word c.args.index c.args.code) output c.args.text.now c.tell.result output c.tell.new.text
    (left_as 3 3 c.as_slice.result.now (word_message_of c.args.index c.args.code) output c.args.text.now c.tell.result output c.tell.new.text
    refl (c.as_slice.ensures ∙ c.in-Ok.ensures) (c.tell.ensures output))

pub returns-in-Err : goal.returns-in-Err
returns-in-Err c = λ output. record { said = no_memory; says = inr refl; leaves = c.tell_memory.ensures output }
