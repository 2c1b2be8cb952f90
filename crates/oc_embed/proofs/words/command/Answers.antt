-- There are few words.
use Rattle.std.proofs.Common.{[], ◌∷◌, length, ap, arith, length-append}
use Rattle.std.specs.Prelude.{codes}
use Rattle.oc_embed.proofs.WordLaws.{few_words}
use Rattle.oc_embed.proofs.words.command.Goals as goal

pub push-requires : goal.push-requires
push-requires c = omega (arith, few_words c.args.block.now, ap length c.in_ok-words.ensures, c.requires.size)

pub push-requires-2 : goal.push-requires-2
push-requires-2 c =
    omega (arith, few_words c.args.block.now, ap length c.in_ok-words.ensures, ap length c.in_ok-push.ensures.ok, length-append c.in_ok-words.words (codes "IN" ∷ []), c.requires.size)
