-- The words of the block are those of the command.
use Rattle.std.proofs.Common.{rules, List, ℕ, subst}
use Rattle.std.specs.Str.{IsUtf8}
use Rattle.std.proofs.lemmas.Result.{IfOk-weaker}
use Rattle.oc_embed.specs.{Conversions.{IsConversion}, Words.{unended}}
use Rattle.oc_embed.proofs.words.asked.Goals as goal

pub returns-clause-asked : goal.returns-clause-asked
returns-clause-asked c =
    let text : IsUtf8 (unended c.args.block.now) = search rules in
    IfOk-weaker c.job.result _ _
    (λ wanted is. record { text = text; job = subst (λ (words : List (List ℕ)). IsConversion words wanted.to wanted.edits) c.in_ok-words.ensures is }) c.job.ensures.asked
