-- The words of the command ask for no other job.
use Rattle.std.proofs.Common.{◌≡◌, Ok, subst, sym, ap, ◌∙◌}
use Rattle.oc_words.specs.{declared.job.Job.TheVariants.{Symbols, Make}, Jobs.{job_of}}
use Rattle.oc_embed.specs.Words.{command}
use Rattle.oc_embed.proofs.WordLaws.{Converts, command_converts}
use Rattle.oc_embed.proofs.words.job.Goals as goal

pub unreachable-requires : goal.unreachable-requires
unreachable-requires c =
    let job = c.in-Ok-Symbols in
    let asked : job_of (command c.requires.0) ≡ Ok (Symbols job.field-0-0) = ap job_of (sym c.requires.1) ∙ c.in-Ok-Symbols.ensures.job ∙ ap Ok job.field-0-is in
    subst Converts asked (command_converts c.requires.0)

pub unreachable-requires-in-Ok-Make : goal.unreachable-requires-in-Ok-Make
unreachable-requires-in-Ok-Make c =
    let job = c.in-Ok-Make in
    let asked : job_of (command c.requires.0) ≡ Ok (Make job.field-0-0 job.field-0-1 job.field-0-2) = ap job_of (sym c.requires.1) ∙ c.in-Ok-Make.ensures.job ∙ ap Ok job.field-0-is in
    subst Converts asked (command_converts c.requires.0)
