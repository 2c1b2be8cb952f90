-- What a pair takes is something to which a field can refer.
use Rattle.std.proofs.Common.{sym, ◌∙◌, ap}
use Rattle.oc_base.specs.declared.format.Word.{Word}
use Rattle.oc_macho.specs.Entries.{taken_reference}
use Rattle.oc_macho_read.proofs.MeantLemmas.{taken_aimed}
use Rattle.oc_macho_read.proofs.aims.taken_aim.Goals as goal

pub aim_of-requires-clause-aimed : goal.aim_of-requires-clause-aimed
aim_of-requires-clause-aimed c =
    taken_aimed c.args.frame.now c.args.item.now c.in-Some.r c.requires.aimed (sym (c.taken.ensures ∙ ap (λ (w : Word). taken_reference w c.args.item.now) c.word.ensures) ∙ c.in-Some.is)
