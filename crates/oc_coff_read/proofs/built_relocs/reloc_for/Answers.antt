-- The relocation of an entry is that of the row of its type.
use Rattle.std.proofs.Common.{ℕ, ◌+◌, ◌≤◌, ◌∙◌, length, sym, subst}
use Rattle.oc_coff_read.proofs.MeantRelocs.{made_none, made_some}
use Rattle.oc_coff_read.proofs.built_relocs.reloc_for.Goals as goal
use Rattle.oc_coff_judge.proofs.MeaningLemmas.{meant_width}

pub returns-in-Some : goal.returns-in-Some
returns-in-Some c = λ s. c.reloc_with.ensures ∙ made_some c.args.word c.args.coff.now c.is_headed.ensures c.args.contents.now c.args.r.now c.in-Some.meaning (sym c.meaning_of.ensures ∙ c.in-Some.is) c.requires.aimed s

pub returns-in-None : goal.returns-in-None
returns-in-None c = λ s. made_none c.args.word c.args.coff.now c.is_headed.ensures c.args.contents.now c.args.r.now (sym c.meaning_of.ensures ∙ c.in-None.is) s

pub reloc_with-requires-clause-inside : goal.reloc_with-requires-clause-inside
reloc_with-requires-clause-inside c =
    subst (λ (n : ℕ). c.args.r.now.VirtualAddress + n ≤ length c.args.contents.now) (meant_width c.args.word c.args.r.now c.in-Some.meaning (sym c.meaning_of.ensures ∙ c.in-Some.is)) c.requires.inside
