-- The width of a type's meaning.
use Rattle.std.proofs.Common.{◌∙◌, sym}
use Rattle.oc_coff_judge.proofs.MeaningLemmas.{meant_none, meant_width}
use Rattle.oc_coff_judge.proofs.relocs.width_of.Goals as goal

pub returns-in-Some-clause-width : goal.returns-in-Some-clause-width
returns-in-Some-clause-width c = c.bytes.ensures ∙ sym (meant_width c.args.word c.args.r.now c.in-Some.meaning (sym c.meaning_of.ensures ∙ c.in-Some.is))

pub returns-in-None-clause-width : goal.returns-in-None-clause-width
returns-in-None-clause-width c = sym (meant_none c.args.word c.args.r.now (sym c.meaning_of.ensures ∙ c.in-None.is))
