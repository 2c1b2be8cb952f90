-- The relocation of a field is that of the row of its type.
use Rattle.std.proofs.Common.{Some, sym, ◌∙◌, ap}
use Rattle.oc_base.specs.declared.format.Word.{Word}
use Rattle.oc_macho.specs.{Framed.{table_at}, Meanings.{meaning_of}}
use Rattle.oc_macho_judge.proofs.SectionLemmas.{there}
use Rattle.oc_neutral.specs.declared.reloc.Reloc.{Reloc}
use Rattle.oc_macho_read.proofs.MeantLemmas.{made_none, made_some, meant_width, stored_inside}
use Rattle.oc_macho_read.proofs.built_relocs.reloc_for.Goals as goal

pub reloc_with-requires-clause-stored : goal.reloc_with-requires-clause-stored
reloc_with-requires-clause-stored c =
    (stored_inside c.args.h.now c.args.item.now _ c.requires.inside
    (meant_width c.args.frame.now.word c.args.item.now.first c.in-Some.meaning (sym (c.meaning_of.ensures ∙ ap (λ (w : Word). meaning_of w c.args.item.now.first) c.word.ensures) ∙ c.in-Some.is))).0

pub reloc_with-requires-clause-inside : goal.reloc_with-requires-clause-inside
reloc_with-requires-clause-inside c =
    (stored_inside c.args.h.now c.args.item.now _ c.requires.inside
    (meant_width c.args.frame.now.word c.args.item.now.first c.in-Some.meaning (sym (c.meaning_of.ensures ∙ ap (λ (w : Word). meaning_of w c.args.item.now.first) c.word.ensures) ∙ c.in-Some.is))).1

pub returns-in-Some : goal.returns-in-Some
returns-in-Some c =
    ap (λ (r : Reloc). Some r) c.reloc_with.ensures
    ∙ made_some c.args.frame.now c.args.known.now.keep c.args.i (table_at c.args.frame.now c.args.i) (there c.args.frame.now c.args.i c.requires.table.there) c.args.item.now c.requires.aimed c.in-Some.meaning
    (sym (c.meaning_of.ensures ∙ ap (λ (w : Word). meaning_of w c.args.item.now.first) c.word.ensures) ∙ c.in-Some.is)

pub returns-in-None : goal.returns-in-None
returns-in-None c =
    made_none c.args.frame.now c.args.known.now.keep c.args.i (table_at c.args.frame.now c.args.i) (there c.args.frame.now c.args.i c.requires.table.there) c.args.item.now c.requires.aimed
    (sym (c.meaning_of.ensures ∙ ap (λ (w : Word). meaning_of w c.args.item.now.first) c.word.ensures) ∙ c.in-None.is)
