-- A pair has the entry behind it.
use Rattle.std.proofs.Common.{Option, Some, sym, ◌∙◌, ap}
use Rattle.oc_base.specs.declared.format.Word.{Word}
use Rattle.oc_macho.specs.{declared.relocation_info.RelocationInfo.{RelocationInfo}, Entries.{is_first}, Framed.{table_at}}
use Rattle.oc_macho_judge.proofs.RelocLemmas.{item_is}
use Rattle.oc_macho_judge.proofs.relocs.item_of.Goals as goal

pub returns-then-is_first-clause-item : goal.returns-then-is_first-clause-item
returns-then-is_first-clause-item c =
    item_is c.args.frame.now.word (table_at c.args.frame.now c.args.i).relocs c.args.k c.entry-first.result _ c.requires.begins c.entry-first.ensures.entry
    (c.if-is_first.ensures ∙ ap (λ (w : Word). is_first w c.entry-first.result) c.word.ensures)
    ∙ ap (λ (o : Option RelocationInfo). Some (record { first = c.entry-first.result; second = o })) (sym c.next_entry-second.ensures)

pub returns-else-is_first-clause-item : goal.returns-else-is_first-clause-item
returns-else-is_first-clause-item c =
    item_is c.args.frame.now.word (table_at c.args.frame.now c.args.i).relocs c.args.k c.entry-first.result _ c.requires.begins c.entry-first.ensures.entry
    (c.if-is_first.ensures ∙ ap (λ (w : Word). is_first w c.entry-first.result) c.word.ensures)
