-- Where no field begins, nothing is taken.
use Rattle.std.proofs.Common.{sym, ◌∙◌, ap, subst}
use Rattle.oc_base.specs.declared.format.Word.{Word}
use Rattle.oc_macho.specs.{Entries.{item_at, taken_reference}, Framed.{table_at}}
use Rattle.oc_macho_read.specs.Pins.{AreMarks, marked}
use Rattle.oc_macho_read.proofs.PinLemmas.{marked_more, marked_none}
use Rattle.oc_macho_read.proofs.pins.mark_entry.Goals as goal

pub returns-then-not-begins : goal.returns-then-not-begins
returns-then-not-begins c = λ test are.
    marked_none c.args.frame.now test c.args.marks.now.items (table_at c.args.frame.now c.args.i).relocs c.args.k (sym c.requires.begins ∙ c.if-not-begins.true) are

pub returns : goal.returns
returns c = λ test are.
    let t = c.args.frame.now in
    let taken = c.taken.ensures ∙ ap (λ (w : Word). taken_reference w c.item_of-item.result) c.word.ensures in
    subst (AreMarks t _) (sym (c.mark.ensures ∙ ap (marked c.args.marks.now.items) taken))
    (marked_more t test c.args.marks.now.items (item_at t.word (table_at t c.args.i).relocs c.args.k) c.item_of-item.result c.item_of-item.ensures.item are)
