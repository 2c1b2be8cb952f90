-- A section that is left out takes nothing.
use Rattle.std.proofs.Common.{sym, ◌∙◌, ap}
use Rattle.oc_linking.specs.Keeping.{keeps}
use Rattle.oc_macho.specs.Sections.{kind_of}
use Rattle.oc_macho_read.specs.Pins.{is_pinned_upto}
use Rattle.oc_macho_read.proofs.{PinLemmas.{pinned_kept, pinned_left}, TableLemmas.{table_of}}
use Rattle.oc_macho_read.proofs.pins.mark_section.Goals as goal

pub mark_table-requires : goal.mark_table-requires
mark_table-requires c = table_of c.args.frame.now c.args.i c.section-h.result c.requires.there c.requires.clean c.section-h.ensures c.has_entries.ensures

pub returns-then-not-keeps : goal.returns-then-not-keeps
returns-then-not-keeps c =
    pinned_left c.args.frame.now c.args.keep.now c.args.i c.args.marks.now.items c.requires.there
    (sym (c.keeps.ensures ∙ ap (keeps c.args.keep.now) (c.kind_of.ensures ∙ ap kind_of c.section-h.ensures)) ∙ c.if-not-keeps.true) c.requires.before

pub returns : goal.returns
returns c =
    pinned_kept c.args.frame.now c.args.keep.now c.args.i c.mark_table.new.marks.items c.requires.there
    (sym (c.keeps.ensures ∙ ap (keeps c.args.keep.now) (c.kind_of.ensures ∙ ap kind_of c.section-h.ensures)) ∙ c.if-not-keeps.false)
    (c.mark_table.ensures (is_pinned_upto c.args.frame.now c.args.keep.now c.args.i) c.requires.before)
