-- An entry has threads and fixups, or else data or none.
use Rattle.std.proofs.Common.{sym}
use Rattle.std.proofs.lemmas.Result.{on_ok_weaker}
use Rattle.oc_omf_read.proofs.{DefinedLemmas.{entry_here}, FieldLemmas.{not_fixups, with_data}}
use Rattle.oc_omf_read.proofs.fields.take_entry.Goals as goal

pub take_subrecords-requires-clause-low : goal.take_subrecords-requires-clause-low
take_subrecords-requires-clause-low c = c.requires.before.low

pub returns-in-Fixups : goal.returns-in-Fixups
returns-in-Fixups c =
    let here = entry_here c.args.context.now.omf.now c.args.i c.entry-entry.result.place c.entry-entry.result c.entry-entry.ensures.place c.entry-entry.ensures.entry in
    on_ok_weaker c.take_subrecords.result (λ taken. taken c.args.i here c.requires.before) c.take_subrecords.ensures

pub returns-in-Names : goal.returns-in-Names
returns-in-Names c =
    let here = entry_here c.args.context.now.omf.now c.args.i c.entry-entry.result.place c.entry-entry.result c.entry-entry.ensures.place c.entry-entry.ensures.entry in
    on_ok_weaker c.take_data.result
    (λ has. with_data c.args.context.now c.args.i c.entry-entry.result c.requires.clean here c.class_of.result (sym c.class_of.ensures) (not_fixups c.class_of.result c.in-Names.is) c.args.fields.now.items c.args.behind.now c.take_data.new.behind c.requires.before has)
    c.take_data.ensures
