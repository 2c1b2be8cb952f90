-- The fields of no entries, and of all.
use Rattle.std.proofs.Common.{◌≡◌, length, sym, ◌∙◌, arith}
use Rattle.oc_omf.specs.Entries.{places_in}
use Rattle.oc_omf_read.proofs.FieldLemmas.{fields_all, fields_none}
use Rattle.oc_omf_read.proofs.fields.fields_in.Goals as goal
use Rattle.oc_omf_judge.proofs.StageLaws.{entry_count}

pub loop-i-init : goal.loop-i-init
loop-i-init c = fields_none c.args.context.now c.new-fields.result.items c.new.result c.new-fields.ensures.items c.new.ensures

pub returns : goal.returns
returns c =
    let all : c.loop-i.i ≡ length (places_in c.args.context.now.omf.now) = omega (arith, c.count-i-end.ensures) in
    fields_all c.args.context.now c.loop-i.i c.loop-i.fields.items c.loop-i.behind (all ∙ sym (entry_count c.args.context.now.omf.now)) c.loop-i.invariant
