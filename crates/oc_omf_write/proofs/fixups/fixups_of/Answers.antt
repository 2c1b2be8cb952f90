-- Each turn adds the fixup of the next field.
use Rattle.std.proofs.Common.{◌≡◌, [], ◌∷◌, rules}
use Rattle.oc_chains.specs.Lists.{list_of}
use Rattle.oc_omf_file.proofs.CodedLaws.{for_omf}
use Rattle.oc_omf_write.proofs.FixupLemmas.{making_begun, making_has, making_row, making_more, making_done}
use Rattle.oc_omf_write.proofs.fixups.fixups_of.Goals as goal

pub loop-field-init : goal.loop-field-init
loop-field-init c =
    let same : c.into_iter-field-iterator.result ≡ list_of c.args.neutral.now.relocs c.args.section = search rules in
    making_begun c.args.neutral.now c.args.numbers.now c.args.section (for_omf c.args.neutral.now c.requires.fitted) c.requires.numbers
    c.in_ok-fixups.fixups.items c.into_iter-field-iterator.result c.in_ok-fixups.ensures.items same

pub fixup_of-requires-clause-row : goal.fixup_of-requires-clause-row
fixup_of-requires-clause-row c =
    let step : c.loop-field.field-iterator ≡ c.in-Some.field ∷ c.next.new.self = search rules in
    making_row c.args.neutral.now c.args.numbers.now c.args.section c.loop-field.fixups.items c.loop-field.field-iterator c.in-Some.field c.next.new.self step c.loop-field.invariant

pub fixup_of-requires-clause-index : goal.fixup_of-requires-clause-index
fixup_of-requires-clause-index c =
    let step : c.loop-field.field-iterator ≡ c.in-Some.field ∷ c.next.new.self = search rules in
    making_has c.args.neutral.now c.args.numbers.now c.args.section c.loop-field.fixups.items c.loop-field.field-iterator c.in-Some.field c.next.new.self step c.loop-field.invariant

pub loop-field-preserved : goal.loop-field-preserved
loop-field-preserved c =
    let step : c.loop-field.field-iterator ≡ c.in-Some.field ∷ c.next.new.self = search rules in
    making_more c.args.neutral.now c.args.numbers.now c.args.section c.loop-field.fixups.items c.loop-field.field-iterator c.in-Some.field c.next.new.self step c.loop-field.invariant
    c.fixup_of.result c.fixup_of.ensures c.push.new.self.items c.in_ok-push.ensures.items

pub returns : goal.returns
returns c =
    let none : c.loop-field.field-iterator ≡ [] = search rules in
    making_done c.args.neutral.now c.args.numbers.now c.args.section c.loop-field.fixups.items c.loop-field.field-iterator none c.loop-field.invariant
