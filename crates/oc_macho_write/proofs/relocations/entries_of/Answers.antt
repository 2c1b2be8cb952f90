-- Each turn adds the entries of the next field.
use Rattle.std.proofs.Common.{◌≡◌, [], ◌∷◌, rules}
use Rattle.oc_chains.specs.Lists.{list_of}
use Rattle.oc_macho_file.proofs.CodedLaws.{for_mach}
use Rattle.oc_macho_write.proofs.{RelocationLemmas.{making_begun, making_can, making_more, making_done}, SceneLemmas.{all_can, scene_ready, sized_numbers}}
use Rattle.oc_macho_write.proofs.relocations.entries_of.Goals as goal

pub loop-field-init : goal.loop-field-init
loop-field-init c =
    let n = c.args.neutral.now in
    let x = c.args.context in
    let none : c.new-entries.result.items ≡ [] = search rules in
    let same : c.into_iter-field-iterator.result ≡ list_of n.relocs c.args.section = search rules in
    making_begun x n c.args.section (all_can n x (for_mach x.word n c.requires.fitted) c.requires.context c.args.section) c.new-entries.result.items c.into_iter-field-iterator.result none same

pub add_entries-requires-clause-ready : goal.add_entries-requires-clause-ready
add_entries-requires-clause-ready c = scene_ready c.args.neutral.now c.args.context (for_mach c.args.context.word c.args.neutral.now c.requires.fitted) c.requires.context

pub add_entries-requires-clause-can : goal.add_entries-requires-clause-can
add_entries-requires-clause-can c =
    let step : c.loop-field.field-iterator ≡ c.in-Some.field ∷ c.next.new.self = search rules in
    making_can c.args.context c.args.neutral.now c.args.section c.loop-field.entries.items c.loop-field.field-iterator c.in-Some.field c.next.new.self step c.loop-field.invariant

pub add_entries-requires-clause-numbers : goal.add_entries-requires-clause-numbers
add_entries-requires-clause-numbers c = sized_numbers c.args.neutral.now c.args.context (for_mach c.args.context.word c.args.neutral.now c.requires.fitted) c.requires.context c.args.numbers.now c.requires.numbers.sized

pub loop-field-preserved : goal.loop-field-preserved
loop-field-preserved c =
    let n = c.args.neutral.now in
    let step : c.loop-field.field-iterator ≡ c.in-Some.field ∷ c.next.new.self = search rules in
    making_more c.args.context n c.args.section c.loop-field.entries.items c.loop-field.field-iterator c.in-Some.field c.next.new.self step c.loop-field.invariant
    c.add_entries.new.entries.items (c.in_ok-add_entries.ensures n c.requires.context c.requires.numbers)

pub returns : goal.returns
returns c =
    let none : c.loop-field.field-iterator ≡ [] = search rules in
    making_done c.args.context c.args.neutral.now c.args.section c.loop-field.entries.items c.loop-field.field-iterator none c.loop-field.invariant
