-- Each turn writes the number of the next field.
use Rattle.std.proofs.Common.{ℕ, ◌≡◌, List, [], ◌∷◌, rules, refl, subst}
use Rattle.oc_chains.specs.declared.field.Field.{Field}
use Rattle.oc_neutral.specs.declared.reloc.Reloc.{Reloc}
use Rattle.oc_plans.specs.Numbered.{Numbering}
use Rattle.oc_plans.proofs.FieldBytes.{IsWriting, room_next, writing_there, writing_more, writing_done}
use Rattle.oc_plans.proofs.numbered.write_numbers.Goals as goal

pub loop-field-init : goal.loop-field-init
loop-field-init g c =
    let same : c.args.relocs ≡ c.into_iter-field-iterator.result = search rules in
    let Tells : Numbering → Type 0 = g.N.FieldNumbers.tells c.args.numbers.now in
    let Knows : ℕ → Reloc → Type 0 = g.N.FieldNumbers.knows c.args.numbers.now c.args.position in
    subst (λ (xs : List (Field Reloc)). IsWriting Tells Knows c.args.position c.args.relocs c.args.section.now xs c.args.section.now) same
    (record { long = refl; room = record { place = 0; apart = c.requires.apart; wide = c.requires.wide; inside = c.requires.inside }; there = c.requires.there; same = λ number_of tells. refl })

pub number-number-requires : goal.number-number-requires
number-number-requires g c =
    let step : c.loop-field.field-iterator ≡ c.in-Some.field ∷ c.next.new.self = search rules in
    writing_there (g.N.FieldNumbers.tells c.args.numbers.now) (g.N.FieldNumbers.knows c.args.numbers.now c.args.position)
    c.args.position c.args.relocs c.args.section.now c.loop-field.field-iterator c.in-Some.field c.next.new.self c.loop-field.section step c.loop-field.invariant

pub put-requires : goal.put-requires
put-requires g c =
    let step : c.loop-field.field-iterator ≡ c.in-Some.field ∷ c.next.new.self = search rules in
    room_next _ c.loop-field.field-iterator c.in-Some.field c.next.new.self step c.loop-field.invariant.room

pub loop-field-preserved : goal.loop-field-preserved
loop-field-preserved g c =
    let step : c.loop-field.field-iterator ≡ c.in-Some.field ∷ c.next.new.self = search rules in
    writing_more (g.N.FieldNumbers.tells c.args.numbers.now) (g.N.FieldNumbers.knows c.args.numbers.now c.args.position)
    c.args.position c.args.relocs c.args.section.now c.loop-field.field-iterator c.in-Some.field c.next.new.self c.loop-field.section step c.loop-field.invariant
    c.number-number.result c.number-number.ensures c.put.new.self c.put.ensures

pub returns-clause-long : goal.returns-clause-long
returns-clause-long g c = c.loop-field.invariant.long

pub returns-clause-numbers : goal.returns-clause-numbers
returns-clause-numbers g c =
    let none : c.loop-field.field-iterator ≡ [] = search rules in
    writing_done (g.N.FieldNumbers.tells c.args.numbers.now) (g.N.FieldNumbers.knows c.args.numbers.now c.args.position)
    c.args.position c.args.relocs c.args.section.now c.loop-field.field-iterator c.loop-field.section none c.loop-field.invariant
