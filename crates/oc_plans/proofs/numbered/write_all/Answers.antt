-- Each turn writes the numbers of one section.
use Rattle.std.proofs.Common.{ℕ, ◌≤◌, ◌<◌, List, length, get_or, refl, sym, ◌∙◌, ap, subst, arith}
use Rattle.std.specs.List.{AllByRecursion}
use Rattle.oc_chains.specs.declared.field.Field.{Field}
use Rattle.oc_neutral.specs.{declared.reloc.Reloc.{Reloc}, Constants.{EndsWithin}}
use Rattle.oc_plans.specs.Numbered.{AreAll, Numbering, with_numbers}
use Rattle.oc_plans.proofs.FieldBytes.{inside_now, inside_next, section_more, sections_done, sections_long}
use Rattle.oc_plans.proofs.numbered.write_all.Goals as goal

pub loop-k-init : goal.loop-k-init
loop-k-init g c = record { sized = refl; same = λ number_of tells. refl }

pub bounds-sections-k : goal.bounds-sections-k
bounds-sections-k g c =
    let inside : c.loop-k.k < length c.args.relocs.now.lists = omega (arith, c.loop-k-test.true, c.section_count-k-end.ensures) in
    inside_now (g.N.FieldNumbers.tells c.args.numbers.now) c.args.relocs.now.lists c.args.sections.now c.requires.within c.loop-k.k inside c.loop-k.sections c.loop-k.invariant

pub write_numbers-requires-clause-there : goal.write_numbers-requires-clause-there
write_numbers-requires-clause-there g c =
    let k = c.loop-k.k in
    let inside : k < length c.args.relocs.now.lists = omega (arith, c.loop-k-test.true, c.section_count-k-end.ensures) in
    let Knows : ℕ → Reloc → Type 0 = g.N.FieldNumbers.knows c.args.numbers.now k in
    subst (AreAll Knows) (sym c.walk.ensures.items) (c.requires.there k inside)

pub write_numbers-requires-clause-inside : goal.write_numbers-requires-clause-inside
write_numbers-requires-clause-inside g c =
    let k = c.loop-k.k in
    let d = c.index-sections-k.result in
    let inside : k < length c.args.relocs.now.lists = omega (arith, c.loop-k-test.true, c.section_count-k-end.ensures) in
    subst (λ (xs : List (Field Reloc)). AllByRecursion (EndsWithin (length (get_or c.loop-k.sections k d).bytes)) xs) (sym c.walk.ensures.items)
    (inside_next (g.N.FieldNumbers.tells c.args.numbers.now) c.args.relocs.now.lists c.args.sections.now c.requires.within k inside c.loop-k.sections c.loop-k.invariant d)

pub loop-k-preserved : goal.loop-k-preserved
loop-k-preserved g c =
    let k = c.loop-k.k in
    let d = c.index-sections-k.result in
    let inside : k < length c.args.relocs.now.lists = omega (arith, c.loop-k-test.true, c.section_count-k-end.ensures) in
    section_more (g.N.FieldNumbers.tells c.args.numbers.now) c.args.relocs.now.lists c.args.sections.now c.requires.within k inside c.loop-k.sections c.loop-k.invariant
    d c.write_numbers.new.section c.write_numbers.ensures.long
    (λ (number_of : Numbering) tells. c.write_numbers.ensures.numbers number_of tells ∙ ap (λ (xs : List (Field Reloc)). with_numbers (number_of k) xs (get_or c.loop-k.sections k d)) c.walk.ensures.items)

pub returns-clause-long : goal.returns-clause-long
returns-clause-long g c = sections_long (g.N.FieldNumbers.tells c.args.numbers.now) c.args.relocs.now.lists c.args.sections.now c.loop-k.sections c.loop-k.k c.loop-k.invariant

pub returns-clause-numbers : goal.returns-clause-numbers
returns-clause-numbers g c =
    let past : length c.args.sections.now ≤ c.loop-k.k = omega (arith, c.loop-k-test.false, c.section_count-k-end.ensures, c.requires.within.counted) in
    sections_done (g.N.FieldNumbers.tells c.args.numbers.now) c.args.relocs.now.lists c.args.sections.now c.loop-k.sections c.loop-k.k past c.loop-k.invariant
