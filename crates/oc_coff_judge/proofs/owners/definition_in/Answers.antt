-- The first symbol of the section says it.
use Rattle.oc_coff.specs.Files.{tables_in}
use Rattle.std.proofs.Common.{◌≡◌, ℕ, ◌+◌, ◌<◌, length, Some, sym, ◌∙◌, ap, arith}
use Rattle.std.specs.Prelude.{slice_index_or, None}
use Rattle.std.proofs.lemmas.Bool.{ne_eqb}
use Rattle.oc_coff_judge.specs.Numbered.{symbol_in}
use Rattle.oc_coff_judge.proofs.OwnerLemmas.{owner_there, defined_not, defined_some}
use Rattle.oc_coff_judge.proofs.owners.definition_in.Goals as goal

pub returns-then-not-is_comdat : goal.returns-then-not-is_comdat
returns-then-not-is_comdat c =
    sym (defined_not c.args.coff.now c.args.k c.section.result (ne_eqb c.args.k 0 c.if-k-eq0.false) c.section.ensures (sym c.is_comdat.ensures ∙ c.if-not-is_comdat.true))

pub own_definition-requires : goal.own_definition-requires
own_definition-requires c =
    let low : c.args.k < length (tables_in c.args.coff.now).sections + 1 = omega (arith, c.if-count-k.false, c.section_count-count.ensures) in
    let found : symbol_in (tables_in c.args.coff.now) 0 c.args.k ≡ Some c.in-Some.j
    = sym (c.requires.owners.firsts_are.each c.args.k low) ∙ sym (c.get.ensures ∙ ap (λ (n : ℕ). slice_index_or c.args.owners.now.firsts.now n None) c.from.ensures) ∙ c.in-Some.is in
    (owner_there c.args.coff.now c.is_headed.ensures 0 c.args.k c.in-Some.j found).low

pub returns-in-Some : goal.returns-in-Some
returns-in-Some c =
    let low : c.args.k < length (tables_in c.args.coff.now).sections + 1 = omega (arith, c.if-count-k.false, c.section_count-count.ensures) in
    let found : symbol_in (tables_in c.args.coff.now) 0 c.args.k ≡ Some c.in-Some.j
    = sym (c.requires.owners.firsts_are.each c.args.k low) ∙ sym (c.get.ensures ∙ ap (λ (n : ℕ). slice_index_or c.args.owners.now.firsts.now n None) c.from.ensures) ∙ c.in-Some.is in
    c.own_definition.ensures
    ∙ sym (defined_some c.args.coff.now c.args.k c.in-Some.j c.section.result (ne_eqb c.args.k 0 c.if-k-eq0.false) c.section.ensures (sym c.is_comdat.ensures ∙ c.if-not-is_comdat.false)
    (owner_there c.args.coff.now c.is_headed.ensures 0 c.args.k c.in-Some.j found))
