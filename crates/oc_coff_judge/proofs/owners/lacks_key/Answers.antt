-- The second symbol of the section is the key, where it is EXTERNAL.
use Rattle.oc_coff.specs.Files.{tables_in}
use Rattle.std.proofs.Common.{◌≡◌, ℕ, ◌+◌, ◌<◌, length, Some, sym, ◌∙◌, ap, arith}
use Rattle.std.specs.Prelude.{slice_index_or, None}
use Rattle.oc_coff_judge.specs.Numbered.{symbol_in}
use Rattle.oc_coff_judge.proofs.OwnerLemmas.{owner_there, key_there}
use Rattle.oc_coff_judge.proofs.owners.lacks_key.Goals as goal

pub is_key-requires : goal.is_key-requires
is_key-requires c =
    let low : c.args.k < length (tables_in c.args.coff.now).sections + 1 = omega (arith, c.requires.low) in
    let found : symbol_in (tables_in c.args.coff.now) 1 c.args.k ≡ Some c.in-Some.j
    = sym (c.requires.owners.seconds_are.each c.args.k low) ∙ sym (c.get.ensures ∙ ap (λ (n : ℕ). slice_index_or c.args.owners.now.seconds.now n None) c.from.ensures) ∙ c.in-Some.is in
    (owner_there c.args.coff.now c.is_headed.ensures 1 c.args.k c.in-Some.j found).low

pub returns-in-Some : goal.returns-in-Some
returns-in-Some c =
    let low : c.args.k < length (tables_in c.args.coff.now).sections + 1 = omega (arith, c.requires.low) in
    let found : symbol_in (tables_in c.args.coff.now) 1 c.args.k ≡ Some c.in-Some.j
    = sym (c.requires.owners.seconds_are.each c.args.k low) ∙ sym (c.get.ensures ∙ ap (λ (n : ℕ). slice_index_or c.args.owners.now.seconds.now n None) c.from.ensures) ∙ c.in-Some.is in
    key_there c.args.coff.now c.args.k c.in-Some.j c.is_key.result (owner_there c.args.coff.now c.is_headed.ensures 1 c.args.k c.in-Some.j found) c.is_key.ensures
