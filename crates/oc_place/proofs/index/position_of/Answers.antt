use Rattle.std.proofs.Common.{rules, sym}
use Rattle.std.specs.{Ordering.{nat_cmp}, Cmp.Lexicographic.{slice_cmp}}
use Rattle.std.proofs.lemmas.Fn.{always_returns_same}
use Rattle.oc_place.specs.declared.index.NamedSymbol.{NamedSymbol}
use Rattle.oc_place.proofs.IndexLemmas.{found_at, found_none}
use Rattle.oc_place.proofs.index.position_of.Goals as goal

pub returns-in-Ok-clause-position : goal.returns-in-Ok-clause-position
returns-in-Ok-clause-position c =
    let n = c.args.object.now in
    let fine = c.is_object.ensures.built.distinct in
    sym (found_at n fine c.args.names.now c.requires c.args.name.now c.in-Ok.index _ c.in-Ok.ensures.bound
    (c.in-Ok.ensures.position (λ (x : NamedSymbol). slice_cmp nat_cmp x.name.now c.args.name.now) (always_returns_same _ _ _ (λ a r f called. search rules)) _)).0

pub returns-in-Ok-clause-there : goal.returns-in-Ok-clause-there
returns-in-Ok-clause-there c =
    let n = c.args.object.now in
    let fine = c.is_object.ensures.built.distinct in
    (found_at n fine c.args.names.now c.requires c.args.name.now c.in-Ok.index _ c.in-Ok.ensures.bound
    (c.in-Ok.ensures.position (λ (x : NamedSymbol). slice_cmp nat_cmp x.name.now c.args.name.now) (always_returns_same _ _ _ (λ a r f called. search rules)) _)).1

pub returns-in-Err-clause-position : goal.returns-in-Err-clause-position
returns-in-Err-clause-position c =
    let n = c.args.object.now in
    let fine = c.is_object.ensures.built.distinct in
    sym (found_none n fine c.args.names.now c.requires c.args.name.now c.in-Err.field-0
    (c.in-Err.ensures.position (λ (x : NamedSymbol). slice_cmp nat_cmp x.name.now c.args.name.now) (always_returns_same _ _ _ (λ a r f called. search rules))))
