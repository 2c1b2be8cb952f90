use Rattle.std.proofs.Common.{[], ◌∷◌, ◌++◌, length, ◌∙◌, ap, arith, subst, sym}
use Rattle.oc_neutral.specs.Objects.{Object}
use Rattle.tests_object.specs.Small.{IsBare}
use Rattle.tests_object.proofs.SmallObjects.{first_bare, symbol_is}
use Rattle.tests_object.proofs.small.add_first.Goals as goal

pub add_symbol-requires : goal.add_symbol-requires
add_symbol-requires c = let none = ap length c.requires.none in record { room = omega (arith, none) }

pub returns-clause-bare : goal.returns-clause-bare
returns-clause-bare c =
    subst (λ b. IsBare b c.add_symbol.new.self.object) (sym c.can_be_named-strong.ensures)
    (first_bare c.args.builder.now c.add_symbol.new.self c.args.symbol c.requires.bare c.requires.none c.in_ok-add_symbol.ensures.added c.requires.plain)

pub returns-clause-one : goal.returns-clause-one
returns-clause-one c =
    ap (λ (n : Object). length n.symbols) (symbol_is c.args.builder.now c.add_symbol.new.self c.args.symbol c.in_ok-add_symbol.ensures.added)
    ∙ ap (λ symbols. length (symbols ++ c.args.symbol ∷ [])) c.requires.none

pub returns-clause-sections : goal.returns-clause-sections
returns-clause-sections c = ap (λ (n : Object). n.sections) (symbol_is c.args.builder.now c.add_symbol.new.self c.args.symbol c.in_ok-add_symbol.ensures.added)

pub returns-clause-format : goal.returns-clause-format
returns-clause-format c = ap (λ (n : Object). n.format) (symbol_is c.args.builder.now c.add_symbol.new.self c.args.symbol c.in_ok-add_symbol.ensures.added)
