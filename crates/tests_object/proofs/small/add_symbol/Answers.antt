use Rattle.tests_object.proofs.SmallObjects.{symbol_bare}
use Rattle.tests_object.proofs.small.add_symbol.Goals as goal

pub returns : goal.returns
returns g c = symbol_bare c.args.strong c.args.builder.now c.add_symbol.new.self c.args.symbol c.requires.bare c.in_ok-add_symbol.ensures.added c.requires.plain
