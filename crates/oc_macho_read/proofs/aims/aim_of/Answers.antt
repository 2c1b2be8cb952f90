-- The symbol of a reference to which a field can refer is in the table, and a section holds its address.
use Rattle.std.proofs.Common.{subst}
use Rattle.oc_macho_read.specs.Given.{IsAimed}
use Rattle.oc_macho_read.proofs.MeantLemmas.{aimed_low}
use Rattle.oc_macho_read.proofs.aims.aim_of.Goals as goal

pub symbol_aim-requires-clause-there : goal.symbol_aim-requires-clause-there
symbol_aim-requires-clause-there c = aimed_low c.args.frame.now c.in-Symbol.j (subst (IsAimed c.args.frame.now) c.in-Symbol.is c.requires.aimed)

pub holder_aim-requires-clause-aimed : goal.holder_aim-requires-clause-aimed
holder_aim-requires-clause-aimed c = subst (IsAimed c.args.frame.now) c.in-Address.is c.requires.aimed
