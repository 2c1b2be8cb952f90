use Rattle.std.proofs.Common.{refl, arith}
use Rattle.tests_object.proofs.small.code.Goals as goal

pub returns-clause-alone : goal.returns-clause-alone
returns-clause-alone c = let least = c.requires.least in record { align = (4, omega arith, refl); group = refl; long = omega (arith, least) }
