use Rattle.std.proofs.Common.{refl, arith}
use Rattle.tests_object.proofs.express.named.Goals as goal

pub returns-clause-alone : goal.returns-clause-alone
returns-clause-alone c = record { align = (2, omega arith, refl); group = refl; long = omega arith }
