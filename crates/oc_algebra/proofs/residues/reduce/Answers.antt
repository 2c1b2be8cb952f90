use Rattle.std.proofs.Common.{◌≡◌, arith, w64, to_z, of_z}
use Rattle.std.specs.Int.{w128}
use borrow.Author.Differences.{ints}
use Rattle.oc_algebra.specs.Residues.{reduced_number}
use Rattle.oc_algebra.proofs.Laws.{represents_law}
use Rattle.oc_algebra.proofs.residues.reduce.Goals as goal

pub returns-clause-representative : goal.returns-clause-representative
unfolding reduced_number
returns-clause-representative c =
    let narrow : to_z w64 (of_z w64 c.signed.result) ≡ c.signed.result = omega (arith, ints) in
    let wide : to_z w128 (of_z w128 c.args.n) ≡ c.args.n = omega (arith, ints) in
    rw (narrow, c.signed.ensures, c.residue.ensures, wide) (represents_law c.args.word c.args.n)
