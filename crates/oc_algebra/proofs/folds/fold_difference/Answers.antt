use Rattle.std.proofs.Common.{◌≡◌, arith, to_z, of_z}
use Rattle.std.specs.Int.{w128}
use borrow.Author.Differences.{ints}
use Rattle.oc_algebra.proofs.FoldLaws.{stored_law}
use Rattle.oc_algebra.proofs.folds.fold_difference.Goals as goal

pub returns-then-fits-clause-stored : goal.returns-then-fits-clause-stored
returns-then-fits-clause-stored c =
    let wide : to_z w128 (of_z w128 c.from.result) ≡ c.args.value = omega (arith, ints) in
    rw (c.low.ensures, c.residue-residue.ensures, wide) (stored_law c.args.width c.args.check _)
