-- The checksum makes the sum of the head and the contents 0 modulo 256.
use Rattle.std.proofs.Common.{arith}
use Rattle.oc_omf_write.proofs.windows.checksum_of.Goals as goal
use Rattle.oc_omf_file.proofs.EntryLaws.{sum-append}

pub returns : goal.returns
returns c =
    let all = sum-append c.args.head.now c.args.contents.now in
    let first = c.sum_behind.ensures in
    let second = c.sum_behind-2.ensures in
    omega (arith, all, first, second)
