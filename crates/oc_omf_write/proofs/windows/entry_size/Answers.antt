-- There are four bytes beside the contents.
use Rattle.std.proofs.Common.{length, ap, arith}
use Rattle.oc_omf_file.proofs.EntryLaws.{length-entry}
use Rattle.oc_omf_write.proofs.windows.entry_size.Goals as goal

pub returns-clause-long : goal.returns-clause-long
returns-clause-long c = λ type.
    let same = ap length c.as_slice.ensures.bytes in
    let long = length-entry type c.args.contents.now in
    omega (arith, same, long)
