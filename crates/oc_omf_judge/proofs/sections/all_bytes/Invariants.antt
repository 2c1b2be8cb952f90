-- The bytes of the segments so far, of what is kept.
use Rattle.std.proofs.Common.{◌≡◌}
use Rattle.oc_shelf.specs.Reading.Sums.{sum_upto}
use Rattle.oc_omf.specs.Tables.{Tables}
use Rattle.oc_omf_judge.specs.Defined.{IsDefined, bytes_in}
use Rattle.oc_omf_judge.proofs.sections.all_bytes.Given as goal

abbrev pub invariant-loop-k : goal.invariant-loop-k
invariant-loop-k l = (t : Tables) → IsDefined t l.defined → l.bytes ≡ sum_upto (bytes_in t) l.k
