-- Where the copies of content stand.
use Rattle.std.proofs.Common.{ℕ, ◌<◌, List, [], Option, get_or, length, arith}
use Rattle.std.specs.Option.{unwrap_or}
use Rattle.oc_omf_records.specs.Blocks.{Blocks, copies_of, size_of}
use Rattle.oc_omf_records.proofs.CopyLemmas.{IsWithin, copies_of-within}
use Rattle.oc_omf_read.specs.Fields.{copies_in}

-- copies stand among the bytes
pub copies_low : (row : Blocks) (at k : ℕ) → k < length (copies_in row at) → get_or (copies_in row at) k 0 < size_of row
copies_low row at k low = by (copies_of row at) (copies_of-within row at) low
  where
    by : (o : Option (List ℕ)) → IsWithin (size_of row) o → k < length (unwrap_or o []) → get_or (unwrap_or o []) k 0 < size_of row
    by o within low = grind arith
