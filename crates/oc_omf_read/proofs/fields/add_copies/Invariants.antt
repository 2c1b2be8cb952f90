use Rattle.std.proofs.Common.{◌≡◌, ◌++◌, take}
use Rattle.oc_omf_read.specs.Fields.{fields_at}
use Rattle.oc_omf_read.proofs.fields.add_copies.Given as goal

-- the fields of the copies so far
abbrev pub invariant-loop-k : goal.invariant-loop-k
invariant-loop-k l = l.fields.items ≡ l.fn.fields.items ++ fields_at l.section l.offset l.fix (take l.k l.copies)
