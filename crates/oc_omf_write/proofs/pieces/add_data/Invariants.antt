use Rattle.std.proofs.Common.{◌≡◌, ◌++◌, map, Vec, Global}
use Rattle.oc_omf_write.specs.{declared.fixups.Fixup.{Fixup}, Pieces.{data_entries}}
use Rattle.oc_omf_write.proofs.DataLemmas.{data_left}
use Rattle.oc_omf_write.proofs.pieces.add_data.Given as goal

-- the entries of the sections so far, and of those that are left
abbrev pub invariant-loop-k : goal.invariant-loop-k
invariant-loop-k l =
    l.entries.items ++ data_left (map (λ (v : Vec Fixup Global). v.items) l.fixups) l.sections l.k
    ≡ l.fn.entries.items ++ data_entries (map (λ (v : Vec Fixup Global). v.items) l.fixups) l.sections
