use Rattle.std.proofs.Common.{◌≡◌, ◌++◌, map, drop, Some}
use Rattle.std.specs.List.{enumerate_from}
use Rattle.oc_macho_file.specs.Layout.{relocs_part}
use Rattle.oc_macho_write.specs.Parts.{parts_in}
use Rattle.oc_macho_write.proofs.parts.add_relocs.Given as goal

-- the parts so far, and those that are left
abbrev pub invariant-loop-k : goal.invariant-loop-k
invariant-loop-k l =
    parts_in l.neutral l.parts.items ++ map Some (map relocs_part (enumerate_from l.k (drop l.k l.neutral.sections)))
    ≡ parts_in l.neutral l.fn.parts.items ++ map Some (map relocs_part (enumerate_from 0 l.neutral.sections))
