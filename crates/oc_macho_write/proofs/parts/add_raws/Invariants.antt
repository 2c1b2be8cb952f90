use Rattle.std.proofs.Common.{◌≡◌, not, ◌++◌, map, drop, Some}
use Rattle.std.specs.List.{enumerate_from, filter}
use Rattle.oc_macho_file.specs.{Addresses.{Numbered, is_blank, stored_sections}, Layout.{raw_part}}
use Rattle.oc_macho_write.specs.Parts.{parts_in}
use Rattle.oc_macho_write.proofs.parts.add_raws.Given as goal

-- the parts so far, and those that are left
abbrev pub invariant-loop-k : goal.invariant-loop-k
invariant-loop-k l =
    parts_in l.neutral l.parts.items ++ map Some (map raw_part (filter (λ (x : Numbered). not (is_blank x)) (enumerate_from l.k (drop l.k l.neutral.sections))))
    ≡ parts_in l.neutral l.fn.parts.items ++ map Some (map raw_part (stored_sections l.neutral))
