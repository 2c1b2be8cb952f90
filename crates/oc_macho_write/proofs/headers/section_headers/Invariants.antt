use Rattle.std.proofs.Common.{◌≡◌, ◌++◌, map, drop}
use Rattle.std.specs.List.{enumerate_from}
use Rattle.oc_macho_file.specs.Canonical.{section_header, section_headers}
use Rattle.oc_macho_write.proofs.headers.section_headers.Given as goal

-- the headers so far, and those that are left
abbrev pub invariant-loop-k : goal.invariant-loop-k
invariant-loop-k l = l.headers.items ++ map (section_header l.output.word l.output.neutral.now) (enumerate_from l.k (drop l.k l.output.neutral.now.sections)) ≡ section_headers l.output.word l.output.neutral.now
