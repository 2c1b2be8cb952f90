-- The first so far.
use Rattle.std.proofs.Common.{◌≡◌}
use Rattle.oc_elf.specs.Sections.{shndx_among}
use Rattle.oc_elf.proofs.frame.shndx_among.Given as goal

abbrev pub invariant-loop-k : goal.invariant-loop-k
invariant-loop-k l = l.first ≡ shndx_among l.headers l.k
