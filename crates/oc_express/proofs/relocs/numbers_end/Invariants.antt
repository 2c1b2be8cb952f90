use Rattle.std.proofs.Common.{take}
use Rattle.oc_neutral.specs.Keeping.{IsEndOf}
use Rattle.oc_express.specs.Firsts.{is_numbered}
use Rattle.oc_express.proofs.relocs.numbers_end.Given as goal

-- of the symbols before
abbrev pub invariant-loop-k : goal.invariant-loop-k
invariant-loop-k l = IsEndOf is_numbered l.end (take l.k l.neutral.symbols)
