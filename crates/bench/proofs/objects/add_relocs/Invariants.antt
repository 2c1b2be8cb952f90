use Rattle.bench.specs.Shape.{IsElf}
use Rattle.bench.proofs.objects.add_relocs.Given as goal

-- it is such an object still
abbrev pub invariant-loop-k : goal.invariant-loop-k
invariant-loop-k l = IsElf l.builder.object
