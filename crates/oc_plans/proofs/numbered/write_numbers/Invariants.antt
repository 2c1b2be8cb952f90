use Rattle.oc_plans.proofs.FieldBytes.{IsWriting}
use Rattle.oc_plans.proofs.numbered.write_numbers.Given as goal

-- with the numbers that are left the section has all
abbrev pub invariant-loop-field : goal.invariant-loop-field
invariant-loop-field g l = IsWriting (g.N.FieldNumbers.tells l.fn.numbers) (g.N.FieldNumbers.knows l.fn.numbers l.fn.position) l.fn.position l.fn.relocs l.initial.section l.field-iterator l.section
