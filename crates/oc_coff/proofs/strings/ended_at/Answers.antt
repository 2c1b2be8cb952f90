-- Behind the last NUL there is none.
use Rattle.std.proofs.Common.{get_or, eq-eqb, arith}
use Rattle.oc_shelf.proofs.ReadingLaws.TextLemmas.{view_none}
use Rattle.oc_coff.proofs.strings.ended_at.Goals as goal

pub returns-in-Some : goal.returns-in-Some
returns-in-Some c =
    λ at past.
    view_none c.args.table.now at
    (λ k low high nul. (c.in-Some.ensures.0).after k (omega arith) high (eq-eqb (get_or c.args.table.now k 0) 0 nul))

pub returns-in-None : goal.returns-in-None
returns-in-None c =
    λ at past.
    view_none c.args.table.now at
    (λ k low high nul. c.in-None.ensures k (omega arith) high (eq-eqb (get_or c.args.table.now k 0) 0 nul))
