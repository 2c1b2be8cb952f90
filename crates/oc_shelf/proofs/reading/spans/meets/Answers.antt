-- A span that meets two places begins before them, or between them.
use Rattle.std.proofs.Common.{◌≤◌, inl, inr, arith}
use Rattle.std.proofs.lemmas.Bool.{cases_lt}
use Rattle.oc_shelf.proofs.reading.spans.meets.Goals as goal

pub returns-then-meets_before-clause-met : goal.returns-then-meets_before-clause-met
returns-then-meets_before-clause-met c is =
    let m = c.meets_before.ensures.met is in
    let a = m.3 in
    let some = c.requires.some in
    record { start = m.0; stop = m.1; there = m.2; before = omega (arith, a, some); behind = m.4 }

pub returns-else-meets_before-clause-met : goal.returns-else-meets_before-clause-met
returns-else-meets_before-clause-met c is =
    let m = c.meets_behind.ensures.met is in
    let wide = c.requires.spans.some m.0 m.1 m.2 in
    let a = m.3 in
    record { start = m.0; stop = m.1; there = m.2; before = m.4; behind = omega (arith, a, wide) }

pub returns-else-meets_before-clause-free : goal.returns-else-meets_before-clause-free
returns-else-meets_before-clause-free c is met =
    elim (cases_lt c.args.begin met.start) [
      | inl less ↦
          let far : c.args.end ≤ met.start = c.meets_behind.ensures.free is met.start met.stop met.there (omega (arith, less)) in
          let before = met.before in
          absurd (omega (arith, far, before))
      | inr le ↦
          let near : met.stop ≤ c.args.begin = c.meets_before.ensures.free c.if-meets_before.false met.start met.stop met.there le in
          let behind = met.behind in
          absurd (omega (arith, near, behind))
    ]
