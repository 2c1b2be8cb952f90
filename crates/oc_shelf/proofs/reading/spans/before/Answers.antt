-- The last of the spans up to the place.
use Rattle.std.proofs.Common.{arith}
use Rattle.std.proofs.lemmas.{Map.Keys.{ge_from_not_lt}, Bool.Decides.{nat_tests}}
use Rattle.oc_shelf.proofs.reading.spans.before.Goals as goal

pub returns-in-Some-clause-greatest : goal.returns-in-Some-clause-greatest
returns-in-Some-clause-greatest c q le some =
    ge_from_not_lt c.in-Some.start.now q
    ((c.range.ensures.in_range tt).4 (c.in-Some.start.now, c.in-Some.end.now) c.next_back.new.self c.in-Some.ensures.steps q (tt, grind (arith, nat_tests)) some)
