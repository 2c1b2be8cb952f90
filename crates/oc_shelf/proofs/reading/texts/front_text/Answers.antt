-- A window of one byte more than the text may have decides.
use Rattle.std.proofs.Common.{◌≤◌, ◌+◌, length, min, arith}
use Rattle.oc_shelf.proofs.ReadingLaws.TextLemmas.{short_found, short_none}
use Rattle.oc_shelf.proofs.reading.texts.front_text.Goals as goal

pub returns-in-Some : goal.returns-in-Some
returns-in-Some c =
    let wide : c.min.result ≤ c.args.most + 1 = omega arith in
    short_found c.args.bytes.now c.args.most c.min.result c.in-Some.end wide (c.in-Some.ensures.0) (c.in-Some.ensures.1)

pub returns-in-None : goal.returns-in-None
returns-in-None c =
    let wide : min (length c.args.bytes.now) (c.args.most + 1) ≤ c.min.result = omega arith in
    short_none c.args.bytes.now c.args.most c.min.result wide c.in-None.ensures
