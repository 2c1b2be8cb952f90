-- The last digit stands behind those of a tenth of the number.
use Rattle.std.proofs.Common.{◌/◌, ◌≤◌, length, ◌∙◌, ap, arith, length-append}
use Rattle.std.specs.Prelude.{decimal}
use Rattle.oc_coff_write.proofs.DecimalLemmas.{one_long, one_put, more_long, more_put}
use Rattle.oc_coff_write.proofs.section_names.+put_decimal.Goals as goal

pub put_digit-requires-clause-room : goal.put_digit-requires-clause-room
put_digit-requires-clause-room t c =
    let long = one_long c.args.number c.if-number-lt10.true in
    let room = c.requires in
    omega (arith, long, room)

pub returns-then-number-lt10 : goal.returns-then-number-lt10
returns-then-number-lt10 t c = one_put c.args.out.now c.put_digit.new.out c.args.number c.if-number-lt10.true c.put_digit.ensures

pub put_decimal-requires : goal.put_decimal-requires
put_decimal-requires t c =
    let small = c.ranges.number.fits in
    let some : 10 ≤ c.args.number = omega (arith, c.if-number-lt10.false) in
    let long = more_long c.args.number some (omega (arith, small)) in
    let room = c.requires in
    (omega (arith, c.decreases, some), omega (arith, long, room))

pub put_digit-requires-2-clause-room : goal.put_digit-requires-2-clause-room
put_digit-requires-2-clause-room t c =
    let small = c.ranges.number.fits in
    let some : 10 ≤ c.args.number = omega (arith, c.if-number-lt10.false) in
    let long = more_long c.args.number some (omega (arith, small)) in
    let now = ap length c.put_decimal.ensures ∙ length-append c.args.out.now (decimal (c.args.number / 10)) in
    let room = c.requires in
    omega (arith, long, room, now)

pub returns : goal.returns
returns t c =
    let small = c.ranges.number.fits in
    let some : 10 ≤ c.args.number = omega (arith, c.if-number-lt10.false) in
    more_put c.args.out.now c.put_decimal.new.out c.put_digit-2.new.out c.args.number some (omega (arith, small)) c.put_decimal.ensures c.put_digit-2.ensures
