use Rattle.std.proofs.Common.{arith}
use Rattle.oc_place.proofs.DigitLemmas.{hex_fits}
use Rattle.oc_place.proofs.digits.hex_number.Goals as goal

pub overflow_mul-number : goal.overflow_mul-number
overflow_mul-number c =
    let few = c.requires in
    let inside = c.loop-byte-test.true in
    let m = hex_fits c.loop-byte.number 0 c.loop-byte.byte-index c.loop-byte.invariant.1 (omega arith) (omega (arith, few, inside)) in
    omega (arith, m)

pub overflow_add-number : goal.overflow_add-number
overflow_add-number c =
    let few = c.requires in
    let inside = c.loop-byte-test.true in
    let same = c.from.ensures in
    let m = hex_fits c.loop-byte.number c.in_ok-digit.digit c.loop-byte.byte-index c.loop-byte.invariant.1 c.in_ok-digit.ensures.low (omega (arith, few, inside)) in
    omega (arith, m, same)
