-- The digits so far are those of the number, shifted by the digits that are left.
use Rattle.std.proofs.Common.{◌≡◌, ◌-◌, ◌*◌, ◌/◌, ◌^◌, ◌++◌, string_bytes}
use Rattle.oc_listings.specs.Digits.{last_digits}
use Rattle.oc_listings.proofs.numbers.put_digits.Given as goal

abbrev pub invariant-loop-done : goal.invariant-loop-done
invariant-loop-done l = string_bytes l.out ≡ string_bytes l.initial.out ++ last_digits l.done (l.fn.x / 2 ^ (4 * (l.fn.count - l.done)))
