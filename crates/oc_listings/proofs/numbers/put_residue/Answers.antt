-- The digits of a residue are its last 8 or 16.
use Rattle.std.proofs.Common.{◌≡◌, ◌++◌, ◌^◌, ◌<◌, OnOk, string_bytes, subst}
use Rattle.oc_listings.proofs.DigitLaws.{hex_32, hex_64}
use Rattle.oc_listings.proofs.numbers.put_residue.Goals as goal

pub returns-in-W32 : goal.returns-in-W32
returns-in-W32 c =
    let below : c.args.x < 2 ^ 32 = rw c.in-W32.is at c.requires in
    rw c.in-W32.is (subst (λ digits. OnOk c.put_digits.result (string_bytes c.put_digits.new.out ≡ string_bytes c.args.out.now ++ digits)) (hex_32 c.args.x below) c.put_digits.ensures)

pub returns-in-W64 : goal.returns-in-W64
returns-in-W64 c =
    let below : c.args.x < 2 ^ 64 = rw c.in-W64.is at c.requires in
    rw c.in-W64.is (subst (λ digits. OnOk c.put_digits-in-W64.result (string_bytes c.put_digits-in-W64.new.out ≡ string_bytes c.args.out.now ++ digits)) (hex_64 c.args.x below) c.put_digits-in-W64.ensures)
