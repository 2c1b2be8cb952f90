-- The next digit is the last of the number that is shifted less.
use Rattle.std.proofs.Common.{◌≡◌, ◌+◌, ◌-◌, ◌*◌, ◌/◌, ◌%◌, ◌^◌, ◌++◌, ◌∷◌, [], ℕ, List, false, append_assoc, rules, sym, ap, arith, ◌∙◌, string_bytes}
use Rattle.std.specs.Fmt.{digit_glyph}
use Rattle.oc_listings.specs.Digits.{last_digits}
use Rattle.oc_listings.proofs.DigitLaws.{digits-more}
use Rattle.oc_listings.proofs.numbers.put_digits.Goals as goal

pub loop-done-preserved : goal.loop-done-preserved
loop-done-preserved c =
    let count = c.args.count in
    let done = c.loop-done.done in
    let digit : List ℕ = digit_glyph false (c.args.x / 2 ^ (4 * (count - 1 - done)) % 16) ∷ [] in
    let before : List ℕ = last_digits done (c.args.x / 2 ^ (4 * (count - done))) in
    let less : count - 1 - done ≡ count - (done + 1) = omega arith in
    let put : string_bytes c.put_digit.new.out ≡ string_bytes c.loop-done.out ++ digit = search rules in
    put ∙ ap (λ text. text ++ digit) c.loop-done.invariant ∙ append_assoc (string_bytes c.args.out.now) before digit
    ∙ ap (λ text. string_bytes c.args.out.now ++ text) (sym (digits-more count done c.args.x (search rules)))
    ∙ ap (λ left. string_bytes c.args.out.now ++ last_digits (done + 1) (c.args.x / 2 ^ (4 * left))) less
