use Rattle.std.proofs.Common.{rules, ◌≡◌, ◌&&◌, true, false, cond, ◌∙◌, ap, sym, w64, pos, ◌-ℤ◌, to_z, of_z}
use Rattle.std.specs.Prelude.{neg_ℤ}
use Rattle.oc_neutral.specs.Rows.{TakesPlace, TakesSection, same_taken, taken_of, shift_of}
use Rattle.oc_target.specs.Tables.{meant, meant_taken}
use Rattle.oc_target.proofs.shifts.written_shift.Goals as goal

pub returns-then-is_from_start : goal.returns-then-is_from_start
returns-then-is_from_start c =
    let fits : to_z w64 (of_z w64 c.from.result) ≡ pos c.args.at = search rules in
    let test : (same_taken (meant_taken c.args.row.taken) TakesSection && same_taken (taken_of c.args.less) TakesPlace) ≡ true = sym c.is_from_start.ensures ∙ c.if-is_from_start.true in
    fits ∙ sym (ap (λ b. cond b (pos c.args.at) (shift_of (meant c.args.row))) test)

pub returns-else-is_from_start : goal.returns-else-is_from_start
returns-else-is_from_start c =
    let fits : to_z w64 (of_z w64 (pos 0 -ℤ to_z w64 (of_z w64 c.from-else-is_from_start.result))) ≡ neg_ℤ (pos c.args.row.behind) = search rules in
    let test : (same_taken (meant_taken c.args.row.taken) TakesSection && same_taken (taken_of c.args.less) TakesPlace) ≡ false = sym c.is_from_start.ensures ∙ c.if-is_from_start.false in
    fits ∙ sym (ap (λ b. cond b (pos c.args.at) (shift_of (meant c.args.row))) test)
