-- What is asked of the slots is asked of the members so far.
use Rattle.std.proofs.Common.{◌≡◌, ℕ, ◌+◌, ◌<◌, ◌||◌, ◌∙◌, true, false, length, set, None, Some, sym, ap, subst, arith, nat_eq, is_some, slice_index_or}
use Rattle.std.specs.Prelude.{nat_le}
use Rattle.oc_shelf.proofs.ReadingLaws.FirstsLemmas.{any_true}
use Rattle.oc_elf.specs.{Groups.{member_count}, SectionRules.{is_bad_member}}
use Rattle.oc_elf_judge.proofs.GroupLemmas.{IsTaking, refused_is, taking_more}
use Rattle.oc_elf_judge.proofs.groups.take_members.Goals as goal

pub returns-then-is_refused-clause-verdict : goal.returns-then-is_refused-clause-verdict
returns-then-is_refused-clause-verdict c =
    let f = c.args.frame.now in
    let bad : is_bad_member f c.args.k c.args.s.now c.loop-i.i ≡ true
    = sym (refused_is f c.args.k c.args.s.now c.loop-i.i c.loop-i.owners c.loop-i.invariant.slots)
    ∙ ap (λ (m : ℕ). nat_eq m 0 || nat_le (length f.headers) m || is_some (slice_index_or c.loop-i.owners m None)) (sym c.group_word-member.ensures)
    ∙ sym c.is_refused.ensures ∙ c.if-is_refused.true in
    let low : c.loop-i.i < member_count c.args.s.now = omega (arith, c.loop-i-test.true, c.member_count-count.ensures) in
    sym (any_true (is_bad_member f c.args.k c.args.s.now) (member_count c.args.s.now) c.loop-i.i low bad)

pub loop-i-preserved : goal.loop-i-preserved
loop-i-preserved c =
    let f = c.args.frame.now in
    let good : is_bad_member f c.args.k c.args.s.now c.loop-i.i ≡ false
    = sym (refused_is f c.args.k c.args.s.now c.loop-i.i c.loop-i.owners c.loop-i.invariant.slots)
    ∙ ap (λ (m : ℕ). nat_eq m 0 || nat_le (length f.headers) m || is_some (slice_index_or c.loop-i.owners m None)) (sym c.group_word-member.ensures)
    ∙ sym c.is_refused.ensures ∙ c.if-is_refused.false in
    subst (IsTaking f c.args.k c.args.s.now (c.loop-i.i + 1)) (sym (c.fill.ensures ∙ ap (λ (m : ℕ). set c.loop-i.owners m (Some c.args.k)) c.group_word-member.ensures))
    (taking_more f c.args.k c.args.s.now c.loop-i.i c.loop-i.owners c.loop-i.invariant good)
