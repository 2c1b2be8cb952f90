-- Each address is given once.
use Rattle.std.proofs.Common.{◌≡◌, ℕ, cond, eqb, Some, None, ◌∙◌, ap, arith}
use Rattle.std.specs.Ordering.{is_eq, nat_cmp}
use Rattle.std.proofs.lemmas.Bool.Decides.{nat_tests}
use Rattle.oc_macho_judge.specs.Holders.{number_by}
use Rattle.oc_macho_judge.proofs.HolderLemmas.{shared_all, shared_more}
use Rattle.oc_macho_judge.proofs.holders.give.Goals as goal

same_test : (a b : ℕ) → is_eq (nat_cmp a b) ≡ eqb b a
same_test a b = grind (arith, nat_tests)

pub loop-at-preserved : goal.loop-at-preserved
loop-at-preserved c =
    shared_more c.args.free.now.entries c.args.bytes.now.entries c.loop-at.free.entries c.loop-at.bytes.entries c.remove.new.self.entries c.insert.new.self.entries c.args.begin c.args.end c.args.number c.in-Some.at
    c.loop-at.invariant c.in-Some.ensures.held c.in-Some.ensures.above c.in-Some.ensures.below
    (λ q. c.remove.ensures.updates.0 q ∙ ap (λ b. cond b None (number_by c.loop-at.free.entries q)) (same_test c.in-Some.at q))
    (λ q. c.in_ok-insert.ensures.updates.0 q ∙ ap (λ b. cond b (Some c.args.number) (number_by c.loop-at.bytes.entries q)) (same_test c.in-Some.at q))

pub returns-clause-free : goal.returns-clause-free
returns-clause-free c q =
    (shared_all c.args.free.now.entries c.args.bytes.now.entries c.loop-at.free.entries c.loop-at.bytes.entries c.args.begin c.args.end c.args.number c.loop-at.invariant c.in_default.ensures.none q).0

pub returns-clause-bytes : goal.returns-clause-bytes
returns-clause-bytes c q =
    (shared_all c.args.free.now.entries c.args.bytes.now.entries c.loop-at.free.entries c.loop-at.bytes.entries c.args.begin c.args.end c.args.number c.loop-at.invariant c.in_default.ensures.none q).1
