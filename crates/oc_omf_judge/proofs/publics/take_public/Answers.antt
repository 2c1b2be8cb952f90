-- A definition without a fault is taken up.
use Rattle.std.proofs.Common.{◌≡◌, false, nat_eq, nat_lt, length, refl, sym, ◌∙◌, arith}
use Rattle.std.proofs.lemmas.Bool.Decides.{nat_tests}
use Rattle.oc_omf.specs.Sections.{size_at}
use Rattle.oc_omf_judge.specs.EarlierSymbols.{public_with}
use Rattle.oc_omf_judge.proofs.SeenSteps.{clean_public}
use Rattle.oc_omf_judge.proofs.publics.take_public.Goals as goal

pub returns-clause-taken : goal.returns-clause-taken
returns-clause-taken c = λ t is.
    let size = c.size_at.ensures t is in
    let p = public_with c.args.local c.args.segment c.args.public in
    let inside : nat_lt (size_at t c.args.segment) c.args.public.offset ≡ false = let low = c.if-from-size_at.false in let own = c.from.ensures in grind (arith, nat_tests) in
    let named : nat_eq (length c.args.public.name.now) 0 ≡ false = grind (arith, nat_tests, c.if-is_empty.ensures, c.if-is_empty.false) in
    let taken = c.in_ok-again.ensures t p is refl refl in
    (clean_public t (c.args.here.index, c.args.here.place) p inside named (sym taken.0 ∙ c.if-again.false), taken.1)
