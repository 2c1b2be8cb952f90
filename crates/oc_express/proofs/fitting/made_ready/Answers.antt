use Rattle.std.proofs.Common.{◌∙◌, subst, sym}
use Rattle.oc_target.specs.Fitted.{IsFit, IsFitted}
use Rattle.oc_neutral.specs.{Invariants.{IsObject}, Objects.{Object}}
use Rattle.oc_express.proofs.{FitIsFitted.{fit_of-fitted}, FitOf.{fit_of-fits}}
use Rattle.oc_express.proofs.fitting.made_ready.Goals as goal

pub new-requires : goal.new-requires
new-requires c =
    let n : Object = c.args.neutral in
    let target = c.args.target in
    let same = c.in_ok-object.ensures in
    subst (λ (m : Object). IsFitted target m) (sym same) (fit_of-fitted target n c.is_object.ensures c.requires.able c.requires.none (subst (λ (m : Object). IsObject m) same c.is_object-2.ensures))

pub returns-clause-fit : goal.returns-clause-fit
returns-clause-fit c =
    let n : Object = c.args.neutral in
    let target = c.args.target in
    subst (λ (m : Object). IsFit target n m) (sym (c.new.ensures ∙ c.in_ok-object.ensures)) (fit_of-fits target n c.is_object.ensures c.requires.able.word)
