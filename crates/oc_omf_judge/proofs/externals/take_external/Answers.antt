-- An external without a fault is taken up.
use Rattle.std.proofs.Common.{◌≡◌, false, nat_eq, length, None, refl, sym, ◌∙◌, arith}
use Rattle.std.proofs.lemmas.Bool.Decides.{nat_tests}
use Rattle.oc_omf_judge.specs.EarlierSymbols.{external_with}
use Rattle.oc_omf_judge.proofs.SeenSteps.{clean_external, external_seen, undefined_is}
use Rattle.oc_omf_judge.proofs.externals.take_external.Goals as goal

pub returns-clause-taken : goal.returns-clause-taken
returns-clause-taken c = λ all t names is.
    let y = external_with c.args.local c.args.name.now None in
    let found = undefined_is all c.args.known.now y names ∙ sym c.is_lost.ensures ∙ c.if-is_lost.false in
    let named : nat_eq (length c.args.name.now) 0 ≡ false = grind (arith, nat_tests, c.if-is_empty.ensures, c.if-is_empty.false) in (
      clean_external all t.externals (c.args.here.index, c.args.here.place) y refl found named,
      external_seen t c.args.seen.now _ _ y is refl refl c.in_ok-push.ensures.items refl refl refl refl refl,
    )
