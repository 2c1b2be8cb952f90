-- A fixup is judged, or its section is not kept.
use Rattle.std.proofs.Common.{◌≡◌, ℕ, true, false, sym, ◌∙◌, ap, subst}
use Rattle.oc_base.specs.Stops.{IsStop}
use Rattle.oc_omf.specs.Fixups.{fixed_of}
use Rattle.oc_omf_judge.specs.Whole.{is_judged, is_judged_in}
use Rattle.oc_omf_judge.proofs.ReachedLemmas.{fixup_passed, judged_is, part_judged, part_passed}
use Rattle.oc_omf_judge.proofs.fixups.take_fixup.Goals as goal

pub returns-then-not-is_judged-clause-taken : goal.returns-then-not-is_judged-clause-taken
returns-then-not-is_judged-clause-taken c = λ before earlier is.
    let x : ℕ × ℕ = (c.args.here.index, c.args.here.place) in
    let w = c.args.whole.now in
    let other : is_judged w (fixed_of earlier before c.args.fixup) ≡ false
    = judged_is w before earlier c.args.reached.now is x c.args.fixup ∙ ap (is_judged_in w) (sym c.segment.ensures.segment) ∙ sym c.is_judged.ensures ∙ c.if-not-is_judged.true in
    (part_passed w before earlier c.args.reached.now is x c.args.fixup other, fixup_passed w before earlier c.args.reached.now is x c.args.fixup c.segment.ensures.low other)

pub returns-in-Ok-clause-taken : goal.returns-in-Ok-clause-taken
returns-in-Ok-clause-taken c = λ before earlier is.
    let x : ℕ × ℕ = (c.args.here.index, c.args.here.place) in
    let w = c.args.whole.now in
    let judged : is_judged w (fixed_of earlier before c.args.fixup) ≡ true
    = judged_is w before earlier c.args.reached.now is x c.args.fixup ∙ ap (is_judged_in w) (sym c.segment.ensures.segment) ∙ sym c.is_judged.ensures ∙ c.if-not-is_judged.false in
    let taken = c.in-Ok.ensures.taken before earlier is judged in
    (part_judged w before earlier c.args.reached.now is x c.args.fixup judged ∙ taken.0, taken.1)

pub returns-in-Err-clause-stop : goal.returns-in-Err-clause-stop
returns-in-Err-clause-stop c = λ before earlier is.
    let x : ℕ × ℕ = (c.args.here.index, c.args.here.place) in
    let w = c.args.whole.now in
    let judged : is_judged w (fixed_of earlier before c.args.fixup) ≡ true
    = judged_is w before earlier c.args.reached.now is x c.args.fixup ∙ ap (is_judged_in w) (sym c.segment.ensures.segment) ∙ sym c.is_judged.ensures ∙ c.if-not-is_judged.false in
    subst (λ o. IsStop o c.in-Err.stop) (sym (part_judged w before earlier c.args.reached.now is x c.args.fixup judged)) (c.in-Err.ensures.stop before earlier is judged)
