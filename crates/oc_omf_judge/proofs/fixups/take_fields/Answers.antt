-- Fields that meet no others.
use Rattle.std.proofs.Common.{ℕ, refl, sym, ◌∙◌, ap, subst}
use Rattle.std.specs.Prelude.{◌||◌}
use Rattle.oc_omf_judge.specs.Starts.{IsMet, is_among, is_start}
use Rattle.oc_omf_judge.proofs.fixups.take_fields.Goals as goal

pub returns-then-are_met-clause-stop : goal.returns-then-are_met-clause-stop
returns-then-are_met-clause-stop c =
    (c.relocation_fault.ensures, subst (λ (b : ℕ). IsMet c.args.reached.now.starts b c.args.places.now) c.base-base.ensures.place (c.are_met.ensures.met c.if-are_met.true))

pub returns-clause-taken : goal.returns-clause-taken
returns-clause-taken c = record {
  free = λ met. c.are_met.ensures.free c.if-are_met.false (subst (λ (b : ℕ). IsMet c.args.reached.now.starts b c.args.places.now) (sym c.base-base.ensures.place) met);
  starts = λ k. c.in_ok-take_up.ensures k ∙ ap (λ (b : ℕ). is_start c.args.reached.now.starts k || is_among b c.args.places.now k) c.base-base.ensures.place;
  counts = refl;
  last = refl;
  threads = refl;
}
