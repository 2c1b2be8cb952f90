-- One place after another.
use Rattle.std.proofs.Common.{◌+◌, take, sym, ◌∙◌, ap}
use Rattle.std.specs.{Prelude.{◌||◌, is_some, nat_eq}, BTreeMap.{get}, Ordering.{nat_cmp}}
use Rattle.std.proofs.lemmas.List.{take_all}
use Rattle.std.proofs.Math.Bool.{or-false}
use Rattle.oc_omf_judge.specs.Starts.{is_among, is_start}
use Rattle.oc_omf_judge.proofs.StartLemmas.{any_more, start_taken}
use Rattle.oc_omf_judge.proofs.starts.Starts.take_up.Goals as goal
use Rattle.std.proofs.Math.Bool.{or_assoc}

pub loop-place-init : goal.loop-place-init
loop-place-init c = λ k. sym (or-false (is_start c.args.self.now k))

pub loop-place-preserved : goal.loop-place-preserved
loop-place-preserved c = λ k.
    let xs = c.args.places.now in
    let i = c.loop-place.place-index in
    let at = c.args.base + c.from.result in
    ap is_some (c.in_ok-_before.ensures.updates.0 k) ∙ start_taken k at (get nat_cmp c.loop-place.self.starts k) 0
    ∙ ap (λ b. b || nat_eq k at) (c.loop-place.invariant k) ∙ or_assoc (is_start c.args.self.now k) (is_among c.args.base (take i xs) k) (nat_eq k at)
    ∙ ap (λ b. is_start c.args.self.now k || b) (sym (any_more (λ p. nat_eq k (c.args.base + p)) xs i c.from.result c.loop-place-test.true c.from.ensures))

pub returns : goal.returns
returns c = λ k. c.loop-place.invariant k ∙ ap (λ xs. is_start c.args.self.now k || is_among c.args.base xs k) (take_all c.loop-place.place-index c.args.places.now c.loop-place-test.false)
