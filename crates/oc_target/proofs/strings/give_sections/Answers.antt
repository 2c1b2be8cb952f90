use Rattle.std.proofs.Common.{◌≡◌, ◌≤◌, Some, length, refl, ap, subst, arith}
use Rattle.std.specs.Prelude.{slice_get, filter}
use Rattle.std.proofs.lemmas.{List.{take_all, drop_all}, Option.{slice_get_read}}
use Rattle.oc_strings.specs.Tables.{texts}
use Rattle.oc_neutral.specs.Coff.Strings.{is_tabled}
use Rattle.oc_target.specs.Places.{HavePlaces}
use Rattle.oc_target.proofs.{Giving.{more_given, all_given, tabled_step}, PlaceLemmas.{places_step}}
use Rattle.oc_target.proofs.strings.give_sections.Goals as goal

pub loop-name-preserved : goal.loop-name-preserved
loop-name-preserved c =
    let names = c.args.names.now in
    let k = c.loop-name.name-index in
    let name = c.as_slice.result.now in
    let here : slice_get names k ≡ Some name = rw c.as_slice.ensures (slice_get_read names (length names) k c.name-item.result refl c.loop-name-test.true c.name-item.is) in (
      more_given _ _ _ _ _ _ c.in_ok-place.ensures.given (tabled_step names k name here) c.loop-name.invariant.0,
      rw c.in_ok-push.ensures.items (places_step _ _ _ names _ k name _ here c.in_ok-place.ensures.given c.loop-name.invariant.1 c.in_ok-place.ensures.place),
    )

pub returns : goal.returns
returns c =
    let names = c.args.names.now in
    let k = c.loop-name.name-index in
    let past : length names ≤ k = omega (arith, c.loop-name-test.false) in
    record {
      given = all_given _ _ _ (ap (filter is_tabled) (drop_all k names past)) c.loop-name.invariant.0;
      places = subst (λ ns. HavePlaces (texts c.loop-name.given.items) ns c.loop-name.places.items) (take_all k names past) c.loop-name.invariant.1;
    }
