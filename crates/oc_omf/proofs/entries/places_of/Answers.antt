use Rattle.std.proofs.Common.{rules, ◌≡◌, [], ◌++◌, sym, ◌∙◌, ap}
use Rattle.std.specs.Option.{option_map_or}
use Rattle.oc_omf.specs.Entries.{places_in, next_place}
use Rattle.oc_omf.proofs.PlaceLemmas.{next_inside, places_begin, places_from, places_more}
use Rattle.oc_omf.proofs.entries.places_of.Goals as goal

pub loop-next-init : goal.loop-next-init
loop-next-init c = record {
  whole = places_begin c.args.file.now ∙ sym (ap (λ xs. xs ++ places_from c.args.file.now 0) c.new-places.ensures.items);
  inside = λ x e. search rules;
}

pub loop-next-preserved : goal.loop-next-preserved
loop-next-preserved c =
    let file = c.args.file.now in
    let inside = c.loop-next.invariant.inside c.in-Some.at c.in-Some.is in
    let before : places_in file ≡ c.loop-next.places.items ++ places_from file c.in-Some.at
    = c.loop-next.invariant.whole ∙ ap (λ o. c.loop-next.places.items ++ option_map_or (places_from file) o []) c.in-Some.is in
    record {
      whole = places_more file c.loop-next.places.items c.in-Some.at inside before ∙ ap (λ xs. xs ++ option_map_or (places_from file) (next_place file c.in-Some.at) []) (sym c.in_ok-push.ensures.items)
          ∙ ap (λ o. c.push.new.self.items ++ option_map_or (places_from file) o []) (sym c.next_place-next.ensures);
      inside = λ x e. (next_inside file c.in-Some.at x (sym c.next_place-next.ensures ∙ e)).1;
    }
