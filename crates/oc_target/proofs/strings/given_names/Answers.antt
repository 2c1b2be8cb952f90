use Rattle.std.proofs.Common.{rules, ◌≡◌, [], ◌++◌, ◌∙◌, ap, sym, subst}
use Rattle.std.specs.List.{filter}
use Rattle.oc_strings.specs.Tables.{texts}
use Rattle.oc_neutral.specs.{Coff.Strings.{is_long, is_tabled}, Families.{family_of}}
use Rattle.oc_target.specs.Places.{HavePlaces}
use Rattle.oc_target.proofs.{Giving.{strings_whole}, PlaceLemmas.{places_more, places_whole}}
use Rattle.oc_target.proofs.strings.given_names.Goals as goal

pub returns : goal.returns
returns c =
    let n = c.args.neutral.now in
    let names = c.args.names.now in
    let fresh : texts c.new-given.result.items ≡ [] = search rules in
    let sections = c.in_ok-places.ensures.given ∙ ap (λ xs. xs ++ filter is_tabled names) fresh in
    let fallbacks = c.in_ok-give_all.ensures ∙ ap (λ xs. texts c.give_locals.new.given.items ++ filter is_long xs) c.requires.defaults in
    let placed = places_more _ _ names _ c.in_ok-places.ensures.places in record {
      names = strings_whole (family_of c.args.target).writes_local names n _ _ _ _ _ sections c.in_ok-give_keys.ensures c.in_ok-give_locals.ensures fallbacks c.in_ok-give_others.ensures;
      places = places_whole _ _ _ _ _ _ _ names _ c.in_ok-give_locals.ensures c.in_ok-give_all.ensures c.in_ok-give_others.ensures
          (subst (λ given. HavePlaces given names c.in_ok-places.places.items) (sym c.in_ok-give_keys.ensures) placed);
    }
