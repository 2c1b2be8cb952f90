use Rattle.std.proofs.Common.{rules, ◌≡◌, true, false, cond, [], ◌∷◌, ◌++◌, ◌∙◌, ap, sym}
use Rattle.std.specs.{Prelude.{filter}, Option.{option_map_or}}
use Rattle.std.proofs.lemmas.{List.{append-nil}, Result.{on_ok_weaker}}
use Rattle.oc_strings.specs.Tables.{texts}
use Rattle.oc_neutral.specs.{Coff.Strings.{is_long, names_where}, KeySymbols.{is_key_at}}
use Rattle.oc_target.specs.Found.{held}
use Rattle.oc_target.proofs.KeyPlaces.{key_names, keys_at}
use Rattle.oc_target.proofs.strings.give_key.Goals as goal

pub returns-then-not-keyed : goal.returns-then-not-keyed
returns-then-not-keyed c =
    let n = c.args.neutral.now in
    let k = c.args.section in
    let not_keyed : c.args.keyed ≡ false = search rules in
    let none : names_where (is_key_at n k) n ≡ [] = key_names n k n.symbols c.is_object.ensures.built.distinct ∙ ap (λ b. cond b (keys_at n k) []) (sym c.requires ∙ not_keyed) in
    sym (append-nil (texts c.args.given.now.items)) ∙ ap (λ xs. texts c.args.given.now.items ++ filter is_long xs) (sym none)

pub returns-in-Some : goal.returns-in-Some
returns-in-Some c =
    let n = c.args.neutral.now in
    let k = c.args.section in
    let keyed : c.args.keyed ≡ true = search rules in
    let one : names_where (is_key_at n k) n ≡ c.in-Some.key.now ∷ []
    = key_names n k n.symbols c.is_object.ensures.built.distinct ∙ ap (λ b. cond b (keys_at n k) []) (sym c.requires ∙ keyed)
    ∙ ap (λ o. option_map_or (λ key. key ∷ []) o []) (sym c.key_at.ensures ∙ ap held c.in-Some.is) in
    on_ok_weaker c.give_long.result (λ e. e ∙ ap (λ xs. texts c.args.given.now.items ++ filter is_long xs) (sym one)) c.give_long.ensures

pub returns-in-None : goal.returns-in-None
returns-in-None c =
    let n = c.args.neutral.now in
    let k = c.args.section in
    let keyed : c.args.keyed ≡ true = search rules in
    let none : names_where (is_key_at n k) n ≡ []
    = key_names n k n.symbols c.is_object.ensures.built.distinct ∙ ap (λ b. cond b (keys_at n k) []) (sym c.requires ∙ keyed)
    ∙ ap (λ o. option_map_or (λ key. key ∷ []) o []) (sym c.key_at.ensures ∙ ap held c.in-None.is) in
    sym (append-nil (texts c.args.given.now.items)) ∙ ap (λ xs. texts c.args.given.now.items ++ filter is_long xs) (sym none)
