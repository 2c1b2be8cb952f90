-- A mention is taken up.
use Rattle.std.proofs.Common.{◌∷◌, ◌++◌, [], take, refl, sym, ◌∙◌, ap, arith, append-nil, length-take}
use Rattle.std.specs.List.{cons_option}
use Rattle.std.proofs.lemmas.List.{length-map}
use Rattle.oc_omf_read.specs.{Declarations.{all_declarations, declaration_of}, Mentioned.{external_said}}
use Rattle.oc_omf_read.proofs.HearLemmas.{few_held, heard_next, number_inside}
use Rattle.oc_omf_read.proofs.mentioned.take_declaration.Goals as goal

pub number_for-requires-clause-few : goal.number_for-requires-clause-few
number_for-requires-clause-few c =
    let few = few_held (all_declarations (take c.args.i c.args.declarations.now)) c.args.mentions.now c.requires.before in
    let same = length-map (take c.args.i c.args.declarations.now) declaration_of in
    let long = length-take c.args.i c.args.declarations.now in
    let low = c.requires.few in
    omega (arith, few, same, long, low)

pub index_mut-requires : goal.index_mut-requires
index_mut-requires c =
    let low = number_inside c.number_for.new.mentions _ c.in_ok-number.number c.in_ok-number.ensures.number in
    let long = c.number_for.new.mentions.symbols.ok.0 in
    omega (arith, low, long)

pub returns-in-Defined : goal.returns-in-Defined
returns-in-Defined c =
    heard_next c.args.declarations.now c.args.i _ c.requires.there c.args.mentions.now c.number_for.new.mentions _ c.in_ok-number.number c.index_mut.result.now c.say.new.symbol c.requires.before c.in_ok-number.ensures.numbered
    c.in_ok-number.ensures.number c.in_ok-number.ensures.symbols c.index_mut.ensures.value c.say.ensures refl (λ x. refl)
    (c.in_ok-number.ensures.externals ∙ sym (append-nil c.args.mentions.now.externals.items) ∙ ap (λ w. c.args.mentions.now.externals.items ++ cons_option (external_said c.in_ok-number.number w) []) (sym c.in-Defined.is))

pub returns-in_ok-push-in-External : goal.returns-in_ok-push-in-External
returns-in_ok-push-in-External c =
    heard_next c.args.declarations.now c.args.i _ c.requires.there c.args.mentions.now c.number_for.new.mentions _ c.in_ok-number.number c.index_mut.result.now c.say.new.symbol c.requires.before c.in_ok-number.ensures.numbered
    c.in_ok-number.ensures.number c.in_ok-number.ensures.symbols c.index_mut.ensures.value c.say.ensures refl (λ x. refl)
    (c.in_ok-push-in-External.ensures.items ∙ ap (λ ns. ns ++ c.in_ok-number.number ∷ []) c.in_ok-number.ensures.externals
    ∙ ap (λ w. c.args.mentions.now.externals.items ++ cons_option (external_said c.in_ok-number.number w) []) (sym c.in-External.is))

pub returns-in_ok-push-in-Communal : goal.returns-in_ok-push-in-Communal
returns-in_ok-push-in-Communal c =
    heard_next c.args.declarations.now c.args.i _ c.requires.there c.args.mentions.now c.number_for.new.mentions _ c.in_ok-number.number c.index_mut.result.now c.say.new.symbol c.requires.before c.in_ok-number.ensures.numbered
    c.in_ok-number.ensures.number c.in_ok-number.ensures.symbols c.index_mut.ensures.value c.say.ensures refl (λ x. refl)
    (c.in_ok-push-in-Communal.ensures.items ∙ ap (λ ns. ns ++ c.in_ok-number.number ∷ []) c.in_ok-number.ensures.externals
    ∙ ap (λ w. c.args.mentions.now.externals.items ++ cons_option (external_said c.in_ok-number.number w) []) (sym c.in-Communal.is))
