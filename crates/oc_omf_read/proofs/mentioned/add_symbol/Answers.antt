-- A symbol that is new has the next number.
use Rattle.std.proofs.Common.{◌∷◌, ◌++◌, [], cond, List, Some, None, sym, ◌∙◌, ap}
use Rattle.oc_omf.specs.Symbols.{Mention, same_symbol}
use Rattle.oc_omf_read.specs.{declared.mentioned.Mentioned.{Mentioned}, declared.mentioned.Mentions.{Mentions}, Mentioned.{held, number_among, number_held}}
use Rattle.oc_omf_read.proofs.HearLemmas.{held_push, length_held, number_next, numbered_push}
use Rattle.oc_omf_read.proofs.mentioned.add_symbol.Goals as goal

pub returns-clause-numbered : goal.returns-clause-numbered
returns-clause-numbered c =
    let x : Mention = record { local = c.args.local; name = c.args.name.now } in
    let s : Mentioned = record { name = c.args.name; local = c.args.local; place = None; length = None } in
    let old : Mentions = c.args.mentions.now in
    let new : Mentions = record { locals = c.hold_number.new.mentions.locals; others = c.hold_number.new.mentions.others; symbols = c.push.new.self; externals = c.hold_number.new.mentions.externals } in
    numbered_push old new x c.requires.numbered c.requires.new (held_push old new s (c.in_ok-push.ensures.items ∙ ap (λ v. v.items ++ s ∷ []) c.in_ok-hold_number.ensures.symbols))
    (λ y. c.in_ok-hold_number.ensures.taken y ∙ ap (λ n. cond (same_symbol x y) (Some n) (number_held old y)) (c.len-number.ensures ∙ old.symbols.ok.0 ∙ sym (length_held old)))

pub returns-clause-number : goal.returns-clause-number
returns-clause-number c =
    let x : Mention = record { local = c.args.local; name = c.args.name.now } in
    let s : Mentioned = record { name = c.args.name; local = c.args.local; place = None; length = None } in
    let old : Mentions = c.args.mentions.now in
    let new : Mentions = record { locals = c.hold_number.new.mentions.locals; others = c.hold_number.new.mentions.others; symbols = c.push.new.self; externals = c.hold_number.new.mentions.externals } in
    ap (λ (hs : List Mention). number_among hs x) (held_push old new s (c.in_ok-push.ensures.items ∙ ap (λ v. v.items ++ s ∷ []) c.in_ok-hold_number.ensures.symbols))
    ∙ number_next (held old) x c.requires.new ∙ ap (λ n. Some n) (length_held old ∙ sym old.symbols.ok.0 ∙ sym c.len-number.ensures)
