-- A symbol that no other has the name of is added.
use Rattle.std.proofs.Common.{◌≡◌, ◌+◌, length, Some, refl, sym, ◌∙◌, ap, subst, arith}
use Rattle.std.specs.Prelude.{IsOk, slice_get}
use Rattle.std.proofs.lemmas.Option.{slice_get-get_or}
use Rattle.oc_neutral.specs.Building.{Draft, symbol_added}
use Rattle.oc_shows.proofs.BuiltSteps.{added_is}
use Rattle.oc_omf.specs.Entries.{entries_in}
use Rattle.oc_omf_read.specs.{declared.mentioned.Mentioned.{Mentioned}, Built.{symboled}, Declarations.{declarations_in}}
use Rattle.oc_omf_read.proofs.{CountLemmas.{few_declarations}, HearLemmas.{few_held}, SymbolLemmas.{symbol_ready, symbols_room}}
use Rattle.oc_omf_read.proofs.built_symbols.add_symbol.Goals as goal

pub overflow_cast-k : goal.overflow_cast-k
overflow_cast-k c =
    let held = few_held (declarations_in (entries_in c.args.omf.now)) c.args.mentions.now c.requires.declarations in
    let told = few_declarations c.args.omf.now in
    let small = c.is_module.ensures.small in
    let low = c.requires.there in
    omega (arith, held, told, small, low)

pub add_new_symbol-requires-clause-room : goal.add_new_symbol-requires-clause-room
add_new_symbol-requires-clause-room c =
    let held = few_held (declarations_in (entries_in c.args.omf.now)) c.args.mentions.now c.requires.declarations in
    let told = few_declarations c.args.omf.now in
    let small = c.is_module.ensures.small in
    let low = c.requires.there in
    let long = ap (λ (d : Draft). length d.object.symbols) c.requires.before in
    let room = symbols_room (entries_in c.args.omf.now) c.requires.clean c.args.k in
    omega (arith, held, told, small, low, long, room)

pub add_new_symbol-requires-clause-new : goal.add_new_symbol-requires-clause-new
add_new_symbol-requires-clause-new c =
    let s = c.index.result.now in
    let here : slice_get c.args.mentions.now.symbols.items c.args.k ≡ Some s = slice_get-get_or c.args.mentions.now.symbols.items c.args.k s c.requires.there ∙ ap (λ (s : Mentioned). Some s) (sym c.index.ensures) in
    subst IsOk
    (sym (ap (λ (d : Draft). symbol_added d c.in_ok-symbol.symbol) c.requires.before ∙ ap (symbol_added (symboled (entries_in c.args.omf.now) c.args.k)) c.in_ok-symbol.ensures
    ∙ symbol_ready (entries_in c.args.omf.now) c.requires.clean c.args.mentions.now c.requires.declarations c.args.k s here))
    refl

pub returns : goal.returns
returns c =
    let s = c.index.result.now in
    let here : slice_get c.args.mentions.now.symbols.items c.args.k ≡ Some s = slice_get-get_or c.args.mentions.now.symbols.items c.args.k s c.requires.there ∙ ap (λ (s : Mentioned). Some s) (sym c.index.ensures) in
    added_is _ (symboled (entries_in c.args.omf.now) (c.args.k + 1)) _
    (ap (λ (d : Draft). symbol_added d c.in_ok-symbol.symbol) c.requires.before ∙ ap (symbol_added (symboled (entries_in c.args.omf.now) c.args.k)) c.in_ok-symbol.ensures
    ∙ symbol_ready (entries_in c.args.omf.now) c.requires.clean c.args.mentions.now c.requires.declarations c.args.k s here)
    c.in_ok-add_new_symbol.ensures.added
