-- A section of which any copy is kept is there.
use Rattle.oc_coff.specs.{Files.{tables_in}, declared.constants.TheConstants.{IMAGE_COMDAT_SELECT_ANY}, Comdat.{definition_in, selects}}
use Rattle.std.proofs.Common.{◌≡◌, true, sym, ◌∙◌, ap}
use Rattle.oc_coff_judge.proofs.{LedLemmas.{defined_low}, OwnedLemmas.{selected_some}}
use Rattle.oc_coff_judge.proofs.keys.led_symbol.Goals as goal

pub key_symbol-requires-clause-low : goal.key_symbol-requires-clause-low
key_symbol-requires-clause-low c =
    let t = tables_in c.args.coff.now in
    let any : selects IMAGE_COMDAT_SELECT_ANY (definition_in t c.args.k) ≡ true = ap (selects IMAGE_COMDAT_SELECT_ANY) (sym c.definition_in.ensures) ∙ sym c.selects.ensures ∙ c.if-not-selects.false in
    let d = selected_some IMAGE_COMDAT_SELECT_ANY (definition_in t c.args.k) any in
    (defined_low t c.args.k d.0 d.1).1
