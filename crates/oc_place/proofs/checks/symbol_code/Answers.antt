use Rattle.std.proofs.Common.{◌∙◌, ap, sym}
use Rattle.oc_place.specs.{Placings.{at_position, given_code, is_lost}, Footprints.{footprint_of}}
use Rattle.oc_place.proofs.CheckLemmas.{symbol_is}
use Rattle.oc_place.proofs.checks.symbol_code.Goals as goal

pub returns : goal.returns
returns c =
    let n = c.args.object.now in
    let s = c.symbol.result.now in
    symbol_is n c.args.k s c.symbol.ensures c.args.notebook.now
    ∙ ap (at_position c.args.k) (ap (λ given. given_code s.binding (is_lost (footprint_of n) c.args.notebook.now s.binding) given.spot) (sym c.given.ensures)
    ∙ ap (λ lost. given_code s.binding lost c.given.result.spot) (sym c.is_lost.ensures) ∙ sym c.given_code.ensures)
