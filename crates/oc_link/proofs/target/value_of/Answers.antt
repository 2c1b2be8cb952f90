use Rattle.std.proofs.Common.{◌≡◌, subst, sym}
use Rattle.oc_neutral.specs.{Invariants.{IsThere, NamesOriginal}, Worth.{target_worth}}
use Rattle.oc_link.specs.Values.{as_valued, laid, valued}
use Rattle.oc_link.proofs.ValueLemmas.{target_is}
use Rattle.oc_link.proofs.target.value_of.Goals as goal

pub returns-in-Symbol : goal.returns-in-Symbol
returns-in-Symbol c =
    let n = c.args.object.now in
    let x = c.args.placed.now in
    subst (λ t. as_valued (record { spot = c.spot_of.result; slot = c.slot_of.result }) ≡ target_worth n.symbols (laid n x) (valued n x) t) (sym c.in-Symbol.is)
    (target_is n c.is_object.ensures x c.in-Symbol.k (subst (IsThere n) c.in-Symbol.is c.requires.there) (subst (NamesOriginal n.symbols) c.in-Symbol.is c.requires.original)
    (record { spot = c.spot_of.result; slot = c.slot_of.result }) c.spot_of.ensures c.slot_of.ensures)
