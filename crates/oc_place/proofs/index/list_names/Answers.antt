use Rattle.oc_linking.specs.Parts.{is_local}
use Rattle.oc_neutral.specs.Faces.{shown_symbols}
use Rattle.oc_place.specs.Written.{names_of}
use Rattle.oc_place.proofs.IndexLemmas.{place_here, one_listed}
use Rattle.oc_place.proofs.index.list_names.Goals as goal

pub loop-at-preserved : goal.loop-at-preserved
loop-at-preserved c =
    let n = c.args.object.now in
    one_listed (names_of (shown_symbols n)) c.loop-at.at (is_local c.symbol.result.now.binding) c.symbol.result.now.name c.loop-at.names.items c.list_name.new.names.items
    (place_here n c.loop-at.at c.symbol.result.now c.symbol.ensures) c.in_ok-list_name.ensures c.loop-at.invariant
