use Rattle.std.proofs.Common.{sym, subst}
use Rattle.oc_neutral.specs.Faces.{shown_symbols}
use Rattle.oc_place.specs.{Indexes.{AreListed}, Written.{names_of}}
use Rattle.oc_strings.proofs.RepeatLemmas.{named_within}
use Rattle.oc_place.proofs.IndexLemmas.{in_order, length-names}
use Rattle.oc_place.proofs.index.index_of.Goals as goal

pub returns : goal.returns
returns c =
    let n = c.args.object.now in
    in_order (names_of (shown_symbols n)) c.in_ok-names.names.items c.sort.new.names.items
    (subst (λ k. AreListed (names_of (shown_symbols n)) k c.in_ok-names.names.items) (sym (length-names n)) c.in_ok-names.ensures)
    c.sort.ensures.same c.sort.ensures.sorted (named_within (names_of (shown_symbols n)))
