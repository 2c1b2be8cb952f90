-- The edges that are listed tell which sections hold addresses.
use Rattle.std.proofs.Common.{◌∙◌, ap, sym, subst}
use Rattle.oc_macho_judge.specs.Holders.{AreHolders, AreInOrder, places_of}
use Rattle.oc_macho_judge.proofs.HolderLemmas.{listed_are, listed_in_order}
use Rattle.oc_macho_judge.proofs.holders.Holders.of.Goals as goal

pub invariant_of-result : goal.invariant_of-result
invariant_of-result c = (
  subst AreInOrder (sym c.in_ok-list.ensures.list) (listed_in_order c.in_ok-bytes.bytes.entries c.in_ok-edges.edges.entries c.in_ok-list.ensures.order),
  c.in_ok-places.ensures ∙ ap places_of c.deref.ensures.value,
)

pub returns : goal.returns
returns c =
    subst (AreHolders c.args.frame.now) (sym c.in_ok-list.ensures.list)
    (listed_are c.args.frame.now c.in_ok-edges.edges.entries c.in_ok-bytes.bytes.entries c.in_ok-list.ensures.order c.in_ok-edges.ensures c.in_ok-bytes.ensures)
