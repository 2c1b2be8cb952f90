-- The point parts the edges up to an address from those above it.
use Rattle.std.proofs.Common.{◌≡◌, ℕ, ◌≤◌, length, nat_le, rules, sym, ◌∙◌, ap, subst, arith}
use Rattle.std.specs.List.Sorted.{IsNonDecreasingBy}
use Rattle.std.proofs.lemmas.{List.{length-map}, List.Sorted.{IsPartitionPoint-from_clause, IsPartitionedBy-leb}}
use Rattle.oc_macho_judge.specs.declared.holders.Edge.{Edge}
use Rattle.oc_macho_judge.proofs.HolderLemmas.{last_before, none_before, places_in_order, point_of_edges}
use Rattle.oc_macho_judge.proofs.holders.last_upto.Goals as goal

pub returns-then-upto-eq0-clause-none : goal.returns-then-upto-eq0-clause-none
returns-then-upto-eq0-clause-none c =
    let order = subst (IsNonDecreasingBy (λ (n : ℕ). n)) (sym c.requires.places) (places_in_order c.args.edges.now c.requires.order) in
    let parted = IsPartitionedBy-leb (λ (n : ℕ). n) c.args.places.now c.args.v order in
    none_before c.args.v c.args.edges.now c.partition_point-upto.result c.if-upto-eq0.true
    (point_of_edges c.args.v _ c.args.edges.now c.args.places.now c.requires.places
    (IsPartitionPoint-from_clause (λ (n : ℕ). nat_le n c.args.v) _ _ c.partition_point-upto.ensures.partitioned parted (λ a r q k. search rules)) c.partition_point-upto.ensures.bound)

pub returns-clause-some : goal.returns-clause-some
returns-clause-some c =
    let order = subst (IsNonDecreasingBy (λ (n : ℕ). n)) (sym c.requires.places) (places_in_order c.args.edges.now c.requires.order) in
    let parted = IsPartitionedBy-leb (λ (n : ℕ). n) c.args.places.now c.args.v order in
    let long : length c.args.places.now ≡ length c.args.edges.now = ap length c.requires.places ∙ length-map c.args.edges.now (λ (e : Edge). e.at) in
    let bound = c.partition_point-upto.ensures.bound in
    last_before c.args.v c.args.edges.now _ c.partition_point-upto.result c.requires.order (omega arith) (omega (arith, bound, long))
    (point_of_edges c.args.v _ c.args.edges.now c.args.places.now c.requires.places
    (IsPartitionPoint-from_clause (λ (n : ℕ). nat_le n c.args.v) _ _ c.partition_point-upto.ensures.partitioned parted (λ a r q k. search rules)) bound)
