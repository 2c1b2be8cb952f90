use Rattle.std.proofs.Common.{◌≡◌, ◌<◌, ℕ, Bool, not, List, Option, None, length, get_or, set, sym, ◌∙◌, ap, subst, arith, ⊎_elim}
use Rattle.std.proofs.lemmas.{List.{get_or_default, get_or-set_same, get_or-set_other, length-map, length-set}, Bool.{cases_eq}}
use Rattle.std.specs.Option.{option_map}
use denote.Ref.{Bor}
use Rattle.oc_strings.specs.{declared.spots.Spot.{Spot}, Order.{AreTails, ends_next, number_at, spot_of, names_of}, Tables.{texts}}
use Rattle.oc_strings.proofs.EntryLemmas.{count_of_names, none, number_is, number_within}
use Rattle.oc_strings.proofs.spots.spots_of.Goals as goal

pub loop-k-preserved : goal.loop-k-preserved
loop-k-preserved c =
    let names = texts c.args.names.now in
    let entries = c.args.order.entries.items in
    let tails = c.args.order.tails.items in
    let k : ℕ = c.loop-k.k in
    let low : k < length entries = omega (arith, c.loop-k-test.true, ap length c.deref-entry-items.ensures.value) in
    let n : ℕ = (get_or c.deref-entry-items.result.now k none).number in
    let is : n ≡ number_at entries k = ap (λ es. (get_or es k none).number) c.deref-entry-items.ensures.value ∙ sym (number_is entries k none low) in
    let room : n < length c.loop-k.spots.items
    = omega (arith, is, number_within names entries tails c.requires k low, c.loop-k.invariant.whole, length-map c.args.names.now (λ (x : Bor (List ℕ)). x.now)) in
    let spot : Spot = record { is_top = c.is_top.result; tail = c.number_of.result } in
    let there : k < length tails = omega (arith, low, c.requires.tails_are.0, count_of_names entries) in
    let top : c.is_top.result ≡ not (ends_next (names_of entries) k)
    = c.is_top.ensures (names_of entries) (subst (AreTails (names_of entries)) (sym c.deref.ensures.value) c.requires.tails_are)
    in
    let tail : c.number_of.result ≡ option_map (number_at entries) (get_or tails k None)
    = c.number_of.ensures ∙ ap (λ es. option_map (number_at es) c.index.result.now) c.deref-in-loop-k.ensures.value
    ∙ ap (option_map (number_at entries)) (c.index.ensures ∙ get_or_default tails k c.index.result.now None there)
    in
    let here : spot ≡ spot_of entries tails k
    = ap (λ (b : Bool). record { is_top = b; tail = c.number_of.result }) top ∙ ap (λ (t : Option ℕ). record { is_top = not (ends_next (names_of entries) k); tail = t }) tail
    in
    record {
      whole = length-set c.loop-k.spots.items n spot ∙ c.loop-k.invariant.whole;
      are = λ j d l.
          ⊎_elim
          (λ same.
          subst (λ m. get_or (set c.loop-k.spots.items n spot) (number_at entries m) d ≡ spot_of entries tails m) (sym same)
          (ap (λ m. get_or (set c.loop-k.spots.items n spot) m d) (sym is) ∙ get_or-set_same c.loop-k.spots.items n spot d room ∙ here))
          (λ other.
          let before : j < k = omega (arith, l, other) in
          get_or-set_other c.loop-k.spots.items n (number_at entries j) spot d (λ e. c.requires.apart j k before low (e ∙ is))
          ∙ c.loop-k.invariant.are j d before)
          (cases_eq j k);
    }

pub returns : goal.returns
returns c = record {
  entries = c.args.order.entries.items;
  tails = c.args.order.tails.items;
  order = c.requires;
  whole = c.loop-k.invariant.whole ∙ sym (length-map c.args.names.now (λ (x : Bor (List ℕ)). x.now));
  are = λ k d l. c.loop-k.invariant.are k d (omega (arith, l, c.loop-k-test.false, ap length c.deref-entry-items.ensures.value));
}
