use Rattle.std.proofs.Common.{◌≡◌, ◌<◌, ◌-◌, ◌+◌, ℕ, List, [], true, false, Option, Some, None, length, get_or, set, refl, sym, ◌∙◌, ap, subst, arith}
use Rattle.std.proofs.lemmas.{List.{length-map, length-set}, Bool.{both_ways}, Option.{same_Some}}
use Rattle.std.specs.Option.{is_none, is_some}
use denote.Ref.{Bor}
use Rattle.oc_strings.specs.{Tables.{capped, texts}, Order.{name_at}}
use Rattle.oc_strings.proofs.{SliceLemmas.{text_at}, WalkLemmas.{IsWalk, one_less, walk_none, walk_more, walk_stop, walk_end, walk_shorter, walk_within}}
use Rattle.oc_strings.proofs.spots.place_tails.Goals as goal

abbrev none : Bor (List ℕ)
none = record { ref_ptr = (0, 0); now = [] }

not_some : (o : Option ℕ) → is_some o ≡ false → is_none o ≡ true
not_some None e = refl
not_some (Some x) e = absurd (both_ways true e refl)

pub loop-current-init : goal.loop-current-init
loop-current-init c = record {
  offsets = c.requires.room;
  spots = c.requires.known.whole ∙ length-map c.args.names.now (λ (n : Bor (List ℕ)). n.now);
  low = λ i e. let same : c.args.number ≡ i = same_Some _ _ e in omega (arith, c.requires.within);
  walk = walk_none (texts c.args.names.now) c.args.spots.now c.args.at c.args.number c.args.offsets.now c.requires.known
      (omega (arith, c.requires.within, length-map c.args.names.now (λ (n : Bor (List ℕ)). n.now))) c.requires.top;
}

pub returns-then-is_some : goal.returns-then-is_some
returns-then-is_some c =
    let names : List (List ℕ) = texts c.args.names.now in
    let walk = subst (IsWalk names c.args.spots.now c.args.at c.args.number c.args.offsets.now c.loop-current.offsets) c.in-Some.is c.loop-current.invariant.walk in
    walk_end names c.args.spots.now c.args.at c.args.number c.args.offsets.now c.loop-current.offsets
    (walk_stop names c.args.spots.now c.args.at c.args.number c.args.offsets.now c.loop-current.offsets c.in-Some.i walk (sym c.is_some.ensures ∙ c.if-is_some.true) c.requires.closed)

pub overflow_sub-before : goal.overflow_sub-before
overflow_sub-before c =
    let names : List (List ℕ) = texts c.args.names.now in
    let walk = subst (IsWalk names c.args.spots.now c.args.at c.args.number c.args.offsets.now c.loop-current.offsets) c.in-Some.is c.loop-current.invariant.walk in
    omega (
      arith,
      walk_shorter names c.args.spots.now c.args.at c.args.number c.args.offsets.now c.loop-current.offsets c.in-Some.i walk,
      ap length (text_at c.args.names.now c.in-Some.i none [] (c.loop-current.invariant.low c.in-Some.i c.in-Some.is)),
      ap length (text_at c.args.names.now c.args.number none [] c.requires.within),
    )

pub loop-current-smaller : goal.loop-current-smaller
loop-current-smaller c =
    let low = c.loop-current.invariant.low c.in-Some.i c.in-Some.is in
    one_less c.loop-current.offsets c.in-Some.i c.saturating_add.result (omega (arith, low, c.loop-current.invariant.offsets))
    (not_some (get_or c.loop-current.offsets c.in-Some.i None) (sym c.is_some.ensures ∙ c.if-is_some.false))

pub loop-current-preserved : goal.loop-current-preserved
loop-current-preserved c =
    let names : List (List ℕ) = texts c.args.names.now in
    let i : ℕ = c.in-Some.i in
    let low : i < length c.args.names.now = c.loop-current.invariant.low i c.in-Some.is in
    let walk = subst (IsWalk names c.args.spots.now c.args.at c.args.number c.args.offsets.now c.loop-current.offsets) c.in-Some.is c.loop-current.invariant.walk in
    let offset : c.saturating_add.result ≡ capped (c.args.at + (length (name_at names c.args.number) - length (name_at names i)))
    = c.saturating_add.ensures
    ∙ ap (λ n. capped (c.args.at + (length n - length (get_or c.args.names.now i none).now))) (sym (text_at c.args.names.now c.args.number none [] c.requires.within))
    ∙ ap (λ n. capped (c.args.at + (length (name_at names c.args.number) - length n))) (sym (text_at c.args.names.now i none [] low))
    in
    let more
    = walk_more names c.args.spots.now c.args.at c.args.number c.args.offsets.now c.loop-current.offsets i walk c.saturating_add.result (record { is_top = false; tail = None })
    (omega (arith, low, c.loop-current.invariant.offsets)) (not_some (get_or c.loop-current.offsets i None) (sym c.is_some.ensures ∙ c.if-is_some.false)) offset
    in
    record {
      offsets = length-set c.loop-current.offsets i (Some c.saturating_add.result) ∙ c.loop-current.invariant.offsets;
      spots = c.loop-current.invariant.spots;
      low = λ j e.
          let there = walk_within names c.args.spots.now c.args.at c.args.number c.args.offsets.now (set c.loop-current.offsets i (Some c.saturating_add.result)) j
          (subst (IsWalk names c.args.spots.now c.args.at c.args.number c.args.offsets.now (set c.loop-current.offsets i (Some c.saturating_add.result))) e more) in
          omega (arith, there, length-map c.args.names.now (λ (n : Bor (List ℕ)). n.now));
      walk = more;
    }

pub returns : goal.returns
returns c =
    let names : List (List ℕ) = texts c.args.names.now in
    walk_end names c.args.spots.now c.args.at c.args.number c.args.offsets.now c.loop-current.offsets
    (subst (IsWalk names c.args.spots.now c.args.at c.args.number c.args.offsets.now c.loop-current.offsets) c.in_default.is c.loop-current.invariant.walk)
