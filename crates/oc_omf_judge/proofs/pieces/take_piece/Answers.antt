-- Data whose segment is there, that lie in it, and that meet no others.
use Rattle.std.proofs.Common.{rules, ◌≡◌, ℕ, ◌+◌, ◌-◌, ◌<◌, ◌≤◌, true, cond, length, Some, None, refl, sym, ◌∙◌, ap, arith}
use Rattle.std.proofs.Math.ListN.{set}
use Rattle.std.proofs.lemmas.List.{length-set, with_items_is}
use Rattle.oc_base.specs.declared.code.Code.TheVariants.{DataOverlap}
use Rattle.oc_omf.specs.{Sections.{segment_size}, SectionFaults.{own_fault}}
use Rattle.oc_omf_judge.proofs.DefinedLemmas.{looked_up}
use Rattle.oc_omf_judge.proofs.PieceLemmas.{empty_taken, full_taken, indexed_at, inside_clean, lost_piece, meets_spans, outside_stops, piece_inside}
use Rattle.oc_omf_judge.proofs.pieces.take_piece.Goals as goal

pub returns-in_default-clause-stop : goal.returns-in_default-clause-stop
returns-in_default-clause-stop c = λ row least t is.
    let there = looked_up t c.args.defined.now c.as_slice.result.now c.args.head.segment c.segment_at.result None is c.as_slice.ensures.value c.segment_at.ensures (search rules) in
    lost_piece t (c.args.spot.index, c.args.spot.place) c.args.head row there ∙ ap (λ f. Some f) (sym c.own_fault.ensures)

pub returns-then-from-size-clause-stop : goal.returns-then-from-size-clause-stop
returns-then-from-size-clause-stop c = λ row least t is.
    let there = looked_up t c.args.defined.now c.as_slice.result.now c.args.head.segment c.segment_at.result (Some c.in-Some.segment) is c.as_slice.ensures.value c.segment_at.ensures c.in-Some.is in
    let over : segment_size c.in-Some.segment < c.args.head.offset + c.args.size = omega (arith, c.if-from-size.true, c.from.ensures, c.segment_size.ensures.size) in
    outside_stops t (c.args.spot.index, c.args.spot.place) c.args.head row c.in-Some.segment c.args.size there least over ∙ ap (λ f. Some f) (sym c.own_fault-then-from-size.ensures)

pub returns-then-size-eq0-clause-taken : goal.returns-then-size-eq0-clause-taken
returns-then-size-eq0-clause-taken c = λ row least t is.
    let there = looked_up t c.args.defined.now c.as_slice.result.now c.args.head.segment c.segment_at.result (Some c.in-Some.segment) is c.as_slice.ensures.value c.segment_at.ensures c.in-Some.is in
    let low : c.args.head.offset ≤ segment_size c.in-Some.segment = omega (arith, c.if-from-size.false, c.from.ensures, c.segment_size.ensures.size) in
    let inside = piece_inside t c.args.defined.now c.args.head row c.in-Some.segment 0 is there (sym c.if-size-eq0.true ∙ least) (omega (arith, low)) in
    empty_taken t c.args.defined.now (c.args.spot.index, c.args.spot.place) c.args.head row c.in-Some.segment is there inside low

pub returns-then-is_met-clause-stop : goal.returns-then-is_met-clause-stop
returns-then-is_met-clause-stop c = λ row least t is.
    let x : ℕ × ℕ = (c.args.spot.index, c.args.spot.place) in
    let there = looked_up t c.args.defined.now c.as_slice.result.now c.args.head.segment c.segment_at.result (Some c.in-Some.segment) is c.as_slice.ensures.value c.segment_at.ensures c.in-Some.is in
    let low : c.args.head.offset + c.args.size ≤ segment_size c.in-Some.segment = omega (arith, c.if-from-size.false, c.from.ensures, c.segment_size.ensures.size) in
    let inside = piece_inside t c.args.defined.now c.args.head row c.in-Some.segment c.args.size is there least low in
    let some : 1 ≤ c.args.size = omega (arith, c.if-size-eq0.false) in
    let exact = inside.exact in
    inside_clean t x c.args.head row c.in-Some.segment there (omega (arith, exact, low))
    ∙ ap (λ b. cond b (Some (own_fault x DataOverlap)) None)
    (meets_spans t c.args.defined.now c.args.head row c.args.size c.place_in-begin.result c.is_met.result is inside some c.place_in-begin.ensures c.is_met.ensures.met c.is_met.ensures.free ∙ c.if-is_met.true)
    ∙ ap (λ f. Some f) (sym c.own_fault-then-is_met.ensures)

pub cover-requires-clause-there : goal.cover-requires-clause-there
cover-requires-clause-there c =
    let at = indexed_at c.as_slice.result.now c.args.head.segment c.in-Some.segment (sym c.segment_at.ensures ∙ c.in-Some.is) in
    let same : length c.as_slice.result.now ≡ length c.args.defined.now.segments.items = ap length c.as_slice.ensures.value in
    let other : length c.as_mut_slice.result.now ≡ length c.args.defined.now.covered.items = ap length c.as_mut_slice.ensures.value in
    let long = c.requires.long in
    omega (arith, at.1, same, other, long)

pub returns-clause-taken : goal.returns-clause-taken
returns-clause-taken c = λ row least t is.
    let x : ℕ × ℕ = (c.args.spot.index, c.args.spot.place) in
    let there = looked_up t c.args.defined.now c.as_slice.result.now c.args.head.segment c.segment_at.result (Some c.in-Some.segment) is c.as_slice.ensures.value c.segment_at.ensures c.in-Some.is in
    let low : c.args.head.offset + c.args.size ≤ segment_size c.in-Some.segment = omega (arith, c.if-from-size.false, c.from.ensures, c.segment_size.ensures.size) in
    let inside = piece_inside t c.args.defined.now c.args.head row c.in-Some.segment c.args.size is there least low in
    let some : 1 ≤ c.args.size = omega (arith, c.if-size-eq0.false) in
    let exact = inside.exact in
    let begin = c.place_in-begin.result in
    let long : length c.cover.new.covered ≡ c.args.defined.now.covered.len
    = ap length c.cover.ensures ∙ length-set c.as_mut_slice.result.now _ true ∙ ap length c.as_mut_slice.ensures.value ∙ sym c.args.defined.now.covered.ok.0 in (
      inside_clean t x c.args.head row c.in-Some.segment there (omega (arith, exact, low))
          ∙ ap (λ b. cond b (Some (own_fault x DataOverlap)) None)
          (meets_spans t c.args.defined.now c.args.head row c.args.size begin c.is_met.result is inside some c.place_in-begin.ensures c.is_met.ensures.met c.is_met.ensures.free ∙ c.if-is_met.false),
      full_taken t c.args.defined.now _ c.args.head row c.args.size begin is inside some c.place_in-begin.ensures (c.is_met.ensures.free c.if-is_met.false) c.in_ok-take.ensures.ok refl refl refl refl
          (with_items_is c.args.defined.now.covered c.cover.new.covered long ∙ c.cover.ensures ∙ ap (λ xs. set xs (c.args.head.segment - 1) true) c.as_mut_slice.ensures.value),
    )
