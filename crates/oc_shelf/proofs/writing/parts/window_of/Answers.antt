-- A part more fills the buffer further.
use Rattle.std.proofs.Common.{◌≡◌, ℕ, ◌-◌, ◌<◌, ◌≤◌, List, [], ◌++◌, length, take, replicate, get_or, subst, sym, ◌∙◌, ap, arith, rules}
use Rattle.std.proofs.lemmas.List.{take_all}
use Rattle.oc_outside.specs.Windows.{IsFilled}
use Rattle.oc_shelf.specs.Writing.Parts.{Pieces, file_of, pieces_by}
use Rattle.oc_shelf.proofs.WritingLaws.WindowLemmas.{filled_long, filled_nothing}
use Rattle.oc_shelf.proofs.WritingLaws.LayoutLemmas.{get_any, front_ends, full, gap_ends, part_more, pieces_counted, start_ends}
use Rattle.oc_shelf.proofs.writing.parts.window_of.Goals as goal

pub loop-k-init : goal.loop-k-init
loop-k-init g c =
    let same : c.deref.result.now ≡ c.args.layout.now.places.items = c.deref.ensures.value in
    filled_nothing _ c.args.out.now c.args.from
    (start_ends c.args.layout.now (g.P.Parts.parts c.args.parts.now) c.requires.placed c.count_upto.result c.saturating_sub-first.result c.args.from
    (subst (λ (ps : List ℕ). c.count_upto.result ≤ length ps) same c.count_upto.ensures.within)
    (λ some. subst (λ (ps : List ℕ). get_or ps (c.count_upto.result - 1) 0 ≤ c.args.from) same (c.count_upto.ensures.before some)) c.saturating_sub-first.ensures)

pub returns-then-done-out : goal.returns-then-done-out
returns-then-done-out g c =
    full c.args.layout.now (g.P.Parts.parts c.args.parts.now) c.requires.placed c.loop-k.k c.args.out.now c.loop-k.out c.args.from c.loop-k.done c.loop-k.invariant (search rules)

pub fill_gap-done-requires-clause-filled : goal.fill_gap-done-requires-clause-filled
fill_gap-done-requires-clause-filled g c =
    let k = c.loop-k.k in
    let low : k < length c.args.layout.now.places.items = search rules in
    let place : c.index-place.result.now ≡ get_or c.args.layout.now.places.items k 0 = c.index-place.ensures ∙ get_any c.args.layout.now.places.items k _ 0 low in
    let front = front_ends c.args.layout.now (g.P.Parts.parts c.args.parts.now) c.requires.placed k low in
    let count = c.loop-k.invariant.count in
    omega (arith, place, front, count)

pub fill_part-done-requires-clause-room : goal.fill_part-done-requires-clause-room
fill_part-done-requires-clause-room g c =
    let layout = c.args.layout.now in
    let parts = g.P.Parts.parts c.args.parts.now in
    let k = c.loop-k.k in
    let front : List ℕ = file_of (take k (pieces_by layout parts)) in
    let low : k < length layout.places.items = search rules in
    let place : c.index-place.result.now ≡ get_or layout.places.items k 0 = c.index-place.ensures ∙ get_any layout.places.items k _ 0 low in
    let ends = front_ends layout parts c.requires.placed k low in
    let filled : IsFilled (front ++ replicate {A = ℕ} (c.index-place.result.now - length front) 0) c.args.from c.args.out.now c.fill_gap-done.new.out c.fill_gap-done.result
    = c.fill_gap-done.ensures front c.args.out.now (omega (arith, place, ends)) c.loop-k.invariant in
    let long : length (front ++ replicate {A = ℕ} (c.index-place.result.now - length front) 0) ≡ c.index-place.result.now
    = ap (λ p. length (front ++ replicate {A = ℕ} (p - length front) 0)) place ∙ gap_ends layout parts c.requires.placed k low ∙ sym place in
    let count = filled.count in
    omega (arith, count, filled_long _ _ _ _ _ filled)

pub fill_part-done-requires-clause-filled : goal.fill_part-done-requires-clause-filled
fill_part-done-requires-clause-filled g c =
    let layout = c.args.layout.now in
    let parts = g.P.Parts.parts c.args.parts.now in
    let k = c.loop-k.k in
    let front : List ℕ = file_of (take k (pieces_by layout parts)) in
    let low : k < length layout.places.items = search rules in
    let place : c.index-place.result.now ≡ get_or layout.places.items k 0 = c.index-place.ensures ∙ get_any layout.places.items k _ 0 low in
    let ends = front_ends layout parts c.requires.placed k low in
    let filled : IsFilled (front ++ replicate {A = ℕ} (c.index-place.result.now - length front) 0) c.args.from c.args.out.now c.fill_gap-done.new.out c.fill_gap-done.result
    = c.fill_gap-done.ensures front c.args.out.now (omega (arith, place, ends)) c.loop-k.invariant in
    let long : length (front ++ replicate {A = ℕ} (c.index-place.result.now - length front) 0) ≡ c.index-place.result.now
    = ap (λ p. length (front ++ replicate {A = ℕ} (p - length front) 0)) place ∙ gap_ends layout parts c.requires.placed k low ∙ sym place in
    let count = filled.count in
    omega (arith, count, long)

pub loop-k-preserved : goal.loop-k-preserved
loop-k-preserved g c =
    let layout = c.args.layout.now in
    let parts = g.P.Parts.parts c.args.parts.now in
    let k = c.loop-k.k in
    let front : List ℕ = file_of (take k (pieces_by layout parts)) in
    let low : k < length layout.places.items = search rules in
    let place : c.index-place.result.now ≡ get_or layout.places.items k 0 = c.index-place.ensures ∙ get_any layout.places.items k _ 0 low in
    let ends = front_ends layout parts c.requires.placed k low in
    let filled : IsFilled (front ++ replicate {A = ℕ} (c.index-place.result.now - length front) 0) c.args.from c.args.out.now c.fill_gap-done.new.out c.fill_gap-done.result
    = c.fill_gap-done.ensures front c.args.out.now (omega (arith, place, ends)) c.loop-k.invariant in
    let long : length (front ++ replicate {A = ℕ} (c.index-place.result.now - length front) 0) ≡ c.index-place.result.now
    = ap (λ p. length (front ++ replicate {A = ℕ} (p - length front) 0)) place ∙ gap_ends layout parts c.requires.placed k low ∙ sym place in
    subst (λ (zs : List ℕ). IsFilled zs c.args.from c.args.out.now c.fill_part-done.new.out c.fill_part-done.result)
    (ap (λ p. (front ++ replicate {A = ℕ} (p - length front) 0) ++ get_or parts k []) place ∙ part_more layout parts c.requires.placed k low)
    (c.fill_part-done.ensures (front ++ replicate {A = ℕ} (c.index-place.result.now - length front) 0) c.args.out.now long filled)

pub returns : goal.returns
returns g c =
    let past : length c.args.layout.now.places.items ≤ c.loop-k.k = search rules in
    let counted = pieces_counted c.args.layout.now (g.P.Parts.parts c.args.parts.now) c.requires.placed in
    subst (λ (ps : Pieces). IsFilled (file_of ps) c.args.from c.args.out.now c.loop-k.out c.loop-k.done)
    (take_all c.loop-k.k (pieces_by c.args.layout.now (g.P.Parts.parts c.args.parts.now)) (omega (arith, past, counted))) c.loop-k.invariant
