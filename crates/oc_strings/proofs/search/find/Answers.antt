use Rattle.std.proofs.Common.{ℕ, ◌+◌, ◌-◌, ◌/◌, ◌<◌, length, sym, ◌∙◌, arith}
use Rattle.oc_strings.specs.Inside.{names_in}
use Rattle.oc_strings.proofs.SearchLemmas.{narrowed_low, narrowed_high, narrowed_met, narrowed_out, no_place, compared, found_place}
use Rattle.oc_strings.proofs.search.find.Goals as goal

pub loop-low-preserved-in-Less : goal.loop-low-preserved-in-Less
loop-low-preserved-in-Less c =
    let m : ℕ = c.loop-low.low + (c.loop-low.high - c.loop-low.low) / 2 in
    let l : m < c.loop-low.high = omega arith in
    let w : m < length c.args.order.now = omega arith in
    narrowed_low (names_in c.args.head c.args.bytes.now c.args.given.now) c.args.order.now c.requires.searchable c.args.name.now c.loop-low.low c.loop-low.high m c.loop-low.invariant
    (omega arith) l
    (compared c.args.head c.args.bytes.now c.args.given.now c.args.order.now c.requires c.args.name.now m w c.name_at.result.now c.compare_backward.result c.name_at.ensures c.compare_backward.ensures
    ∙ c.in-Less.is)

pub loop-low-preserved : goal.loop-low-preserved
loop-low-preserved c =
    let m : ℕ = c.loop-low.low + (c.loop-low.high - c.loop-low.low) / 2 in
    let l : m < c.loop-low.high = omega arith in
    let w : m < length c.args.order.now = omega arith in
    narrowed_high (names_in c.args.head c.args.bytes.now c.args.given.now) c.args.order.now c.requires.searchable c.args.name.now c.loop-low.low c.loop-low.high m c.loop-low.invariant
    (omega arith) l
    (compared c.args.head c.args.bytes.now c.args.given.now c.args.order.now c.requires c.args.name.now m w c.name_at.result.now c.compare_backward.result c.name_at.ensures c.compare_backward.ensures
    ∙ c.in-Greater.is)

pub returns-in-Equal : goal.returns-in-Equal
returns-in-Equal c =
    let m : ℕ = c.loop-low.low + (c.loop-low.high - c.loop-low.low) / 2 in
    let l : m < c.loop-low.high = omega arith in
    let w : m < length c.args.order.now = omega arith in
    found_place c.args.head c.args.bytes.now c.args.given.now c.args.order.now c.requires c.args.name.now m w
    (narrowed_met (names_in c.args.head c.args.bytes.now c.args.given.now) c.args.order.now c.requires.searchable c.args.name.now m
    (compared c.args.head c.args.bytes.now c.args.given.now c.args.order.now c.requires c.args.name.now m w c.name_at.result.now c.compare_backward.result c.name_at.ensures c.compare_backward.ensures
    ∙ c.in-Equal.is))

pub returns : goal.returns
returns c =
    sym (no_place (names_in c.args.head c.args.bytes.now c.args.given.now) c.args.order.now c.requires.searchable c.args.name.now c.args.head
    (narrowed_out (names_in c.args.head c.args.bytes.now c.args.given.now) c.args.order.now c.requires.searchable c.args.name.now c.loop-low.low c.loop-low.high c.loop-low.invariant c.loop-low-test.false))
