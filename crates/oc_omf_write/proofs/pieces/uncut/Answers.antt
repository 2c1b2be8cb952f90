-- The last field below the offset is the one that could be cut.
use Rattle.std.proofs.Common.{◌≡◌, ◌+◌, ◌-◌, true, false, cond, nat_lt, Some, None, get_or, sym, ◌∙◌, ap, arith}
use Rattle.std.specs.Option.{unwrap_or}
use Rattle.std.proofs.lemmas.{Bool.Decides.{nat_tests}, Option.{slice_get-get_or}}
use Rattle.oc_omf_write.specs.declared.fixups.Fixup.{Fixup}
use Rattle.oc_omf_write.proofs.PieceLemmas.{uncut_none, uncut_last, below_at}
use Rattle.oc_omf_write.proofs.pieces.uncut.Goals as goal

-- what a read past the end would give
abbrev blank : Fixup
blank = record { at = 0; self_relative = false; frame = record { number = 0; index = 0 }; target = record { number = 0; index = 0 } }

pub returns-then-below-eq0 : goal.returns-then-below-eq0
returns-then-below-eq0 c =
    let count = c.count_below-below.ensures.count in
    let zero = c.if-below-eq0.true in
    sym (ap (λ o. unwrap_or o c.args.to) (uncut_none 0 c.args.to c.args.fixups.now c.requires.order (omega (arith, count, zero))))

pub bounds-fixups-below : goal.bounds-fixups-below
bounds-fixups-below c =
    let few = c.count_below-below.ensures.few in
    let some = c.if-below-eq0.false in
    omega (arith, few, some)

pub overflow_add-last : goal.overflow_add-last
overflow_add-last c =
    let count = c.count_below-below.ensures.count in
    let some = c.if-below-eq0.false in
    let small = c.requires.small in
    let low = below_at 0 c.args.to c.args.fixups.now (c.count_below-below.result - 1) blank c.requires.order (omega (arith, count, some)) in
    omega (arith, low, small)

pub returns-then-last-to : goal.returns-then-last-to
returns-then-last-to c =
    let xs = c.args.fixups.now in
    let k = c.count_below-below.result - 1 in
    let count = c.count_below-below.ensures.count in
    let few = c.count_below-below.ensures.few in
    let some = c.if-below-eq0.false in
    let last : Fixup = get_or xs k blank in
    let here = slice_get-get_or xs k blank (omega (arith, few, some)) in
    let cut = c.if-last-to.true in
    let is : nat_lt c.args.to (last.at + 4) ≡ true = grind (arith, nat_tests, cut) in
    sym (ap (λ o. unwrap_or o c.args.to) (
    uncut_last 0 c.args.to xs k last c.requires.order (omega (arith, count, some)) here
    ∙ ap (λ b. cond b (Some last.at) None) is))

pub returns-else-last-to : goal.returns-else-last-to
returns-else-last-to c =
    let xs = c.args.fixups.now in
    let k = c.count_below-below.result - 1 in
    let count = c.count_below-below.ensures.count in
    let few = c.count_below-below.ensures.few in
    let some = c.if-below-eq0.false in
    let last : Fixup = get_or xs k blank in
    let here = slice_get-get_or xs k blank (omega (arith, few, some)) in
    let cut = c.if-last-to.false in
    let is : nat_lt c.args.to (last.at + 4) ≡ false = grind (arith, nat_tests, cut) in
    sym (ap (λ o. unwrap_or o c.args.to) (
    uncut_last 0 c.args.to xs k last c.requires.order (omega (arith, count, some)) here
    ∙ ap (λ b. cond b (Some last.at) None) is))
