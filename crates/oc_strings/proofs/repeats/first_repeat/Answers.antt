-- Each entry is compared with the one before it.
use Rattle.std.proofs.Common.{◌≡◌, ◌-◌, ◌<◌, ◌≤◌, arith, sym, ◌∙◌, ap, length, get_or, subst, ◌+◌, Some}
use Rattle.std.specs.{List.Sorted.{IsPermutation}, Option.{option_copied}}
use Rattle.std.proofs.lemmas.List.{get_or_default, length-map}
use Rattle.oc_strings.specs.{declared.repeats.SortKey.{SortKey}, Repeats.{names_of, entries_of}}
use Rattle.oc_strings.proofs.{RepeatSorting.{found_first, least_kept, least_more, IsLeast}, repeats.first_repeat.Goals.{then-are_tied, else-are_tied}}
use Rattle.oc_strings.proofs.repeats.first_repeat.Goals as goal

pub loop-i-preserved : goal.loop-i-preserved
loop-i-preserved c =
    let names = names_of c.args.names.now in
    let es = c.sort.new.entries.items in
    let i = c.loop-i.i in
    let x = c.index.result.now in
    let y = c.index-in-loop-i.result.now in
    let some : 1 ≤ i = c.loop-i.auto.i in
    let low : i < length es = omega (arith, c.loop-i-test.true, c.len-i-end.ensures, c.sort.new.entries.ok.0) in
    let at_x : (d : SortKey) → x ≡ get_or es (i - 1) d = λ d. c.index.ensures ∙ get_or_default es (i - 1) x d (omega (arith, low)) in
    let at_y : (d : SortKey) → y ≡ get_or es i d = λ d. c.index-in-loop-i.ensures ∙ get_or_default es i y d low in
    elim c.if-are_tied.branch [
      | then-are_tied w ↦ subst (IsLeast names es (i + 1)) (sym (w.found-is ∙ ap Some w.sooner.ensures))
          (least_more names es i c.loop-i.found x y c.loop-i.invariant some low at_x at_y (sym c.are_tied.ensures ∙ w.if-are_tied.true))
      | else-are_tied w ↦ subst (IsLeast names es (i + 1)) (sym w.found-is)
          (least_kept names es i c.loop-i.found x y c.loop-i.invariant some low at_x at_y (sym c.are_tied.ensures ∙ w.if-are_tied.false))
    ]

pub returns : goal.returns
returns c =
    let names = names_of c.args.names.now in
    let es = c.sort.new.entries.items in
    found_first names es (subst (λ xs. IsPermutation xs es) (c.in_ok-entries.ensures ∙ ap (entries_of names) (sym (length-map c.args.names.now option_copied))) c.sort.ensures.same) c.sort.ensures.sorted c.loop-i.i c.loop-i.found
    (omega (arith, c.loop-i-test.false, c.len-i-end.ensures, c.sort.new.entries.ok.0)) c.loop-i.invariant
