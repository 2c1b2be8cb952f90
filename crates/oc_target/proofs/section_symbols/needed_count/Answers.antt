use Rattle.std.proofs.Common.{◌≡◌, ◌<◌, length, refl, ◌∙◌, ap, sym, arith}
use Rattle.std.specs.{Prelude.{slice_index_or, false}, List.{count_by, range_with_len}}
use Rattle.oc_neutral.specs.Mach.SectionSymbols.{needs_section_symbol}
use Rattle.oc_target.proofs.{Counting.{numbered_next}, Marking.{needed_counted}}
use Rattle.oc_target.proofs.section_symbols.needed_count.Goals as goal

pub loop-k-preserved : goal.loop-k-preserved
loop-k-preserved c =
    let n = c.args.neutral.now in
    let k = c.loop-k.k in
    let below : k < length n.sections = omega (arith, c.loop-k-test.true, c.section_count-k-end.ensures) in
    let tested = c.is_marked.ensures ∙ ap (λ xs. slice_index_or xs k false) c.deref.ensures.value ∙ c.in_ok-needed.ensures.each k below in
    numbered_next (needs_section_symbol n) k c.loop-k.count _ c.from-count.result c.is_marked.result tested c.from-count.ensures refl c.loop-k.invariant

pub returns : goal.returns
returns c =
    let n = c.args.neutral.now in
    let done : c.loop-k.k ≡ length n.sections = omega (arith, c.loop-k-test.false, c.loop-k.auto.k-end, c.section_count-k-end.ensures) in
    c.loop-k.invariant.0 ∙ ap (λ m. count_by (needs_section_symbol n) (range_with_len 0 m)) done ∙ sym (needed_counted n)
