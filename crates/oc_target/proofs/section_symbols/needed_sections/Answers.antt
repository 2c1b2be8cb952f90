use Rattle.std.proofs.Common.{◌+◌, ◌<◌, ◌≤◌, ◌||◌, Bool, false, [], length, ◌∙◌, ap, sym, subst, arith}
use Rattle.std.specs.Prelude.{slice_index_or}
use Rattle.std.proofs.lemmas.Option.{slice_get-get_or}
use Rattle.std.proofs.Math.Bool.{or-false}
use Rattle.oc_chains.specs.Lists.{list_of}
use Rattle.oc_neutral.specs.Mach.SectionSymbols.{any_names}
use Rattle.oc_target.proofs.Marking.{marked_next, names_from, names_step, names_none, names_all}
use Rattle.oc_target.proofs.section_symbols.needed_sections.Goals as goal

pub loop-section-preserved : goal.loop-section-preserved
loop-section-preserved c =
    let n = c.args.neutral.now in
    let s = c.loop-section.section in
    let counted = c.is_object.ensures.built.fields.counted in
    let below : s < length n.relocs = omega (arith, c.loop-section-test.true, c.section_count-section-end.ensures, counted) in (
      c.mark_section.ensures.counted ∙ c.loop-section.invariant.0,
      λ k l.
          let old : Bool = slice_index_or c.loop-section.needed.items k false in
          let new : Bool = slice_index_or c.mark_section.new.needed.items k false in
          let marked = c.mark_section.ensures.marked k (subst (λ m. k < m) (sym c.loop-section.invariant.0) l) in
          marked_next old new (any_names k s (list_of n.relocs s)) (names_from n k (s + 1)) (names_from n k 0) marked
          (ap (λ b. old || b) (sym (names_step n k s (list_of n.relocs s) (slice_get-get_or n.relocs s [] below))) ∙ c.loop-section.invariant.1 k l),
    )

pub returns-clause-counted : goal.returns-clause-counted
returns-clause-counted c = c.loop-section.invariant.0

pub returns-clause-each : goal.returns-clause-each
returns-clause-each c = λ k l.
    let n = c.args.neutral.now in
    let s = c.loop-section.section in
    let old : Bool = slice_index_or c.loop-section.needed.items k false in
    let counted = c.is_object.ensures.built.fields.counted in
    let past : length n.relocs ≤ s = omega (arith, c.loop-section-test.false, c.section_count-section-end.ensures, counted) in
    sym (or-false old) ∙ ap (λ b. old || b) (sym (names_none n k s past)) ∙ c.loop-section.invariant.1 k l ∙ names_all n k
