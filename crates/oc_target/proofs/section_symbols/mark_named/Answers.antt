use Rattle.std.proofs.Common.{◌<◌, ◌&&◌, ◌||◌, Bool, false, ◌∙◌, ap, sym, subst}
use Rattle.std.specs.Prelude.{nat_eq, slice_index_or}
use Rattle.oc_neutral.specs.{Mach.SelfReferences.{is_long_distance, is_section}, Normal.{takes_section}}
use Rattle.oc_target.proofs.Marking.{marked_thrice}
use Rattle.oc_target.proofs.section_symbols.mark_named.Goals as goal

pub returns-clause-marked : goal.returns-clause-marked
returns-clause-marked c k l =
    let within = subst (λ m. k < m) (sym c.mark.ensures.counted) l in
    let old : Bool = slice_index_or c.args.needed.now.items k false in
    let one : Bool = slice_index_or c.mark.new.marked.items k false in
    let two : Bool = slice_index_or c.mark-2.new.marked.items k false in
    let three : Bool = slice_index_or c.mark-3.new.marked.items k false in
    marked_thrice old one two three (is_section k c.args.reloc.target) (takes_section k c.args.reloc.form.less) (nat_eq c.args.section k && is_long_distance c.args.reloc.form)
    (c.mark.ensures.marked k l ∙ ap (λ b. old || b) (c.target_section.ensures k)) (c.mark-2.ensures.marked k within ∙ ap (λ b. one || b) (c.less_section.ensures k))
    (c.mark-3.ensures.marked k (subst (λ m. k < m) (sym c.mark-2.ensures.counted) within) ∙ ap (λ b. two || b) (c.own_section.ensures k))
