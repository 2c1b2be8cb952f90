-- What is built of a section of data is an object that can be fitted.
use Rattle.std.proofs.Common.{◌≡◌, refl, rules, sym, subst, ◌∙◌}
use Rattle.oc_base.specs.Formats.{word_for}
use Rattle.oc_neutral.specs.{Building.{empty_draft}, Invariants.{IsComplete}}
use Rattle.oc_target.specs.Fitted.{CanFit}
use Rattle.oc_plans.specs.Alone.{elf_of}
use Rattle.oc_plans.proofs.SectionAlone.{built_alone, can_fit, complete}
use Rattle.oc_plans.proofs.alone.object_of_data.Goals as goal

pub finish-requires : goal.finish-requires
finish-requires c =
    let w = word_for c.args.target in
    let x = c.in_ok-data.field-0 in
    let begun : c.new-builder.result ≡ empty_draft (elf_of w) = search rules in
    let built = built_alone w x c.in_ok-data.ensures.data _ c.add_section.new.self begun c.in_ok-add_section.ensures.added in
    subst IsComplete (sym built) (complete w x c.in_ok-data.ensures.data)

pub returns : goal.returns
returns c =
    let w = word_for c.args.target in
    let x = c.in_ok-data.field-0 in
    let begun : c.new-builder.result ≡ empty_draft (elf_of w) = search rules in
    let built = built_alone w x c.in_ok-data.ensures.data _ c.add_section.new.self begun c.in_ok-add_section.ensures.added in
    subst (CanFit c.args.target) (sym (c.finish.ensures ∙ built)) (can_fit w x c.in_ok-data.ensures.data c.args.target refl)
