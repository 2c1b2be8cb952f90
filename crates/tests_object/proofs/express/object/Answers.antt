use Rattle.std.proofs.Common.{◌∙◌, subst, sym}
use Rattle.oc_target.specs.Fitted.{CanFit}
use Rattle.tests_object.proofs.{ElfObjects.{can_fit}, SmallObjects.{bare_complete}}
use Rattle.tests_object.proofs.express.object.Goals as goal

pub finish-requires : goal.finish-requires
finish-requires c = bare_complete _ _ c.in_ok-add_first.ensures.bare

pub returns : goal.returns
returns c =
    let made = c.in_ok-add_first.ensures in
    let first = c.in_ok-builder.ensures in
    subst (CanFit c.args.target) (sym c.finish.ensures)
    (can_fit c.word_of.result c.add_first.new.builder.object c.in_ok-section.field-0 (made.format ∙ first.format ∙ c.elf_of-format.ensures) (made.sections ∙ first.section)
    c.in_ok-section.ensures.given c.args.target (sym c.word_of.ensures) made.one)
