use Rattle.std.proofs.Common.{◌∙◌, ap}
use Rattle.oc_neutral.specs.Building.{empty_draft}
use Rattle.bench.proofs.Shaped.{begun_elf}
use Rattle.bench.proofs.objects.begun.Goals as goal

pub returns : goal.returns
returns c =
    let made = c.in_ok-code.ensures in
    begun_elf c.args.word c.new-builder.result c.add_section.new.self c.in_ok-code.field-0 (c.new-builder.ensures ∙ ap empty_draft c.elf_of.ensures) c.in_ok-add_section.ensures.added
    (record { kind = made.kind; name = made.name; tag = made.tag; align = made.align; alone = made.alone })
