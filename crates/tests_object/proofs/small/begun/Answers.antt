use Rattle.std.proofs.Common.{ap}
use Rattle.oc_neutral.specs.Objects.{Object}
use Rattle.tests_object.proofs.SmallObjects.{begun_bare, begun_is}
use Rattle.tests_object.proofs.small.begun.Goals as goal

pub returns-clause-bare : goal.returns-clause-bare
returns-clause-bare c = begun_bare c.args.format c.new-builder.result c.add_section.new.self c.args.section c.new-builder.ensures c.in_ok-add_section.ensures.added c.requires.alone

pub returns-clause-none : goal.returns-clause-none
returns-clause-none c = ap (λ (n : Object). n.symbols) (begun_is c.args.format c.new-builder.result c.add_section.new.self c.args.section c.new-builder.ensures c.in_ok-add_section.ensures.added)

pub returns-clause-section : goal.returns-clause-section
returns-clause-section c = ap (λ (n : Object). n.sections) (begun_is c.args.format c.new-builder.result c.add_section.new.self c.args.section c.new-builder.ensures c.in_ok-add_section.ensures.added)

pub returns-clause-format : goal.returns-clause-format
returns-clause-format c = ap (λ (n : Object). n.format) (begun_is c.args.format c.new-builder.result c.add_section.new.self c.args.section c.new-builder.ensures c.in_ok-add_section.ensures.added)
