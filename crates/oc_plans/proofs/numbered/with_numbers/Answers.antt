-- The sections are given back.
use Rattle.std.proofs.Common.{◌≡◌, List, length, sym, ◌∙◌, ap, subst, arith}
use Rattle.oc_neutral.specs.{declared.section.Section.{Section}, Constants.{LieWithin}}
use Rattle.oc_neutral.proofs.StoringSteps.{put_back}
use Rattle.oc_plans.specs.Numbered.{all_with_numbers}
use Rattle.oc_plans.proofs.numbered.with_numbers.Goals as goal

pub write_all-requires-clause-within : goal.write_all-requires-clause-within
write_all-requires-clause-within g c = subst (λ (xs : List Section). LieWithin xs c.args.relocs.now.lists) (sym c.as_mut_slice.ensures.value) c.requires.within

pub returns : goal.returns
returns g c = λ number_of tells.
    let items = c.args.sections.items in
    let long : length c.write_all.new.sections ≡ length items = c.write_all.ensures.long ∙ ap length c.as_mut_slice.ensures.value in
    put_back c.write_all.new.sections items c.args.sections.len long (let l = c.args.sections.ok.0 in omega (arith, l))
    ∙ c.write_all.ensures.numbers number_of tells
    ∙ ap (all_with_numbers number_of c.args.relocs.now.lists) c.as_mut_slice.ensures.value
