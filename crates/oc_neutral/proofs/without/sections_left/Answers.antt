use Rattle.std.proofs.Common.{◌∙◌, List, length, subst, sym}
use Rattle.std.specs.List.{AllByRecursion}
use Rattle.oc_neutral.specs.{declared.section.Section.{Section}, Invariants.{IsMember, groups_of}}
use Rattle.oc_neutral.proofs.LeftObject.{members_kept}
use Rattle.oc_neutral.proofs.without.sections_left.Goals as goal

pub regroup-requires-clause-members : goal.regroup-requires-clause-members
regroup-requires-clause-members c =
    let count = length c.args.left.now.places.items in
    subst (λ (xs : List Section). AllByRecursion (IsMember count) (groups_of xs)) (sym (c.as_mut_slice.ensures.value ∙ c.keep_only.ensures))
    (members_kept count c.args.stay.now c.args.sections.now.items c.requires.members)
