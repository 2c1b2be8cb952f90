-- There are few groups, and the one that begins has the next position.
use Rattle.std.proofs.Common.{ℕ, ◌+◌, ◌∙◌, List, length, set, Some, sym, ap, subst, arith}
use Rattle.std.proofs.lemmas.List.{length-map}
use Rattle.oc_neutral.specs.{declared.group.Group.{Group}, Building.{Draft}}
use Rattle.oc_elf_read.specs.Built.{AreBegunGroups, keys_upto}
use Rattle.oc_elf_read.proofs.BegunLemmas.{begun_more, keys_few}
use Rattle.oc_elf_read.proofs.built_groups.begin_group.Goals as goal

pub add_group-requires : goal.add_group-requires
add_group-requires c =
    let f = c.args.frame.now in
    let made : List ℕ → Group = λ key. record { key = key } in
    let long = ap (λ (d : Draft). length d.object.groups) c.requires.before in
    let count = length-map (keys_upto f c.args.k) made in
    let few = keys_few f c.args.k in
    let small = c.is_frame.ensures.few in
    omega (arith, long, count, few, small, c.requires.there)

pub returns-in_ok-position-in-Some-clause-begun : goal.returns-in_ok-position-in-Some-clause-begun
returns-in_ok-position-in-Some-clause-begun c =
    let f = c.args.frame.now in
    let made : List ℕ → Group = λ key. record { key = key } in
    let next = c.in-Some.ensures in
    let position = c.in_ok-position-in-Some.ensures.position ∙ ap (λ (d : Draft). length d.object.groups) c.requires.before ∙ length-map (keys_upto f c.args.k) made in
    subst (AreBegunGroups f (keys_upto f (c.args.k + 1))) (sym (c.fill.ensures ∙ ap (λ (p : ℕ). set c.args.begun.now c.in-Some.g (Some p)) position))
    (subst (λ (keys : List (List ℕ)). AreBegunGroups f keys (set c.args.begun.now c.in-Some.g (Some (length (keys_upto f c.args.k))))) (sym next.next)
    (begun_more f c.is_frame.ensures c.requires.sections c.requires.symbols (keys_upto f c.args.k) c.args.begun.now c.requires.begun c.in-Some.g next.low c.in-Some.key.now next.is next.new))
