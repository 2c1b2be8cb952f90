-- There are few groups, and the one that begins has the next position.
use Rattle.oc_coff.specs.{Files.{tables_in}, Entries.{name_of}}
use Rattle.std.proofs.Common.{ℕ, ◌+◌, ◌∙◌, List, length, set, Some, sym, ap, subst, arith}
use Rattle.std.proofs.lemmas.List.{length-map}
use Rattle.oc_neutral.specs.{declared.group.Group.{Group}, Building.{Draft}}
use Rattle.oc_coff_read.specs.Built.{AreBegunGroups, keys_upto}
use Rattle.oc_coff_judge.specs.Numbered.{entry_by}
use Rattle.oc_coff_read.proofs.BegunLemmas.{begun_more, entry_named, group_begun, keys_few}
use Rattle.oc_coff_judge.proofs.LedLemmas.{leading}
use Rattle.oc_coff_read.proofs.built_groups.begin_group.Goals as goal

pub add_group-requires : goal.add_group-requires
add_group-requires c =
    let t = tables_in c.args.coff.now in
    let made : List ℕ → Group = λ key. record { key = key } in
    let long = ap (λ (d : Draft). length d.object.groups) c.requires.before in
    let count = length-map (keys_upto t c.args.i) made in
    let few = keys_few t c.args.i in
    let small = c.has_few.ensures in
    omega (arith, long, count, few, small, c.requires.there)

pub fill-requires : goal.fill-requires
fill-requires c =
    let l = leading (tables_in c.args.coff.now) c.in-Some.g (name_of (tables_in c.args.coff.now).strings (entry_by c.args.coff.now c.in-Some.j)) c.in-Some.ensures.led.is in
    let low = l.low in
    let long = c.requires.begun.long in
    omega (arith, low, long)

pub returns-in_ok-position-in-Some-clause-added : goal.returns-in_ok-position-in-Some-clause-added
returns-in_ok-position-in-Some-clause-added c =
    let file = c.args.coff.now in
    let key : List ℕ = name_of (tables_in file).strings (entry_by file c.in-Some.j) in
    group_begun c.args.word (tables_in file) c.args.i key c.in-Some.ensures.next c.args.builder.now c.add_group.new.self c.in_ok-group-in-Some.group c.requires.before
    (c.in_ok-group-in-Some.ensures ∙ entry_named file c.in-Some.j) c.in_ok-position-in-Some.ensures.added

pub returns-in_ok-position-in-Some-clause-begun : goal.returns-in_ok-position-in-Some-clause-begun
returns-in_ok-position-in-Some-clause-begun c =
    let file = c.args.coff.now in
    let t = tables_in file in
    let made : List ℕ → Group = λ key. record { key = key } in
    let next = c.in-Some.ensures in
    let key : List ℕ = name_of t.strings (entry_by file c.in-Some.j) in
    let position = c.in_ok-position-in-Some.ensures.position ∙ ap (λ (d : Draft). length d.object.groups) c.requires.before ∙ length-map (keys_upto t c.args.i) made in
    subst (AreBegunGroups t (keys_upto t (c.args.i + 1)))
    (sym (c.fill.ensures ∙ ap (λ (p : ℕ). set c.args.begun.now c.in-Some.g (Some p)) position))
    (subst (λ (keys : List (List ℕ)). AreBegunGroups t keys (set c.args.begun.now c.in-Some.g (Some (length (keys_upto t c.args.i))))) (sym next.next)
    (begun_more t c.requires.symbols (keys_upto t c.args.i) c.args.begun.now c.requires.begun c.in-Some.g key next.led.is next.new))
