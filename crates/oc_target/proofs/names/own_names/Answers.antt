use Rattle.std.proofs.Common.{map, ap, ◌+◌}
use Rattle.std.specs.Prelude.{drop}
use Rattle.oc_neutral.specs.declared.section.Section.{Section}
use Rattle.oc_target.proofs.Steps.{more_done}
use Rattle.oc_target.proofs.names.own_names.Goals as goal
use Rattle.oc_neutral.proofs.FieldLists.{drop_here}

pub loop-k-preserved : goal.loop-k-preserved
loop-k-preserved c =
    let n = c.args.neutral.now in
    let s = c.section.result.now in
    let more = more_done c.loop-k.names.items _ _ (map (λ (s : Section). s.name) (drop (c.loop-k.k + 1) n.sections)) s.name c.loop-k.invariant (ap (map (λ (s : Section). s.name)) (drop_here n.sections c.loop-k.k s c.section.ensures)) in
    rw (c.in_ok-push.ensures.items, c.in_ok-from_slice.ensures, c.as_slice.ensures) more
