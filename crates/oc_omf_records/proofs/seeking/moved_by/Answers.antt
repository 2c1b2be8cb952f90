use Rattle.std.proofs.Common.{rules, ◌+◌}
use Rattle.std.proofs.lemmas.List.Edits.{map_over_more}
use Rattle.oc_omf_records.proofs.seeking.moved_by.Goals as goal

pub loop-place-preserved : goal.loop-place-preserved
loop-place-preserved c =
    map_over_more (λ place. c.args.by + place) _ _ _ c.from.result (search rules) c.loop-place.invariant (search rules)
