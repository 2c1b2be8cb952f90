-- Each turn adds the entry of the next segment.
use Rattle.std.proofs.Common.{◌≡◌, ◌+◌, ◌-◌, List, ◌++◌, map, ◌∙◌, ap, suc, arith}
use Rattle.std.specs.List.{range_with_len}
use Rattle.oc_target.proofs.Steps.{more_done}
use Rattle.oc_omf_write.specs.declared.entries.Entry.{Entry}
use Rattle.oc_omf_write.specs.declared.entries.Entry.TheVariants as entry
use Rattle.oc_omf_write.proofs.planning.add_segments.Goals as goal

pub loop-k-preserved : goal.loop-k-preserved
loop-k-preserved c =
    let k = c.loop-k.k in
    let more = c.loop-k-test.true in
    let left : c.args.count - k ≡ suc (c.args.count - (k + 1)) = omega (arith, more) in
    let rest : List Entry = map entry.Segment (range_with_len (k + 1) (c.args.count - (k + 1))) in
    ap (λ (es : List Entry). es ++ rest) c.in_ok-push.ensures.items
    ∙ more_done c.loop-k.entries.items _ _ rest (entry.Segment k) c.loop-k.invariant (ap (λ m. map entry.Segment (range_with_len k m)) left)
