-- What was made decides, and there are no edits.
use Rattle.std.proofs.Common.{◌≡◌, List, ℕ, ◌∙◌, ap}
use Rattle.oc_base.specs.Formats.{word_for}
use Rattle.oc_made.specs.Files.{made_bytes}
use Rattle.objconv.proofs.Made.{made_planned, made_short, never_refused}
use Rattle.objconv.proofs.making.plan_made.Goals as goal

pub dispatch-requires : goal.dispatch-requires
dispatch-requires c =
    let same : c.as_slice.result.now ≡ made_bytes c.args.count (word_for c.args.to) = c.as_slice.ensures.value ∙ c.in_ok-bytes.ensures ∙ ap (made_bytes c.args.count) c.word_of.ensures in
    made_short c.args.count c.args.to c.requires.few c.requires.plain c.as_slice.result.now same

pub returns-in-Ok : goal.returns-in-Ok
returns-in-Ok c =
    let same : c.as_slice.result.now ≡ made_bytes c.args.count (word_for c.args.to) = c.as_slice.ensures.value ∙ c.in_ok-bytes.ensures ∙ ap (made_bytes c.args.count) c.word_of.ensures in
    made_planned c.args.count c.args.to c.requires.few c.requires.plain c.as_slice.result.now same _ c.new-edits.ensures _ c.in-Ok.ensures.dispatched

pub unreachable-requires : goal.unreachable-requires
unreachable-requires c =
    let same : c.as_slice.result.now ≡ made_bytes c.args.count (word_for c.args.to) = c.as_slice.ensures.value ∙ c.in_ok-bytes.ensures ∙ ap (made_bytes c.args.count) c.word_of.ensures in
    never_refused c.args.count c.args.to c.requires.few c.requires.plain c.as_slice.result.now same _ c.new-edits.ensures _ (rw c.in-Err-Refused.field-0-is at c.in-Err-Refused.ensures.refused)
