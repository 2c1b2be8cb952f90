-- No spans do not meet, and end nowhere.
use Rattle.std.proofs.Common.{sym, subst, List, ℕ}
use Rattle.std.proofs.lemmas.Option.{none-some}
use Rattle.oc_shelf.specs.Reading.Spans.{AreSpans, EndBy}
use Rattle.oc_shelf.proofs.ReadingLaws.SpanLemmas.{are_none}
use Rattle.oc_shelf.proofs.reading.spans.Spans.new.Goals as goal

pub invariant_of-result : goal.invariant_of-result
invariant_of-result c = (
  subst (λ (spans : List (ℕ × ℕ)). AreSpans spans) (sym c.new.ensures.empty) are_none,
  subst (λ (spans : List (ℕ × ℕ)). EndBy 0 spans) (sym c.new.ensures.empty) (λ q e h. absurd (none-some e h)),
)
