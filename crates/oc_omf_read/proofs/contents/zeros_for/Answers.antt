-- Zeros for one segment more.
use Rattle.std.proofs.Common.{ℕ, ◌+◌, ◌<◌, ◌≡◌, ◌∷◌, [], length, replicate, sym, ◌∙◌, ap, subst, length-append}
use Rattle.std.specs.{Prelude.{Vec, List}, Global.{Global}}
use Rattle.oc_omf_read.specs.Contents.{items_at, size_in}
use Rattle.oc_omf_read.proofs.ContentLemmas.{vectors_more}
use Rattle.oc_omf_read.proofs.contents.zeros_for.Goals as goal

pub loop-k-preserved : goal.loop-k-preserved
loop-k-preserved c = record {
  long = ap length c.in_ok-push.ensures.items ∙ length-append c.loop-k.vectors.items (c.in_ok-bytes.bytes ∷ []) ∙ ap (λ (n : ℕ). n + 1) c.loop-k.invariant.long;
  each = subst (λ (vs : List (Vec ℕ Global)). (j : ℕ) → j < c.loop-k.k + 1 → items_at vs j ≡ replicate {A = ℕ} (size_in c.args.known.now j) 0) (sym c.in_ok-push.ensures.items)
      (vectors_more (size_in c.args.known.now) c.loop-k.vectors.items c.in_ok-bytes.bytes c.loop-k.k c.loop-k.invariant.long c.loop-k.invariant.each
      (c.in_ok-bytes.ensures ∙ ap (λ (n : ℕ). replicate {A = ℕ} n 0) c.size_in.ensures));
}
