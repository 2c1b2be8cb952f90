-- Entries that the stage of sections does not judge.
use Rattle.std.proofs.Common.{◌≡◌, ℕ, ◌++◌, false, [], ◌∙◌, ap, append-nil}
use Rattle.oc_omf_judge.specs.{declared.defined.Defined.{Defined}, Defined.{IsTakenUp, and_entry}}
use Rattle.oc_omf.specs.Entries.{Entry, all_read}
use Rattle.oc_omf_judge.proofs.{DefinedLemmas.{same_defined}, StageLaws.{later_judged}}

pub nothing_taken : (d : Defined) (x : ℕ × ℕ) (e : Entry) → e.names ≡ [] → e.segments ≡ [] → e.groups ≡ [] → e.pieces ≡ [] → e.ends ≡ false → IsTakenUp d x e d
nothing_taken d x e n s g p f t is = (
  later_judged t x e n s g p f,
  same_defined t (and_entry t e) d is
      (ap (λ xs. t.names ++ all_read xs) n ∙ append-nil t.names) (ap (λ xs. t.segments ++ all_read xs) s ∙ append-nil t.segments)
      (ap (λ xs. t.groups ++ all_read xs) g ∙ append-nil t.groups) (ap (λ xs. t.pieces ++ all_read xs) p ∙ append-nil t.pieces),
)
