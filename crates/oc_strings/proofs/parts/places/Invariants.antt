use Rattle.std.proofs.Common.{◌≡◌, ℕ, ◌<◌, List, length, get_or}
use denote.Ref.{Bor}
use Rattle.oc_strings.specs.declared.table.NameSpan.{NameSpan}
use Rattle.oc_strings.proofs.parts.places.Given as goal

abbrev pub invariant-loop-k : goal.invariant-loop-k
invariant-loop-k l = record {
  count : length l.places.items ≡ l.k;
  at : (j : ℕ) (d : NameSpan) → j < l.k → (get_or l.places.items j d).at ≡ get_or l.offsets j 0;
  len : (j : ℕ) (d : NameSpan) (e : Bor (List ℕ)) → j < l.k → (get_or l.places.items j d).len ≡ length (get_or l.names j e).now;
}
