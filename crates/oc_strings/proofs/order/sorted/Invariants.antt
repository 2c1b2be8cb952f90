use Rattle.std.proofs.Common.{◌≡◌, ℕ, ◌<◌, ◌^◌, List, length, get_or}
use denote.Ref.{Bor}
use Rattle.oc_strings.specs.declared.order.Entry.{Entry}
use Rattle.oc_strings.proofs.EntryLemmas.{made_of}
use Rattle.oc_strings.proofs.order.sorted.Given as goal

abbrev pub invariant-loop-number : goal.invariant-loop-number
invariant-loop-number l = record {
  count : length l.entries.items ≡ l.number;
  each : (k : ℕ) (d : Entry) (e : Bor (List ℕ)) → k < l.number → get_or l.entries.items k d ≡ made_of (get_or l.names k e) k;
  bytes : (k : ℕ) (e : Bor (List ℕ)) → k < l.number → (j : ℕ) → get_or (get_or l.names k e).now j 0 < 2 ^ 8;
}
