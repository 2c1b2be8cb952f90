use Rattle.std.proofs.Common.{◌≡◌, ◌-◌, ◌≤◌, suc, [], ◌++◌, length}
use Rattle.std.specs.Option.{option_map_or, ForSome}
use Rattle.oc_omf.specs.Entries.{places_in}
use Rattle.oc_omf.proofs.PlaceLemmas.{places_from}
use Rattle.oc_omf.proofs.entries.places_of.Given as goal

-- the places so far, and behind them those from the next one on, are all; the next one lies in the file
abbrev pub invariant-loop-next : goal.invariant-loop-next
invariant-loop-next l = record {
  whole : places_in l.file ≡ l.places.items ++ option_map_or (places_from l.file) l.next [];
  inside : ForSome l.next (λ at. at ≤ length l.file);
}

abbrev pub decreases-loop-next : goal.decreases-loop-next
decreases-loop-next l = option_map_or (λ at. suc (length l.file - at)) l.next 0
