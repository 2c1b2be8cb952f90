-- The words so far are those among the pieces so far.
use Rattle.std.proofs.Common.{◌≡◌, map}
use Rattle.std.specs.List.{filter}
use Rattle.oc_batch.specs.Lists.{is_filled}
use Rattle.oc_batch.proofs.list.words_of.Given as goal

abbrev pub invariant-loop-word : goal.invariant-loop-word
invariant-loop-word l = l.words ≡ filter is_filled (map (λ x. x.now) l.yielded)
