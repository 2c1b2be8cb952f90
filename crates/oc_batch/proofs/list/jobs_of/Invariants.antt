-- The jobs so far are those among the lines so far.
use Rattle.std.proofs.Common.{◌≡◌, map}
use Rattle.std.specs.List.{filter}
use Rattle.oc_batch.specs.Lists.{is_filled, words_in}
use Rattle.oc_batch.proofs.list.jobs_of.Given as goal

abbrev pub invariant-loop-line : goal.invariant-loop-line
invariant-loop-line l = l.jobs.items ≡ filter is_filled (map (λ x. words_in x.now) l.yielded)
