-- The words so far are the pieces so far.
use Rattle.std.proofs.Common.{◌≡◌, map}
use Rattle.oc_embed.proofs.words.pieces.Given as goal

abbrev pub invariant-loop-word : goal.invariant-loop-word
invariant-loop-word l = l.words ≡ map (λ x. x.now) l.yielded
