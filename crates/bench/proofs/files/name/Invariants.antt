-- Each step divides the scale by ten.
use Rattle.bench.proofs.files.name.Given as goal

abbrev pub decreases-loop-scale : goal.decreases-loop-scale
decreases-loop-scale l = l.scale
