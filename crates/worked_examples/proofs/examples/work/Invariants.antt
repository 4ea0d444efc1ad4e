-- What is left of the data gets shorter.
use Rattle.std.proofs.Common.{length}
use Rattle.worked_examples.proofs.examples.work.Given as goal

abbrev pub decreases-loop-item : goal.decreases-loop-item
decreases-loop-item g l = length l.rest
