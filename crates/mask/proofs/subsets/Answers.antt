use native.Mathlib.Omega.{arith}
use lib.ListN.{length-set}
use Rattle.mask.proofs.SubsetSteps.{room_to_double}
use Rattle.mask.proofs.subsets.Goals as goal

pub double-requires : goal.double-requires
double-requires c = omega (arith, room_to_double c.loop-i.i c.args.mask c.if-mask-i-eq1.true, length-set c.args.out.now 0 0)
