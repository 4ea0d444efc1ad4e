-- The areas are those of the polynomials before this one.
use Rattle.std.proofs.Common.{◌≡◌, take}
use Rattle.hard.specs.Hard.{hard_image}
use Rattle.hard.proofs.HardList.close.Given as goal

abbrev pub invariant-loop-i : goal.invariant-loop-i
invariant-loop-i l = (l.counts ≡ (hard_image (take l.i l.self)).counts) × (l.places ≡ (hard_image (take l.i l.self)).places)
