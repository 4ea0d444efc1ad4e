-- The subsets of the variables passed stand in front.
use Rattle.std.proofs.Common.{◌≡◌, length, take}
use Rattle.mask.specs.Mask.{subsets_of}
use Rattle.mask.proofs.subsets.Given as goal

abbrev pub invariant-loop-i : goal.invariant-loop-i
invariant-loop-i l = record {
  count : l.count ≡ length (subsets_of l.i l.mask);
  masks : take l.count l.out ≡ subsets_of l.i l.mask;
}
