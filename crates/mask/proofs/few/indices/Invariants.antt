-- The numbers are the indices within the variables passed.
use Rattle.std.proofs.Common.{◌≡◌, map, length}
use Rattle.mask.specs.Few.{index_of}
use Rattle.mask.specs.Mask.{subsets_of}
use Rattle.mask.proofs.few.indices.Given as goal

abbrev pub invariant-loop-i : goal.invariant-loop-i
invariant-loop-i l = record {
  place : l.place ≡ length (subsets_of l.i l.mask);
  indices : l.out ≡ map (index_of l.i l.mask) l.terms;
}
