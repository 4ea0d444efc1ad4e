-- The masks passed stand among the copies, with the term joined.
use Rattle.std.proofs.Common.{◌≡◌, map, take}
use lib.Bits.{bit_or}
use Rattle.mask.proofs.double.Given as goal

abbrev pub invariant-loop-i : goal.invariant-loop-i
invariant-loop-i l = take l.i l.copies ≡ map (bit_or l.joined) (take l.i l.mask-items)
