-- `is_zero` meets its contract. The invariant: the bits that are joined are zero just if the numbers passed are.
use Rattle.std.proofs.Common.{◌≡◌, eqb, take}
use Rattle.configuration.specs.Area.{zeros}
use Rattle.configuration.proofs.area.is_zero.Given as goal

abbrev pub invariant-loop-x : goal.invariant-loop-x
invariant-loop-x l = eqb l.bits 0 ≡ zeros (take l.x-index l.area)
