-- The masks chosen of those passed stand in front, and with what is chosen of the rest they are the whole.
use Rattle.std.proofs.Common.{◌≡◌, ◌++◌, ◌≤◌, take, drop}
use Rattle.mask.specs.Few.{marked}
use Rattle.mask.proofs.few.choose.Given as goal

abbrev pub invariant-loop-i : goal.invariant-loop-i
invariant-loop-i l = record {
  room : l.count ≤ l.i;
  masks : take l.count l.masks ++ marked (drop l.i l.masks) (drop l.i l.table) ≡ marked l.initial.masks l.table;
}
